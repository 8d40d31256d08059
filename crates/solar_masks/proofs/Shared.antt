-- What a row (its axes and its panel) and a time (the Sun's unit) share makes the byte, the severity and the named value of a cell. Assumes nothing.
use mathlib.Core.Path.{◌≡◌, refl, ap, ap₂, ◌∙◌}
use mathlib.Core.List.{List}
use Prim.Native.Nat.{ℕ, ◌/◌, ◌%◌}
use lib.Ieee.{Float}
use Rattle.buffers.specs.Ranges.{flag}
use Rattle.buffers.specs.Lent.{filled}
use Rattle.buffers.proofs.Lent.{filled_ext}
use Rattle.solar_roll.specs.Vectors.{Vector}
use Rattle.solar_roll.specs.Roll.{Axes, body_axes, roll_deg_in, panel_of, solar_optimal_roll_deg}
use Rattle.solar_roll.specs.Cell.{roll_in}
use Rattle.solar_roll.specs.Plan.{Plan, direction_of, config_of, row_panel, row_config, sun_at, cell_of, optimal_at, times_of, cells_of}
use Rattle.solar_roll.specs.declared.roll.Panel.{Panel}
use Rattle.solar_roll.specs.declared.cell.CellRoll.{CellRoll}
use Rattle.solar_roll.proofs.Cells.{cell_shared, one_panel}
use Rattle.solar_masks.specs.Mask.{marked_by, mark_at, cell_mark, cell_value}
use Rattle.solar_masks.specs.Row.{severity, severity_at}
use Rattle.solar_masks.specs.declared.mask.MarkRule.{MarkRule}

module _ (p : Plan) (r j : ℕ) (axes : Axes) (unit : Vector) (panel : Panel)
    (row : axes ≡ body_axes (direction_of p r)) (time : unit ≡ sun_at p j) (panel-is : panel ≡ panel_of (row_panel p.panels r)) where
  same : roll_in axes unit panel ≡ cell_of p r j
  same = cell_shared p r j axes unit panel row time panel-is

  pub mark_shared : (rule : MarkRule) (tolerance : Float) → tolerance ≡ (config_of p r).tolerance_deg →
      flag (marked_by (roll_in axes unit panel) rule tolerance) ≡ mark_at p rule r j
  unfolding mark_at
  mark_shared rule tolerance e = ap₂ (λ (c : CellRoll) (t : Float). flag (marked_by c rule t)) same e

  pub severity_shared : (tolerance : Float) → tolerance ≡ (config_of p r).tolerance_deg →
      severity (roll_in axes unit panel) p.configured tolerance ≡ severity_at p r j
  unfolding severity_at
  severity_shared tolerance e = ap₂ (λ (c : CellRoll) (t : Float). severity c p.configured t) same e

  pub value_shared : roll_deg_in axes unit panel.angle ≡ optimal_at p r j
  unfolding optimal_at solar_optimal_roll_deg roll_deg_in body_axes panel_of row_config
  value_shared = simp (row, time, panel-is)

-- ---- the list of all cells' bytes, and of all their named values: the rows share their panel

module _ (p : Plan) (panel : Panel) (panel-is : panel ≡ panel_of (row_panel p.panels 0)) where
  each : (r : ℕ) → panel ≡ panel_of (row_panel p.panels r)
  each r = panel-is ∙ ap panel_of (one_panel p.panels 0 r)

  pub marks_shared : (rule : MarkRule) (old : List ℕ) →
      filled (cells_of p) (λ k. flag (marked_by (roll_in (body_axes (direction_of p (k / times_of p))) (sun_at p (k % times_of p)) panel) rule (config_of p (k / times_of p)).tolerance_deg)) old
      ≡ filled (cells_of p) (cell_mark p rule) old
  unfolding cell_mark
  marks_shared rule old = filled_ext _ (cell_mark p rule) (cells_of p) old (λ k l. mark_shared p (k / times_of p) (k % times_of p) _ _ panel refl refl (each (k / times_of p)) rule _ refl)

  pub values_shared : (old : List Float) →
      filled (cells_of p) (λ k. roll_deg_in (body_axes (direction_of p (k / times_of p))) (sun_at p (k % times_of p)) panel.angle) old ≡ filled (cells_of p) (cell_value p) old
  unfolding cell_value
  values_shared old = filled_ext _ (cell_value p) (cells_of p) old (λ k l. value_shared p (k / times_of p) (k % times_of p) _ _ panel refl refl (each (k / times_of p)))
