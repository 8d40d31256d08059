-- `mark_column`: before a row, the bytes of the rows before it stand. Assumes nothing.
use Prim.Native.Nat.{ℕ, ◌<◌}
use mathlib.Core.Path.{ap, ap₂, ◌∙◌}
use mathlib.Core.List.{List}
use native.Mathlib.Omega.{arith}
use lib.ListN.{length, set}
use Rattle.buffers.specs.Ranges.{flag}
use Rattle.buffers.proofs.Lent.{filled_zero, filled_next}
use Rattle.solar_roll.specs.Plan.{lent, sun_at}
use Rattle.solar_roll.specs.Roll.{sun_unit, body_axes, panel_of}
use Rattle.solar_roll.specs.declared.cell.CellRoll.{CellRoll}
use Rattle.solar_roll.specs.declared.plan.SolarRollConfig.{SolarRollConfig}
use Rattle.solar_roll.proofs.Cells.{one_panel}
use Rattle.solar_masks.specs.Mask.{marked_by, mark_at}
use Rattle.solar_masks.proofs.Shared.{mark_shared}
use Rattle.solar_masks.proofs.field.mark_column.Goals as goal

pub loop-row-init : goal.loop-row-init
loop-row-init c = filled_zero _ _

pub loop-row-preserved : goal.loop-row-preserved
unfolding sun_at
loop-row-preserved c =
    let a = c.args in
    let p = lent a.plan.now in
    let r = c.loop-row.row in
    let unit = c.sun_unit-unit.ensures ∙ ap₂ sun_unit c.triple.ensures c.triple-2.ensures in
    let axes = c.body_axes.ensures ∙ ap body_axes c.direction.ensures in
    let panel = c.panel_at-panel.ensures ∙ ap panel_of (one_panel p.panels 0 r) in
    let settings = ap (λ (s : SolarRollConfig). s.tolerance_deg) c.row_config.ensures in
    let v = c.mark_byte.ensures ∙ ap (λ (l : CellRoll). flag (marked_by l a.rule c.row_config.result.tolerance_deg)) c.roll_in-cell.ensures
    ∙ mark_shared p r a.time _ _ _ axes unit panel a.rule _ settings in
    let h : r < length a.mask.now = omega (arith, c.rows-row-end.ensures, c.requires) in
    ap (λ (l : List ℕ). set l r c.mark_byte.result) c.loop-row.invariant ∙ filled_next (λ r. mark_at p a.rule r a.time) r a.mask.now _ h v
