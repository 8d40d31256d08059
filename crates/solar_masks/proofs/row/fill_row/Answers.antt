-- `fill_row`: before time j, the bytes and severities of the times before it stand. Assumes nothing.
use Prim.Native.Nat.{ℕ, ◌<◌}
use mathlib.Core.Path.{◌≡◌, refl, sym, ap, ap₂, ◌∙◌}
use mathlib.Core.Bool.{Bool, true, false, cond}
use mathlib.Core.List.{List}
use native.Mathlib.Omega.{arith}
use lib.Ieee.{Float}
use lib.ListN.{length, set}
use mir.Val.{bool_byte}
use Rattle.std.specs.Prelude.{Option, Some, None}
use Rattle.std.specs.Option.{is_some, unwrap_or}
use Rattle.float.specs.Arithmetic.{zero·0, ◌⊖◌}
use Rattle.buffers.specs.Ranges.{flag}
use Rattle.buffers.proofs.Lent.{filled_zero, filled_next}
use Rattle.solar_roll.specs.Cell.{roll_in, violates}
use Rattle.solar_roll.specs.Plan.{lent, sun_at}
use Rattle.solar_roll.specs.Roll.{sun_unit, body_axes, circular_diff_deg}
use Rattle.solar_roll.specs.declared.cell.CellRoll.{CellRoll}
use Rattle.solar_roll.specs.declared.cell.CellRoll.TheVariants.{Free, At, Refused}
use Rattle.solar_roll.specs.declared.plan.SolarRollConfig.{SolarRollConfig}
use Rattle.solar_masks.specs.Mask.{marked_by, at_configured, mark_at}
use Rattle.solar_masks.specs.Row.{excess, severity, severity_at}
use Rattle.solar_masks.proofs.Shared.{mark_shared, severity_shared}
use Rattle.solar_masks.proofs.row.fill_row.Goals as goal

-- a cell that is not marked has no severity
unmarked : (c : CellRoll) (configured : Option Float) (tolerance : Float) → marked_by c (at_configured configured) tolerance ≡ false → zero·0 ≡ severity c configured tolerance
unfolding marked_by at_configured severity excess violates
unmarked c None tolerance h = refl
unmarked Free (Some roll) tolerance h = refl
unmarked (At optimal) (Some roll) tolerance h = sym (ap (λ (b : Bool). cond b (circular_diff_deg roll optimal ⊖ tolerance) zero·0) h)
unmarked (Refused k) (Some roll) tolerance h = refl

-- what is written of a cell, by whether it is marked and its severity
byte_of : (b : Bool) (x : Float) → bool_byte (is_some (cond b (Some x) None)) ≡ flag b
byte_of true x = refl
byte_of false x = refl

value_of : (b : Bool) (x : Float) → (b ≡ false → zero·0 ≡ x) → unwrap_or (cond b (Some x) None) zero·0 ≡ x
value_of true x h = refl
value_of false x h = h refl

pub loop-j-init : goal.loop-j-init
loop-j-init c = (filled_zero _ _, filled_zero _ _)

pub loop-j-preserved : goal.loop-j-preserved
unfolding sun_at
loop-j-preserved c =
    let a = c.args in
    let p = lent a.plan.now in
    let j = c.loop-j.j in
    let unit = c.sun_unit-unit.ensures ∙ ap₂ sun_unit c.triple.ensures c.triple-in-loop-j.ensures in
    let axes = c.body_axes-axes.ensures ∙ ap body_axes c.direction.ensures in
    let panel = c.panel_at-panel.ensures in
    let settings = ap (λ (s : SolarRollConfig). s.tolerance_deg) c.row_config-tolerance.ensures in
    let cell = roll_in c.body_axes-axes.result c.sun_unit-unit.result c.panel_at-panel.result in
    let tolerance = c.row_config-tolerance.result.tolerance_deg in
    let over = c.severity-over.ensures in
    let byte = c.from.ensures ∙ ap bool_byte (c.is_some.ensures ∙ ap is_some over) ∙ byte_of _ _ ∙ mark_shared p a.row j _ _ _ axes unit panel _ _ settings in
    let value = c.unwrap_or.ensures ∙ ap (λ (o : Option Float). unwrap_or o zero·0) over ∙ value_of _ _ (unmarked cell p.configured tolerance) ∙ severity_shared p a.row j _ _ _ axes unit panel _ settings in
    let h : j < length a.mask.now = omega (arith, c.times-j-end.ensures, c.requires.0) in
    let k : j < length a.severities.now = omega (arith, c.times-j-end.ensures, c.requires.1) in (
      ap (λ (l : List ℕ). set l j c.from.result) c.loop-j.invariant.0 ∙ filled_next (mark_at p (at_configured p.configured) a.row) j a.mask.now _ h byte,
      ap (λ (l : List Float). set l j c.unwrap_or.result) c.loop-j.invariant.1 ∙ filled_next (severity_at p a.row) j a.severities.now _ k value,
    )
