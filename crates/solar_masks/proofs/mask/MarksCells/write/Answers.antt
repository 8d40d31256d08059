-- `write`: before cell k, the bytes of those before it stand. Assumes nothing.
use Prim.Native.Nat.{◌<◌}
use mathlib.Core.Path.{◌≡◌, ap, ◌∙◌}
use mathlib.Core.List.{List, []}
use lib.Ieee.{Float, nan}
use lib.ListN.{length, get_or}
use native.Mathlib.Omega.{arith}
use Rattle.buffers.proofs.Lent.{filled_zero, filled_next, get_or_filled}
use Rattle.solar_roll.specs.Cell.{roll_in}
use Rattle.solar_roll.specs.Roll.{roll_deg_in}
use Rattle.solar_masks.proofs.mask.MarksCells.write.Goals as goal

pub loop-k-init : goal.loop-k-init
loop-k-init c = filled_zero _ _

pub loop-k-preserved : goal.loop-k-preserved
unfolding roll_in
loop-k-preserved c =
    let a = c.args in
    let k = c.loop-k.k in
    let u : k < length a.units.now = omega arith in
    let l : k < length a.entries.now = omega (arith, c.requires.1) in
    let roll : get_or c.rolls_deg_in.new.rolls k nan ≡ roll_deg_in a.axes (get_or a.units.now k []) a.self.now.panel.angle =
    ap (λ (x : List Float). get_or x k nan) c.rolls_deg_in.ensures ∙ get_or_filled _ _ _ nan k (omega (arith, c.requires.0)) in
    rw c.loop-k.invariant (filled_next _ _ _ _ l (simp (c.mark_byte.ensures, c.free_or_at-cell.ensures, roll)))
