-- `even_rolls`: before sample k, the samples before it stand in the table's first places. Assumes nothing.
use Prim.Native.Nat.{◌≤◌, ◌<◌}
use mathlib.Core.Path.{refl}
use native.Mathlib.Omega.{arith}
use lib.ListN.{length, take}
use lib.Seq.{length-take-le}
use Rattle.buffers.proofs.Lent.{filled_zero, filled_next}
use Rattle.roll_sweep.specs.Rolls.{even_roll}
use Rattle.roll_sweep.proofs.Even.{places_filled}
use Rattle.roll_sweep.proofs.rolls.even_rolls.Goals as goal

pub loop-k-init : goal.loop-k-init
loop-k-init c = filled_zero _ _

pub loop-k-preserved : goal.loop-k-preserved
unfolding even_roll
loop-k-preserved c = let h : c.loop-k.k < length (take c.min-places.result c.args.table.now) = omega arith in rw c.loop-k.invariant (filled_next _ _ _ _ h refl)

pub returns : goal.returns
returns c =
    let h : c.min-places.result ≤ length c.args.table.now = omega arith in
    let size = length-take-le c.min-places.result c.args.table.now h in
    places_filled (even_roll c.args.n) _ c.loop-k.k _ _ _ h (omega (arith, size)) (omega arith) c.loop-k.invariant
