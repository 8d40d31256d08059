-- `cost::write_repeated`: before place k, the places before it are written. Assumes nothing.
use Prim.Native.Nat.{◌<◌}
use mathlib.Core.Path.{refl}
use native.Mathlib.Omega.{arith}
use lib.ListN.{length, take}
use lib.Seq.{length-take-le}
use Rattle.buffers.proofs.Lent.{filled_zero, filled_next, filled_over}
use Rattle.roll_sweep.proofs.Even.{places_filled}
use Rattle.cost.specs.Cost.{repeated}
use Rattle.cost.proofs.write_repeated.Goals as goal

pub loop-k-init : goal.loop-k-init
loop-k-init c = filled_zero _ _

pub loop-k-preserved : goal.loop-k-preserved
loop-k-preserved c = let h : c.loop-k.k < length (take c.args.places c.args.out.now) = omega arith in rw c.loop-k.invariant (filled_next _ _ _ _ h refl)

pub returns : goal.returns
unfolding repeated
returns c =
    let size = length-take-le c.args.places c.args.out.now c.requires.1 in
    rw (places_filled _ c.args.places c.loop-k.k c.args.places c.args.out.now _ c.requires.1 (omega (arith, size)) refl c.loop-k.invariant) (filled_over _ _ _)
