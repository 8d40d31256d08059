-- `float::angles::ratio_each`: before place k, the places before it are written. Assumes nothing.
use Rattle.std.proofs.Common.{◌≡◌, ◌<◌, length, ◌∙◌, arith}
use Rattle.buffers.proofs.Lent.{filled_zero, filled_next}
use Rattle.float.proofs.Blocks.{filled_whole}
use Rattle.float.proofs.angles.ratio_each.Goals as goal

pub loop-k-init : goal.loop-k-init
loop-k-init c = filled_zero _ _

pub loop-k-preserved : goal.loop-k-preserved
loop-k-preserved c = let at = c.loop-k in
    let l : at.k < length c.args.qs.now = omega arith in
    rw at.invariant (filled_next _ _ _ _ l (simp (c.ratio.ensures, c.abs-in-loop-k.ensures, c.abs.ensures)))

pub returns : goal.returns
returns c = let at = c.loop-k in
    let n : at.k ≡ length c.args.qs.now = omega arith in
    at.invariant ∙ rw n (filled_whole _ _ _ (omega arith))
