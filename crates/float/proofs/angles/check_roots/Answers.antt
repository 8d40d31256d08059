-- `float::angles::check_roots`: before guess k, the roots of those before it stand. Assumes nothing.
use Rattle.std.proofs.Common.{◌≡◌, ◌<◌, length, ◌∙◌, arith}
use Rattle.buffers.proofs.Lent.{filled_zero, filled_next}
use Rattle.float.proofs.Blocks.{filled_whole}
use Rattle.float.proofs.angles.check_roots.Goals as goal

pub loop-k-init : goal.loop-k-init
loop-k-init c = filled_zero _ _

pub loop-k-preserved : goal.loop-k-preserved
loop-k-preserved c = let at = c.loop-k in
    let l : at.k < length c.args.roots.now = omega arith in
    rw at.invariant (filled_next _ _ _ _ l c.checked_to_two.ensures)

pub returns : goal.returns
returns c = let at = c.loop-k in
    let n : at.k ≡ length c.args.qs.now = omega arith in
    at.invariant ∙ rw n (filled_whole _ _ _ (omega arith))
