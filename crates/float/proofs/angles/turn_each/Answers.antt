-- `float::angles::turn_each`: before place k, the places before it are written. Assumes nothing.
use Rattle.std.proofs.Common.{◌≡◌, ◌<◌, List, length, get_or, set, ap, ◌∙◌, arith}
use lib.Ieee.{Float, nan}
use Rattle.buffers.proofs.Lent.{filled_zero, filled_next, get_or_filled_beyond}
use Rattle.float.proofs.Blocks.{filled_whole}
use Rattle.float.proofs.angles.turn_each.Goals as goal

pub loop-k-init : goal.loop-k-init
loop-k-init c = filled_zero _ _

pub loop-k-preserved : goal.loop-k-preserved
loop-k-preserved c = let at = c.loop-k in
    let l : at.k < length c.args.qs.now = omega arith in
    let v = ap (λ (x : List Float). get_or x at.k nan) at.invariant ∙ get_or_filled_beyond _ at.k c.args.qs.now nan at.k (omega arith) in
    ap (λ (x : List Float). set x at.k c.turned_angle.result) at.invariant ∙ (filled_next _ _ _ _ l (simp (c.turned_angle.ensures, v)))

pub returns : goal.returns
returns c = let at = c.loop-k in
    let n : at.k ≡ length c.args.qs.now = omega arith in
    at.invariant ∙ rw n (filled_whole _ _ _ (omega arith))
