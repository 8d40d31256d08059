-- `float::angles::halve_each`: before place k, the places before it are halved. Assumes nothing.
use Rattle.std.proofs.Common.{◌≡◌, ◌<◌, List, length, get_or, set, ap, ◌∙◌, arith}
use lib.Ieee.{Float, binary64, nan, add, div}
use Rattle.buffers.proofs.Lent.{filled_zero, filled_next, get_or_filled_beyond}
use Rattle.buffers.proofs.Ranges.{get_or_tab}
use Rattle.float.specs.Arithmetic.{one}
use Rattle.float.specs.Arctangent.{halved}
use Rattle.float.proofs.Blocks.{filled_whole}
use Rattle.float.proofs.angles.halve_each.Goals as goal

pub loop-k-init : goal.loop-k-init
loop-k-init c = filled_zero _ _

pub loop-k-preserved : goal.loop-k-preserved
unfolding halved
loop-k-preserved c = let at = c.loop-k in
    let q = c.args.qs.now in
    let l : at.k < length q = omega arith in
    let roots = c.check_roots.new.roots in
    let r = ap (λ (x : List Float). get_or x at.k nan) c.check_roots.ensures ∙ get_or_tab _ _ nan at.k l in
    let v = ap (λ (x : List Float). get_or x at.k nan) at.invariant ∙ get_or_filled_beyond _ at.k q nan at.k (omega arith) in
    let w = div binary64 (get_or at.qs at.k nan) (add binary64 one (get_or roots at.k nan)) in
    let e : w ≡ halved (get_or q at.k nan) = simp (v, r) in
    ap (λ (x : List Float). set x at.k w) at.invariant ∙ filled_next _ _ _ _ l e

pub returns : goal.returns
returns c = let at = c.loop-k in
    let n : at.k ≡ length c.args.qs.now = omega arith in
    at.invariant ∙ rw n (filled_whole _ _ _ (omega arith))
