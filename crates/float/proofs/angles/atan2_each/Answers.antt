-- `float::angles::atan2_each`: each step is made of what the one before wrote. Assumes nothing.
use Rattle.std.proofs.Common.{◌≡◌, ℕ, ◌≤◌, List, ◌++◌, length, get_or, take, drop, ap, ◌∙◌, ap₂, arith}
use lib.Ieee.{Float, nan}
use lib.Seq.{length-take-le, get_or-take}
use Rattle.buffers.specs.Ranges.{tab}
use Rattle.buffers.specs.Lent.{filled}
use Rattle.buffers.proofs.Ranges.{tab_ext}
use Rattle.float.specs.Arithmetic.{abs_of}
use Rattle.float.specs.Arctangent.{halved, ratio, series_angle, quadrant_angle, turned_angle, arctangent}
use Rattle.float.proofs.Blocks.{filled_part, tab_then}
use Rattle.float.proofs.angles.atan2_each.Goals as goal

-- the five steps, over the first n points
steps : (n : ℕ) (ys zs old p q r s t : List Float) → (let y : ℕ → Float = λ k. get_or (take n ys) k nan in let z : ℕ → Float = λ k. get_or (take n zs) k nan in
    n ≤ length old
    → p ≡ tab (length (take n old)) (λ k. ratio (abs_of (y k)) (abs_of (z k)))
    → q ≡ tab (length p) (λ k. halved (get_or p k nan))
    → r ≡ tab (length q) (λ k. halved (get_or q k nan))
    → s ≡ tab (length r) (λ k. halved (get_or r k nan))
    → t ≡ tab (length s) (λ k. turned_angle (y k) (z k) (get_or s k nan))
    → t ≡ tab n (λ k. arctangent (get_or ys k nan) (get_or zs k nan)))
unfolding arctangent turned_angle quadrant_angle series_angle ratio
steps n ys zs old p q r s t h e f g i j =
    let y : ℕ → Float = λ k. get_or (take n ys) k nan in
    let z : ℕ → Float = λ k. get_or (take n zs) k nan in
    let e' = e ∙ ap (λ (m : ℕ). tab m (λ k. ratio (abs_of (y k)) (abs_of (z k)))) (length-take-le n old h) in
    let f' = tab_then _ (λ k. halved) n nan p q e' f in
    let g' = tab_then _ (λ k. halved) n nan q r f' g in
    let i' = tab_then _ (λ k. halved) n nan r s g' i in
    tab_then _ (λ k. turned_angle (y k) (z k)) n nan s t i' j
    ∙ tab_ext n _ _ (λ k l. ap₂ arctangent (get_or-take n ys k nan l) (get_or-take n zs k nan l))

pub returns : goal.returns
returns c = let a = c.args in
    let n = c.min-count.result in
    let f : ℕ → Float = λ k. arctangent (get_or a.ys.now k nan) (get_or a.zs.now k nan) in
    ap (λ (t : List Float). t ++ drop n a.angles.now) (steps n a.ys.now a.zs.now a.angles.now _ _ _ _ _ (omega arith) c.ratio_each.ensures c.halve_each.ensures c.halve_each-2.ensures c.halve_each-3.ensures c.turn_each.ensures)
    ∙ filled_part f n a.angles.now
    ∙ ap (λ (m : ℕ). filled m f a.angles.now) (omega arith)
