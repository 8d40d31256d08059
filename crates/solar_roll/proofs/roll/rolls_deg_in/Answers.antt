-- `rolls_deg_in`: the Sun's parts along two axes, their arctangents, and the rolls between these and the panel's angle. Assumes nothing.
use mathlib.Core.Path.{◌≡◌, refl, ap, ◌∙◌}
use mathlib.Core.List.{[], List, ◌++◌}
use Prim.Native.Nat.{ℕ, ◌<◌, ◌≤◌, min}
use native.Mathlib.Omega.{arith}
use lib.Ieee.{Float, nan}
use lib.ListN.{length, get_or, take, drop}
use lib.Seq.{length-take-le}
use Rattle.buffers.specs.Ranges.{tab}
use Rattle.buffers.specs.Lent.{filled}
use Rattle.buffers.proofs.Ranges.{length_tab, get_or_tab}
use Rattle.buffers.proofs.Lent.{filled_ext, filled_then, length_filled}
use Rattle.float.specs.Arctangent.{arctangent}
use Rattle.solar_roll.specs.Roll.{roll_between, roll_deg_in}
use Rattle.solar_roll.proofs.Cells.{filled_whole, filled_front}
use Rattle.solar_roll.proofs.roll.rolls_deg_in.Goals as goal

-- a list that is filled as far as it goes
whole : (n : ℕ) (f : ℕ → Float) (old new : List Float) → length old ≡ n → new ≡ filled (length old) f old → new ≡ tab n f
whole n f old new e h = h ∙ filled_whole f (length old) old refl ∙ ap (λ (i : ℕ). tab i f) e

-- the arctangents of such parts
arctangents : (n m : ℕ) (f g : ℕ → Float) (zs ys old new : List Float) → zs ≡ tab n f → ys ≡ tab n g → m ≡ n
    → new ≡ filled m (λ k. arctangent (get_or zs k nan) (get_or ys k nan)) old → new ≡ filled n (λ k. arctangent (f k) (g k)) old
arctangents n m f g zs ys old new z y e h =
    let v : (k : ℕ) → k < n → arctangent (get_or zs k nan) (get_or ys k nan) ≡ arctangent (f k) (g k) =
    λ k l. let a = ap (λ (x : List Float). get_or x k nan) z ∙ get_or_tab n f nan k l in
    let b = ap (λ (x : List Float). get_or x k nan) y ∙ get_or_tab n g nan k l in
    simp (a, b) in
    h
    ∙ ap (λ (i : ℕ). filled i (λ k. arctangent (get_or zs k nan) (get_or ys k nan)) old) e
    ∙ filled_ext (λ k. arctangent (get_or zs k nan) (get_or ys k nan)) (λ k. arctangent (f k) (g k)) n old v

pub returns : goal.returns
unfolding roll_deg_in
returns c = let a = c.args in
    let n = c.min-count.result in
    let rolls = a.rolls.now in
    let count : n ≡ min 64 (min (length rolls) (length a.units.now)) = c.min-count.ensures ∙ ap (min 64) c.min.ensures in
    let places : n ≤ length rolls = omega arith in
    let most : n ≤ 64 = omega arith in
    let old : length (take n rolls) ≡ n = length-take-le n rolls places in
    let ys = whole n _ _ _ (length-take-le n _ most) c.parts_along.ensures in
    let zs = whole n _ _ _ (length-take-le n _ most) c.parts_along-2.ensures in
    let yn = ap length ys ∙ length_tab n _ in
    let zn = ap length zs ∙ length_tab n _ in
    let angles = arctangents n _ _ _ _ _ (take n rolls) _ zs ys (omega (arith, old, yn, zn)) c.atan2_each.ensures in
    let length_angles = ap length angles ∙ length_filled _ n (take n rolls) (omega arith) ∙ old in
    let rolled = c.to_rolls.ensures ∙ ap (λ (i : ℕ). filled i (λ k. roll_between (get_or c.atan2_each.new.angles k nan) a.panel_angle) c.atan2_each.new.angles) length_angles in
    ap (λ (t : List Float). t ++ drop n rolls) (filled_then _ (λ k angle. roll_between angle a.panel_angle) n nan _ _ _ angles rolled)
    ∙ filled_front _ n rolls places
    ∙ ap (λ (i : ℕ). filled i (λ k. roll_deg_in a.axes (get_or a.units.now k []) a.panel_angle) rolls) count
