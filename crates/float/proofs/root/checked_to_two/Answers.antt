-- `float::root::checked_to_two` meets its contract: where step 3 makes g's digits of what step 2 finds, g is the root. Assumes nothing.
use Rattle.std.proofs.Common.{ℕ, true, Option, Some, None, ◌≡◌, ◌+◌, ◌-◌, ◌*◌, ◌%◌, ◌^◌, ◌<◌, ◌≤◌, false, T, sym, ap, ◌∙◌, subst, ap₂, subst₂, arith, lit<}
use lib.Ieee.{Float, inf, binary64, to_bits, of_bits, units, fits}
use lib.Ieee.Bits.{of_bits-to_bits}
use mathlib.Core.Bool.{false≢true}
use Rattle.std.specs.Option.{is_some}
use Rattle.std.proofs.lemmas.Float.{T_from_true}
use Rattle.float.specs.Root.{sqrt_of}
use Rattle.float.specs.RootSteps.{LargestRoot, rounded_of, FromOperand, Tried}
use Rattle.float.specs.declared.root.Scaled.{Scaled}
use Rattle.float.specs.declared.root.Floor.{Floor}
use Rattle.float.proofs.Patterns.{packed_is}
use Rattle.float.proofs.Steps.{above_zero_left, root_from_steps}
use Rattle.float.proofs.root.checked_to_two.Goals as goal

-- infinity's pattern is larger
finite_pattern : (x : Float) → to_bits binary64 x < 2047 * 2 ^ 52 → x ≡ inf false → ⊥
unfolding to_bits
finite_pattern x h e = let l : to_bits binary64 (inf false) < 2047 * 2 ^ 52 = subst (λ (y : Float). to_bits binary64 y < 2047 * 2 ^ 52) e h in omega arith

-- a number from 1 to 2, from its digits
own_units : (g : Float) → T (fits binary64 g) → 1023 * 2 ^ 52 ≤ to_bits binary64 g → to_bits binary64 g < 1024 * 2 ^ 52 → units binary64 false (2 ^ 52 + to_bits binary64 g % 2 ^ 52) 1022 ≡ g
own_units g h lo hi =
    let c = to_bits binary64 g in
    let e : 1022 * 2 ^ 52 + (2 ^ 52 + c % 2 ^ 52) ≡ c = omega arith in
    sym (packed_is (2 ^ 52 + c % 2 ^ 52) 1022 (omega arith) (omega arith) (lit< tt)) ∙ ap (of_bits binary64) e ∙ of_bits-to_bits binary64 g h

-- a guess that is found is step 3's number of what step 2 finds
found : (n q : ℕ) (o : Option Floor) → is_some o ≡ true → Tried n q o → (f : Floor) × LargestRoot n f × (rounded_of f ≡ q)
found n q (Some f) e t = (f, t.0, t.1)
found n q None e t = absurd (false≢true e)

pub returns-then-is_some : goal.returns-then-is_some
returns-then-is_some c = let x = c.args.x in
    let g = c.args.g in
    let r = c.scale-s.result in
    let q = 2 ^ 52 + to_bits binary64 g % 2 ^ 52 in
    let left = above_zero_left x c.if-x.true (finite_pattern x (omega arith)) in
    let steps : FromOperand None r (sqrt_of x) = subst₂ (λ (o : Option Float) (t : Scaled). FromOperand o t (sqrt_of x)) left (sym c.scale-s.ensures) (root_from_steps x (T_from_true _ c.well_formed.0.1)) in
    let f = found (r.significand * 2 ^ 54) q c.near.result (sym c.is_some.ensures ∙ c.if-is_some.true) c.near.ensures in
    let e : 1022 ≡ r.half - 26 = omega (arith, c.if-s-eq1048.true) in
    sym (own_units g (T_from_true _ c.well_formed.1.0.1) (omega arith) (omega arith)) ∙ ap₂ (units binary64 false) (sym f.2) e ∙ sym (steps f.0 f.1)
