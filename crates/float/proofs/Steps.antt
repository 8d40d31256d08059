-- The three steps of the root: what step 1 leaves, that what step 2 promises fixes its answer, and that the three give `sqrt_of`. Assumes nothing.
use Rattle.std.proofs.Common.{None, ◌≡◌, ℕ, zero, suc, ◌+◌, ◌*◌, ◌/◌, ◌%◌, ◌^◌, ◌<◌, ◌≤◌, Bool, true, false, not, T, sym, refl, subst, lt_of_le_of_lt, arith, ltb-true}
use mathlib.Core.Bool.{false≢true}
use lib.Ieee.{Float, nan, inf, fin, binary64, fits, is_nan, to_bits, of_bits, up, down, lt, nearest}
use lib.Ieee.Fits.{down_pos}
use Rattle.float.specs.Arithmetic.{zero·0}
use Rattle.float.specs.Root.{isqrt, sqrt_of}
use Rattle.float.specs.RootSteps.{operand_of, magnitude, scaled_of, LargestRoot, halfway, FromSteps}
use Rattle.float.specs.declared.root.Scaled.{Scaled}
use Rattle.float.specs.declared.root.Floor.{Floor}
use Rattle.float.proofs.Isqrt.{Root, sq_cancel, isqrt_root, isqrt_is}
use Rattle.float.proofs.Patterns.{pattern_lt, pattern_pos, own_magnitude}
use Rattle.float.proofs.Rooted.{two_bounds, root_by_steps}
use Rattle.float.proofs.Scaling.{Scales, scaled_facts}

-- ---- step 1

-- an operand that it leaves
pub left_over : (x : Float) → operand_of x ≡ None → T (fits binary64 x) → T (not (is_nan x)) × (0 < to_bits binary64 x) × (to_bits binary64 x < 2047 * 2 ^ 52)
unfolding operand_of is_nan
left_over nan e h = cc
left_over (inf true) e h = cc
left_over (inf false) e h = cc
left_over (fin true zero d) e h = cc
left_over (fin false zero d) e h = cc
left_over (fin true (suc m) d) e h = cc
left_over (fin false (suc m) d) e h = (tt, pattern_pos m d h, pattern_lt m d h)

-- it leaves a number above 0 other than infinity
pub above_zero_left : (x : Float) → lt zero·0 x ≡ true → (x ≡ inf false → ⊥) → operand_of x ≡ None
unfolding operand_of lt of_bits
above_zero_left nan e n = absurd (false≢true e)
above_zero_left (inf true) e n = absurd (false≢true e)
above_zero_left (inf false) e n = absurd (n refl)
above_zero_left (fin true zero d) e n = absurd (false≢true e)
above_zero_left (fin false zero d) e n = absurd (omega (arith, ltb-true (0 * down d) (0 * up d * 1) e))
above_zero_left (fin true (suc m) d) e n = absurd (false≢true e)
above_zero_left (fin false (suc m) d) e n = refl

-- ---- scaling

-- what a scaled pattern has
pub scaled_is : (b : ℕ) (s : Scaled) → s ≡ scaled_of b → 0 < b → b < 2047 * 2 ^ 52 → Scales (magnitude b * 2 ^ 1074) s × (511 ≤ s.half) × (s.half < 1560)
scaled_is b s e p h = subst (λ (t : Scaled). Scales (magnitude b * 2 ^ 1074) t × (511 ≤ t.half) × (t.half < 1560)) (sym e) (scaled_facts b p h)

-- ---- step 2

-- Its two inequalities have one solution, whatever n is: the largest whole number whose square does not pass n.
pub largest_root : (n : ℕ) → (r : ℕ) × Root n r × ((s : ℕ) → Root n s → s ≡ r) × ((s : ℕ) → s * s ≤ n → s ≤ r)
largest_root n = (
  isqrt n,
  isqrt_root n,
  λ (s : ℕ) (S : Root n s). sym (isqrt_is n s S),
  λ (s : ℕ) (l : s * s ≤ n). let z : s < isqrt n + 1 = sq_cancel (lt_of_le_of_lt l (isqrt_root n).1) in omega arith,
)

-- what it finds of a scaled significand has 54 digits
pub root_digits : (m r : ℕ) → 2 ^ 52 ≤ m → m < 2 ^ 54 → Root (m * 2 ^ 54) r → (2 ^ 53 ≤ r) × (r < 2 ^ 54)
root_digits m r lo hi R = subst (λ (x : ℕ). (2 ^ 53 ≤ x) × (x < 2 ^ 54)) (isqrt_is (m * 2 ^ 54) r R) (two_bounds (m * 2 ^ 54) 53 (omega arith) (omega arith))

-- ---- step 3

-- where there is no tie, halves go up
pub no_tie : (r h : ℕ) (b : Bool) → h ≡ r % 2 → (b ≡ true → h ≡ 0) → nearest (r / 2) (halfway h b) ≡ (r + 1) / 2
no_tie r zero b e n = omega arith
no_tie r (suc h) true e n = absurd (omega (arith, n refl))
no_tie r (suc h) false e n = omega arith

-- ---- the three

-- The root of every f64 is what the three steps give.
pub root_from_steps : (x : Float) → T (fits binary64 x) → FromSteps x (sqrt_of x)
unfolding operand_of sqrt_of
root_from_steps nan h = refl
root_from_steps (inf true) h = refl
root_from_steps (inf false) h = refl
root_from_steps (fin true zero d) h = refl
root_from_steps (fin false zero d) h = refl
root_from_steps (fin true (suc m) d) h = refl
root_from_steps (fin false (suc m) d) h = λ (f : Floor) (R : LargestRoot ((scaled_of (to_bits binary64 (fin false (suc m) d))).significand * 2 ^ 54) f).
    let b = to_bits binary64 (fin false (suc m) d) in
    let s = scaled_of b in
    let w = scaled_facts b (pattern_pos m d h) (pattern_lt m d h) in
    sym (root_by_steps (suc m * up d) (down d) (magnitude b) s.significand s.half f.root f.exact (down_pos d) (own_magnitude m d h) w.0.0 w.0.1 w.0.2 (omega (arith, w.1))
    (sym (isqrt_is (s.significand * 2 ^ 54) f.root (R.0, R.1))) R.2)
