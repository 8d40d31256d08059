-- n even rolls, lent as a table, are accepted, for each n from 1 to 3,600: they rise and lie below 360 (`even_accepted`). The step 360 / n, rounded, is at least
-- 3 / 32, so between two rolls lie two multiples of 1 / 32, which rounding does not pass; and it is above 360 / n by less than a millionth, so the last roll is
-- at most 360 - 1 / 32. Assumes nothing.
use mathlib.Core.Path.{◌≡◌, refl, ap, ◌∙◌}
use mathlib.Core.Bool.{true, false, true≢false}
use Prim.Native.Nat.{ℕ, zero, suc, ◌+◌, ◌*◌, ◌/◌, ◌<◌, ◌≤◌}
use native.Mathlib.Nat.{mul-pos, mul-le-mul_left, mul-le-mul_right, div-add-mod', mod-lt, le-div_iff_mul-le, div-le_of_le-mul, zero-mul, zero-lt-suc}
use native.Mathlib.Omega.{arith}
use borrow.Author.Tests.{lt-ltb, ne_eqb}
use lib.IntN.{ℤ, pos}
use lib.Dec.{lit<, lit≤}
use lib.Ieee.{Float, nan, inf, fin, binary64, up, down, round, mul, div, of_int, lt, of_bits}
use lib.Ieee.Exact.{HasValue}
use lib.Ieee.Fits.{down_pos, up_pos}
use lib.Ieee.Bits.{is_true}
use lib.Ieee.Order.{round_mono}
use lib.Ieee.Scale.{round_same}
use Rattle.float.specs.Arithmetic.{zero·0}
use Rattle.float.proofs.Bounds.{Size, size_round}
use Rattle.float.proofs.Dyadic.{rounds_under, rounds_over}
use Rattle.float.proofs.Exact.{of_int_lem}
use Rattle.solar_roll.specs.Roll.{InTurn, sample_step}
use Rattle.solar_roll.specs.Plan.{most_samples, samples_refusal}
use Rattle.roll_sweep.specs.Rolls.{even_roll, even_rolls, table_refusal}
use Rattle.roll_sweep.proofs.ChunkFacts.{samples_within}
use Rattle.roll_sweep.proofs.Even.{length_even, even_at}
use Rattle.roll_sweep.proofs.Tables.{TableFacts, table_accepted}

-- ---- the step

quotient : (y : Float) (n : ℕ) → 0 < n → HasValue y false n 1 → div binary64 (fin false 45 (pos 3)) y ≡ round binary64 false 360 n
unfolding div
quotient nan n N v = absurd v
quotient (inf t) n N v = absurd v
quotient (fin true m e) n N v = absurd (true≢false v.0)
quotient (fin false zero e) n N v = let w : ⊥ = omega (arith, v.1, zero-mul (up e), mul-pos N (down_pos e)) in absurd w
quotient (fin false (suc m) e) n N v =
    rw (ne_eqb (suc m) 0 (λ (w : suc m ≡ 0). omega arith))
    (round_same binary64 false (360 * down e) (suc m * up e * 1) 360 n (omega (arith, mul-pos (zero-lt-suc m) (up_pos e))) N (omega (arith, v.1)))

step_is : (n : ℕ) → 1 ≤ n → n ≤ most_samples → sample_step n ≡ round binary64 false 360 n
unfolding sample_step of_bits
step_is n h l = quotient (of_int binary64 (pos n)) n h (of_int_lem binary64 (pos n) (omega arith))

-- ---- the rolls

product : (y : Float) (k m : ℕ) (e : ℤ) → HasValue y false k 1 → mul binary64 y (fin false m e) ≡ round binary64 false (k * (m * up e)) (down e)
unfolding mul
product nan k m e v = absurd v
product (inf t) k m e v = absurd v
product (fin true n d) k m e v = absurd (true≢false v.0)
product (fin false n d) k m e v =
    round_same binary64 false (n * up d * (m * up e)) (down d * down e) (k * (m * up e)) (down e) (mul-pos (down_pos d) (down_pos e)) (down_pos e)
    (omega (arith, ap (λ (x : ℕ). x * (m * up e * down e)) v.1))

-- Q is 360 * 2 ^ 20 / n: k of n steps, each of at most (Q + 1) / 2 ^ 20, stay below 360 by a tenth
few_steps : (n k Q : ℕ) → k < n → n ≤ 3600 → Q * n ≤ 377487360 → 104857 ≤ Q → k * (Q + 1) ≤ 377386102
few_steps n k Q h l q p = omega (arith, mul-le-mul_right (Q + 1) h)

module _ (n : ℕ) (one : 1 ≤ n) (most : n ≤ 3600) where
  abbrev Q : ℕ
  Q = 377487360 / n

  abbrev step : Size 9 (round binary64 false 360 n)
  step = size_round 360 n 9 (lit< tt) one (omega arith)

  abbrev A : ℕ
  A = step.m * up step.e

  abbrev D : ℕ
  D = down step.e

  least : 3 * D ≤ A * 32
  least = rounds_over 360 n step.m step.e step.is one 3 5 (lit< tt) (lit≤ tt) (omega arith)

  -- 360 / n is below (Q + 1) / 2 ^ 20
  within_step : Q * n ≤ 377487360
  within_step = omega (arith, div-add-mod' 377487360 n)

  past_step : 377487360 ≤ (Q + 1) * n
  past_step = omega (arith, div-add-mod' 377487360 n, mod-lt 377487360 one)

  many_parts : 104857 ≤ Q
  many_parts = (le-div_iff_mul-le one).1 (omega arith)

  greatest : A * 1048576 ≤ (Q + 1) * D
  greatest =
      rounds_under 360 n step.m step.e step.is one (Q + 1) 20 (omega (arith, within_step, mul-le-mul_left Q one)) (lit≤ tt) past_step

  -- roll k is k * A / D, rounded
  roll_is : (k : ℕ) → k < n → even_roll n k ≡ round binary64 false (k * A) D
  unfolding even_roll
  roll_is k h =
      ap (mul binary64 (of_int binary64 (pos k))) (step_is n one most ∙ step.is)
      ∙ product (of_int binary64 (pos k)) k step.m step.e (of_int_lem binary64 (pos k) (omega arith))

  below_turn : (k : ℕ) → k < n → k * A * 32 ≤ 11519 * D
  below_turn k h = omega (arith, mul-le-mul_left k greatest, mul-le-mul_right D (few_steps n k Q h most within_step many_parts))

  abbrev roll : (k : ℕ) → k < n → Size 9 (round binary64 false (k * A) D)
  roll k h = size_round (k * A) D 9 (lit< tt) (down_pos step.e) (omega (arith, below_turn k h))

  at_zero : zero·0 ≡ round binary64 false 0 1
  unfolding of_bits round
  at_zero = refl

  in_turn : (k : ℕ) → k < n → InTurn (even_roll n k)
  unfolding lt of_bits
  in_turn k h =
      let z = roll k h in
      let m = z.m in
      let e = z.e in
      let top : m * up e * 32 ≤ 11519 * down e = rounds_under (k * A) D m e z.is (down_pos step.e) 11519 5 (lit< tt) (lit≤ tt) (below_turn k h) in
      record {
        low = rw (roll_is k h, at_zero) (is_true _ (round_mono binary64 0 1 (k * A) D (lit< tt) (down_pos step.e) (omega arith)));
        high = rw (roll_is k h, z.is) (lt-ltb (m * up e * 1) (360 * down e) (omega (arith, down_pos e)));
      }

  -- a / c is at most q / 32, and b / d at least (q + 1) / 32
  apart : (a b c d q : ℕ) → 0 < c → 0 < d → a * 32 ≤ q * c → (q + 1) * d ≤ b * 32 → a * d < b * c
  apart a b c d q C E h g = omega (arith, mul-le-mul_right d h, mul-le-mul_right c g, mul-pos C E)

  rises : (j k : ℕ) → j < k → k < n → lt (even_roll n j) (even_roll n k) ≡ true
  unfolding lt
  rises j k h l =
      let below : j < n = omega arith in
      let q : ℕ = j * A * 32 / D + 1 in
      let some : 0 < D = down_pos step.e in
      let x = roll j below in
      let y = roll k l in
      let cut = div-add-mod' (j * A * 32) D in
      let rest = mod-lt (j * A * 32) some in
      let few : j * A * 32 / D ≤ 11519 = div-le_of_le-mul D (omega (arith, below_turn j below)) in
      let lower : x.m * up x.e * 32 ≤ q * down x.e = rounds_under (j * A) D x.m x.e x.is some q 5 (omega (arith, few)) (lit≤ tt) (omega (arith, cut, rest)) in
      let upper : (q + 1) * down y.e ≤ y.m * up y.e * 32
      = rounds_over (k * A) D y.m y.e y.is some (q + 1) 5 (omega (arith, few)) (lit≤ tt) (omega (arith, cut, rest, least, mul-le-mul_right A h)) in
      rw (roll_is j below, roll_is k l, x.is, y.is)
      (lt-ltb _ _ (apart (x.m * up x.e) (y.m * up y.e) (down x.e) (down y.e) q (down_pos x.e) (down_pos y.e) lower upper))

  pub even_facts : TableFacts (even_rolls n)
  even_facts = record {
    one = omega (arith, length_even n);
    most = omega (arith, length_even n);
    within = λ k h. let l : k < n = omega (arith, length_even n) in rw (even_at n k l) (in_turn k l);
    rising = λ j k h g.
        let l : k < n = omega (arith, length_even n) in
        rw (even_at n j (omega arith), even_at n k l) (rises j k h l);
  }

pub even_accepted : (n : ℕ) → samples_refusal n ≡ 0 → table_refusal (even_rolls n) ≡ 0
even_accepted n e = let s = samples_within n e in (table_accepted (even_rolls n)).1 (even_facts n s.0 s.1)
