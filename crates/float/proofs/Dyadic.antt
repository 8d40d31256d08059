-- A fraction that is at most q / 2 ^ b, or at least, is so when rounded, where q has 53 digits: rounding keeps the order, and q / 2 ^ b is a number of
-- binary64. Assumes nothing.
use Rattle.std.proofs.Common.{◌≡◌, ℕ, ◌+◌, ◌-◌, ◌*◌, ◌^◌, ◌<◌, ◌≤◌, true, false, T, ℤ, sym, refl, ap, ◌∙◌, subst, true≢false, le_of_eq, le_of_lt, mul_assoc, arith, pow_pos, pow-add}
use lib.Ieee.{Float, nan, inf, fin, binary64, up, down, round, lt, le, eq}
use lib.Ieee.Exact.{HasValue, round_exact}
use lib.Ieee.Fits.{down_pos}
use lib.Ieee.Order.{round_mono}
use lib.Ieee.Positive.{through}
use Rattle.float.proofs.Bounds.{at_most}
use Rattle.float.proofs.Patterns.{fine}

dyadic : (q b : ℕ) → q < 2 ^ 53 → b ≤ 1074 → HasValue (round binary64 false q (2 ^ b)) false q (2 ^ b)
dyadic q b Q B =
    let e : 1074 - b + b ≡ 1074 = omega arith in
    let w : q * 2 ^ 1074 ≡ q * 2 ^ (1074 - b) * 2 ^ b
    = ap (λ (k : ℕ). q * 2 ^ k) (sym e) ∙ ap (λ (x : ℕ). q * x) (pow-add 2 (1074 - b) b) ∙ sym (mul_assoc q (2 ^ (1074 - b)) (2 ^ b)) in
    round_exact binary64 false q (2 ^ b) q (1074 - b) (pow_pos b) Q (fine q (1074 - b) (le_of_lt Q) (omega arith)) w

-- a float that is not negative, beside one whose value is q / c
module _ (m : ℕ) (e : ℤ) (q c : ℕ) where
  under : (y : Float) → HasValue y false q c → T (le (fin false m e) y) → m * up e * c ≤ q * down e
  unfolding le lt eq
  under nan v h = absurd v
  under (inf t) v h = absurd v
  under (fin true n d) v h = absurd (true≢false v.0)
  under (fin false n d) v h =
      through (m * up e) (n * up d) q (down e) (down d) c (down_pos d) (at_most (m * up e * down d) (n * up d * down e) _ _ _ refl refl h) (le_of_eq v.1)

  over : (y : Float) → 0 < c → HasValue y false q c → T (le y (fin false m e)) → q * down e ≤ m * up e * c
  unfolding le lt eq
  over nan C v h = absurd v
  over (inf t) C v h = absurd v
  over (fin true n d) C v h = absurd (true≢false v.0)
  over (fin false n d) C v h =
      through q (n * up d) (m * up e) c (down d) (down e) (down_pos d) (le_of_eq (sym v.1)) (at_most (n * up d * down e) (m * up e * down d) _ _ _ refl refl h)

module _ (n d m : ℕ) (e : ℤ) (is : round binary64 false n d ≡ fin false m e) (D : 0 < d) (q b : ℕ) (Q : q < 2 ^ 53) (B : b ≤ 1074) where
  pub rounds_under : n * 2 ^ b ≤ q * d → m * up e * 2 ^ b ≤ q * down e
  rounds_under h =
      under m e q (2 ^ b) (round binary64 false q (2 ^ b)) (dyadic q b Q B)
      (subst (λ (x : Float). T (le x (round binary64 false q (2 ^ b)))) is (round_mono binary64 n d q (2 ^ b) D (pow_pos b) h))

  pub rounds_over : q * d ≤ n * 2 ^ b → q * down e ≤ m * up e * 2 ^ b
  rounds_over h =
      over m e q (2 ^ b) (round binary64 false q (2 ^ b)) (pow_pos b) (dyadic q b Q B)
      (subst (λ (x : Float). T (le (round binary64 false q (2 ^ b)) x)) is (round_mono binary64 q (2 ^ b) n d (pow_pos b) D h))
