-- A number as significand * 4 ^ half, with 53 or 54 digits in the significand. Assumes nothing.
use Rattle.std.proofs.Common.{◌≡◌, ℕ, zero, suc, ◌+◌, ◌-◌, ◌*◌, ◌/◌, ◌%◌, ◌^◌, ◌<◌, ◌≤◌, sym, refl, ap, ◌∙◌, subst, inl, inr, le_trans, le_of_eq, lt_of_lt_of_le, mul-le-mul_right, mul_assoc, mul_comm, eq-zero-or-pos, mul-lt-mul_of_pos_right, pow-suc, mul-div_cancel, arith, pow_pos, pow-add}
use lib.Count.{count_leading_zeros}
use lib.Ieee.{size}
use lib.Ieee.Digits.{size-le}
use Rattle.float.specs.RootSteps.{magnitude, paired_of, scaled_from, scaled_of}
use Rattle.float.specs.declared.root.Scaled.{Scaled}
use Rattle.float.proofs.Patterns.{size_gt, subnormal, subnormal_magnitude, normal_magnitude}
use Rattle.float.proofs.Rooted.{four_pow, four_pos}

twice : (h : ℕ) → 4 ^ h ≡ 2 ^ (h + h)
twice h = four_pow h ∙ sym (pow-add 2 h h)

-- s is a, with 53 or 54 digits in the significand
abbrev pub Scales : ℕ → Scaled → Type 0
Scales a s = (s.significand * 4 ^ s.half ≡ a) × (2 ^ 52 ≤ s.significand) × (s.significand < 2 ^ 54)

pub scaled_path : {s t : Scaled} → s.significand ≡ t.significand → s.half ≡ t.half → s ≡ t
scaled_path p q = λ i. record { significand = p i; half = q i }

-- there is one such
pub scales_one : (a : ℕ) (s : Scaled) → Scales a s → s ≡ scaled_from a
scales_one a s f =
    let m = s.significand in
    let g = s.half in
    let e : m * 2 ^ (g + g) ≡ a = ap (λ (x : ℕ). m * x) (sym (twice g)) ∙ f.0 in
    let lo : 52 + (g + g) < size a =
    size_gt a (52 + (g + g)) (le_trans (le_of_eq (pow-add 2 52 (g + g))) (le_trans (mul-le-mul_right (2 ^ (g + g)) f.1) (le_of_eq e))) in
    let hi : size a ≤ 54 + (g + g) =
    size-le a (54 + (g + g)) (lt_of_lt_of_le (subst (λ (x : ℕ). x < 2 ^ 54 * 2 ^ (g + g)) e (mul-lt-mul_of_pos_right f.2 (pow_pos (g + g)))) (le_of_eq (sym (pow-add 2 54 (g + g))))) in
    let h : (size a - 53) / 2 ≡ g = omega arith in
    scaled_path (sym (ap (λ (x : ℕ). a / 4 ^ x) h ∙ ap (λ (x : ℕ). x / 4 ^ g) (sym f.0) ∙ mul-div_cancel m (four_pos g))) (sym h)

even : (m e : ℕ) → e % 2 ≡ 0 → m * 4 ^ (e / 2) ≡ m * 2 ^ e
even m e p = ap (λ (x : ℕ). m * x) (twice (e / 2) ∙ ap (λ (x : ℕ). 2 ^ x) (omega arith))

odd : (m e : ℕ) → (e % 2 ≡ 0 → ⊥) → m * 2 * 4 ^ (e / 2) ≡ m * 2 ^ e
odd m e p =
    let z : suc (e / 2 + e / 2) ≡ e = omega arith in
    mul_assoc m 2 (4 ^ (e / 2)) ∙ ap (λ (x : ℕ). m * x) (mul_comm 2 (4 ^ (e / 2)) ∙ ap (λ (x : ℕ). x * 2) (twice (e / 2)) ∙ sym (pow-suc 2 (e / 2 + e / 2)) ∙ ap (λ (x : ℕ). 2 ^ x) z)

-- m moved up by the odd place
pair_at : (m e h : ℕ) → h ≡ e % 2 → 2 ^ 52 ≤ m → m < 2 ^ 53 → (m * 2 ^ h * 4 ^ (e / 2) ≡ m * 2 ^ e) × (2 ^ 52 ≤ m * 2 ^ h) × (m * 2 ^ h < 2 ^ 54)
pair_at m e zero p lo hi = (ap (λ (x : ℕ). x * 4 ^ (e / 2)) {x = m * 1} {y = m} (omega arith) ∙ even m e (sym p), omega arith, omega arith)
pair_at m e (suc zero) p lo hi = (odd m e (omega arith), omega arith, omega arith)
pair_at m e (suc (suc h)) p lo hi = absurd (omega arith)

pub pair : (m e : ℕ) → 2 ^ 52 ≤ m → m < 2 ^ 53 → Scales (m * 2 ^ e) (paired_of m e)
pair m e lo hi = pair_at m e (e % 2) refl lo hi

pub pair_is : (a m e : ℕ) → 2 ^ 52 ≤ m → m < 2 ^ 53 → m * 2 ^ e ≡ a → paired_of m e ≡ scaled_from a
pair_is a m e lo hi p = scales_one a (paired_of m e) (subst (λ (x : ℕ). Scales x (paired_of m e)) p (pair m e lo hi))

-- a pattern's number is m * 2 ^ e, with 53 digits in m
pub fifty_three : (b : ℕ) → 0 < b → b < 2047 * 2 ^ 52 → (m : ℕ) × (e : ℕ) × (2 ^ 52 ≤ m) × (m < 2 ^ 53) × (m * 2 ^ e ≡ magnitude b * 2 ^ 1074) × (1022 ≤ e) × (e < 3120)
fifty_three b p h = elim (eq-zero-or-pos (b / 2 ^ 52)) [
  | inl z ↦
      let f = subnormal b p (omega arith) in
      let k = count_leading_zeros 64 b - 11 in
      (b * 2 ^ k, 1074 - k, f.2, f.3, subnormal_magnitude b k (b * 2 ^ k) z (omega arith) refl, omega arith, omega arith)
  | inr q ↦ (2 ^ 52 + b % 2 ^ 52, b / 2 ^ 52 + 1073, omega arith, omega arith, normal_magnitude b (omega arith), omega arith, omega arith)
]

pub scaled_facts : (b : ℕ) → 0 < b → b < 2047 * 2 ^ 52 → Scales (magnitude b * 2 ^ 1074) (scaled_of b) × (511 ≤ (scaled_of b).half) × ((scaled_of b).half < 1560)
scaled_facts b p h =
    let f = fifty_three b p h in
    let m = f.0 in
    let e = f.1 in
    subst (λ (s : Scaled). Scales (magnitude b * 2 ^ 1074) s × (511 ≤ s.half) × (s.half < 1560)) (pair_is (magnitude b * 2 ^ 1074) m e f.2 f.3 f.4)
    (subst (λ (x : ℕ). Scales x (paired_of m e)) f.4 (pair m e f.2 f.3), omega arith, omega arith)
