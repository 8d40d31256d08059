-- The remainder by whole numbers: of both operands' magnitudes in units of the smallest value, and of their digits. Assumes nothing.
use Rattle.std.proofs.Common.{◌≡◌, ℕ, zero, suc, ◌+◌, ◌-◌, ◌*◌, ◌/◌, ◌%◌, ◌^◌, ◌<◌, ◌≤◌, Bool, true, false, cond, not, T, ℤ, sym, refl, ap, ◌∙◌, subst, true≢false, le_trans, le_of_eq, mod-eq_of_lt, mul_assoc, mul_comm, mul-pos, zero-mul, add-mul, le_of_suc-le-suc, mul-le-mul, mul_right_comm, mul-le-mul_right, mul-lt-mul_of_pos_right, lt_of_lt_of_le, lt_of_not-le, not-le_of_lt, zero-lt-suc, arith, ltb-false, ltb-true, pow_pos, pow_mono, pow-add, pow-suc, eq-eqb, ne_eqb}
use native.Mathlib.Nat.{add-mul-mod_self_right, mul-mul-mul_comm, le_of_mul-le-mul_right}
use Rattle.std.proofs.lemmas.Nat.{mul-mod_first}
use lib.Pow.{pow-lt}
use lib.Ieee.{Float, nan, inf, fin, Format, binary64, up, down, unlike, fits, is_nan, to_bits, of_bits, lt, rem, mul, neg, round}
use lib.Ieee.Exact.{HasValue}
use lib.Ieee.Fits.{up_pos, down_pos}
use lib.Ieee.Positive.{first_pos}
use lib.Ieee.Scale.{round_same}
use Rattle.float.specs.Arithmetic.{zero·0, sign_bit_of, abs_of, finite}
use Rattle.float.specs.RootSteps.{magnitude}
use Rattle.float.proofs.Patterns.{pattern_lt, own_magnitude}
use Rattle.float.proofs.Remainder.{divisor, rem_small}

-- ---- whole numbers

-- both multiplied by c
pub mod_scale : (x y c : ℕ) → 0 < y → 0 < c → (x * c) % (y * c) ≡ x % y * c
mod_scale x y c Y C =
    let r = x % y in
    let e : x ≡ r + x / y * y = omega arith in
    let f : x * c ≡ r * c + x / y * (y * c) = ap (λ (z : ℕ). z * c) e ∙ add-mul r (x / y * y) c ∙ ap (λ (z : ℕ). r * c + z) (mul_assoc (x / y) y c) in
    let l : r < y = omega arith in
    ap (λ (z : ℕ). z % (y * c)) f ∙ add-mul-mod_self_right (r * c) (x / y) (y * c) ∙ mod-eq_of_lt (mul-lt-mul_of_pos_right l C)

-- eleven more digits brought down
pub brought_down : (r k m : ℕ) → 11 ≤ k → r < 2 ^ 53 → (((r * 2 ^ 11) % 2 ^ 64) % m * 2 ^ (k - 11)) % m ≡ (r * 2 ^ k) % m
brought_down r k m h l =
    let w : (r * 2 ^ 11) % 2 ^ 64 ≡ r * 2 ^ 11 = omega arith in
    let e : 11 + (k - 11) ≡ k = omega arith in
    ap (λ (z : ℕ). (z % m * 2 ^ (k - 11)) % m) w ∙ mul-mod_first (r * 2 ^ 11) (2 ^ (k - 11)) m
    ∙ ap (λ (z : ℕ). z % m) (mul_assoc r (2 ^ 11) (2 ^ (k - 11)) ∙ ap (λ (z : ℕ). r * z) (sym (pow-add 2 11 (k - 11)) ∙ ap (λ (z : ℕ). 2 ^ z) e))

-- the last ones, at most eleven
pub last_down : (r k : ℕ) → k ≤ 11 → r < 2 ^ 53 → (r * 2 ^ k) % 2 ^ 64 ≡ r * 2 ^ k
last_down r k h l =
    mod-eq_of_lt
    (lt_of_lt_of_le (mul-lt-mul_of_pos_right l (pow_pos k)) (le_trans (le_of_eq (sym (pow-add 2 53 k))) (pow_mono {i = 53 + k} {j = 64} (omega arith))))

-- of digits with shifts
pub mod_shifted : (d j e k : ℕ) → 0 < e → k ≤ j → (d * 2 ^ j) % (e * 2 ^ k) ≡ (d * 2 ^ (j - k)) % e * 2 ^ k
mod_shifted d j e k E h =
    let i : j ≡ j - k + k = omega arith in
    ap (λ (z : ℕ). z % (e * 2 ^ k)) (ap (λ (z : ℕ). d * z) (ap (λ (z : ℕ). 2 ^ z) i ∙ pow-add 2 (j - k) k) ∙ sym (mul_assoc d (2 ^ (j - k)) (2 ^ k)))
    ∙ mod_scale (d * 2 ^ (j - k)) e (2 ^ k) E (pow_pos k)

-- the larger number's digits are shifted no less
pub no_less_shifted : (d j e k : ℕ) → d < 2 ^ 53 → (0 < k → 2 ^ 52 ≤ e) → e * 2 ^ k ≤ d * 2 ^ j → k ≤ j
no_less_shifted d j e k l n h =
    le_of_suc-le-suc
    (lt_of_not-le {n = suc j} {m = k}
    (λ (g : suc j ≤ k).
    let b : 2 ^ 53 * 2 ^ j ≤ e * 2 ^ k = le_trans (le_of_eq (carry j)) (mul-le-mul (n (omega arith)) (pow_mono g)) in
    not-le_of_lt (lt_of_lt_of_le (mul-lt-mul_of_pos_right l (pow_pos j)) b) h))
  where
    carry : (j : ℕ) → 2 ^ 53 * 2 ^ j ≡ 2 ^ 52 * 2 ^ suc j
    carry j = omega (arith, pow-suc 2 j)

-- ---- 2 ^ k units

low_magnitude : (b : ℕ) → b < 2 ^ 52 → magnitude b ≡ b
low_magnitude b h = ap (λ (t : Bool). cond t b ((2 ^ 52 + b % 2 ^ 52) * 2 ^ (b / 2 ^ 52 - 1))) (eq-eqb (b / 2 ^ 52) 0 (omega arith))

high_magnitude : (j : ℕ) → 0 < j → magnitude (j * 2 ^ 52) ≡ 2 ^ (52 + (j - 1))
high_magnitude j h =
    let b = j * 2 ^ 52 in
    let q : b / 2 ^ 52 ≡ j = omega arith in
    let r : b % 2 ^ 52 ≡ 0 = omega arith in
    ap (λ (t : Bool). cond t b ((2 ^ 52 + b % 2 ^ 52) * 2 ^ (b / 2 ^ 52 - 1))) (ne_eqb (b / 2 ^ 52) 0 (omega arith))
    ∙ ap (λ (x : ℕ). (2 ^ 52 + x) * 2 ^ (b / 2 ^ 52 - 1)) r ∙ ap (λ (x : ℕ). 2 ^ 52 * 2 ^ (x - 1)) q ∙ sym (pow-add 2 52 (j - 1))

-- the pattern of 2 ^ k units, below 2 ^ 52 and from there on
pub low_power : (k : ℕ) → k < 52 → (let p = (1 * 2 ^ k) % 2 ^ 64 in (p < 2047 * 2 ^ 52) × (magnitude p ≡ 2 ^ k))
low_power k h =
    let b : 2 ^ k < 2 ^ 52 = pow-lt {i = k} {j = 52} h in
    let e : (1 * 2 ^ k) % 2 ^ 64 ≡ 2 ^ k = omega arith in
    (omega arith, ap magnitude e ∙ low_magnitude (2 ^ k) b)

pub high_power : (k : ℕ) → 52 ≤ k → k < 2046 → (let p = ((k - 51) * 2 ^ 52) % 2 ^ 64 in (p < 2047 * 2 ^ 52) × (magnitude p ≡ 2 ^ k))
high_power k h g =
    let e : ((k - 51) * 2 ^ 52) % 2 ^ 64 ≡ (k - 51) * 2 ^ 52 = omega arith in
    let i : 52 + (k - 51 - 1) ≡ k = omega arith in
    (omega arith, ap magnitude e ∙ high_magnitude (k - 51) (omega arith) ∙ ap (λ (x : ℕ). 2 ^ x) i)

-- ---- products

-- a product of any two fractions
pub mul_round : (f : Format) (x y : Float) (s t : Bool) (a c b d : ℕ) → 0 < c → 0 < d → HasValue x s a c → HasValue y t b d → mul f x y ≡ round f (unlike s t) (a * b) (c * d)
unfolding mul
mul_round f nan y s t a c b d C D p q = absurd p
mul_round f (inf u) y s t a c b d C D p q = absurd p
mul_round f (fin u m e) nan s t a c b d C D p q = absurd q
mul_round f (fin u m e) (inf v) s t a c b d C D p q = absurd q
mul_round f (fin u m e) (fin v n g) s t a c b d C D p q =
    ap (λ (z : Bool). round f (unlike z v) (m * up e * (n * up g)) (down e * down g)) p.0
    ∙ ap (λ (z : Bool). round f (unlike s z) (m * up e * (n * up g)) (down e * down g)) q.0
    ∙ round_same f (unlike s t) (m * up e * (n * up g)) (down e * down g) (a * b) (c * d) (mul-pos (down_pos e) (down_pos g)) (mul-pos C D)
    (mul-mul-mul_comm (m * up e) (n * up g) c d ∙ ap (λ (z : ℕ). z * (n * up g * d)) p.1 ∙ ap (λ (z : ℕ). a * down e * z) q.1 ∙ mul-mul-mul_comm a (down e) b (down g))

pub unlike_false : (s : Bool) → unlike s false ≡ s
unlike_false true = refl
unlike_false false = refl

pub neg_value : (x : Float) (s : Bool) (a c : ℕ) → HasValue x s a c → HasValue (neg x) (not s) a c
unfolding neg
neg_value nan s a c h = h
neg_value (inf t) s a c h = h
neg_value (fin t m e) s a c h = (ap not h.0, h.1)

-- ---- remainders

-- x is a * p / c, so x * q is a * (p * q) / c
over : (x c a p q : ℕ) → x * c ≡ a * p → x * q * c ≡ a * (p * q)
over x c a p q h = mul_right_comm x q c ∙ ap (λ (z : ℕ). z * q) h ∙ mul_assoc a p q

-- of any two fractions over c
pub rem_round : (f : Format) (s : Bool) (m : ℕ) (e : ℤ) (t : Bool) (n : ℕ) (d : ℤ) (a b c : ℕ) → 0 < c → 0 < b → m * up e * c ≡ a * down e → n * up d * c ≡ b * down d
    → rem f (fin s m e) (fin t n d) ≡ round f s (a % b) c
unfolding rem
rem_round f s m e t n d a b c C B p q =
    let X = m * up e * down d in
    let Y = n * up d * down e in
    let D = down e * down d in
    let D0 : 0 < D = mul-pos (down_pos e) (down_pos d) in
    let x : X * c ≡ a * D = over (m * up e) c a (down e) (down d) p in
    let y : Y * c ≡ b * D = over (n * up d) c b (down d) (down e) q ∙ ap (λ (z : ℕ). b * z) (mul_comm (down d) (down e)) in
    let Y0 : 0 < Y = first_pos Y c (subst (λ (z : ℕ). 0 < z) (sym y) (mul-pos B D0)) in
    let g : X % Y * c ≡ a % b * D = sym (mod_scale X Y c Y0 C) ∙ ap (λ (z : ℕ). z % (Y * c)) x ∙ ap (λ (z : ℕ). (a * D) % z) y ∙ mod_scale a b D B D0 in
    rw (divisor n (up d) (down e) Y0) (round_same f s (X % Y) D (a % b) c D0 C g)

-- of an infinity and of a NaN
pub rem_infinite : (a b : Float) → finite a ≡ false → nan ≡ rem binary64 a b
unfolding rem finite
rem_infinite nan b h = refl
rem_infinite (inf s) b h = refl
rem_infinite (fin s m e) b h = absurd (true≢false h)

-- by zero and by a NaN
pub rem_by_zero : (a b : Float) → finite a ≡ true → lt zero·0 (abs_of b) ≡ false → nan ≡ rem binary64 a b
unfolding rem finite lt abs_of of_bits
rem_by_zero nan b h k = refl
rem_by_zero (inf s) b h k = refl
rem_by_zero (fin s m e) nan h k = refl
rem_by_zero (fin s m e) (inf t) h k = absurd (true≢false k)
rem_by_zero (fin s m e) (fin t zero d) h k = refl
rem_by_zero (fin s m e) (fin t (suc n) d) h k =
    let p : 0 < suc n * up d = mul-pos (zero-lt-suc n) (up_pos d) in
    absurd (omega (arith, ltb-false (0 * down d) (suc n * up d * 1) k, zero-mul (down d)))

-- by a larger number
pub rem_by_larger : (a b : Float) → T (fits binary64 a) → finite a ≡ true → lt (abs_of a) (abs_of b) ≡ true → a ≡ rem binary64 a b
unfolding rem finite lt abs_of
rem_by_larger nan b h f l = refl
rem_by_larger (inf s) b h f l = absurd (true≢false (sym f))
rem_by_larger (fin s m e) nan h f l = absurd (true≢false (sym l))
rem_by_larger (fin s m e) (inf t) h f l = refl
rem_by_larger (fin s m e) (fin t n d) h f l = sym (rem_small s m e t n d binary64 h (ltb-true _ _ l))

-- what is left: finite numbers, the divisor above 0 and not larger in size
pub record Left (a b : Float) : Type 0 where
  pub number_a : T (not (is_nan (abs_of a)))
  pub number_b : T (not (is_nan (abs_of b)))
  pub finite_a : to_bits binary64 (abs_of a) < 2047 * 2 ^ 52
  pub finite_b : to_bits binary64 (abs_of b) < 2047 * 2 ^ 52
  pub some : 0 < magnitude (to_bits binary64 (abs_of b))
  pub no_larger : magnitude (to_bits binary64 (abs_of b)) ≤ magnitude (to_bits binary64 (abs_of a))
  pub is : rem binary64 a b ≡ round binary64 (sign_bit_of a) (magnitude (to_bits binary64 (abs_of a)) % magnitude (to_bits binary64 (abs_of b))) (2 ^ 1074)

left_at : (s : Bool) (m : ℕ) (e : ℤ) (t : Bool) (n : ℕ) (d : ℤ) → T (fits binary64 (fin false (suc m) e)) → T (fits binary64 (fin false (suc n) d))
    → suc n * up d * down e ≤ suc m * up e * down d → Left (fin s (suc m) e) (fin t (suc n) d)
unfolding is_nan sign_bit_of abs_of
left_at s m e t n d h k l =
    let A = magnitude (to_bits binary64 (fin false (suc m) e)) in
    let B = magnitude (to_bits binary64 (fin false (suc n) d)) in
    let C = 2 ^ 1074 in
    let D = down e * down d in
    let p : suc m * up e * C ≡ A * down e = own_magnitude m e h in
    let q : suc n * up d * C ≡ B * down d = own_magnitude n d k in
    let x : suc m * up e * down d * C ≡ A * D = over (suc m * up e) C A (down e) (down d) p in
    let y : suc n * up d * down e * C ≡ B * D = over (suc n * up d) C B (down d) (down e) q ∙ ap (λ (z : ℕ). B * z) (mul_comm (down d) (down e)) in
    let B0 : 0 < B = first_pos B (down d) (subst (λ (z : ℕ). 0 < z) q (mul-pos (mul-pos (zero-lt-suc n) (up_pos d)) (pow_pos 1074))) in
    record {
      number_a = tt;
      number_b = tt;
      finite_a = pattern_lt m e h;
      finite_b = pattern_lt n d k;
      some = B0;
      no_larger = le_of_mul-le-mul_right (le_trans (le_of_eq (sym y)) (le_trans (mul-le-mul_right C l) (le_of_eq x))) (mul-pos (down_pos e) (down_pos d));
      is = rem_round binary64 s (suc m) e t (suc n) d A B C (pow_pos 1074) B0 p q;
    }

pub left_over : (a b : Float) → T (fits binary64 a) → T (fits binary64 b) → finite a ≡ true → lt zero·0 (abs_of b) ≡ true → lt (abs_of a) (abs_of b) ≡ false → Left a b
unfolding finite lt fits abs_of of_bits
left_over nan b h k f z l = absurd (true≢false (sym f))
left_over (inf s) b h k f z l = absurd (true≢false (sym f))
left_over (fin s m e) nan h k f z l = absurd (true≢false (sym z))
left_over (fin s m e) (inf t) h k f z l = absurd (true≢false l)
left_over (fin s m e) (fin t zero d) h k f z l = absurd (omega (arith, ltb-true (0 * down d) (0 * up d * 1) z, zero-mul (up d)))
left_over (fin s zero e) (fin t (suc n) d) h k f z l =
    let p : 0 < suc n * up d * down e = mul-pos (mul-pos (zero-lt-suc n) (up_pos d)) (down_pos e) in
    absurd (omega (arith, ltb-false (0 * up e * down d) (suc n * up d * down e) l, zero-mul (up e), zero-mul (down d), ap (λ (x : ℕ). x * down d) (zero-mul (up e))))
left_over (fin s (suc m) e) (fin t (suc n) d) h k f z l = left_at s m e t n d h k (ltb-false _ _ l)
