-- The arctangent of two finite numbers is finite, and at most 2 ^ 13 in size; degrees are at most 2 ^ 6 times radians. Assumes nothing.
use Rattle.std.proofs.Common.{◌≡◌, ℕ, zero, suc, ◌+◌, ◌-◌, ◌*◌, ◌%◌, ◌^◌, ◌<◌, ◌≤◌, Bool, true, false, cond, ◌&&◌, eqb, ltb, ℤ, pos, sym, refl, ◌∙◌, subst, true≢false, le_of_lt, zero-add, mul-one, arith, lit<, lit≤, ltb-false, ltb-true, eq-eqb, ne_eqb}
use lib.Ieee.{Float, nan, inf, fin, binary64, up, down, round, sub, mul, div, neg, lt, eq, of_bits, of_int}
use Rattle.float.specs.Arithmetic.{zero·0, one, two, eight, half_turn, PI, sign_bit_of, abs_of, finite, to_degrees}
use Rattle.float.specs.Series.{coefficient, horner}
use Rattle.float.specs.Arctangent.{odd_number, halved, series_angle, ratio, quadrant_angle, arctangent}
use Rattle.float.proofs.Bounds.{Within, within_add, within_mul, within_quotient, within_neg, within_sub, weaken, Size, Least, loose, size_of, div_sign, size_mul, size_add, size_div, size_one, least_round, least_add, root_keeps}

-- ---- the steps of the arctangent

pub size_halved : (q : Float) → Size 0 q → Size 0 (halved q)
unfolding halved
size_halved q z =
    let r = root_keeps 1 (lit< tt) (size_add 0 (lit< tt) size_one (size_mul 0 0 (lit< tt) z z)) in
    size_div 0 (lit< tt) z (least_add 1 (lit< tt) r)

-- ---- the series

least_whole : (n j : ℕ) → j < 1024 → 1 ≤ n → n ≤ 2 ^ j → Least (of_int binary64 (pos n))
unfolding of_int
least_whole n j k l h = least_round n 1 j k (lit< tt) (omega (arith, mul-one (2 ^ j))) l

within_coefficient : (k : ℕ) → k ≤ 8 → Within 0 (coefficient odd_number k)
unfolding coefficient
within_coefficient k h = go (eqb (k % 2) 1)
  where
    c : Float
    c = div binary64 one (of_int binary64 (pos (2 * k + 1)))

    w : Within 0 c
    w = loose 0 (size_div 0 (lit< tt) size_one (least_whole (2 * k + 1) 5 (lit< tt) (omega arith) (omega arith)))

    go : (b : Bool) → Within 0 (cond b (neg c) c)
    go true = within_neg 0 w
    go false = w

within_series : (s : Float) → Within 0 s → (j : ℕ) → j ≤ 8 → Within j (horner odd_number s j)
unfolding horner
within_series s w zero h = within_coefficient 8 (lit≤ tt)
within_series s w (suc j) h =
    within_add j (omega arith) (weaken 0 j (omega arith) (within_coefficient (7 - j) (omega arith))) (subst (λ (i : ℕ). Within i (mul binary64 s (horner odd_number s j))) (zero-add j) (within_mul 0 j (omega arith) w (within_series s w j (omega arith))))

eight_within : Within 3 eight
unfolding of_bits
eight_within = record { s = false; m = 1; e = pos 3; is = refl; size_le = lit≤ tt }

within_eighth : (q : Float) → Size 0 q → Within 11 (series_angle q)
unfolding series_angle
within_eighth q z =
    within_mul 3 8 (lit< tt) eight_within (within_mul 0 8 (lit< tt) (loose 0 z) (within_series _ (loose 0 (size_mul 0 0 (lit< tt) z z)) 8 (lit≤ tt)))

-- ---- the whole angle

zero_within : (j : ℕ) → Within j zero·0
unfolding of_bits
zero_within j = record { s = false; m = 0; e = pos 0; is = refl; size_le = omega arith }

pi_within : Within 2 PI
unfolding of_bits
pi_within = record { s = _; m = _; e = _; is = refl; size_le = lit≤ tt }

half_pi_within : Within 1 (div binary64 PI two)
unfolding of_bits div round
half_pi_within = record { s = _; m = _; e = _; is = refl; size_le = lit≤ tt }

same_zero : (n : ℕ) (d : ℤ) → eqb (n * up d * 1) (0 * down d) ≡ false → eqb n 0 ≡ false
same_zero zero d h =
    let e : eqb (0 * up d * 1) (0 * down d) ≡ true = eq-eqb (0 * up d * 1) (0 * down d) (omega arith) in
    absurd (true≢false (sym e ∙ h))
same_zero (suc n) d h = ne_eqb (suc n) 0 (λ (q : suc n ≡ 0). omega arith)

-- of the smaller and the larger, from their ratio after three rounds
within_octant : (m n : ℕ) (e d : ℤ) → m * up e * down d ≤ n * up d * down e
    → (let q = div binary64 (fin false m e) (fin false n d) in Within 11 (cond (eq (fin false n d) zero·0) zero·0 (series_angle (halved (halved (halved q))))))
unfolding eq of_bits
within_octant m n e d h = go (eqb (n * up d * 1) (0 * down d)) refl
  where
    t : Float
    t = div binary64 (fin false m e) (fin false n d)

    q : eqb (n * up d * 1) (0 * down d) ≡ false → Size 0 t
    q z =
        let p = same_zero n d z in
        let l : m * up e * down d ≤ 2 ^ 0 * (n * up d * down e) = omega arith in
        size_of 0 (div_sign m n e d p) (within_quotient false false m n e d 0 (lit< tt) p l)

    go : (b : Bool) → eqb (n * up d * 1) (0 * down d) ≡ b → Within 11 (cond (b && true) zero·0 (series_angle (halved (halved (halved t)))))
    go true z = zero_within 11
    go false z = within_eighth _ (size_halved _ (size_halved _ (size_halved t (q z))))

within_quadrant : (m n : ℕ) (e d : ℤ) → (let a = fin false m e in let b = fin false n d in Within 12 (quadrant_angle a b (halved (halved (halved (ratio a b))))))
unfolding quadrant_angle ratio lt
within_quadrant m n e d = go (ltb (n * up d * down e) (m * up e * down d)) refl
  where
    a : Float
    a = fin false m e

    b : Float
    b = fin false n d

    -- the angle where x tells whether a > b
    angle : Bool → Float
    angle x = cond (eq (cond x a b) zero·0) zero·0 (series_angle (halved (halved (halved (div binary64 (cond x b a) (cond x a b))))))

    go : (x : Bool) → ltb (n * up d * down e) (m * up e * down d) ≡ x → Within 12 (cond x (sub binary64 (div binary64 PI two) (angle x)) (angle x))
    go true z = within_sub 11 (lit< tt) (weaken 1 11 (lit≤ tt) half_pi_within) (within_octant n m d e (le_of_lt (ltb-true _ _ z)))
    go false z = weaken 11 12 (lit≤ tt) (within_octant m n e d (ltb-false _ _ z))

-- the arctangent of finite numbers is finite
pub within_arctangent : (y z : Float) → finite y ≡ true → finite z ≡ true → Within 13 (arctangent y z)
unfolding finite arctangent quadrant_angle ratio series_angle abs_of sign_bit_of
within_arctangent nan z h g = absurd (true≢false (sym h))
within_arctangent (inf s) z h g = absurd (true≢false (sym h))
within_arctangent (fin s m e) nan h g = absurd (true≢false (sym g))
within_arctangent (fin s m e) (inf t) h g = absurd (true≢false (sym g))
within_arctangent (fin s m e) (fin t n d) h g = signed s (half t)
  where
    r : Float
    r = let a = fin false m e in let b = fin false n d in quadrant_angle a b (halved (halved (halved (ratio a b))))

    half : (b : Bool) → Within 13 (cond b (sub binary64 PI r) r)
    half true = within_sub 12 (lit< tt) (weaken 2 12 (lit≤ tt) pi_within) (within_quadrant m n e d)
    half false = weaken 12 13 (lit≤ tt) (within_quadrant m n e d)

    signed : (b : Bool) → Within 13 (cond t (sub binary64 PI r) r) → Within 13 (cond b (neg (cond t (sub binary64 PI r) r)) (cond t (sub binary64 PI r) r))
    signed true w = within_neg 13 w
    signed false w = w

-- ---- degrees

unit_within : Within 6 (div binary64 half_turn PI)
unfolding of_bits div round
unit_within = record { s = _; m = _; e = _; is = refl; size_le = lit≤ tt }

pub within_degrees : {a : Float} (j : ℕ) → j + 6 < 1024 → Within j a → Within (j + 6) (to_degrees a)
unfolding to_degrees
within_degrees j k w = within_mul j 6 k w unit_within
