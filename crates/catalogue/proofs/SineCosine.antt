-- Sine and cosine of an angle of at most 7 radians lie on the circle, but for two parts in 10^12, and neither is over 1 in size (`sine_cosine`); 360 degrees are at most 7
-- radians (`radians`). Assumes nothing.
use mathlib.Core.Path.{◌≡◌, refl, sym, ap, ◌∙◌, subst}
use mathlib.Core.Bool.{Bool, true, false, cond, ◌&&◌}
use mathlib.Core.Logic.{inl, inr}
use Prim.Native.Nat.{ℕ, zero, suc, ◌+◌, ◌-◌, ◌*◌, ◌<◌, ◌≤◌}
use native.Mathlib.Nat.{mul-pos, mul-le-mul, mul-le-mul_right, le_of_mul-le-mul_right}
use native.Mathlib.Omega.{arith}
use borrow.Author.Tests.{lt-ltb, le-ltb}
use lib.IntN.{ℤ, pos, negsuc}
use lib.Dec.{T, ltb, lit<}
use lib.Ieee.{Float, nan, inf, fin, binary64, up, down, round, sum, add, sub, mul, div, neg, lt, le, eq, unlike, of_int, of_bits}
use lib.Ieee.Fits.{down_pos}
use lib.Ieee.Order.{round_mono}
use Rattle.buffers.specs.Ranges.{flag}
use Rattle.float.specs.Arithmetic.{◌⊖◌, ◌⊗◌, ◌⊘◌, zero·0, two, half_turn, PI, abs_of}
use Rattle.float.specs.Series.{horner}
use Rattle.float.specs.Trigonometry.{sine_divisor, cosine_divisor, threshold, quadrant_of, sine_at, cosine_at, sin_cos_of, sine_of, cosine_of, to_radians}
use Rattle.float.proofs.Bounds.{resign, round_resign, at_most}
use Rattle.float.proofs.Grid.{le_or_lt}
use Rattle.catalogue.proofs.Near.{Near, scaled, shorter, square}
use Rattle.catalogue.proofs.Rounding.{unit, step, unit_pos, step_small, Sized, negated, rounded, Times, times}
use Rattle.catalogue.proofs.Alternating.{rounds}
use Rattle.catalogue.proofs.Circle.{sine_divisors, cosine_divisors, sums_on_circle}

-- ---- the circle

-- sizes of at most 1, in units u of it, whose squares add up to 1 but for two parts in 10^12
pub record Circle (u S C : ℕ) : Type 0 where
  pub near : Near (2 * (u * u)) (1000000000000 * (S * S + C * C)) (1000000000000 * (u * u))
  pub s_top : S ≤ u
  pub c_top : C ≤ u

-- the sine x and the cosine y
pub record OnCircle (x y : Float) : Type 0 where
  pub s : Bool
  pub r : Bool
  pub S : ℕ
  pub C : ℕ
  pub sine : Sized s S x
  pub cosine : Sized r C y
  pub circle : Circle unit S C

-- S is p·s, and a is s², rounded
on_circle : (u k a b p S C : ℕ) → 0 < u → 1000000000000000 * k ≤ u → b ≤ u → p ≤ u → S ≤ u → Near (k * u) (a * u) (b * b) → Near (k * u) (S * u) (p * b)
    → Near (u * (u * u)) (1000000000000 * (a * (p * p) + u * (C * C))) (1000000000000 * (u * (u * u))) → Near (2 * (u * u)) (1000000000000 * (S * S + C * C)) (1000000000000 * (u * u))
on_circle u k a b p S C U h hb hp hS na nS w =
    shorter (u * u) (2 * (u * u)) (1000000000000 * (S * S + C * C)) (1000000000000 * (u * u)) (mul-pos U U)
    (sums u k a b p S C
    (square (k * u) (S * u) (p * b) (u * u) (mul-le-mul_right u hS) (mul-le-mul hp hb) nS)
    (scaled (p * p) (k * u) (a * u) (b * b) na)
    (scaled u (u * (u * u)) (1000000000000 * (a * (p * p) + u * (C * C))) (1000000000000 * (u * (u * u))) w)
    (mul-le-mul_right (k * u) (mul-le-mul hp hp))
    (mul-le-mul_right (u * (u * u)) h))
  where
    sums : (u k a b p S C : ℕ) → Near (2 * (k * u * (u * u))) (S * u * (S * u)) (p * b * (p * b)) → Near (p * p * (k * u)) (p * p * (a * u)) (p * p * (b * b))
        → Near (u * (u * (u * u))) (u * (1000000000000 * (a * (p * p) + u * (C * C)))) (u * (1000000000000 * (u * (u * u))))
        → p * p * (k * u) ≤ u * u * (k * u) → 1000000000000000 * k * (u * (u * u)) ≤ u * (u * (u * u))
        → Near (u * u * (2 * (u * u))) (u * u * (1000000000000 * (S * S + C * C))) (u * u * (1000000000000 * (u * u)))
    sums u k a b p S C q r s t g = record { over = omega (arith, q.over, r.under, s.over); under = omega (arith, q.under, r.over, s.under) }

unlike_self : (s : Bool) → unlike s s ≡ false
unlike_self true = refl
unlike_self false = refl

-- x², for an x of at most 1
pub squared : {s : Bool} {b : ℕ} {x : Float} → Sized s b x → b ≤ unit → Times false b b (x ⊗ x)
squared {s} {b} {x} v h = subst (λ (r : Bool). Times r b b (x ⊗ x)) (unlike_self s) (times v v h h)

-- both series of an s of at most 1
series_on_circle : {r : Bool} {b : ℕ} {s : Float} → Sized r b s → b ≤ unit → OnCircle (horner sine_divisor (s ⊗ s) 8 ⊗ s) (horner cosine_divisor (s ⊗ s) 8)
series_on_circle {r} {b} {s} v h =
    let t = squared v h in
    let p = rounds sine_divisor sine_divisors (s ⊗ s) t.sz t.sized t.top 8 0 refl in
    let c = rounds cosine_divisor cosine_divisors (s ⊗ s) t.sz t.sized t.top 8 0 refl in
    let x = times p.sized v p.top h in
    record {
      s = _;
      r = _;
      S = x.sz;
      C = c.sz;
      sine = x.sized;
      cosine = c.sized;
      circle = record {
        near = on_circle unit step t.sz b p.sz x.sz c.sz unit_pos step_small h p.top x.top t.near x.near (sums_on_circle t.top p c);
        s_top = x.top;
        c_top = c.top;
      };
    }

swapped : {u S C : ℕ} → Circle u S C → Circle u C S
swapped {u} {S} {C} k = record { near = record { over = omega (arith, k.near.over); under = omega (arith, k.near.under) }; s_top = k.c_top; c_top = k.s_top }

-- the cases of q
turned : (q : ℕ) → q ≤ 4 → {s c : Float} → OnCircle s c → OnCircle (sine_at q s c) (cosine_at q s c)
unfolding sine_at cosine_at
turned zero l p = p
turned (suc zero) l p = record { s = _; r = _; S = p.C; C = p.S; sine = p.cosine; cosine = negated p.sine; circle = swapped p.circle }
turned (suc (suc zero)) l p = record { s = _; r = _; S = p.S; C = p.C; sine = negated p.sine; cosine = negated p.cosine; circle = p.circle }
turned (suc (suc (suc zero))) l p = record { s = _; r = _; S = p.C; C = p.S; sine = negated p.cosine; cosine = p.sine; circle = swapped p.circle }
turned (suc (suc (suc (suc zero)))) l p = p
turned (suc (suc (suc (suc (suc q))))) l p = absurd (let z : ⊥ = omega arith in z)

-- ---- s is at most 1 in size

record Small (x : Float) : Type 0 where
  s : Bool
  b : ℕ
  sized : Sized s b x
  top : b ≤ unit

-- the difference of two that are not negative and lie at most 1 apart
small_difference : (m n : ℕ) (e d : ℤ) → m * up e * down d ≤ n * up d * down e + down e * down d → n * up d * down e ≤ m * up e * down d + down e * down d → Small (fin false m e ⊖ fin false n d)
unfolding sub neg add sum
small_difference m n e d h g = go (ltb (m * up e * down d) (n * up d * down e)) (ltb (n * up d * down e) (m * up e * down d))
  where
    small : (s : Bool) (n c : ℕ) → 0 < c → n ≤ c → Small (round binary64 s n c)
    small s n c C h = let r = rounded s n c C (omega arith) in record { s = s; b = r.sz; sized = r.sized; top = r.top h }

    go : (i j : Bool) → Small (cond i (round binary64 true (n * up d * down e - m * up e * down d) (down e * down d)) (round binary64 (false && j) (m * up e * down d - n * up d * down e) (down e * down d)))
    go true j = small true _ (down e * down d) (mul-pos (down_pos e) (down_pos d)) (omega arith)
    go false j = small false _ (down e * down d) (mul-pos (down_pos e) (down_pos d)) (omega arith)

-- P/4, an eighth of a turn, in parts of 2^-50
abbrev eighth : ℕ
eighth = 884279719003555

-- the thresholds are odd multiples of that, exactly
pub thresholds : (threshold 1 ≡ fin false (1 * eighth) (negsuc 49)) × (threshold 3 ≡ fin false (3 * eighth) (negsuc 49)) × (threshold 5 ≡ fin false (5 * eighth) (negsuc 49)) × (threshold 7 ≡ fin false (7 * eighth) (negsuc 49))
unfolding threshold of_int of_bits mul div round
thresholds = (refl, refl, refl, refl)

-- q, of X and the thresholds K, 3K, 5K and 7K; 2q of K are within K of X
nearest : (K X : ℕ) → X ≤ 9 * K
    → (let q = flag (ltb (1 * K) X) + flag (ltb (3 * K) X) + flag (ltb (5 * K) X) + flag (ltb (7 * K) X) in (q ≤ 4) × (X ≤ 2 * q * K + K) × (2 * q * K ≤ X + K))
nearest K X h = elim (le_or_lt X (1 * K)) [
  | inl a ↦ rw (under 1 a, under 3 (omega arith), under 5 (omega arith), under 7 (omega arith)) (omega arith, omega arith, omega arith)
  | inr a ↦ elim (le_or_lt X (3 * K)) [
    | inl b ↦ rw (above 1 a, under 3 b, under 5 (omega arith), under 7 (omega arith)) (omega arith, omega arith, omega arith)
    | inr b ↦ elim (le_or_lt X (5 * K)) [
      | inl c ↦ rw (above 1 a, above 3 b, under 5 c, under 7 (omega arith)) (omega arith, omega arith, omega arith)
      | inr c ↦ elim (le_or_lt X (7 * K)) [
        | inl d ↦ rw (above 1 a, above 3 b, above 5 c, under 7 d) (omega arith, omega arith, omega arith)
        | inr d ↦ rw (above 1 a, above 3 b, above 5 c, above 7 d) (omega arith, omega arith, omega arith)
      ]
    ]
  ]
]
  where
    above : (n : ℕ) → n * K < X → flag (ltb (n * K) X) ≡ 1
    above n l = ap flag (lt-ltb (n * K) X l)

    under : (n : ℕ) → X ≤ n * K → flag (ltb (n * K) X) ≡ 0
    under n l = ap flag (le-ltb (n * K) X l)

-- q·(P/2) is 2q eighths, exactly
pub record Half (q : ℕ) : Type 0 where
  pub n : ℕ
  pub d : ℤ
  pub is : of_int binary64 (pos q) ⊗ (PI ⊘ two) ≡ fin false n d
  pub at : n * up d * 1125899906842624 ≡ 2 * q * eighth * down d

pub halves : (q : ℕ) → q ≤ 4 → Half q
unfolding of_int of_bits mul div round
halves zero l = record { n = 0; d = pos 0; is = refl; at = refl }
halves (suc zero) l = record { n = 884279719003555; d = negsuc 48; is = refl; at = refl }
halves (suc (suc zero)) l = record { n = 884279719003555; d = negsuc 47; is = refl; at = refl }
halves (suc (suc (suc zero))) l = record { n = 2652839157010665; d = negsuc 48; is = refl; at = refl }
halves (suc (suc (suc (suc zero)))) l = record { n = 884279719003555; d = negsuc 46; is = refl; at = refl }
halves (suc (suc (suc (suc (suc q))))) l = absurd (let z : ⊥ = omega arith in z)

-- A / (E·F) and B / (E·F) are at most 1 apart where X / E and Y, which are K times them, are at most K apart
within_one : (A B X Y E F K : ℕ) → A * K ≡ X * F → B * K ≡ Y * E * F → X ≤ Y * E + K * E → Y * E ≤ X + K * E → 0 < K → (A ≤ B + E * F) × (B ≤ A + E * F)
within_one A B X Y E F K p q h g k =
    let x : X * F ≤ (Y * E + K * E) * F = mul-le-mul_right F h in
    let y : Y * E * F ≤ (X + K * E) * F = mul-le-mul_right F g in (
      le_of_mul-le-mul_right {m = A} {n = B + E * F} {k = K} (omega arith) k,
      le_of_mul-le-mul_right {m = B} {n = A + E * F} {k = K} (omega arith) k,
    )

module _ (m : ℕ) (e : ℤ) (top : m * up e ≤ 7 * down e) where
  abbrev a : Float
  a = fin false m e

  abbrev X : ℕ
  X = m * up e * 1125899906842624

  threshold_is : (n : ℕ) → threshold n ≡ fin false (n * eighth) (negsuc 49) → lt (threshold n) a ≡ ltb (n * (eighth * down e)) X
  unfolding lt
  threshold_is n is = ap (λ (x : Float). lt x a) is ∙ ap (λ (y : ℕ). ltb y X) (law n (down e))
    where
      law : (n d : ℕ) → n * eighth * 1 * d ≡ n * (eighth * d)
      law n d = omega arith

  quadrant_is : quadrant_of a ≡ (let K = eighth * down e in flag (ltb (1 * K) X) + flag (ltb (3 * K) X) + flag (ltb (5 * K) X) + flag (ltb (7 * K) X))
  unfolding quadrant_of
  quadrant_is = let t = thresholds in rw (threshold_is 1 t.0, threshold_is 3 t.1, threshold_is 5 t.2, threshold_is 7 t.3) refl

  abbrev q : ℕ
  q = quadrant_of a

  near_X : (q ≤ 4) × (X ≤ 2 * q * (eighth * down e) + eighth * down e) × (2 * q * (eighth * down e) ≤ X + eighth * down e)
  near_X = rw quadrant_is (nearest (eighth * down e) X (bound (m * up e) (down e) top))
    where
      bound : (x d : ℕ) → x ≤ 7 * d → x * 1125899906842624 ≤ 9 * (eighth * d)
      bound x d h = omega arith

  reduced : Small (a ⊖ of_int binary64 (pos q) ⊗ (PI ⊘ two))
  reduced =
      let f = halves q near_X.0 in
      let w = one_apart q (down e) (down f.d) (m * up e) (f.n * up f.d) f.at near_X.1 near_X.2 in
      rw f.is (small_difference m f.n e f.d w.0 w.1)
    where
      one_apart : (q E F x y : ℕ) → y * 1125899906842624 ≡ 2 * q * eighth * F → x * 1125899906842624 ≤ 2 * q * (eighth * E) + eighth * E → 2 * q * (eighth * E) ≤ x * 1125899906842624 + eighth * E
          → (x * F ≤ y * E + E * F) × (y * E ≤ x * F + E * F)
      one_apart q E F x y p h g =
          within_one (x * F) (y * E) (x * 1125899906842624) (2 * q * eighth) E F 1125899906842624 (omega arith)
          (let r : y * 1125899906842624 * E ≡ 2 * q * eighth * F * E = ap (λ (z : ℕ). z * E) p in omega arith)
          (omega arith) (omega arith) (lit< tt)

  -- of an a of at most 7
  of_size : (let s = a ⊖ of_int binary64 (pos q) ⊗ (PI ⊘ two) in let t = s ⊗ s in let sinS = horner sine_divisor t 8 ⊗ s in let cosS = horner cosine_divisor t 8 in OnCircle (sine_at q sinS cosS) (cosine_at q sinS cosS))
  of_size = turned q near_X.0 (series_on_circle reduced.sized reduced.top)

-- ---- sine and cosine

-- finite, and at most n in size
pub record AtMost (n : ℕ) (x : Float) : Type 0 where
  pub s : Bool
  pub m : ℕ
  pub e : ℤ
  pub is : x ≡ fin s m e
  pub most : m * up e ≤ n * down e

pub sine_cosine : (x : Float) → AtMost 7 x → OnCircle (sine_of x) (cosine_of x)
unfolding sine_of cosine_of sin_cos_of abs_of
sine_cosine x w = rw w.is (signed (lt (fin w.s w.m w.e) zero·0) (of_size w.m w.e w.most))
  where
    signed : (b : Bool) {s c : Float} → OnCircle s c → OnCircle (cond b (neg s) s) c
    signed true p = record { s = _; r = p.r; S = p.S; C = p.C; sine = negated p.sine; cosine = p.cosine; circle = p.circle }
    signed false p = p

-- ---- radians

seven_value : round binary64 false 7 1 ≡ fin false 7 (pos 0)
unfolding round
seven_value = refl

seven_le : (s : Bool) (x : Float) → T (le (resign false x) (fin false 7 (pos 0))) → AtMost 7 (resign s x)
unfolding resign le lt eq
seven_le s nan h = absurd h
seven_le s (inf t) h = absurd h
seven_le s (fin t m e) h = record { s = s; m = m; e = e; is = refl; most = let g : m * up e * 1 ≤ 7 * 1 * down e = at_most (m * up e * 1) (7 * 1 * down e) _ _ _ refl refl h in omega arith }

seven_round : (s : Bool) (n d : ℕ) → 0 < d → n ≤ 7 * d → AtMost 7 (round binary64 s n d)
seven_round s n d D h =
    let t : T (le (round binary64 false n d) (fin false 7 (pos 0))) = subst (λ (y : Float). T (le (round binary64 false n d) y)) seven_value (round_mono binary64 n d 7 1 D (lit< tt) (omega arith)) in
    subst (AtMost 7) (sym (round_resign s false n d)) (seven_le s (round binary64 false n d) (subst (λ (y : Float). T (le y (fin false 7 (pos 0)))) (round_resign false false n d) t))

-- P / 180
per_degree : PI ⊘ half_turn ≡ fin false 5030569068109113 (negsuc 57)
unfolding div round of_bits
per_degree = refl

-- at most 360 degrees
pub radians : (a : Float) → AtMost 360 a → AtMost 7 (to_radians a)
unfolding to_radians mul
radians a w = rw (w.is, per_degree) (seven_round (unlike w.s false) (w.m * up w.e * (5030569068109113 * 1)) (down w.e * 288230376151711744) (mul-pos (down_pos w.e) (lit< tt)) (bound (w.m * up w.e) (down w.e) w.most))
  where
    bound : (x d : ℕ) → x ≤ 360 * d → x * (5030569068109113 * 1) ≤ 7 * (d * 288230376151711744)
    bound x d h = omega arith
