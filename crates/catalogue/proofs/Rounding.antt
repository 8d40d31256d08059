-- Rounding at values below 2, counted in units of the smallest value: products and sums of floats are off by a step at most, and 1 stays the largest where it
-- was (`rounded`, `times`, `together`, `apart`). Assumes nothing.
use mathlib.Core.Path.{◌≡◌, refl, sym, ap, ap₂, ◌∙◌, subst}
use mathlib.Core.Bool.{Bool, true, false, cond, not, ◌&&◌}
use Prim.Native.Nat.{ℕ, suc, ◌+◌, ◌-◌, ◌*◌, ◌/◌, ◌%◌, ◌^◌, ◌<◌, ◌≤◌, compare}
use native.Mathlib.Nat.{le_of_lt, le_trans, le_of_eq, lt_of_lt_of_le, mul-pos, one-mul, mul_assoc, mul_comm, mul_right_comm, mul-mul-mul_comm, mul-le-mul_left, mul-le-mul_right, mul-lt-mul_of_pos_right, le_of_mul-le-mul_right, lt_of_mul-lt-mul_right, div-lt_iff_lt-mul, div-add-mod', mod-lt, pow-suc, mul-sub}
use native.Mathlib.Omega.{arith}
use borrow.Author.Tests.{lt-ltb, ltb-true, ltb-false}
use lib.IntN.{ℤ}
use lib.Dec.{ltb, lit<, lit≤}
use lib.Pow.{pow_pos, pow_mono}
use lib.Ieee.{Float, fin, binary64, up, down, size, round, sum, add, mul, neg, unlike}
use lib.Ieee.Fits.{down_pos, nearest-le, round_is}
use lib.Ieee.Nearest.{nearest-ge, closest}
use lib.Ieee.Digits.{size-le}
use lib.Ieee.Exact.{HasValue, units_val}
use lib.Ieee.Scale.{round_same}
use Rattle.float.proofs.Bounds.{within_round}
use Rattle.catalogue.proofs.Near.{Near, shorter}

-- ---- 1 in units of the smallest value, and what a rounded value below 2 is off by: a unit in its last place

unfoldable pub unit : ℕ
unit = 2 ^ 1074

unfoldable pub step : ℕ
step = 2 ^ 1022

pub unit_pos : 0 < unit
unfolding unit
unit_pos = pow_pos 1074

-- a step is less than a part in 10^15
pub step_small : 1000000000000000 * step ≤ unit
unfolding unit step
step_small = lit≤ tt

-- x has the sign s and is a units in size
pub record Sized (s : Bool) (a : ℕ) (x : Float) : Type 0 where
  pub m : ℕ
  pub e : ℤ
  pub is : x ≡ fin s m e
  pub at : m * up e * unit ≡ a * down e

pub negated : {s : Bool} {a : ℕ} {x : Float} → Sized s a x → Sized (not s) a (neg x)
unfolding neg
negated w = rw w.is (record { m = w.m; e = w.e; is = refl; at = w.at })

-- ---- n / d, rounded

-- x has the sign s, its size differs from n / d by a step at most, and is at most 1 if n / d is
pub record Rounded (s : Bool) (n d : ℕ) (x : Float) : Type 0 where
  pub sz : ℕ
  pub sized : Sized s sz x
  pub near : Near (d * step) (d * sz) (n * unit)
  pub top : n ≤ d → sz ≤ unit

closest_near : (n d : ℕ) → 0 < d → Near d (closest n d * d) n
closest_near n d D =
    let h : closest n d * d ≤ suc (n / d) * d = mul-le-mul_right d (nearest-le (n / d) (compare (n % d * 2) d)) in
    let g : n / d * d ≤ closest n d * d = mul-le-mul_right d (nearest-ge (n / d) (compare (n % d * 2) d)) in
    record { over = omega (arith, div-add-mod' n d); under = omega (arith, div-add-mod' n d, mod-lt n D) }

-- in units of 2 ^ k of the smallest value, of which a step has one or more
in_steps : (q p d n t : ℕ) → p ≤ t → Near (d * p) (q * (d * p)) n → Near (d * t) (d * (q * p)) n
in_steps q p d n t h w =
    let l : d * p ≤ d * t = mul-le-mul_left d h in
    let e : d * (q * p) ≡ q * (d * p) = omega arith in
    record { over = omega (arith, w.over); under = omega (arith, w.under) }

-- a value below 2 drops at most 1022 digits
drops : (n d : ℕ) → 0 < d → n < 2 * d → size (n * 2 ^ 1074 / d) - 53 ≤ 1022
drops n d D h =
    let l : n * 2 ^ 1074 < 2 * d * 2 ^ 1074 = mul-lt-mul_of_pos_right h (pow_pos 1074) in
    let e : 2 * d * 2 ^ 1074 ≡ 2 ^ 1075 * d = mul_right_comm 2 d (2 ^ 1074) ∙ ap (λ (x : ℕ). x * d) (mul_comm 2 (2 ^ 1074) ∙ sym (pow-suc 2 1074)) in
    let g : n * 2 ^ 1074 / d < 2 ^ 1075 = (div-lt_iff_lt-mul D).1 (lt_of_lt_of_le l (le_of_eq e)) in
    omega (arith, size-le (n * 2 ^ 1074 / d) 1075 g)

-- and does not overflow: u is 1 in units, and t a step
fine : (r d n u t o : ℕ) → d * r ≤ n * u + d * t → n < 2 * d → 0 < u → 2 * u + t ≤ o → r < o
fine r d n u t o h g U k =
    let a : n * u < 2 * d * u = mul-lt-mul_of_pos_right g U in
    let b : d * (2 * u + t) ≤ d * o = mul-le-mul_left d k in
    lt_of_mul-lt-mul_right d (let c : r * d < o * d = omega arith in c)

at_most_unit : (r m u e : ℕ) → 0 < e → m * u ≡ r * e → m ≤ 1 * e → r ≤ u
at_most_unit r m u e E h g =
    le_of_mul-le-mul_right (le_trans (le_of_eq (sym h)) (le_trans (mul-le-mul_right u g) (le_of_eq (ap (λ (x : ℕ). x * u) (one-mul e) ∙ mul_comm e u)))) E

pub rounded : (s : Bool) (n d : ℕ) → 0 < d → n < 2 * d → Rounded s n d (round binary64 s n d)
unfolding unit step
rounded s n d D h =
    let k = size (n * 2 ^ 1074 / d) - 53 in
    let q = closest (n * 2 ^ 1074) (d * 2 ^ k) in
    let w : Near (d * 2 ^ 1022) (d * (q * 2 ^ k)) (n * 2 ^ 1074) = in_steps q (2 ^ k) d _ (2 ^ 1022) (pow_mono (drops n d D h)) (closest_near _ (d * 2 ^ k) (mul-pos D (pow_pos k))) in
    let o : q * 2 ^ k < 2 ^ 2098 = fine (q * 2 ^ k) d n (2 ^ 1074) (2 ^ 1022) (2 ^ 2098) w.over h (pow_pos 1074) (lit≤ tt) in
    let v = subst (λ (x : Float). HasValue x s (q * 2 ^ k) (2 ^ 1074)) (sym (round_is binary64 s n d)) (units_val binary64 s q k o) in
    let b = within_round s n d 1 (lit< tt) D (le_of_lt h) in
    let c = subst (λ (x : Float). HasValue x s (q * 2 ^ k) (2 ^ 1074)) b.is v in
    record {
      sz = q * 2 ^ k;
      sized = record { m = b.m; e = b.e; is = b.is ∙ ap (λ (t : Bool). fin t b.m b.e) c.0; at = c.1 };
      near = w;
      top = λ (g : n ≤ d).
          (let z = within_round s n d 0 (lit< tt) D (le_trans g (le_of_eq (sym (one-mul d)))) in
          let y = subst (λ (x : Float). HasValue x s (q * 2 ^ k) (2 ^ 1074)) z.is v in
          at_most_unit (q * 2 ^ k) (z.m * up z.e) (2 ^ 1074) (down z.e) (down_pos z.e) y.1 z.size_le);
    }

-- ---- products

pub record Times (s : Bool) (a b : ℕ) (x : Float) : Type 0 where
  pub sz : ℕ
  pub sized : Sized s sz x
  pub near : Near (step * unit) (sz * unit) (a * b)
  pub top : sz ≤ unit

-- of two that are at most 1
pub times : {s t : Bool} {a b : ℕ} {x y : Float} → Sized s a x → Sized t b y → a ≤ unit → b ≤ unit → Times (unlike s t) a b (mul binary64 x y)
unfolding mul
times {s} {t} {a} {b} v w h g =
    let U : 0 < unit * unit = mul-pos unit_pos unit_pos in
    let l : a * b ≤ unit * unit = le_trans (mul-le-mul_right b h) (mul-le-mul_left unit g) in
    let e : mul binary64 (fin s v.m v.e) (fin t w.m w.e) ≡ round binary64 (unlike s t) (a * b) (unit * unit) =
    round_same binary64 (unlike s t) (v.m * up v.e * (w.m * up w.e)) (down v.e * down w.e) (a * b) (unit * unit) (mul-pos (down_pos v.e) (down_pos w.e)) U
    (crossed (v.m * up v.e) (w.m * up w.e) (down v.e) (down w.e) a b unit v.at w.at) in
    let r = rounded (unlike s t) (a * b) (unit * unit) U (omega arith) in
    rw (v.is, w.is, e) (record { sz = r.sz; sized = r.sized; near = cancel r.sz (a * b) step unit unit_pos r.near; top = r.top l })
  where
    crossed : (X Y E F a b u : ℕ) → X * u ≡ a * E → Y * u ≡ b * F → X * Y * (u * u) ≡ a * b * (E * F)
    crossed X Y E F a b u p q = mul-mul-mul_comm X Y u u ∙ ap (λ (z : ℕ). z * (Y * u)) p ∙ ap (λ (z : ℕ). a * E * z) q ∙ mul-mul-mul_comm a E b F

    cancel : (r p k u : ℕ) → 0 < u → Near (u * u * k) (u * u * r) (p * u) → Near (k * u) (r * u) p
    cancel r p k u U w = shorter u (k * u) (r * u) p U (record { over = omega (arith, w.over); under = omega (arith, w.under) })

-- ---- sums

pub record Summed (s : Bool) (p : ℕ) (x : Float) : Type 0 where
  pub sz : ℕ
  pub sized : Sized s sz x
  pub near : Near step sz p
  pub top : p ≤ unit → sz ≤ unit

summed : (s : Bool) (n c p : ℕ) → 0 < c → n * unit ≡ p * c → p < 2 * unit → Summed s p (round binary64 s n c)
summed s n c p C e h =
    let r = rounded s p unit unit_pos h in
    let k : p * unit ≡ unit * p = mul_comm p unit in
    rw (round_same binary64 s n c p unit C unit_pos e)
    (record { sz = r.sz; sized = r.sized; near = shorter unit step r.sz p unit_pos (subst (λ (x : ℕ). Near (unit * step) (unit * r.sz) x) k r.near); top = r.top })

-- what a sum works on: both sizes over one divisor
module _ {s t : Bool} {a b : ℕ} {x y : Float} (v : Sized s a x) (w : Sized t b y) where
  A : ℕ
  A = v.m * up v.e * down w.e

  B : ℕ
  B = w.m * up w.e * down v.e

  c : ℕ
  c = down v.e * down w.e

  c_pos : 0 < c
  unfolding c
  c_pos = mul-pos (down_pos v.e) (down_pos w.e)

  left : A * unit ≡ a * c
  unfolding A c
  left = mul_right_comm (v.m * up v.e) (down w.e) unit ∙ ap (λ (z : ℕ). z * down w.e) v.at ∙ mul_assoc a (down v.e) (down w.e)

  right : B * unit ≡ b * c
  unfolding B c
  right = mul_right_comm (w.m * up w.e) (down v.e) unit ∙ ap (λ (z : ℕ). z * down v.e) w.at ∙ mul_assoc b (down w.e) (down v.e) ∙ ap (λ (z : ℕ). b * z) (mul_comm (down w.e) (down v.e))

  add_is : add binary64 x y ≡ sum binary64 s A t B c
  unfolding add A B c
  add_is = rw (v.is, w.is) refl

-- of two that are not negative
pub together : {a b : ℕ} {x y : Float} → Sized false a x → Sized false b y → a + b < 2 * unit → Summed false (a + b) (add binary64 x y)
unfolding sum
together {a} {b} v w h = rw (add_is v w) (summed false (A v w + B v w) (c v w) (a + b) (c_pos v w) (omega (arith, left v w, right v w)) h)

-- of two with unlike signs: the larger one's sign
pub record Apart (s : Bool) (a b : ℕ) (x : Float) : Type 0 where
  pub r : Bool
  pub sum : Summed r ((a - b) + (b - a)) x
  pub sign : b < a → r ≡ s

unlike_signs : (s : Bool) (A B c : ℕ) → sum binary64 s A (not s) B c ≡ cond (ltb A B) (round binary64 (not s) (B - A) c) (round binary64 (s && ltb B A) (A - B) c)
unfolding sum
unlike_signs true A B c = refl
unlike_signs false A B c = refl

-- A / c and B / c are a and b in units
module _ (A B a b c u : ℕ) (U : 0 < u) (C : 0 < c) (p : A * u ≡ a * c) (q : B * u ≡ b * c) where
  ordered : A ≤ B → a ≤ b
  ordered h = le_of_mul-le-mul_right (let g : A * u ≤ B * u = mul-le-mul_right u h in let k : a * c ≤ b * c = omega arith in k) C

  below : a < b → A < B
  below h = lt_of_mul-lt-mul_right u (let g : a * c < b * c = mul-lt-mul_of_pos_right h C in let k : A * u < B * u = omega arith in k)

  difference : (B - A) * u ≡ (b - a) * c
  difference = mul_comm (B - A) u ∙ mul-sub u B A ∙ ap₂ (λ (y z : ℕ). y - z) (mul_comm u B ∙ q ∙ mul_comm b c) (mul_comm u A ∙ p ∙ mul_comm a c) ∙ sym (mul-sub c b a) ∙ mul_comm c (b - a)

pub apart : {s : Bool} {a b : ℕ} {x y : Float} → Sized s a x → Sized (not s) b y → (a - b) + (b - a) < 2 * unit → Apart s a b (add binary64 x y)
apart {s} {a} {b} v w h = rw (add_is v w, unlike_signs s X Y d) (go (ltb X Y) (ltb Y X) refl refl)
  where
    X : ℕ
    X = A v w

    Y : ℕ
    Y = B v w

    d : ℕ
    d = c v w

    part : (r : Bool) (n p : ℕ) → n * unit ≡ p * d → p ≡ (a - b) + (b - a) → Summed r ((a - b) + (b - a)) (round binary64 r n d)
    part r n p e k = summed r n d ((a - b) + (b - a)) (c_pos v w) (e ∙ ap (λ (z : ℕ). z * d) k) h

    go : (i j : Bool) → ltb X Y ≡ i → ltb Y X ≡ j → Apart s a b (cond i (round binary64 (not s) (Y - X) d) (round binary64 (s && j) (X - Y) d))
    go true j p q =
        let l : a ≤ b = ordered X Y a b d unit unit_pos (c_pos v w) (left v w) (right v w) (le_of_lt (ltb-true X Y p)) in
        record { r = not s; sum = part (not s) (Y - X) (b - a) (difference X Y a b d unit unit_pos (c_pos v w) (left v w) (right v w)) (omega arith); sign = λ (g : b < a). absurd (let z : ⊥ = omega arith in z) }
    go false j p q =
        let l : b ≤ a = ordered Y X b a d unit unit_pos (c_pos v w) (right v w) (left v w) (ltb-false X Y p) in
        record {
          r = s && j;
          sum = part (s && j) (X - Y) (a - b) (difference Y X b a d unit unit_pos (c_pos v w) (right v w) (left v w)) (omega arith);
          sign = λ (g : b < a). ap (λ (z : Bool). s && z) (sym q ∙ lt-ltb Y X (below Y X b a d unit unit_pos (c_pos v w) (right v w) (left v w) g)) ∙ and_true s;
        }
      where
        and_true : (s : Bool) → (s && true) ≡ s
        and_true true = refl
        and_true false = refl
