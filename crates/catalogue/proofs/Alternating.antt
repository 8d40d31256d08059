-- Horner's rule with coefficients that take turns in sign and get smaller, at a t from 0 to 1: each step keeps its coefficient's sign and is at most its
-- coefficient in size, but for a step of rounding; so the sum is near to the polynomial's value, and at most 1 (`rounds`). Assumes nothing.
use mathlib.Core.Path.{◌≡◌, refl, sym, ap, ◌∙◌, subst}
use mathlib.Core.Bool.{Bool, true, false, cond, not}
use mathlib.Core.List.{List, [], ◌∷◌}
use Prim.Native.Nat.{ℕ, zero, suc, ◌+◌, ◌-◌, ◌*◌, ◌/◌, ◌%◌, ◌^◌, ◌<◌, ◌≤◌}
use native.Mathlib.Nat.{mul-pos, mul-one, one-mul, mul_comm, mul-zero, zero-mul, mul-le-mul_left, mul-le-mul_right, le_of_mul-le-mul_right, zero-lt-suc, pow-suc, pow-zero, lt_of_mul-lt-mul_right}
use native.Mathlib.Omega.{arith}
use borrow.Author.Tests.{eq-eqb, ne_eqb}
use lib.IntN.{pos}
use lib.Dec.{eqb, lit<, lit≤}
use lib.Ieee.{Float, nan, inf, fin, binary64, up, down, round, add, mul, div, neg, unlike, of_int}
use lib.Ieee.Fits.{up_pos, down_pos}
use lib.Ieee.Exact.{HasValue}
use lib.Ieee.Back.{round_whole}
use lib.Ieee.Scale.{round_same}
use Rattle.float.specs.Arithmetic.{one}
use Rattle.float.specs.Series.{coefficient, horner}
use Rattle.float.specs.Trigonometry.{factorial}
use Rattle.float.proofs.Bounds.{one_value}
use Rattle.catalogue.proofs.Near.{Near, scaled, reworded}
use Rattle.catalogue.proofs.Polynomial.{at}
use Rattle.catalogue.proofs.Rounding.{unit, step, unit_pos, Sized, negated, rounded, times, apart}

-- ---- D = 17!, a multiple of every divisor d(k), and how many times it has it

unfoldable pub common : ℕ
unfolding factorial
common = factorial 17

pub common_pos : 0 < common
unfolding common factorial
common_pos = lit< tt

common_held : common ≤ 2 ^ 53
unfolding common factorial
common_held = lit≤ tt

-- a step is far below the smallest coefficient, 1 / D
common_small : 4 * (common * step) < unit
unfolding common factorial step unit
common_small = lit< tt

unfoldable pub cofactor : (ℕ → ℕ) → ℕ → ℕ
cofactor d k = common / d k

-- the divisors divide D, and grow
pub record Divisors (d : ℕ → ℕ) : Type 0 where
  pub divides : (k : ℕ) → k ≤ 8 → cofactor d k * d k ≡ common
  pub grow : (k : ℕ) → k < 8 → cofactor d (suc k) < cofactor d k

-- ---- a coefficient, D of which are near to G

record Coefficient (s : Bool) (G : ℕ) (x : Float) : Type 0 where
  sz : ℕ
  sized : Sized s sz x
  near : Near (common * step) (common * sz) (G * unit)
  top : sz ≤ unit

over_whole : (y : Float) (F : ℕ) → 0 < F → HasValue y false F 1 → div binary64 (fin false 1 (pos 0)) y ≡ round binary64 false 1 F
unfolding div
over_whole nan F h v = absurd v
over_whole (inf t) F h v = absurd v
over_whole (fin t zero d) F h v =
    let z : 0 * up d * 1 ≡ F * down d = v.1 in
    let p : 0 < F * down d = mul-pos h (down_pos d) in
    let q : ⊥ = omega (arith, zero-mul (up d)) in
    absurd q
over_whole (fin t (suc n) d) F h v =
    let z : eqb (suc n) 0 ≡ false = ne_eqb (suc n) 0 (λ (q : suc n ≡ 0). omega arith) in
    let e : down d * F ≡ 1 * (suc n * up d) = omega (arith, v.1, mul_comm F (down d)) in
    rw z (ap (λ (s : Bool). round binary64 (unlike false s) (1 * 1 * down d) (suc n * up d * 1)) v.0
    ∙ round_same binary64 false (1 * 1 * down d) (suc n * up d * 1) 1 F (mul-pos (mul-pos (zero-lt-suc n) (up_pos d)) (lit< tt)) h
    (ap (λ (x : ℕ). x * F) (one-mul (down d)) ∙ e ∙ ap (λ (x : ℕ). 1 * x) (sym (mul-one (suc n * up d)))))

inverse : (F G : ℕ) → G * F ≡ common → Coefficient false G (div binary64 one (of_int binary64 (pos F)))
unfolding of_int
inverse zero G e = absurd (let z : ⊥ = omega (arith, common_pos, mul-zero G) in z)
inverse (suc f) zero e = absurd (let z : ⊥ = omega (arith, common_pos, zero-mul (suc f)) in z)
inverse (suc f) (suc g) e =
    let F = suc f in
    let l : F ≤ suc g * F = omega arith in
    let r = rounded false 1 F (zero-lt-suc f) (omega arith) in
    rw (one_value, over_whole (round binary64 false F 1) F (zero-lt-suc f) (round_whole binary64 false F (omega (arith, common_held))))
    (record { sz = r.sz; sized = r.sized; near = shared F (suc g) r.sz common step unit e r.near; top = r.top (omega arith) })
  where
    shared : (F G z D k u : ℕ) → G * F ≡ D → Near (F * k) (F * z) (1 * u) → Near (D * k) (D * z) (G * u)
    shared F G z D k u e w =
        let v = scaled G (F * k) (F * z) (1 * u) w in
        subst (λ (x : ℕ). Near (x * k) (x * z) (G * u)) e (record { over = omega (arith, v.over); under = omega (arith, v.under) })

coefficient_near : (d : ℕ → ℕ) (k : ℕ) → cofactor d k * d k ≡ common → Coefficient (eqb (k % 2) 1) (cofactor d k) (coefficient d k)
unfolding coefficient
coefficient_near d k e = go (eqb (k % 2) 1)
  where
    i : Coefficient false (cofactor d k) (div binary64 one (of_int binary64 (pos (d k))))
    i = inverse (d k) (cofactor d k) e

    go : (s : Bool) → Coefficient s (cofactor d k) (cond s (neg (div binary64 one (of_int binary64 (pos (d k))))) (div binary64 one (of_int binary64 (pos (d k)))))
    go true = record { sz = i.sz; sized = negated i.sized; near = i.near; top = i.top }
    go false = i

-- ---- a step, c + t·p, where p has the other sign and is smaller

record Next (s : Bool) (c h a : ℕ) (y : Float) : Type 0 where
  sz : ℕ
  sized : Sized s sz y
  under : sz ≤ c + step
  top : sz ≤ unit
  row : Near (2 * (step * unit)) (sz * unit + a * h) (c * unit)

unlike_not : (s : Bool) → unlike false (not s) ≡ not s
unlike_not true = refl
unlike_not false = refl

next : {s : Bool} {c h a : ℕ} {x p t : Float} → Sized s c x → Sized (not s) h p → Sized false a t → a ≤ unit → h + step < c → c ≤ unit → Next s c h a (add binary64 x (mul binary64 t p))
next {s} {c} {h} {a} {x} {p} {t} v w z l g k =
    let q = times z w l (omega arith) in
    let less : a * h ≤ unit * h = mul-le-mul_right h l in
    let small : q.sz ≤ h + step = le_of_mul-le-mul_right {m = q.sz} {n = h + step} {k = unit} (omega (arith, q.near.over)) unit_pos in
    let r = apart v (subst (λ (b : Bool). Sized b q.sz (mul binary64 t p)) (unlike_not s) q.sized) (omega (arith, unit_pos)) in
    let m = r.sum in
    let Ru : (m.sz + q.sz) * unit ≤ (c + step) * unit = mul-le-mul_right unit (omega (arith, m.near.over)) in
    let Rd : c * unit ≤ (m.sz + q.sz + step) * unit = mul-le-mul_right unit (omega (arith, m.near.under)) in
    record {
      sz = m.sz;
      sized = subst (λ (b : Bool). Sized b m.sz (add binary64 x (mul binary64 t p))) (r.sign (omega arith)) m.sized;
      under = omega (arith, m.near.over);
      top = m.top (omega arith);
      row = record { over = omega (arith, q.near.under); under = omega (arith, q.near.over) };
    }

-- ---- the polynomial, times D·u^j, from c(k) on, k + j = 8: the terms with c(k)'s sign, and the others

unfoldable pub terms : (ℕ → ℕ) → Bool → ℕ → List ℕ
terms d own zero = cond own (cofactor d 8) 0 ∷ []
terms d own (suc j) = cond own (cofactor d (7 - j) * unit ^ suc j) 0 ∷ terms d (not own) j

pub record Round (d : ℕ → ℕ) (t : Float) (a j k : ℕ) : Type 0 where
  pub sz : ℕ
  pub sized : Sized (eqb (k % 2) 1) sz (horner d t j)
  pub under : common * sz ≤ cofactor d k * unit + 2 * (common * step)
  pub top : sz ≤ unit
  pub near : Near (3 * (suc j * (step * (common * unit ^ j)))) (common * (sz * unit ^ j) + unit * at (terms d false j) a) (unit * at (terms d true j) a)

alternates : (k : ℕ) → eqb (suc k % 2) 1 ≡ not (eqb (k % 2) 1)
alternates k = go (k % 2) refl
  where
    go : (r : ℕ) → k % 2 ≡ r → eqb (suc k % 2) 1 ≡ not (eqb (k % 2) 1)
    go zero e = rw (ne_eqb (k % 2) 1 (λ (z : k % 2 ≡ 1). omega arith)) (eq-eqb (suc k % 2) 1 (omega arith))
    go (suc zero) e = rw (eq-eqb (k % 2) 1 e) (ne_eqb (suc k % 2) 1 (λ (z : suc k % 2 ≡ 1). omega arith))
    go (suc (suc r)) e = absurd (let z : ⊥ = omega arith in z)

in_turn : (H Q C G O E K e f : ℕ) → Near (2 * K) (H + Q) C → Near K C G → Near e (Q + O) E → e ≤ f → Near (f + 3 * K) (H + E) (G + O)
in_turn H Q C G O E K e f x y z l = record { over = omega (arith, x.over, y.over, z.under); under = omega (arith, x.under, y.under, z.over) }

-- c + t·p, multiplied out: D of c are near to G, h is the sum with c, p the sum before it, v its power of u, and O and E are the polynomial before it
multiplied : (D G u k a c h p v e O E : ℕ) → a ≤ u → Near (2 * (k * u)) (h * u + a * p) (c * u) → Near (D * k) (D * c) (G * u) → Near e (D * (p * v) + u * O) (u * E)
    → Near (u * e + 3 * (D * (v * (k * u)))) (D * (h * (v * u)) + u * (a * E)) (u * (G * (v * u)) + u * (a * O))
multiplied D G u k a c h p v e O E l row near prev =
    in_turn (D * (h * (v * u))) (D * (v * (a * p))) (D * (v * (c * u))) (u * (G * (v * u))) (u * (a * O)) (u * (a * E)) (D * (v * (k * u))) (a * e) (u * e)
    (reworded (omega arith) (omega arith) (omega arith) (scaled (D * v) (2 * (k * u)) (h * u + a * p) (c * u) row))
    (reworded (omega arith) (omega arith) (omega arith) (scaled (u * v) (D * k) (D * c) (G * u) near))
    (reworded refl (omega arith) (omega arith) (scaled a e (D * (p * v) + u * O) (u * E) prev))
    (mul-le-mul_right e l)

-- the same as `Round` has it
tidied : (D u k z v a G O E j : ℕ) → Near (u * (3 * (suc j * (k * (D * v)))) + 3 * (D * (v * (k * u)))) (D * (z * (v * u)) + u * (a * E)) (u * (G * (v * u)) + u * (a * O))
    → Near (3 * (suc (suc j) * (k * (D * (v * u))))) (D * (z * (v * u)) + u * (0 + a * E)) (u * (G * (v * u) + a * O))
tidied D u k z v a G O E j w = reworded (omega arith) (omega arith) (omega arith) w

-- p is well below c: D of p are near to H, D of c to G, and H is less than G
well_below : (D k u G H p c : ℕ) → H < G → 4 * (D * k) < u → D * p ≤ H * u + 2 * (D * k) → G * u ≤ D * c + D * k → p + k < c
well_below D k u G H p c g small x y =
    let m : (H + 1) * u ≤ G * u = mul-le-mul_right u (omega arith) in
    lt_of_mul-lt-mul_right D (let w : (p + k) * D < c * D = omega arith in w)

module _ (d : ℕ → ℕ) (T : Divisors d) (t : Float) (a : ℕ) (z : Sized false a t) (l : a ≤ unit) where
  pub rounds : (j k : ℕ) → k + j ≡ 8 → Round d t a j k
  unfolding horner terms at
  rounds zero k e =
      let c = coefficient_near d 8 (T.divides 8 (lit≤ tt)) in
      let i : 8 ≡ k = omega arith in
      subst (λ (k : ℕ). Round d t a 0 k) i
      (record {
        sz = c.sz;
        sized = c.sized;
        under = omega (arith, c.near.over);
        top = c.top;
        near = rw (pow-zero unit) (record { over = omega (arith, c.near.over); under = omega (arith, c.near.under) });
      })
  rounds (suc j) k e =
      let i : 7 - j ≡ k = omega arith in
      subst (λ (x : ℕ). Round d t a (suc j) x) i
      (let k = 7 - j in
      let r = rounds j (suc k) (omega arith) in
      let c = coefficient_near d k (T.divides k (omega arith)) in
      let below = well_below common step unit (cofactor d k) (cofactor d (suc k)) r.sz c.sz (T.grow k (omega arith)) common_small r.under c.near.under in
      let n = next c.sized (subst (λ (b : Bool). Sized b r.sz (horner d t j)) (alternates k) r.sized) z l below c.top in
      let m : common * n.sz ≤ common * (c.sz + step) = mul-le-mul_left common n.under in
      record {
        sz = n.sz;
        sized = n.sized;
        under = omega (arith, c.near.over);
        top = n.top;
        near = rw (pow-suc unit j)
            (tidied common unit step n.sz (unit ^ j) a (cofactor d k) (at (terms d false j) a) (at (terms d true j) a) j
            (multiplied common (cofactor d k) unit step a c.sz n.sz r.sz (unit ^ j) _ (at (terms d false j) a) (at (terms d true j) a) l n.row c.near r.near));
      })
