-- The two series lie on the circle: with p and C their sums at t, t·p² + C² is 1 but for a part in 10^12 (`sums_on_circle`). That the polynomials' own squares add up to 1, but
-- for a part in 10^13, is a computation: their coefficients are multiplied out and compared (`tail_small`); what differs are those of t^9 and above. Assumes nothing.
use mathlib.Core.Path.{◌≡◌, refl, subst}
use mathlib.Core.Bool.{true, false}
use mathlib.Core.List.{List, [], ◌∷◌}
use Prim.Native.Nat.{ℕ, suc, ◌+◌, ◌*◌, ◌^◌, ◌<◌, ◌≤◌}
use native.Mathlib.Nat.{le_trans, mul-pos, mul_left_comm, mul-le-mul_left, mul-le-mul_right, pow-suc}
use native.Mathlib.Omega.{arith}
use borrow.Author.Tests.{eqb-true, ltb-true}
use lib.Dec.{eqb, ltb, lit<, lit≤}
use lib.Ieee.{Float}
use Rattle.buffers.specs.Ranges.{all_below}
use Rattle.buffers.proofs.Ranges.{all_iff}
use Rattle.float.specs.Trigonometry.{factorial, sine_divisor, cosine_divisor}
use Rattle.catalogue.proofs.Near.{Near, scaled, shorter, square, reworded}
use Rattle.catalogue.proofs.Polynomial.{at, plus, multiple, product, differences, at_plus, at_multiple, at_product, at_mono, at_near}
use Rattle.catalogue.proofs.Rounding.{unit, step, unit_pos, step_small}
use Rattle.catalogue.proofs.Alternating.{common, common_pos, cofactor, Divisors, terms, Round}

-- ---- the divisors of both series

checked : (d : ℕ → ℕ) → all_below 9 (λ k. eqb (cofactor d k * d k) common) ≡ true → all_below 8 (λ k. ltb (cofactor d (suc k)) (cofactor d k)) ≡ true → Divisors d
checked d h g = record {
  divides = λ (k : ℕ) (l : k ≤ 8). eqb-true (cofactor d k * d k) common ((all_iff 9 (λ k. eqb (cofactor d k * d k) common)).0 h k (omega arith));
  grow = λ (k : ℕ) (l : k < 8). ltb-true (cofactor d (suc k)) (cofactor d k) ((all_iff 8 (λ k. ltb (cofactor d (suc k)) (cofactor d k))).0 g k l);
}

pub sine_divisors : Divisors sine_divisor
unfolding all_below cofactor common sine_divisor factorial
sine_divisors = checked sine_divisor refl refl

pub cosine_divisors : Divisors cosine_divisor
unfolding all_below cofactor common cosine_divisor factorial
cosine_divisors = checked cosine_divisor refl refl

-- ---- the sum of the squares of both polynomials, each its terms above 0 less those below

abbrev sine_terms : List ℕ
sine_terms = terms sine_divisor true 8

abbrev sine_less : List ℕ
sine_less = terms sine_divisor false 8

abbrev cosine_terms : List ℕ
cosine_terms = terms cosine_divisor true 8

abbrev cosine_less : List ℕ
cosine_less = terms cosine_divisor false 8

-- what a unit is in a polynomial's value: 1 is scale · unit there
unfoldable scale : ℕ
scale = common * unit ^ 7

scale_pos : 0 < scale
unfolding scale unit
scale_pos = mul-pos common_pos (lit< tt)

abbrev full : ℕ
full = scale * scale * (unit * (unit * unit))

-- t·(p - q)² + (c - d)² = 1, as t·(p² + q²) + (c² + d²) and t·2pq + 2cd + 1
squares : List ℕ
squares = plus (0 ∷ plus (product sine_terms sine_terms) (product sine_less sine_less)) (multiple unit (plus (product cosine_terms cosine_terms) (product cosine_less cosine_less)))

twice : List ℕ
twice = plus (plus (0 ∷ multiple 2 (product sine_terms sine_less)) (multiple unit (multiple 2 (product cosine_terms cosine_less)))) (full ∷ [])

tail_small : 10000000000000 * at (differences squares twice) unit ≤ full
unfolding differences squares twice plus product multiple terms cofactor common scale unit sine_divisor cosine_divisor factorial at
tail_small = lit≤ tt

most : (p : List ℕ) (a b : ℕ) → a ≤ unit → at p unit ≤ b → at p a ≤ b
most p a b l h = le_trans (at_mono p a unit l) h

sine_terms_most : at sine_terms unit ≤ 2 * (scale * unit)
unfolding at terms cofactor common scale unit sine_divisor factorial
sine_terms_most = lit≤ tt

sine_less_most : at sine_less unit ≤ scale * unit
unfolding at terms cofactor common scale unit sine_divisor factorial
sine_less_most = lit≤ tt

cosine_terms_most : at cosine_terms unit ≤ 2 * (scale * unit)
unfolding at terms cofactor common scale unit cosine_divisor factorial
cosine_terms_most = lit≤ tt

cosine_less_most : at cosine_less unit ≤ scale * unit
unfolding at terms cofactor common scale unit cosine_divisor factorial
cosine_less_most = lit≤ tt

-- ---- from a sum to its square

-- x is near to E - O, so x² to E² - 2EO + O²
difference_squared : (e x O E B : ℕ) → x + O ≤ B → E ≤ B → O ≤ B → Near e (x + O) E → Near (4 * (e * B)) (x * x + 2 * (E * O)) (E * E + O * O)
difference_squared e x O E B X h g w =
    let s = square e (x + O) E B X h w in
    let r = scaled O e (x + O) E w in
    let f : O * e ≤ B * e = mul-le-mul_right e g in
    record { over = omega (arith, s.over, r.under); under = omega (arith, s.under, r.over) }

-- the sum of a series and its polynomial
sum_near : {d : ℕ → ℕ} {t : Float} {a : ℕ} (r : Round d t a 8 0) → Near (27 * (step * scale)) (scale * r.sz + at (terms d false 8) a) (at (terms d true 8) a)
unfolding scale
sum_near {d} {t} {a} r =
    shorter unit (27 * (step * (common * unit ^ 7))) (common * unit ^ 7 * r.sz + at (terms d false 8) a) (at (terms d true 8) a) unit_pos
    (law common unit step r.sz (unit ^ 7) (at (terms d false 8) a) (at (terms d true 8) a)
    (subst (λ (v : ℕ). Near (3 * (9 * (step * (common * v)))) (common * (r.sz * v) + unit * at (terms d false 8) a) (unit * at (terms d true 8) a)) (pow-suc unit 7) r.near))
  where
    law : (D u k z v O E : ℕ) → Near (3 * (9 * (k * (D * (v * u))))) (D * (z * (v * u)) + u * O) (u * E) → Near (u * (27 * (k * (D * v)))) (u * (D * v * z + O)) (u * E)
    law D u k z v O E w = reworded (omega arith) (omega arith) refl w

sum_squared : {d : ℕ → ℕ} {t : Float} {a : ℕ} (r : Round d t a 8 0) → at (terms d true 8) a ≤ 2 * (scale * unit) → at (terms d false 8) a ≤ scale * unit
    → (let x = scale * r.sz in let E = at (terms d true 8) a in let O = at (terms d false 8) a in Near (4 * (27 * (step * scale) * (2 * (scale * unit)))) (x * x + 2 * (E * O)) (E * E + O * O))
sum_squared {d} {t} {a} r h g =
    let l : scale * r.sz ≤ scale * unit = mul-le-mul_left scale r.top in
    difference_squared (27 * (step * scale)) (scale * r.sz) (at (terms d false 8) a) (at (terms d true 8) a) (2 * (scale * unit)) (omega arith) h (omega arith) (sum_near r)

-- ---- both sums

joined : (a u x A X y B Y k W T : ℕ) → a ≤ u → Near k (x + A) X → Near k (y + B) Y → Near T (a * X + u * Y) (a * A + u * B + W) → Near (2 * (u * k) + T) (a * x + u * y) W
joined a u x A X y B Y k W T l m n w =
    let p = scaled a k (x + A) X m in
    let q = scaled u k (y + B) Y n in
    let h : a * k ≤ u * k = mul-le-mul_right k l in
    record { over = omega (arith, p.over, q.over, w.over); under = omega (arith, p.under, q.under, w.under) }

-- the errors are below a part in 10^12
errors : (M u k T : ℕ) → 1000000000000000 * k ≤ u → 10000000000000 * T ≤ M * M * (u * (u * u)) → 1000000000000 * (2 * (u * (4 * (27 * (k * M) * (2 * (M * u))))) + T) ≤ M * M * (u * (u * u))
errors M u k T h g = let f : M * M * (u * u) * (1000000000000000 * k) ≤ M * M * (u * u) * u = mul-le-mul_left (M * M * (u * u)) h in omega arith

divided : (M q N a u S C : ℕ) → 0 < M → 1000000000000 * q ≤ M * M * N → Near q (a * (M * S * (M * S)) + u * (M * C * (M * C))) (M * M * N)
    → Near N (1000000000000 * (a * (S * S) + u * (C * C))) (1000000000000 * N)
divided M q N a u S C h g w =
    shorter (M * M) N (1000000000000 * (a * (S * S) + u * (C * C))) (1000000000000 * N) (mul-pos h h)
    (let e : a * (M * S * (M * S)) + u * (M * C * (M * C)) ≡ M * M * (a * (S * S) + u * (C * C)) = omega arith in
    let f : M * M * (1000000000000 * (a * (S * S) + u * (C * C))) ≡ 1000000000000 * (M * M * (a * (S * S) + u * (C * C))) = mul_left_comm (M * M) 1000000000000 (a * (S * S) + u * (C * C)) in
    let i : M * M * (1000000000000 * N) ≡ 1000000000000 * (M * M * N) = mul_left_comm (M * M) 1000000000000 N in
    record { over = omega (arith, w.over); under = omega (arith, w.under) })

at_shift : (p : List ℕ) (a : ℕ) → at (0 ∷ p) a ≡ a * at p a
unfolding at
at_shift p a = omega arith

at_constant : (c a : ℕ) → at (c ∷ []) a ≡ c
unfolding at
at_constant c a = omega arith

module _ (a : ℕ) (p q r s : List ℕ) (W : ℕ) where
  squares_at : at (plus (0 ∷ plus (product p p) (product q q)) (multiple unit (plus (product r r) (product s s)))) a ≡ a * (at p a * at p a + at q a * at q a) + unit * (at r a * at r a + at s a * at s a)
  squares_at = simp (at_plus, at_shift, at_multiple, at_product)

  twice_at : at (plus (plus (0 ∷ multiple 2 (product p q)) (multiple unit (multiple 2 (product r s)))) (W ∷ [])) a ≡ a * (2 * (at p a * at q a)) + unit * (2 * (at r a * at s a)) + W
  twice_at = simp (at_plus, at_shift, at_multiple, at_product, at_constant)

pub sums_on_circle : {t : Float} {a : ℕ} → a ≤ unit → (s : Round sine_divisor t a 8 0) (c : Round cosine_divisor t a 8 0)
    → Near (unit * (unit * unit)) (1000000000000 * (a * (s.sz * s.sz) + unit * (c.sz * c.sz))) (1000000000000 * (unit * (unit * unit)))
unfolding squares twice
sums_on_circle {t} {a} l s c =
    let T = at (differences squares twice) unit in
    let w = at_near squares twice a in
    let m = at_mono (differences squares twice) a unit l in
    let n : Near T (at squares a) (at twice a) = record { over = omega (arith, w.over); under = omega (arith, w.under) } in
    let k = 4 * (27 * (step * scale) * (2 * (scale * unit))) in
    divided scale (2 * (unit * k) + T) (unit * (unit * unit)) a unit s.sz c.sz scale_pos (errors scale unit step T step_small tail_small)
    (joined a unit (scale * s.sz * (scale * s.sz)) _ _ (scale * c.sz * (scale * c.sz)) _ _ k full T l
    (sum_squared s (most sine_terms a _ l sine_terms_most) (most sine_less a _ l sine_less_most))
    (sum_squared c (most cosine_terms a _ l cosine_terms_most) (most cosine_less a _ l cosine_less_most))
    (reworded refl (squares_at a sine_terms sine_less cosine_terms cosine_less full) (twice_at a sine_terms sine_less cosine_terms cosine_less full) n))
