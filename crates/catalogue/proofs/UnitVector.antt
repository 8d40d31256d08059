-- The vector of two angles, [cd·cr, cd·sr, sd], whose sines and cosines lie on the circle: each component is at most 1 in size (`at_most_one`), and the squared
-- length, summed left to right, is within 1e-9 of 1 (`unit_length`). Assumes nothing.
use mathlib.Core.Path.{◌≡◌, refl, sym, ◌∙◌}
use mathlib.Core.Bool.{Bool, true, false}
use Prim.Native.Nat.{ℕ, ◌+◌, ◌-◌, ◌*◌, ◌<◌, ◌≤◌}
use native.Mathlib.Nat.{le_trans, le_of_eq, mul-pos, mul-one, one-mul, mul_assoc, mul-le-mul, mul-le-mul_right}
use native.Mathlib.Omega.{arith}
use lib.IntN.{pos, negsuc}
use lib.Dec.{lit<}
use lib.Ieee.{Float, fin, sub, le, unlike, of_bits}
use lib.Ieee.Bits.{is_true}
use lib.Ieee.Order.{le_of_values}
use Rattle.float.specs.Arithmetic.{◌⊕◌, ◌⊖◌, ◌⊗◌, one, abs_of}
use Rattle.float.proofs.Bounds.{one_value}
use Rattle.catalogue.proofs.Near.{Near, scaled, shorter, square, reworded}
use Rattle.catalogue.proofs.Rounding.{unit, step, unit_pos, step_small, Sized, negated, Times, times, together, apart}
use Rattle.catalogue.proofs.SineCosine.{Circle, OnCircle, squared}
use Rattle.solar_roll.specs.Cell.{UNIT_TOLERANCE}

-- ---- whole numbers only

-- x is D·C and y D·S, rounded
two_sums : (u k S C D x y : ℕ) → Near (2 * (k * u * (u * u))) (x * u * (x * u)) (D * C * (D * C)) → Near (2 * (k * u * (u * u))) (y * u * (y * u)) (D * S * (D * S))
    → Near (D * D * (2 * (u * u))) (D * D * (1000000000000 * (S * S + C * C))) (D * D * (1000000000000 * (u * u))) → D * D * (2 * (u * u)) ≤ u * u * (2 * (u * u))
    → 1000000000000000 * k * (u * (u * u)) ≤ u * (u * (u * u))
    → Near (u * u * (3 * (u * u))) (u * u * (1000000000000 * (x * x + y * y))) (u * u * (1000000000000 * (D * D)))
two_sums u k S C D x y a b c h g = record { over = omega (arith, a.over, b.over, c.over); under = omega (arith, a.under, b.under, c.under) }

-- p and q add up to c, c and s to N, and X, Y and Z are p, q and s, rounded
three_sums : (N e p q s c X Y Z : ℕ) → Near (3 * N) (1000000000000 * (p + q)) (1000000000000 * c) → Near (2 * N) (1000000000000 * (s + c)) (1000000000000 * N)
    → Near e X p → Near e Y q → Near e Z s → 1000000000000000 * e ≤ N → Near (6 * N) (1000000000000 * (X + Y + Z)) (1000000000000 * N)
three_sums N e p q s c X Y Z a b f g h l = record { over = omega (arith, a.over, b.over, f.over, g.over, h.over); under = omega (arith, a.under, b.under, f.under, g.under, h.under) }

back : (u X Y Z : ℕ) → Near (6 * (u * u)) (1000000000000 * (X * u + Y * u + Z * u)) (1000000000000 * (u * u)) → Near (u * (6 * u)) (u * (1000000000000 * (X + Y + Z))) (u * (1000000000000 * u))
back u X Y Z w = reworded (omega arith) (omega arith) (omega arith) w

module _ (u k S C D E x y X Y Z : ℕ) (U : 0 < u) (small : 1000000000000000 * k ≤ u) (r : Circle u S C) (d : Circle u E D) (hx : x ≤ u) (hy : y ≤ u)
    (nx : Near (k * u) (x * u) (D * C)) (ny : Near (k * u) (y * u) (D * S)) (nX : Near (k * u) (X * u) (x * x)) (nY : Near (k * u) (Y * u) (y * y)) (nZ : Near (k * u) (Z * u) (E * E)) where
  -- x·x + y·y is near to cd·cd
  first_two : Near (3 * (u * u)) (1000000000000 * (x * x + y * y)) (1000000000000 * (D * D))
  first_two = shorter (u * u) (3 * (u * u)) (1000000000000 * (x * x + y * y)) (1000000000000 * (D * D)) (mul-pos U U)
      (two_sums u k S C D x y
      (square (k * u) (x * u) (D * C) (u * u) (mul-le-mul_right u hx) (mul-le-mul d.c_top r.c_top) nx)
      (square (k * u) (y * u) (D * S) (u * u) (mul-le-mul_right u hy) (mul-le-mul d.c_top r.s_top) ny)
      (scaled (D * D) (2 * (u * u)) (1000000000000 * (S * S + C * C)) (1000000000000 * (u * u)) r.near)
      (mul-le-mul_right (2 * (u * u)) (mul-le-mul d.c_top d.c_top))
      (mul-le-mul_right (u * (u * u)) small))

  -- the three squares, rounded, add up to 1 but for six parts in 10^12
  three_squares : Near (6 * u) (1000000000000 * (X + Y + Z)) (1000000000000 * u)
  three_squares = shorter u (6 * u) (1000000000000 * (X + Y + Z)) (1000000000000 * u) U
      (back u X Y Z
      (three_sums (u * u) (k * u) (x * x) (y * y) (E * E) (D * D) (X * u) (Y * u) (Z * u) first_two d.near nX nY nZ (le_trans (le_of_eq (sym (mul_assoc 1000000000000000 k u))) (mul-le-mul_right u small))))

-- s and t are sums that were rounded: of X and Y, and of s and Z
rounded_sums : (u k X Y Z s t : ℕ) → 0 < u → 1000000000000000 * k ≤ u → Near (6 * u) (1000000000000 * (X + Y + Z)) (1000000000000 * u) → Near k s (X + Y) → Near k t (s + Z)
    → 1000000000000 * ((t - u) + (u - t)) ≤ 7 * u
rounded_sums u k X Y Z s t U h w a b =
    close u (X + Y + Z) t (2 * k) (let f : t ≤ X + Y + Z + 2 * k = omega (arith, a.over, b.over) in f) (let f : X + Y + Z ≤ t + 2 * k = omega (arith, a.under, b.under) in f) (omega arith) w
  where
    close : (u s t k : ℕ) → t ≤ s + k → s ≤ t + k → 1000000000000 * k ≤ u → Near (6 * u) (1000000000000 * s) (1000000000000 * u) → 1000000000000 * ((t - u) + (u - t)) ≤ 7 * u
    close u s t k a b c w = omega (arith, w.over, w.under)

-- ---- the vector

one_sized : Sized false unit one
one_sized = record { m = 1; e = pos 0; is = one_value; at = one-mul unit ∙ sym (mul-one unit) }

-- at most 1 in size
below_one : {s : Bool} {b : ℕ} {x : Float} → Sized s b x → b ≤ unit → le (abs_of x) one ≡ true
unfolding abs_of
below_one {s} {b} w h = rw (w.is, one_value) (is_true _ (le_of_values (fin false w.m w.e) (fin false 1 (pos 0)) b unit 1 1 unit_pos (lit< tt) (refl, w.at) (refl, refl) (omega arith)))

tolerance_value : UNIT_TOLERANCE ≡ fin false 4835703278458517 (negsuc 81)
unfolding of_bits
tolerance_value = refl

-- at most eight parts in 10^12
below_tolerance : {s : Bool} {b : ℕ} {x : Float} → Sized s b x → 1000000000000 * b ≤ 8 * unit → le (abs_of x) UNIT_TOLERANCE ≡ true
unfolding abs_of
below_tolerance {s} {b} w h =
    rw (w.is, tolerance_value) (is_true _ (le_of_values (fin false w.m w.e) (fin false 4835703278458517 (negsuc 81)) b unit 4835703278458517 4835703278458516698824704 unit_pos (lit< tt) (refl, w.at) (refl, refl) (wide b unit h)))
  where
    wide : (b u : ℕ) → 1000000000000 * b ≤ 8 * u → b * 4835703278458516698824704 ≤ 4835703278458517 * u
    wide b u h = omega arith

module _ {sd cd sr cr : Float} (d : OnCircle sd cd) (r : OnCircle sr cr) where
  x_times : Times (unlike d.r r.r) d.C r.C (cd ⊗ cr)
  x_times = times d.cosine r.cosine d.circle.c_top r.circle.c_top

  y_times : Times (unlike d.r r.s) d.C r.S (cd ⊗ sr)
  y_times = times d.cosine r.sine d.circle.c_top r.circle.s_top

  pub at_most_one : (le (abs_of (cd ⊗ cr)) one ≡ true) × (le (abs_of (cd ⊗ sr)) one ≡ true) × (le (abs_of sd) one ≡ true)
  at_most_one = (below_one x_times.sized x_times.top, below_one y_times.sized y_times.top, below_one d.sine d.circle.s_top)

  pub unit_length : le (abs_of ((cd ⊗ cr) ⊗ (cd ⊗ cr) ⊕ (cd ⊗ sr) ⊗ (cd ⊗ sr) ⊕ sd ⊗ sd ⊖ one)) UNIT_TOLERANCE ≡ true
  unfolding sub
  unit_length =
      let x = x_times in
      let y = y_times in
      let X = squared x.sized x.top in
      let Y = squared y.sized y.top in
      let Z = squared d.sine d.circle.s_top in
      let w = three_squares unit step r.S r.C d.C d.S x.sz y.sz X.sz Y.sz Z.sz unit_pos step_small r.circle d.circle x.top y.top x.near y.near X.near Y.near Z.near in
      let s = together X.sized Y.sized (room X.sz Y.sz Z.sz unit w unit_pos) in
      let t = together s.sized Z.sized (more X.sz Y.sz Z.sz s.sz unit step w s.near step_small unit_pos) in
      let n = rounded_sums unit step X.sz Y.sz Z.sz s.sz t.sz unit_pos step_small w s.near t.near in
      let o = apart t.sized (negated one_sized) (omega (arith, unit_pos)) in
      below_tolerance o.sum.sized (last o.sum.sz ((t.sz - unit) + (unit - t.sz)) unit step o.sum.near n step_small)
    where
      room : (X Y Z u : ℕ) → Near (6 * u) (1000000000000 * (X + Y + Z)) (1000000000000 * u) → 0 < u → X + Y < 2 * u
      room X Y Z u w h = omega (arith, w.over)

      more : (X Y Z s u k : ℕ) → Near (6 * u) (1000000000000 * (X + Y + Z)) (1000000000000 * u) → Near k s (X + Y) → 1000000000000000 * k ≤ u → 0 < u → s + Z < 2 * u
      more X Y Z s u k w v g h = omega (arith, w.over, v.over)

      last : (b p u k : ℕ) → Near k b p → 1000000000000 * p ≤ 7 * u → 1000000000000000 * k ≤ u → 1000000000000 * b ≤ 8 * u
      last b p u k w h g = omega (arith, w.over)
