-- The optimal roll of an accepted plan is at most 2 ^ 20 in size, and so finite (`roll_within`), and lies from 0 up to but not at 360 (`roll_range`; of
-- one cell's four triples `cell_range`). The bounds are powers of two, far from tight: they only show that no step overflows. Assumes nothing.
use mathlib.Core.Path.{◌≡◌, refl, sym, ap, ◌∙◌, subst}
use mathlib.Core.Bool.{Bool, true, false, cond, false≢true}
use mathlib.Core.List.{List}
use Prim.Native.Nat.{ℕ, suc, ◌+◌, ◌*◌, ◌^◌, ◌<◌, ◌≤◌}
use native.Mathlib.Nat.{le_trans, le_of_eq, mul_comm, mul_assoc, mul-one, mul-le-mul_right, le_of_mul-le-mul_right}
use native.Mathlib.Omega.{arith}
use borrow.Author.Tests.{ltb-false, not-false}
use lib.IntN.{ℤ, pos}
use lib.Dec.{T, lit<, lit≤}
use lib.ListN.{length}
use lib.Ieee.{Float, nan, inf, fin, binary64, up, down, sub, mul, lt, le, eq, of_bits}
use Rattle.buffers.specs.Ranges.{any}
use Rattle.buffers.proofs.Ranges.{any_get_or}
use Rattle.buffers.proofs.Tests.{or_left}
use Rattle.float.specs.Arithmetic.{◌⊖◌, zero·0, one, abs_of, to_degrees, finite}
use Rattle.float.specs.Arctangent.{arctangent}
use Rattle.float.proofs.Bounds.{resign, round_resign, Within, within_add, within_sub, within_mul, within_div, within_finite, weaken, Beyond, Size, size_of, size_add, size_weaken, root_keeps, at_most, one_value}
use Rattle.float.proofs.Angle.{within_arctangent, within_degrees}
use Rattle.solar_roll.specs.Vectors.{Vector, x, y, z, vector, NEAR_ZERO, dot3, norm3, cross3, over3, normalize3, unwrap_or}
use Rattle.solar_roll.specs.Roll.{x_hat, y_hat, z_hat, nine_tenths, sun_unit, panel_angle, perpendicular, pole_fallback, north, y_axis, z_axis, InTurn, roll_between, solar_optimal_roll_deg}
use Rattle.solar_roll.specs.Cell.{LIMIT, too_large, bad_position, bad_direction, optimal_roll}
use Rattle.solar_roll.specs.Plan.{Plan, triple, rows_of, times_of, row_direction, direction_of, row_panel, row_config, sun_at, optimal_at, PlanFacts}
use Rattle.std.specs.Prelude.{None, Some}
use Rattle.solar_roll.specs.declared.cell.CellRoll.TheVariants.{At}
use Rattle.solar_roll.proofs.PlanFacts.{Numbers}
use Rattle.solar_roll.proofs.Cells.{at_optimal}
use Rattle.solar_roll.proofs.Folding.{folded_range, folded_within}

-- each component at most 2 ^ j in size
pub record Vec (j : ℕ) (v : Vector) : Type 0 where
  pub at_x : Within j (x v)
  pub at_y : Within j (y v)
  pub at_z : Within j (z v)

square_sign : (s : Bool) (m : ℕ) (e : ℤ) → mul binary64 (fin s m e) (fin s m e) ≡ resign false (mul binary64 (fin s m e) (fin s m e))
unfolding mul
square_sign true m e = round_resign false false (m * up e * (m * up e)) (down e * down e)
square_sign false m e = round_resign false false (m * up e * (m * up e)) (down e * down e)

square : {a : Float} (j : ℕ) → j + j < 1024 → Within j a → Size (j + j) (mul binary64 a a)
square j k w = size_of (j + j) (rw w.is (square_sign w.s w.m w.e)) (within_mul j j k w w)

-- not below 1e-12: at least 1 / 2 ^ 40
not_below : (m : ℕ) (e : ℤ) → lt (fin false m e) NEAR_ZERO ≡ false → down e ≤ m * up e * 2 ^ 40
unfolding lt of_bits
not_below m e h =
    let g : 4951760157141521 * down e ≤ m * up e * 2 ^ 92 = ltb-false (m * up e * 2 ^ 92) (4951760157141521 * down e) h in
    let l : 2 ^ 52 * down e ≤ 4951760157141521 * down e = mul-le-mul_right (down e) (lit≤ tt) in
    let q : m * up e * 2 ^ 92 ≡ m * up e * 2 ^ 40 * 2 ^ 52 = sym (mul_assoc (m * up e) (2 ^ 40) (2 ^ 52)) in
    le_of_mul-le-mul_right (le_trans (le_of_eq (mul_comm (down e) (2 ^ 52))) (le_trans l (le_trans g (le_of_eq q)))) (lit< tt)

above : (m : ℕ) (e : ℤ) → le (fin false m e) NEAR_ZERO ≡ false → down e ≤ m * up e * 2 ^ 40
unfolding le
above m e h = not_below m e (or_left (lt (fin false m e) NEAR_ZERO) _ h)

beyond : {a : Float} (j : ℕ) → Size j a → lt a NEAR_ZERO ≡ false → Beyond 40 a
beyond j w h = record { s = false; m = w.m; e = w.e; is = w.is; size_ge = not_below w.m w.e (sym (ap (λ (t : Float). lt t NEAR_ZERO) w.is) ∙ h) }

beyond_le : {a : Float} (j : ℕ) → Size j a → le a NEAR_ZERO ≡ false → Beyond 40 a
beyond_le j w h = record { s = false; m = w.m; e = w.e; is = w.is; size_ge = above w.m w.e (sym (ap (λ (t : Float). le t NEAR_ZERO) w.is) ∙ h) }

within_dot : {a b : Vector} (i j : ℕ) → i + j + 2 < 1024 → Vec i a → Vec j b → Within (suc (suc (i + j))) (dot3 a b)
unfolding dot3
within_dot i j k v w =
    let h : i + j < 1024 = omega arith in
    let s = within_add (i + j) (omega arith) (within_mul i j h v.at_x w.at_x) (within_mul i j h v.at_y w.at_y) in
    within_add (suc (i + j)) (omega arith) s (weaken (i + j) (suc (i + j)) (omega arith) (within_mul i j h v.at_z w.at_z))

within_cross : {a b : Vector} (i j : ℕ) → i + j + 1 < 1024 → Vec i a → Vec j b → Vec (suc (i + j)) (cross3 a b)
unfolding cross3
within_cross i j k v w =
    let h : i + j < 1024 = omega arith in
    let g : suc (i + j) < 1024 = omega arith in
    record {
      at_x = within_sub (i + j) g (within_mul i j h v.at_y w.at_z) (within_mul i j h v.at_z w.at_y);
      at_y = within_sub (i + j) g (within_mul i j h v.at_z w.at_x) (within_mul i j h v.at_x w.at_z);
      at_z = within_sub (i + j) g (within_mul i j h v.at_x w.at_y) (within_mul i j h v.at_y w.at_x);
    }

-- the norm
size_norm : {v : Vector} (j : ℕ) → j + j + 2 < 1024 → Vec j v → Size (suc (suc (j + j))) (norm3 v)
unfolding norm3
size_norm j k v =
    let h : j + j < 1024 = omega arith in
    let s = size_add (j + j) (omega arith) (square j h v.at_x) (square j h v.at_y) in
    root_keeps (suc (suc (j + j))) (omega arith) (size_add (suc (j + j)) (omega arith) s (size_weaken (j + j) (suc (j + j)) (omega arith) (square j h v.at_z)))

within_over : {v : Vector} {n : Float} (j : ℕ) → j + 40 < 1024 → Vec j v → Beyond 40 n → Vec (j + 40) (over3 v n)
unfolding over3
within_over j k v w = record { at_x = within_div j 40 k v.at_x w; at_y = within_div j 40 k v.at_y w; at_z = within_div j 40 k v.at_z w }

unwrapped : (v other : Vector) → unwrap_or (normalize3 v) other ≡ cond (le (norm3 v) NEAR_ZERO) other (over3 v (norm3 v))
unfolding unwrap_or normalize3
unwrapped v other = go (le (norm3 v) NEAR_ZERO)
  where
    go : (b : Bool) → unwrap_or (cond b None (Some (over3 v (norm3 v)))) other ≡ cond b other (over3 v (norm3 v))
    go true = refl
    go false = refl

-- a vector at length 1, or another
normalized_or : (v other : Vector) (j : ℕ) → j + j + 40 < 1024 → Vec j v → Vec (j + 40) other → Vec (j + 40) (unwrap_or (normalize3 v) other)
normalized_or v other j k w o = rw (unwrapped v other) (go (le (norm3 v) NEAR_ZERO) refl)
  where
    go : (b : Bool) → le (norm3 v) NEAR_ZERO ≡ b → Vec (j + 40) (cond b other (over3 v (norm3 v)))
    go true e = o
    go false e = within_over j (omega arith) w (beyond_le (suc (suc (j + j))) (size_norm j (omega arith) w) e)

-- ---- the axes

zero_in : (j : ℕ) → Within j zero·0
unfolding of_bits
zero_in j = record { s = false; m = 0; e = pos 0; is = refl; size_le = omega arith }

one_in : (j : ℕ) → Within j one
unfolding of_bits
one_in j = weaken 0 j (omega arith) (record { s = false; m = 1; e = pos 0; is = refl; size_le = lit≤ tt })

x_hat_lem : (j : ℕ) → Vec j x_hat
x_hat_lem j = record { at_x = one_in j; at_y = zero_in j; at_z = zero_in j }

y_hat_lem : (j : ℕ) → Vec j y_hat
y_hat_lem j = record { at_x = zero_in j; at_y = one_in j; at_z = zero_in j }

z_hat_lem : (j : ℕ) → Vec j z_hat
z_hat_lem j = record { at_x = zero_in j; at_y = zero_in j; at_z = one_in j }

within_perpendicular : (t v : Vector) → Vec 0 t → Vec 0 v → Vec 3 (perpendicular t v)
unfolding perpendicular
within_perpendicular t v a b =
    let d = within_dot 0 0 (lit< tt) a b in
    record {
      at_x = within_sub 2 (lit< tt) (weaken 0 2 (lit≤ tt) b.at_x) (within_mul 2 0 (lit< tt) d a.at_x);
      at_y = within_sub 2 (lit< tt) (weaken 0 2 (lit≤ tt) b.at_y) (within_mul 2 0 (lit< tt) d a.at_y);
      at_z = within_sub 2 (lit< tt) (weaken 0 2 (lit≤ tt) b.at_z) (within_mul 2 0 (lit< tt) d a.at_z);
    }

fallback : (t : Vector) → Vec 0 (pole_fallback t)
unfolding pole_fallback
fallback t = go (lt (abs_of (z t)) nine_tenths)
  where
    go : (b : Bool) → Vec 0 (cond b z_hat y_hat)
    go true = z_hat_lem 0
    go false = y_hat_lem 0

within_north : (t : Vector) → Vec 0 t → Vec 43 (north t)
unfolding north
within_north t a =
    normalized_or _ _ 3 (lit< tt) (within_perpendicular t z_hat a (z_hat_lem 0))
    (normalized_or _ y_hat 3 (lit< tt) (within_perpendicular t (pole_fallback t) a (fallback t)) (y_hat_lem 43))

within_y_axis : (t : Vector) → Vec 0 t → Vec 84 (y_axis t)
unfolding y_axis
within_y_axis t a = normalized_or _ y_hat 44 (lit< tt) (within_cross 43 0 (lit< tt) (within_north t a) a) (y_hat_lem 84)

-- the Sun's direction, of positions of at most 2 ^ 333
pub within_sun : (s o : Vector) → Vec 333 s → Vec 333 o → Vec 374 (sun_unit s o)
unfolding sun_unit
within_sun s o a b = go (lt (norm3 v) NEAR_ZERO) refl
  where
    v : Vector
    v = vector (sub binary64 (x s) (x o)) (sub binary64 (y s) (y o)) (sub binary64 (z s) (z o))

    w : Vec 334 v
    w = record { at_x = within_sub 333 (lit< tt) a.at_x b.at_x; at_y = within_sub 333 (lit< tt) a.at_y b.at_y; at_z = within_sub 333 (lit< tt) a.at_z b.at_z }

    go : (t : Bool) → lt (norm3 v) NEAR_ZERO ≡ t → Vec 374 (cond t x_hat (over3 v (norm3 v)))
    go true e = x_hat_lem 374
    go false e = within_over 334 (lit< tt) w (beyond 670 (size_norm 334 (lit< tt) w) e)

-- the angles' difference in degrees, before it is folded
abbrev before_fold : Vector → Vector → Vector → Float
before_fold t s n = to_degrees (arctangent (dot3 s (z_axis t)) (dot3 s (y_axis t)) ⊖ panel_angle n)

module _ (t s n : Vector) (a : Vec 0 t) (b : Vec 374 s) (ny : Within 333 (y n)) (nz : Within 333 (z n)) where
  -- it is finite: at most 2 ^ 20 in size
  before_fold_finite : finite (before_fold t s n) ≡ true
  unfolding panel_angle
  before_fold_finite =
      let ya = within_y_axis t a in
      let sy = within_dot 374 84 (lit< tt) b ya in
      let sz = within_dot 374 85 (lit< tt) b (within_cross 0 84 (lit< tt) a ya) in
      let sun = within_arctangent _ _ (within_finite 461 sz) (within_finite 460 sy) in
      let panel = within_arctangent _ _ (within_finite 333 nz) (within_finite 333 ny) in
      within_finite 20 (within_degrees 14 (lit< tt) (within_sub 13 (lit< tt) sun panel))

  -- the optimal roll is at most 2 ^ 20, and lies in its turn
  within_roll : Within 20 (solar_optimal_roll_deg t s n)
  unfolding solar_optimal_roll_deg roll_between
  within_roll = weaken 9 20 (lit≤ tt) (folded_within _ before_fold_finite)

  roll_in_turn : InTurn (solar_optimal_roll_deg t s n)
  unfolding solar_optimal_roll_deg roll_between
  roll_in_turn = folded_range _ before_fold_finite

-- ---- an accepted plan's numbers

-- at most a limit that is at most 2 ^ j
within_limit : (n i j : ℕ) → n * 2 ^ i ≤ 2 ^ j → (a : Float) → le (abs_of a) (fin false n (pos i)) ≡ true → Within j a
unfolding abs_of le lt eq
within_limit n i j h nan g = absurd (false≢true g)
within_limit n i j h (inf s) g = absurd (false≢true g)
within_limit n i j h (fin s m e) g =
    let l : m * up e * 1 ≤ n * 2 ^ i * down e = at_most (m * up e * 1) (n * 2 ^ i * down e) _ _ _ refl refl (subst T (sym g) tt) in
    record { s = s; m = m; e = e; is = refl; size_le = le_trans (le_trans (le_of_eq (sym (mul-one (m * up e)))) l) (mul-le-mul_right (down e) h) }

limit_value : LIMIT ≡ fin false 0x12_49ad_2594_c37d (pos 280)
unfolding of_bits
limit_value = refl

position_within : (a : Float) → too_large LIMIT a ≡ false → Within 333 a
unfolding too_large
position_within a h = within_limit 0x12_49ad_2594_c37d 280 333 (lit≤ tt) a (ap (le (abs_of a)) (sym limit_value) ∙ not-false _ h)

direction_within : (a : Float) → too_large one a ≡ false → Within 0 a
unfolding too_large
direction_within a h = within_limit 1 0 0 (lit≤ tt) a (ap (le (abs_of a)) (sym one_value) ∙ not-false _ h)

-- a triple of numbers that are not too large
triple_within : (limit : Float) (j : ℕ) → ((a : Float) → too_large limit a ≡ false → Within j a) → (xs : List Float) (i : ℕ) → any (too_large limit) xs ≡ false → 3 * i + 2 < length xs → Vec j (triple xs i)
unfolding triple
triple_within limit j w xs i h l = record {
  at_x = w _ (any_get_or (too_large limit) xs nan (3 * i) h (omega arith));
  at_y = w _ (any_get_or (too_large limit) xs nan (3 * i + 1) h (omega arith));
  at_z = w _ (any_get_or (too_large limit) xs nan (3 * i + 2) h l);
}

module _ (p : Plan) (facts : PlanFacts p) (three : 3 ≤ length p.panels) (r j : ℕ) (in_rows : r < rows_of p) (in-times : j < times_of p) where
  direction_vec : Vec 0 (direction_of p r)
  unfolding row_direction bad_direction
  direction_vec = triple_within one 0 direction_within p.targets r facts.targets_small (omega (arith, facts.targets_length))

  sun_vec : Vec 374 (sun_at p j)
  unfolding sun_at bad_position
  sun_vec =
      within_sun (triple p.suns j) (triple p.observers j)
      (triple_within LIMIT 333 position_within p.suns j facts.suns_small (omega (arith, facts.suns_length)))
      (triple_within LIMIT 333 position_within p.observers j facts.observers_small (omega (arith, facts.observers_length)))

  panel_vec : Vec 333 (triple p.panels 0)
  unfolding bad_position
  panel_vec = triple_within LIMIT 333 position_within p.panels 0 facts.panels_small (omega (arith, three))

  -- the optimal roll of an accepted plan's cell is at most 2 ^ 20 in size
  pub roll_within : Within 20 (optimal_at p r j)
  unfolding optimal_at row_config row_panel
  roll_within = within_roll (direction_of p r) (sun_at p j) (triple p.panels 0) direction_vec sun_vec panel_vec.at_y panel_vec.at_z

  -- and lies from 0 up to but not at 360, Free or not
  pub roll_range : InTurn (optimal_at p r j)
  unfolding optimal_at row_config row_panel
  roll_range = roll_in_turn (direction_of p r) (sun_at p j) (triple p.panels 0) direction_vec sun_vec panel_vec.at_y panel_vec.at_z

-- ---- the same of four triples, the call of one cell

module _ (target sun observer normal : Vector) (numbers : Numbers target sun observer normal)
    (target-length : length target ≡ 3) (sun-length : length sun ≡ 3) (observer-length : length observer ≡ 3) (normal-length : length normal ≡ 3) where
  -- a list of three is its own triple 0
  position : (v : Vector) → bad_position v ≡ false → length v ≡ 3 → Vec 333 v
  unfolding bad_position triple
  position v h l = let t = triple_within LIMIT 333 position_within v 0 h (omega (arith, l)) in record { at_x = t.at_x; at_y = t.at_y; at_z = t.at_z }

  direction : Vec 0 target
  unfolding bad_direction triple
  direction = let t = triple_within one 0 direction_within target 0 numbers.targets_small (omega (arith, target-length)) in
      record { at_x = t.at_x; at_y = t.at_y; at_z = t.at_z }

  pub cell_range : InTurn (solar_optimal_roll_deg target (sun_unit sun observer) normal)
  cell_range =
      let n = position normal numbers.panels_small normal-length in
      let unit = within_sun sun observer (position sun numbers.suns_small sun-length) (position observer numbers.observers_small observer-length) in
      roll_in_turn target (sun_unit sun observer) normal direction unit n.at_y n.at_z

  -- so does the roll of the answer
  pub answer_range : (roll : Float) → optimal_roll target (sun_unit sun observer) normal ≡ At roll → InTurn roll
  answer_range roll e = subst InTurn (at_optimal target (sun_unit sun observer) normal roll e) cell_range
