-- Section 2: the Sun's unit, the Free cells, the body's axes, the optimal roll and the difference of two rolls, as solar_roll.rs has them, with
-- every fallback, the optimal roll folded into 0 to 360 (document 02, Three); and the step of even samples (sections 3 and 6). What the code works out once for many cells, or sooner, follows them.
-- Definitions only. Assumes nothing.
use Rattle.std.specs.Prelude.{◌≡◌, Bool, true, cond, ◌||◌, List, [], ◌∷◌, ℕ, pos, get_or, Float}
use Rattle.std.specs.Float.{binary64}
use Rattle.std.specs.Float.Ieee.{lt, le, eq, of_int, of_bits}
use Rattle.float.specs.Root.{sqrt_of}
use Rattle.float.specs.Arithmetic.{◌⊕◌, ◌⊖◌, ◌⊗◌, ◌⊘◌, zero·0, one, half_turn, full_turn, abs_of, rem_euclid, to_degrees}
use Rattle.float.specs.Arctangent.{arctangent}
use Rattle.solar_roll.specs.Vectors.{Vector, x, y, z, vector, NEAR_ZERO, dot3, norm3, cross3, over3, normalize3, unwrap_or}
use Rattle.solar_roll.specs.declared.roll.Panel.{Panel}

-- 0.9
abbrev pub nine_tenths : Float
nine_tenths = of_bits binary64 0x3fec_cccc_cccc_cccd

-- the coordinate axes
abbrev pub x_hat : Vector
x_hat = vector one zero·0 zero·0

abbrev pub y_hat : Vector
y_hat = vector zero·0 one zero·0

abbrev pub z_hat : Vector
z_hat = vector zero·0 zero·0 one

-- ---- the Sun

-- the Sun's unit: (Sun - observer) / its norm, or [1, 0, 0] if the norm < 1e-12
unfoldable pub sun_unit : Vector → Vector → Vector
sun_unit sun observer =
    let v = vector (x sun ⊖ x observer) (y sun ⊖ y observer) (z sun ⊖ z observer) in
    cond (lt (norm3 v) NEAR_ZERO) x_hat (over3 v (norm3 v))

-- ---- Free, document 01's word for: no roll is better than another

-- |sun·target| > 1 - 1e-12
unfoldable pub sun_along_boresight : Vector → Vector → Bool
sun_along_boresight target sun = lt (one ⊖ NEAR_ZERO) (abs_of (dot3 sun target))

-- the panel's y-z norm <= 1e-12
unfoldable pub panel_is_free : Vector → Bool
panel_is_free normal = le (sqrt_of (y normal ⊗ y normal ⊕ z normal ⊗ z normal)) NEAR_ZERO

-- when a cell is Free: `roll_is_unconstrained` of the Rust
unfoldable pub roll_is_unconstrained : Vector → Vector → Vector → Bool
roll_is_unconstrained target sun normal = sun_along_boresight target sun || panel_is_free normal

-- ---- the body's axes: x is the boresight t

-- v less its part along t
unfoldable pub perpendicular : Vector → Vector → Vector
perpendicular t v = let d = dot3 t v in vector (x v ⊖ d ⊗ x t) (y v ⊖ d ⊗ y t) (z v ⊖ d ⊗ z t)

-- the reference where celestial north, [0, 0, 1], lies along the boresight: [0, 0, 1] if |t's z| < 0.9, else [0, 1, 0]
unfoldable pub pole_fallback : Vector → Vector
pole_fallback t = cond (lt (abs_of (z t)) nine_tenths) z_hat y_hat

-- celestial north, projected onto the plane perpendicular to the boresight, over its norm; else the fallback so; else [0, 1, 0]
unfoldable pub north : Vector → Vector
north t = unwrap_or (normalize3 (perpendicular t z_hat)) (unwrap_or (normalize3 (perpendicular t (pole_fallback t))) y_hat)

-- y: north × t over its norm, or [0, 1, 0]
unfoldable pub y_axis : Vector → Vector
y_axis t = unwrap_or (normalize3 (cross3 (north t) t)) y_hat

-- z: t × y
abbrev pub z_axis : Vector → Vector
z_axis t = cross3 t (y_axis t)

-- ---- the optimal roll, in degrees

-- the angle of the panel's normal in the body's y-z plane
unfoldable pub panel_angle : Vector → Float
panel_angle normal = arctangent (z normal) (y normal)

-- a roll's remainder by 360, with 360 itself, to which the sum for a small negative roll rounds, turned to 0
unfoldable pub folded_roll : Float → Float
folded_roll x = let r = rem_euclid x full_turn in cond (eq r full_turn) zero·0 r

-- from 0 up to but not at 360
pub record InTurn (x : Float) : Type 0 where
  pub low : le zero·0 x ≡ true
  pub high : lt x full_turn ≡ true

-- from the Sun's angle and the panel's, in the body's y-z plane: the first less the second, folded
unfoldable pub roll_between : Float → Float → Float
roll_between sun panel = folded_roll (to_degrees (sun ⊖ panel))

-- of a target, the Sun's unit and the panel's normal
unfoldable pub solar_optimal_roll_deg : Vector → Vector → Vector → Float
solar_optimal_roll_deg target sun normal = roll_between (arctangent (dot3 sun (z_axis target)) (dot3 sun (y_axis target))) (panel_angle normal)

-- ---- the difference of the rolls a and b, in degrees: the shorter arc between them, in 0 to 180, or NaN

unfoldable pub circular_diff_deg : Float → Float → Float
circular_diff_deg a b = let d = rem_euclid (a ⊖ b) full_turn in half_turn ⊖ abs_of (d ⊖ half_turn)

-- ---- the even samples of a turn

-- the step of n samples: 360 / n
unfoldable pub sample_step : ℕ → Float
sample_step n = full_turn ⊘ of_int binary64 (pos n)

-- ---- their pieces, which the code works out

-- the three axes, as `[[f64; 3]; 3]` holds them, and one of them
abbrev pub Axes : Type 0
Axes = List Vector

abbrev pub axis : ℕ → Axes → Vector
axis k axes = get_or axes k []

-- of a target, for all its cells: x, y and z
unfoldable pub body_axes : Vector → Axes
body_axes t = t ∷ y_axis t ∷ z_axis t ∷ []

-- of the panel, for all cells
unfoldable pub panel_of : Vector → Panel
panel_of normal = record { free = panel_is_free normal; angle = panel_angle normal }

-- the optimal roll, from a body's axes, the Sun's unit and the panel's angle
unfoldable pub roll_deg_in : Axes → Vector → Float → Float
roll_deg_in axes sun angle = roll_between (arctangent (dot3 sun (axis 2 axes)) (dot3 sun (axis 1 axes))) angle

-- the shorter arc of a turn by x
unfoldable pub arc : Float → Float
arc x = let d = rem_euclid x full_turn in half_turn ⊖ abs_of (d ⊖ half_turn)
