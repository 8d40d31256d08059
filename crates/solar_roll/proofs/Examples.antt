-- By computation. Document 02's request Three: folds at and beside the ends of a turn, document 01's cells, and cells whose roll is folded. Request
-- Seven: squared lengths at and beside the ends of the band, and what directions are refused by. Sizes and numbers at and beside their limits, and the order in which a
-- plan is refused. Assumes nothing.
use Rattle.std.specs.Prelude.{None}
use mathlib.Core.Path.{◌≡◌, refl}
use mathlib.Core.Bool.{true, false}
use mathlib.Core.List.{[], ◌∷◌, ◌++◌}
use Prim.Native.Nat.{ℕ}
use lib.Ieee.{Float, nan, binary64, of_bits, neg, add, sub, mul, div, rem, lt, le, eq, of_int}
use Rattle.float.specs.Root.{sqrt_of}
use Rattle.buffers.specs.Ranges.{any, any_below}
use Rattle.buffers.specs.Refusal.{first, carried, refused, accepted}
use Rattle.float.specs.Arithmetic.{◌⊖◌, one, abs_of, rem_euclid, to_degrees, sign_bit_of, finite}
use Rattle.float.specs.Series.{coefficient, horner}
use Rattle.float.specs.Arctangent.{arctangent, quadrant_angle, ratio, turned_angle, series_angle, halved}
use Rattle.solar_roll.specs.Vectors.{Vector, vector, dot3, norm3, cross3, over3, normalize3, unwrap_or, triple}
use Rattle.solar_roll.specs.Roll.{x_hat, sun_unit, sun_along_boresight, panel_is_free, roll_is_unconstrained, perpendicular, pole_fallback, north, y_axis, panel_angle, folded_roll, roll_between, solar_optimal_roll_deg}
use Rattle.solar_roll.specs.Cell.{optimal_roll, cell_reply, too_large, bad_position, bad_direction, UNIT_TOLERANCE, not_unit, any_not_unit, direction_refusal, numbers_refusal}
use Rattle.solar_roll.specs.Plan.{plan_of, unlike_lengths, too_many, samples_refusal, samples_or_none_refusal, sizes_refusal, plan_refusal}
use Rattle.solar_roll.specs.declared.cell.CellRoll.TheVariants.{Free, At, Refused}

-- the number of a bit pattern
abbrev f64 : ℕ → Float
f64 b = of_bits binary64 b

pub folds :
    -- -270: 90
    (folded_roll (f64 0xc070_e000_0000_0000) ≡ f64 0x4056_8000_0000_0000) ×
    -- -180: 180
    (folded_roll (f64 0xc066_8000_0000_0000) ≡ f64 0x4066_8000_0000_0000) ×
    -- -360: -0, and the number above it: 5.684341886080802e-14
    (folded_roll (f64 0xc076_8000_0000_0000) ≡ f64 0x8000_0000_0000_0000) ×
    (folded_roll (f64 0xc076_7fff_ffff_ffff) ≡ f64 0x3d30_0000_0000_0000) ×
    -- 360: 0, and -0: -0
    (folded_roll (f64 0x4076_8000_0000_0000) ≡ f64 0x0000_0000_0000_0000) ×
    (folded_roll (f64 0x8000_0000_0000_0000) ≡ f64 0x8000_0000_0000_0000) ×
    -- -2.842170943040401e-14, of which the sum with 360 is a tie and rounds to 360: 0; and the number below it: that before 360
    (folded_roll (f64 0xbd20_0000_0000_0000) ≡ f64 0x0000_0000_0000_0000) ×
    (folded_roll (f64 0xbd20_0000_0000_0001) ≡ f64 0x4076_7fff_ffff_ffff) ×
    -- -720.5, more than a turn below 0: 359.5
    (folded_roll (f64 0xc086_8400_0000_0000) ≡ f64 0x4076_7800_0000_0000)
unfolding folded_roll rem_euclid abs_of rem add neg lt eq of_bits
folds = (refl, refl, refl, refl, refl, refl, refl, refl, refl)

-- of the target [1, 0, 0] and the observer [0, 0, 0]: the Sun's position and the panel's normal
abbrev cell : Vector → Vector → Float → Type 0
cell sun normal roll = optimal_roll x_hat (sun_unit sun (vector (f64 0) (f64 0) (f64 0))) normal ≡ At roll

pub cells :
    -- document 01's [0, 1, 0], [0, 0, 1] and [0, -1, 0] with [0, 1, 0]: 0, 90 and 180
    cell (vector (f64 0) (f64 0x3ff0_0000_0000_0000) (f64 0)) (vector (f64 0) (f64 0x3ff0_0000_0000_0000) (f64 0)) (f64 0) ×
    cell (vector (f64 0) (f64 0) (f64 0x3ff0_0000_0000_0000)) (vector (f64 0) (f64 0x3ff0_0000_0000_0000) (f64 0)) (f64 0x4056_8000_0000_0000) ×
    cell (vector (f64 0) (f64 0xbff0_0000_0000_0000) (f64 0)) (vector (f64 0) (f64 0x3ff0_0000_0000_0000) (f64 0)) (f64 0x4066_8000_0000_0000) ×
    -- [0, 0, -1] and [0, 1, 0]: -90 before it is folded, so 270
    cell (vector (f64 0) (f64 0) (f64 0xbff0_0000_0000_0000)) (vector (f64 0) (f64 0x3ff0_0000_0000_0000) (f64 0)) (f64 0x4070_e000_0000_0000) ×
    -- [-0, -1, -0] and [0, -1, 0]: -360, so -0
    cell (vector (f64 0x8000_0000_0000_0000) (f64 0xbff0_0000_0000_0000) (f64 0x8000_0000_0000_0000)) (vector (f64 0) (f64 0xbff0_0000_0000_0000) (f64 0)) (f64 0x8000_0000_0000_0000) ×
    -- [0, -1, 0] and [0, -1, -0]: 360, so 0
    cell (vector (f64 0) (f64 0xbff0_0000_0000_0000) (f64 0)) (vector (f64 0) (f64 0xbff0_0000_0000_0000) (f64 0x8000_0000_0000_0000)) (f64 0) ×
    -- [0, 1, -1e-16] and [0, 1, 0]: -5.7e-15, so 0
    cell (vector (f64 0) (f64 0x3ff0_0000_0000_0000) (f64 0xbc9c_d2b2_97d8_89bc)) (vector (f64 0) (f64 0x3ff0_0000_0000_0000) (f64 0)) (f64 0)
unfolding optimal_roll roll_is_unconstrained sun_along_boresight panel_is_free sun_unit solar_optimal_roll_deg roll_between folded_roll panel_angle y_axis north perpendicular pole_fallback unwrap_or normalize3 over3 cross3 norm3 dot3 rem_euclid to_degrees abs_of sqrt_of arctangent quadrant_angle ratio turned_angle series_angle horner halved coefficient sign_bit_of finite add sub mul div rem neg lt le eq of_int of_bits
cells = (refl, refl, refl, refl, refl, refl, refl)

-- ---- directions

-- the squared lengths at both ends of the band, and the floats beyond them
pub band :
    (le (abs_of (f64 0x3fef_ffff_ff76_8fa1 ⊖ one)) UNIT_TOLERANCE ≡ true) ×
    (le (abs_of (f64 0x3fef_ffff_ff76_8fa0 ⊖ one)) UNIT_TOLERANCE ≡ false) ×
    (le (abs_of (f64 0x3ff0_0000_0044_b82f ⊖ one)) UNIT_TOLERANCE ≡ true) ×
    (le (abs_of (f64 0x3ff0_0000_0044_b830 ⊖ one)) UNIT_TOLERANCE ≡ false)
unfolding abs_of sub le of_bits
band = (refl, refl, refl, refl)

-- a direction by the bits of its components
abbrev bits : ℕ → ℕ → ℕ → Vector
bits a b c = vector (f64 a) (f64 b) (f64 c)

-- half of [1, 0, 0]
abbrev half : Vector
half = bits 0x3fe0_0000_0000_0000 0 0

pub directions :
    (direction_refusal x_hat ≡ 0) ×
    (direction_refusal half ≡ 20) ×
    -- [1, 1, 0], [0, 0, 0] and [2, 0, 0]
    (direction_refusal (bits 0x3ff0_0000_0000_0000 0x3ff0_0000_0000_0000 0) ≡ 20) ×
    (direction_refusal (bits 0 0 0) ≡ 20) ×
    (direction_refusal (bits 0x4000_0000_0000_0000 0 0) ≡ 5) ×
    -- the last y beside 1 that is accepted, and the next
    (direction_refusal (bits 0x3ff0_0000_0000_0000 0x3f00_9456_50ac_edf9 0) ≡ 0) ×
    (direction_refusal (bits 0x3ff0_0000_0000_0000 0x3f00_9456_50ac_edfa 0) ≡ 20) ×
    -- the first x alone that is accepted, and the one before
    (direction_refusal (bits 0x3fef_ffff_ffbb_47d1 0 0) ≡ 0) ×
    (direction_refusal (bits 0x3fef_ffff_ffbb_47d0 0 0) ≡ 20) ×
    -- summed from the right it would be 20
    (direction_refusal (bits 0x3fd8_b064_c87a_740b 0xbfed_58c3_fbb2_f6f8 0x3fb9_c6c7_cf2f_4894) ≡ 0) ×
    -- of lists: none; the second is no unit vector; 5 of the second before 20 of the first
    (direction_refusal [] ≡ 0) ×
    (direction_refusal (x_hat ++ half) ≡ 20) ×
    (direction_refusal (half ++ bits 0x4000_0000_0000_0000 0 0) ≡ 5) ×
    -- before the panel
    (numbers_refusal half [] [] (nan ∷ []) ≡ 20)
unfolding numbers_refusal direction_refusal first carried any any_below bad_position bad_direction too_large any_not_unit not_unit triple dot3 abs_of add sub mul le of_bits
directions = (refl, refl, refl, refl, refl, refl, refl, refl, refl, refl, refl, refl, refl, refl)

-- ---- plans

-- 1, of lengths that are no multiples of 3 or differ; 65,536 rows or times, and 1,048,576 cells, and one more; n at and beside the ends of 1 to 3,600
pub sizes :
    (unlike_lengths 3 6 6 ≡ false) ×
    (unlike_lengths 4 6 6 ≡ true) ×
    (unlike_lengths 3 7 7 ≡ true) ×
    (unlike_lengths 3 6 9 ≡ true) ×
    (too_many 65536 16 ≡ false) ×
    (too_many 16 65536 ≡ false) ×
    (too_many 65537 0 ≡ true) ×
    (too_many 0 65537 ≡ true) ×
    (too_many 17 61681 ≡ true) ×
    (samples_refusal 0 ≡ 3) ×
    (samples_refusal 1 ≡ 0) ×
    (samples_refusal 3600 ≡ 0) ×
    (samples_refusal 3601 ≡ 3) ×
    (samples_or_none_refusal 0 ≡ 0) ×
    (samples_or_none_refusal 3600 ≡ 0) ×
    (samples_or_none_refusal 3601 ≡ 3)
unfolding unlike_lengths too_many samples_refusal samples_or_none_refusal
sizes = (refl, refl, refl, refl, refl, refl, refl, refl, refl, refl, refl, refl, refl, refl, refl, refl)

-- 1e100 and 1, and the floats beyond them, of either sign; NaN
pub limits :
    (bad_position (f64 0x54b2_49ad_2594_c37d ∷ f64 0xd4b2_49ad_2594_c37d ∷ []) ≡ false) ×
    (bad_position (f64 0 ∷ f64 0x54b2_49ad_2594_c37e ∷ []) ≡ true) ×
    (bad_position (f64 0xd4b2_49ad_2594_c37e ∷ f64 0 ∷ []) ≡ true) ×
    (bad_position (nan ∷ []) ≡ true) ×
    (bad_direction (f64 0x3ff0_0000_0000_0000 ∷ f64 0xbff0_0000_0000_0000 ∷ []) ≡ false) ×
    (bad_direction (f64 0 ∷ f64 0x3ff0_0000_0000_0001 ∷ []) ≡ true) ×
    (bad_direction (nan ∷ []) ≡ true)
unfolding bad_position bad_direction any too_large abs_of le of_bits
limits = (refl, refl, refl, refl, refl, refl, refl)

-- a position that is refused
abbrev wild : Vector
wild = vector nan nan nan

-- in turn 1, a used length beyond its buffer too; 2; 3; 4, of the Sun or the observer; 5; 20; 6; 17
pub order :
    (plan_refusal (plan_of (f64 0 ∷ []) wild wild [] None wild) 3 false ≡ 1) ×
    (plan_refusal (plan_of half wild wild [] None wild) 3 true ≡ 1) ×
    (sizes_refusal 3 196611 196611 false ≡ 2) ×
    (plan_refusal (plan_of wild wild wild [] None wild) 3 false ≡ 3) ×
    (plan_refusal (plan_of wild x_hat wild [] None wild) 0 false ≡ 4) ×
    (plan_refusal (plan_of wild wild x_hat [] None wild) 0 false ≡ 4) ×
    (plan_refusal (plan_of wild x_hat x_hat [] None wild) 0 false ≡ 5) ×
    (plan_refusal (plan_of half x_hat x_hat [] None wild) 0 false ≡ 20) ×
    (plan_refusal (plan_of x_hat x_hat x_hat [] None wild) 0 false ≡ 6) ×
    (plan_refusal (plan_of x_hat x_hat x_hat [] None x_hat) 0 false ≡ 17) ×
    (plan_refusal (plan_of x_hat x_hat x_hat (nan ∷ []) None x_hat) 0 false ≡ 0)
unfolding plan_refusal sizes_refusal unlike_lengths too_many numbers_refusal direction_refusal first carried any any_below bad_position bad_direction too_large any_not_unit not_unit triple dot3 abs_of add sub mul le of_bits
order = (refl, refl, refl, refl, refl, refl, refl, refl, refl, refl, refl)

-- the number and the value of each case of one cell's answer
pub of_cell : (roll : Float) (k : ℕ) → (cell_reply Free ≡ accepted Free) × (cell_reply (At roll) ≡ accepted (At roll)) × (cell_reply (Refused k) ≡ refused k)
unfolding cell_reply
of_cell roll k = (refl, refl, refl)
