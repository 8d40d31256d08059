-- Document 02's request One by computation: vectors on the axes, between them and elsewhere, the sine and the cosine of 45 degrees, which are exactly P/4, and what is
-- refused. Assumes nothing.
use mathlib.Core.Path.{◌≡◌, refl}
use mathlib.Core.Bool.{true, false}
use mathlib.Core.List.{[], ◌∷◌}
use Prim.Native.Nat.{ℕ}
use lib.Ieee.{Float, nan, binary64, of_bits, neg, add, sub, mul, div, lt, le, round, of_int}
use Rattle.buffers.specs.Ranges.{any}
use Rattle.buffers.specs.Refusal.{first, refused, accepted, reply}
use Rattle.float.specs.Arithmetic.{abs_of}
use Rattle.float.specs.Series.{coefficient, horner}
use Rattle.float.specs.Trigonometry.{factorial, sine_divisor, cosine_divisor, threshold, quadrant_of, sine_at, cosine_at, sin_cos_of, sine_of, cosine_of, to_radians}
use Rattle.solar_roll.specs.Vectors.{vector}
use Rattle.catalogue.specs.Catalogue.{radec_to_unit, outside, bad_ra, bad_dec, catalogue_refusal, catalogue_reply}

-- the number of a bit pattern
abbrev f64 : ℕ → Float
f64 b = of_bits binary64 b

-- of RA and Dec
pub vectors :
    -- 0, 0
    (radec_to_unit (f64 0x0000_0000_0000_0000) (f64 0x0000_0000_0000_0000) ≡ vector (f64 0x3ff0_0000_0000_0000) (f64 0x0000_0000_0000_0000) (f64 0x0000_0000_0000_0000)) ×
    -- 90, 0
    (radec_to_unit (f64 0x4056_8000_0000_0000) (f64 0x0000_0000_0000_0000) ≡ vector (f64 0x8000_0000_0000_0000) (f64 0x3ff0_0000_0000_0000) (f64 0x0000_0000_0000_0000)) ×
    -- 180, 0
    (radec_to_unit (f64 0x4066_8000_0000_0000) (f64 0x0000_0000_0000_0000) ≡ vector (f64 0xbff0_0000_0000_0000) (f64 0x8000_0000_0000_0000) (f64 0x0000_0000_0000_0000)) ×
    -- 270, 0
    (radec_to_unit (f64 0x4070_e000_0000_0000) (f64 0x0000_0000_0000_0000) ≡ vector (f64 0x0000_0000_0000_0000) (f64 0xbff0_0000_0000_0000) (f64 0x0000_0000_0000_0000)) ×
    -- 360, 0
    (radec_to_unit (f64 0x4076_8000_0000_0000) (f64 0x0000_0000_0000_0000) ≡ vector (f64 0x3ff0_0000_0000_0000) (f64 0x0000_0000_0000_0000) (f64 0x0000_0000_0000_0000)) ×
    -- 0, 90
    (radec_to_unit (f64 0x0000_0000_0000_0000) (f64 0x4056_8000_0000_0000) ≡ vector (f64 0x8000_0000_0000_0000) (f64 0x8000_0000_0000_0000) (f64 0x3ff0_0000_0000_0000)) ×
    -- 180, -90
    (radec_to_unit (f64 0x4066_8000_0000_0000) (f64 0xc056_8000_0000_0000) ≡ vector (f64 0x0000_0000_0000_0000) (f64 0x0000_0000_0000_0000) (f64 0xbff0_0000_0000_0000)) ×
    -- 45, 45
    (radec_to_unit (f64 0x4046_8000_0000_0000) (f64 0x4046_8000_0000_0000) ≡ vector (f64 0x3fe0_0000_0000_0001) (f64 0x3fe0_0000_0000_0000) (f64 0x3fe6_a09e_667f_3bcc)) ×
    -- 123.456, -67.89
    (radec_to_unit (f64 0x405e_dd2f_1a9f_be77) (f64 0xc050_f8f5_c28f_5c29) ≡ vector (f64 0xbfca_8f5e_37e5_df88) (f64 0x3fd4_18f1_40ca_a09f) (f64 0xbfed_a595_a2a3_c4a0)) ×
    -- 359.99999999999994, -89.99999999999999
    (radec_to_unit (f64 0x4076_7fff_ffff_ffff) (f64 0xc056_7fff_ffff_ffff) ≡ vector (f64 0x3cb0_0000_0000_0000) (f64 0xb990_0000_0000_0000) (f64 0xbff0_0000_0000_0000)) ×
    -- -0, 4.94066e-324
    (radec_to_unit (f64 0x8000_0000_0000_0000) (f64 0x0000_0000_0000_0001) ≡ vector (f64 0x3ff0_0000_0000_0000) (f64 0x0000_0000_0000_0000) (f64 0x0000_0000_0000_0000)) ×
    -- 314.159, -1e-300
    (radec_to_unit (f64 0x4073_a28b_4395_8106) (f64 0x81a5_6e1f_c2f8_f359) ≡ vector (f64 0x3fe6_4af8_f460_d2bb) (f64 0xbfe6_f504_5bd2_509e) (f64 0x8147_f00f_350a_8ddd))
unfolding radec_to_unit to_radians sine_of cosine_of sin_cos_of sine_at cosine_at quadrant_of threshold horner coefficient sine_divisor cosine_divisor factorial abs_of of_bits neg add sub mul div lt round of_int
vectors = (refl, refl, refl, refl, refl, refl, refl, refl, refl, refl, refl, refl)

pub at_45 : (sine_of (to_radians (f64 0x4046_8000_0000_0000)) ≡ f64 0x3fe6_a09e_667f_3bcc) × (cosine_of (to_radians (f64 0x4046_8000_0000_0000)) ≡ f64 0x3fe6_a09e_667f_3bcd)
unfolding to_radians sine_of cosine_of sin_cos_of sine_at cosine_at quadrant_of threshold horner coefficient sine_divisor cosine_divisor factorial abs_of of_bits neg add sub mul div lt round of_int
at_45 = (refl, refl)

-- 0 to 360 and -90 to 90, the ends allowed, and the floats beyond them; NaN
pub ends :
    (bad_ra (f64 0x8000_0000_0000_0000) ≡ false) ×
    (bad_ra (f64 0x8000_0000_0000_0001) ≡ true) ×
    (bad_ra (f64 0x4076_8000_0000_0000) ≡ false) ×
    (bad_ra (f64 0x4076_8000_0000_0001) ≡ true) ×
    (bad_ra nan ≡ true) ×
    (bad_dec (f64 0xc056_8000_0000_0000) ≡ false) ×
    (bad_dec (f64 0xc056_8000_0000_0001) ≡ true) ×
    (bad_dec (f64 0x4056_8000_0000_0000) ≡ false) ×
    (bad_dec (f64 0x4056_8000_0000_0001) ≡ true) ×
    (bad_dec nan ≡ true)
unfolding bad_ra bad_dec outside le neg of_bits
ends = (refl, refl, refl, refl, refl, refl, refl, refl, refl, refl)

-- 1 before 16, of the RAs or the Decs, before 7, fewer places than three per position
pub answers :
    (catalogue_reply (nan ∷ []) [] 0 ≡ refused 1) ×
    (catalogue_reply (nan ∷ []) (f64 0 ∷ []) 0 ≡ refused 16) ×
    (catalogue_reply (f64 0 ∷ []) (nan ∷ []) 0 ≡ refused 16) ×
    (catalogue_reply (f64 0 ∷ []) (f64 0 ∷ []) 2 ≡ refused 7) ×
    (catalogue_reply (f64 0 ∷ []) (f64 0 ∷ []) 3 ≡ accepted 0)
unfolding catalogue_reply catalogue_refusal any bad_ra bad_dec outside first reply le neg of_bits
answers = (refl, refl, refl, refl, refl)
