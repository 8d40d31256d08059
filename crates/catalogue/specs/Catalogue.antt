-- Document 02's request One: the vectors of catalogue positions, right ascension (RA) and declination (Dec) in degrees, by the steps of `radec_to_unit`.
-- Definitions only. Assumes nothing.
use Rattle.std.specs.Prelude.{◌≡◌, Bool, false, not, ◌||◌, ◌&&◌, List, [], ◌∷◌, ℕ, ◌*◌, ◌/◌, ◌%◌, eqb, ltb, length, get_or, take, Float}
use Rattle.std.specs.Float.{nan, binary64}
use Rattle.std.specs.Float.Ieee.{neg, le, of_bits}
use Rattle.buffers.specs.Ranges.{any}
use Rattle.buffers.specs.Lent.{filled}
use Rattle.buffers.specs.Refusal.{first, Reply, reply, unless_refused}
use Rattle.float.specs.Arithmetic.{◌⊗◌, zero·0, full_turn}
use Rattle.float.specs.Trigonometry.{sine_of, cosine_of, to_radians}
use Rattle.solar_roll.specs.Vectors.{Vector, vector}
use Rattle.solar_roll.specs.Cell.{direction_refusal}

-- 90
abbrev pub ninety : Float
ninety = of_bits binary64 0x4056_8000_0000_0000

-- [cd·cr, cd·sr, sd], of the sines and cosines of both angles in radians
unfoldable pub radec_to_unit : Float → Float → Vector
radec_to_unit ra dec =
    let r = to_radians ra in
    let d = to_radians dec in
    vector (cosine_of d ⊗ cosine_of r) (cosine_of d ⊗ sine_of r) (sine_of d)

-- not within low to high, the ends allowed: so for NaN
unfoldable pub outside : Float → Float → Float → Bool
outside low high a = not (le low a && le a high)

-- 16: an RA not within 0 to 360, or a Dec not within -90 to 90
unfoldable pub bad_ra : Float → Bool
bad_ra = outside zero·0 full_turn

unfoldable pub bad_dec : Float → Bool
bad_dec = outside (neg ninety) ninety

-- what the call refuses, 0 for none; `room` is the length of the lent list: 1, unequal lists; 16; 7, fewer places than 3 a position
unfoldable pub catalogue_refusal : List Float → List Float → ℕ → ℕ
catalogue_refusal ras decs room =
    first ((not (eqb (length ras) (length decs)), 1)
    ∷ (any bad_ra ras || any bad_dec decs, 16)
    ∷ (ltb room (3 * length ras), 7)
    ∷ [])

-- the vector of position i
unfoldable pub vector_of : List Float → List Float → ℕ → Vector
vector_of ras decs i = radec_to_unit (get_or ras i nan) (get_or decs i nan)

-- number k of the vectors, one after the other
unfoldable pub catalogue_number : List Float → List Float → ℕ → Float
catalogue_number ras decs k = get_or (vector_of ras decs (k / 3)) (k % 3) nan

-- what the call answers: 0 where it is accepted
unfoldable pub catalogue_reply : List Float → List Float → ℕ → Reply ℕ
catalogue_reply ras decs room = reply (catalogue_refusal ras decs room) 0

-- what it leaves in the lent list
unfoldable pub catalogue_after : List Float → List Float → List Float → List Float
catalogue_after ras decs out = unless_refused (catalogue_refusal ras decs (length out)) (filled (3 * length ras) (catalogue_number ras decs) out) out

-- "Vectors so made feed every call unchanged" (One): degrees that 16 accepts give a direction that neither 5 nor 20 refuses, nor do they refuse the
-- list that an accepted call leaves, lent as targets; it has three numbers per position, so 1 does not refuse it either (`catalogue_accepted`,
-- proofs/Directions)
pub record CatalogueAccepted : Type 0 where
  pub position : (ra dec : Float) → bad_ra ra ≡ false → bad_dec dec ≡ false → direction_refusal (radec_to_unit ra dec) ≡ 0
  pub positions : (ras decs out : List Float) → catalogue_refusal ras decs (length out) ≡ 0
      → direction_refusal (take (3 * length ras) (catalogue_after ras decs out)) ≡ 0
  pub numbers : (ras decs out : List Float) → catalogue_refusal ras decs (length out) ≡ 0
      → length (take (3 * length ras) (catalogue_after ras decs out)) ≡ 3 * length ras
