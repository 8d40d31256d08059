-- What the constants of specs/ are: the f64 nearest to the decimals that documents 01 and 02 and solar_roll.rs write. By computation. Assumes nothing.
use mathlib.Core.Path.{◌≡◌, refl}
use mathlib.Core.Bool.{false}
use Prim.Native.Nat.{◌^◌}
use lib.Ieee.{binary64, of_bits, round}
use Rattle.solar_roll.specs.Vectors.{NEAR_ZERO}
use Rattle.solar_roll.specs.Roll.{nine_tenths}
use Rattle.solar_roll.specs.Cell.{LIMIT, UNIT_TOLERANCE}

-- 1e-12, 1e100, 0.9 and 1e-9
pub constants : (NEAR_ZERO ≡ round binary64 false 1 (10 ^ 12)) × (LIMIT ≡ round binary64 false (10 ^ 100) 1) × (nine_tenths ≡ round binary64 false 9 10)
    × (UNIT_TOLERANCE ≡ round binary64 false 1 (10 ^ 9))
unfolding of_bits round
constants = (refl, refl, refl, refl)
