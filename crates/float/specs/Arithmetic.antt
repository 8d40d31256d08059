-- Section 1's arithmetic on f64, but for the root and the arctangent: operators, constants, the sign bit and the size, the remainder and degrees. Over the
-- toolchain's account of IEEE 754, `lib.Ieee`, which also has the comparisons, and `to_bits` and `of_bits`: the bit pattern of a number, 7ff8000000000000 for
-- every NaN, and the number of a bit pattern. Definitions only. Assumes nothing.
use Rattle.std.specs.Prelude.{Bool, true, false, cond, from_bits, Float}
use Rattle.std.specs.Float.{nan, inf, fin, binary64}
use Rattle.std.specs.Float.Ieee.{add, sub, mul, div, rem, lt}

-- ---- the operators of f64, each rounded once: +, -, · and /, grouped as in the Rust

infixl 60 ◌⊕◌
abbrev pub ◌⊕◌ : Float → Float → Float
◌⊕◌ a b = add binary64 a b

infixl 60 ◌⊖◌
abbrev pub ◌⊖◌ : Float → Float → Float
◌⊖◌ a b = sub binary64 a b

infixl 70 ◌⊗◌
abbrev pub ◌⊗◌ : Float → Float → Float
◌⊗◌ a b = mul binary64 a b

infixl 70 ◌⊘◌
abbrev pub ◌⊘◌ : Float → Float → Float
◌⊘◌ a b = div binary64 a b

-- ---- constants, by their bit patterns

-- +0, 1, 2 and 8
abbrev pub zero·0 : Float
zero·0 = from_bits binary64 0x0000_0000_0000_0000

abbrev pub one : Float
one = from_bits binary64 0x3ff0_0000_0000_0000

abbrev pub two : Float
two = from_bits binary64 0x4000_0000_0000_0000

abbrev pub eight : Float
eight = from_bits binary64 0x4020_0000_0000_0000

-- 180
abbrev pub half_turn : Float
half_turn = from_bits binary64 0x4066_8000_0000_0000

-- 360
abbrev pub full_turn : Float
full_turn = from_bits binary64 0x4076_8000_0000_0000

-- P, the f64 nearest to pi
abbrev pub PI : Float
PI = from_bits binary64 0x4009_21fb_5444_2d18

-- ---- the sign bit and the size

-- whether the sign bit is set; a NaN's is not read
unfoldable pub sign_bit_of : Float → Bool
sign_bit_of nan = false
sign_bit_of (inf s) = s
sign_bit_of (fin s m e) = s

-- |x|: the sign bit cleared
unfoldable pub abs_of : Float → Float
abs_of nan = nan
abs_of (inf s) = inf false
abs_of (fin s m e) = fin false m e

-- neither an infinity nor a NaN
unfoldable pub finite : Float → Bool
finite nan = false
finite (inf s) = false
finite (fin s m e) = true

-- ---- section 1's Remainder and Degrees

-- r = a % b; if r < 0, r + |b|
unfoldable pub rem_euclid : Float → Float → Float
rem_euclid a b = let r = rem binary64 a b in cond (lt r zero·0) (r ⊕ abs_of b) r

-- a times (180 / P)
unfoldable pub to_degrees : Float → Float
to_degrees a = a ⊗ (half_turn ⊘ PI)
