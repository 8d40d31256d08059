-- Document 02's request One: the sine and the cosine of r radians, and a degree number in radians. `sin_cos_of` is the definition, in the request's letters
-- and order. Definitions only. Assumes nothing.
use Rattle.std.specs.Prelude.{ℕ, zero, suc, ◌+◌, ◌*◌, cond, [], ◌∷◌, pos, from_bits, slice_index_or, Float}
use Rattle.std.specs.Float.{nan, binary64}
use Rattle.std.specs.Float.Ieee.{neg, lt, of_int}
use Rattle.buffers.specs.Ranges.{flag}
use Rattle.float.specs.Arithmetic.{◌⊖◌, ◌⊗◌, ◌⊘◌, zero·0, two, half_turn, PI, abs_of}
use Rattle.float.specs.Series.{horner}
use Rattle.float.specs.declared.trigonometry.SinCos.{SinCos}

-- 4
abbrev pub four : Float
four = from_bits binary64 0x4010_0000_0000_0000

-- n!
unfoldable pub factorial : ℕ → ℕ
factorial zero = 1
factorial (suc n) = suc n * factorial n

-- the divisors of the two series: of s^(2k + 1) the sine's, of s^(2k) the cosine's
unfoldable pub sine_divisor : ℕ → ℕ
sine_divisor k = factorial (2 * k + 1)

unfoldable pub cosine_divisor : ℕ → ℕ
cosine_divisor k = factorial (2 * k)

-- the thresholds: n·P/4
unfoldable pub threshold : ℕ → Float
threshold n = of_int binary64 (pos n) ⊗ PI ⊘ four

-- q: how many of P/4, 3P/4, 5P/4, 7P/4 are below a
unfoldable pub quadrant_of : Float → ℕ
quadrant_of a = flag (lt (threshold 1) a) + flag (lt (threshold 3) a) + flag (lt (threshold 5) a) + flag (lt (threshold 7) a)

-- for q from 0 to 4, of sin s and cos s: sin s, cos s, -sin s, -cos s, sin s
unfoldable pub sine_at : ℕ → Float → Float → Float
sine_at q sinS cosS = slice_index_or (sinS ∷ cosS ∷ neg sinS ∷ neg cosS ∷ sinS ∷ []) q nan

-- and cos s, -sin s, -cos s, sin s, cos s
unfoldable pub cosine_at : ℕ → Float → Float → Float
cosine_at q sinS cosS = slice_index_or (cosS ∷ neg sinS ∷ neg cosS ∷ sinS ∷ cosS ∷ []) q nan

-- of r radians: q, s and both series of |r|; the sine and the cosine of |r| for q from 0 to 4; the sine negated if r is below 0
unfoldable pub sin_cos_of : Float → SinCos
sin_cos_of r =
    let a = abs_of r in
    let q = quadrant_of a in
    let s = a ⊖ of_int binary64 (pos q) ⊗ (PI ⊘ two) in
    let t = s ⊗ s in
    let sinS = horner sine_divisor t 8 ⊗ s in
    let cosS = horner cosine_divisor t 8 in
    let sine = sine_at q sinS cosS in
    let cosine = cosine_at q sinS cosS in
    record { sin = cond (lt r zero·0) (neg sine) sine; cos = cosine }

-- each by itself
unfoldable pub sine_of : Float → Float
sine_of r = (sin_cos_of r).sin

unfoldable pub cosine_of : Float → Float
cosine_of r = (sin_cos_of r).cos

-- a times (P / 180)
unfoldable pub to_radians : Float → Float
to_radians a = a ⊗ (PI ⊘ half_turn)
