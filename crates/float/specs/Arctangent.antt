-- Section 1's arctangent of (y, z): `arctangent` is the definition, in document 01's letters and order; what the code works out one after the other
-- follows it. Definitions only. Assumes nothing.
use Rattle.std.specs.Prelude.{ℕ, ◌+◌, ◌*◌, cond, ◌&&◌, Float}
use Rattle.std.specs.Float.{nan}
use Rattle.std.specs.Float.Ieee.{neg, lt, eq}
use Rattle.float.specs.Root.{sqrt_of}
use Rattle.float.specs.Arithmetic.{◌⊕◌, ◌⊖◌, ◌⊗◌, ◌⊘◌, zero·0, one, two, eight, PI, sign_bit_of, abs_of, finite}
use Rattle.float.specs.Series.{horner}

-- one of the three rounds: q / (1 + root(1 + q·q))
unfoldable pub halved : Float → Float
halved q = q ⊘ (one ⊕ sqrt_of (one ⊕ q ⊗ q))

-- the divisors of the series: c(k) = 1 / (2k + 1), negated for odd k
abbrev pub odd_number : ℕ → ℕ
odd_number k = 2 * k + 1

-- of (y, z); NaN unless both are finite. Where M = 0, what is worked out of q is not looked at.
unfoldable pub arctangent : Float → Float → Float
arctangent y z =
    let a = abs_of y in
    let b = abs_of z in
    let m = cond (lt b a) b a in
    let M = cond (lt b a) a b in
    let q = halved (halved (halved (m ⊘ M))) in
    let s = q ⊗ q in
    let p = horner odd_number s 8 in
    let r = cond (eq M zero·0) zero·0 (eight ⊗ (q ⊗ p)) in
    let r = cond (lt b a) (PI ⊘ two ⊖ r) r in
    let r = cond (sign_bit_of z) (PI ⊖ r) r in
    let r = cond (sign_bit_of y) (neg r) r in
    cond (finite y && finite z) r nan

-- ---- its pieces, which the code works out

-- m / M of a and b, the first q
unfoldable pub ratio : Float → Float → Float
ratio a b = cond (lt b a) b a ⊘ cond (lt b a) a b

-- 8·(q·p), from the last q
unfoldable pub series_angle : Float → Float
series_angle q = eight ⊗ (q ⊗ horner odd_number (q ⊗ q) 8)

-- r of a and b, from the last q, up to P/2 - r
unfoldable pub quadrant_angle : Float → Float → Float → Float
quadrant_angle a b q =
    let r = cond (eq (cond (lt b a) a b) zero·0) zero·0 (series_angle q) in
    cond (lt b a) (PI ⊘ two ⊖ r) r

-- r of y and z, from the last q, to the end
unfoldable pub turned_angle : Float → Float → Float → Float
turned_angle y z q =
    let r = quadrant_angle (abs_of y) (abs_of z) q in
    let r = cond (sign_bit_of z) (PI ⊖ r) r in
    cond (finite y && finite z) (cond (sign_bit_of y) (neg r) r) nan
