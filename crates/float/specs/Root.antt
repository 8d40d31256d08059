-- Section 1's Root: IEEE 754-2019's squareRoot on binary64, to nearest, ties to even, subnormals included, over the toolchain's account of IEEE 754, `lib.Ieee`.
-- `sqrt_of` is the definition. It gives the special operands case by case; of every x that is finite and above 0 the theorem `root_nearest` (statement:
-- specs/Nearest, `NearestRoot`) fixes the value, so that `isqrt` and `root_of`, by which it is worked out, need not be believed. The steps of the code are in
-- RootSteps. Definitions only. Assumes nothing.
use Rattle.std.specs.Prelude.{ℕ, zero, suc, ◌+◌, ◌-◌, ◌*◌, ◌/◌, ◌^◌, true, false, cond, nat_le, Float}
use Prim.Native.Nat.{compare}
use Rattle.std.specs.Float.{nan, inf, fin, Format, binary64}
use Rattle.std.specs.Float.Ieee.{prec, low, up, down, size, nearest, units}

-- The floor of the square root of n, for an n below 4 ^ d: twice the root of n / 4, or one more.
unfoldable pub isqrt_below : ℕ → ℕ → ℕ
isqrt_below zero n = 0
isqrt_below (suc d) n = let r = 2 * isqrt_below d (n / 4) in cond (nat_le ((r + 1) * (r + 1)) n) (r + 1) r

-- The floor of the square root of n: the r with r * r ≤ n < (r + 1) * (r + 1). n has `size n` binary digits, so it is below 4 ^ size n.
unfoldable pub isqrt : ℕ → ℕ
unfolding isqrt_below size
isqrt n = isqrt_below (size n) n

-- The value of the format f that is nearest to the root of num / den, for a den above 0: as `lib.Ieee`'s `round`, with squares in place of quotients.
-- In units of f's smallest value the root is that of n / den. Of its whole part the format keeps the `prec` leading digits and drops k.
-- In units of 2 ^ k of those it is the root of n / d, and q is its whole part. It is compared with q + 1/2 by four times the squares.
unfoldable pub root_of : Format → ℕ → ℕ → Float
unfolding isqrt size units
root_of f num den =
    let n = num * 4 ^ low f in
    let k = size (isqrt (n / den)) - prec f in
    let d = den * 4 ^ k in
    let q = isqrt (n / d) in
    units f false (nearest q (compare (4 * n) ((2 * q + 1) * (2 * q + 1) * d))) k

-- squareRoot: of a NaN, of a negative number and of -infinity NaN; of -0, +0 and +infinity itself.
unfoldable pub sqrt_of : Float → Float
unfolding root_of
sqrt_of nan = nan
sqrt_of (inf true) = nan
sqrt_of (inf false) = inf false
sqrt_of (fin s zero e) = fin s zero e
sqrt_of (fin true (suc m) e) = nan
sqrt_of (fin false (suc m) e) = root_of binary64 (suc m * up e) (down e)
