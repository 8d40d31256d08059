-- `float::root::floor_by_digits` meets its contract. After i turns `root` is the floor of the root of the first 2 * i bits of m * 2 ^ 54, which has 108, `rest` is
-- what its square leaves of them, and `bits` has the next 64. Assumes nothing.
use Rattle.std.proofs.Common.{◌≡◌, ℕ, ◌+◌, ◌*◌, ◌^◌, ◌<◌, ◌≤◌}
use Rattle.float.proofs.root.floor_by_digits.Given as goal

-- of the first 2 * i bits of m * 2 ^ 54
abbrev pub Digits : ℕ → ℕ → ℕ → ℕ → ℕ → Type 0
Digits m bits root rest i = (i ≤ 54) × ((root * root + rest) * 2 ^ 64 + bits ≡ m * 2 ^ 10 * 4 ^ i) × (rest ≤ 2 * root) × (root < 2 ^ i) × (bits < 2 ^ 64)

abbrev pub invariant-loop : goal.invariant-loop
invariant-loop l = Digits l.m l.bits l.root l.rest l.counter
