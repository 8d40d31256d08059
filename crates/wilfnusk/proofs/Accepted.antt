-- What C reads tells whether a call was accepted: no refusal, of numbers below 64, is read as 0 or 1. Assumes nothing.
use mathlib.Core.Path.{◌≡◌, refl}
use Prim.Native.Nat.{ℕ, zero, suc, ◌-◌, ◌^◌, ◌<◌}
use native.Mathlib.Nat.{mod-eq_of_lt}
use native.Mathlib.Omega.{arith}
use Rattle.buffers.specs.Refusal.{reply}
use Rattle.wilfnusk.specs.Answers.{minus, int64}

pub minus_large : (k : ℕ) → 0 < k → k < 64 → 1 < minus k
unfolding minus
minus_large k p h =
    let l : 2 ^ 64 - k < 2 ^ 64 = omega arith in
    omega (arith, mod-eq_of_lt l)

pub read_zero : (k n : ℕ) → k < 64 → int64 (reply k n) ≡ 0 → k ≡ 0
unfolding int64 reply
read_zero zero n h e = refl
read_zero (suc k) n h e = absurd (omega (arith, minus_large (suc k) (omega arith) h))
