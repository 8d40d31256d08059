-- What the tests of a chunk's mask and probes ask. Assumes nothing.
use mathlib.Core.Path.{◌≡◌, refl, sym, ap}
use mathlib.Core.Bool.{Bool, true, false, ◌&&◌}
use Prim.Native.Nat.{ℕ, ◌+◌, ◌-◌, ◌*◌, ◌/◌, ◌^◌, ◌≤◌}
use native.Mathlib.Nat.{div-eq_of_lt, div-lt_iff_lt-mul, mul-le-mul}
use native.Mathlib.Omega.{arith}
use lib.Pow.{pow_pos}
use lib.Count.{ones, ones-le}
use lib.Dec.{leb, ltb, eqb}
use borrow.Author.Tests.{ltb-true, ltb-false, eq-eqb, ne_eqb}
use Rattle.solar_roll.specs.Plan.{most_samples}
use Rattle.roll_sweep.specs.Sweep.{cells_in}
use Rattle.journal.specs.Right.{possible}

-- nothing is left of m from bit k on: m is below 2 ^ k
pub shr_zero : (m k : ℕ) → eqb (m / 2 ^ k) 0 ≡ ltb m (2 ^ k)
shr_zero m k = go (ltb m (2 ^ k)) refl
  where
    go : (t : Bool) → ltb m (2 ^ k) ≡ t → eqb (m / 2 ^ k) 0 ≡ t
    go true e = eq-eqb _ _ (div-eq_of_lt (ltb-true m (2 ^ k) e))
    go false e =
        let h : 2 ^ k ≤ m = ltb-false m (2 ^ k) e in
        ne_eqb (m / 2 ^ k) 0 (λ (z : m / 2 ^ k ≡ 0). omega (arith, (div-lt_iff_lt-mul {k = 2 ^ k} {x = m} {y = 1} (pow_pos k)).0 (omega arith)))

-- the three tests, where w is the chunk's count of cells
pub possible_at : (n k c m p w : ℕ) → w ≡ cells_in n c → possible n k c m p ≡ (ltb m (2 ^ w) && leb (w - ones m + k * ones m) p && leb p (k * w))
unfolding possible
possible_at n k c m p w e = ap (λ (x : ℕ). ltb m (2 ^ x) && leb (x - ones m + k * ones m) p && leb p (k * x)) (sym e)

pub marked_le : (m w : ℕ) → ltb m (2 ^ w) ≡ true → ones m ≤ w
marked_le m w e = ones-le w m (ltb-true m (2 ^ w) e)

-- sizes, for 3,600 samples at most
pub least_le : (m k w : ℕ) → k ≤ most_samples → w ≤ 64 → ones m ≤ w → w - ones m + k * ones m ≤ 230464
least_le m k w h l o = omega (arith, mul-le-mul h o)

pub most_le : (k w : ℕ) → k ≤ most_samples → w ≤ 64 → k * w ≤ 230400
most_le k w h l = mul-le-mul h l
