-- Rows of a mask: cell number = row · times + time, so a row's part of the mask is its cells' marks, in time order, and the mask
-- is the rows' parts one after the other. Assumes nothing.
use mathlib.Core.Path.{◌≡◌, ap, ◌∙◌}
use mathlib.Core.List.{List, [], ◌++◌}
use Prim.Native.Nat.{ℕ, zero, suc, ◌+◌, ◌*◌, ◌≤◌, ◌<◌}
use native.Mathlib.Nat.{mul-le-mul_right, zero-mul, suc-mul}
use native.Mathlib.Omega.{arith}
use lib.ListN.{take, drop}
use Rattle.buffers.specs.Ranges.{flag, tab}
use Rattle.buffers.proofs.Ranges.{tab_add, tab_part}
use Rattle.roll_sweep.specs.Sweep.{Sweep, cells, marked, sweep_mask}

-- a row that exists has its cells within the sweep's
pub row_within : (s : Sweep) (r : ℕ) → r < s.rows → r * s.times + s.times ≤ cells s
row_within s r h = omega (arith, mul-le-mul_right s.times h)

pub row_part_lem : (s : Sweep) (r : ℕ) → r < s.rows → take s.times (drop (r * s.times) (sweep_mask s)) ≡ tab s.times (λ j. flag (marked s (r * s.times + j)))
unfolding sweep_mask
row_part_lem s r h = tab_part (r * s.times) s.times (cells s) (λ i. flag (marked s i)) (row_within s r h)

-- a row's part of the mask, and the first n parts one after the other
unfoldable pub row_mask : Sweep → ℕ → List ℕ
row_mask s r = tab s.times (λ j. flag (marked s (r * s.times + j)))

unfoldable pub row_masks : Sweep → ℕ → List ℕ
unfolding row_mask
row_masks s zero = []
row_masks s (suc n) = row_masks s n ++ row_mask s n

first_rows : (s : Sweep) (n : ℕ) → tab (n * s.times) (λ i. flag (marked s i)) ≡ row_masks s n
unfolding row_masks tab
first_rows s zero = ap (λ (n : ℕ). tab n (λ i. flag (marked s i))) (zero-mul s.times)
first_rows s (suc n) =
    ap (λ (k : ℕ). tab k (λ i. flag (marked s i))) (suc-mul n s.times)
    ∙ tab_add (n * s.times) s.times (λ i. flag (marked s i))
    ∙ ap (λ (l : List ℕ). l ++ row_mask s n) (first_rows s n)

pub mask_rows : (s : Sweep) → sweep_mask s ≡ row_masks s s.rows
unfolding sweep_mask
mask_rows s = first_rows s s.rows
