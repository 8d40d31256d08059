-- Section 3: which cells a sweep marks and how many samples it tries, whole and by chunks of 64 cells. Nothing here depends on how a cell is
-- found to be violated, nor on where the samples come from: a plan is brought in by one definition, `sweep_of` (journal: specs/Plan). Definitions
-- only. Assumes nothing.
use Rattle.std.specs.Prelude.{Bool, List, ℕ, ◌+◌, ◌-◌, ◌*◌, ◌/◌, ◌^◌, min}
use Rattle.buffers.specs.Ranges.{flag, sum, tab, all_below}

-- what the journal's calls need of a lent plan
pub record Sweep : Type 0 where
  -- the plan's refusal, 0 for none. The flag says that the lent used length lies beyond its buffer, which is part of 1
  pub refusal : Bool → ℕ
  -- how many rows, and how many times each has
  pub rows : ℕ
  pub times : ℕ
  -- how many samples a cell has: n
  pub samples : ℕ
  -- the cell of this number is violated at the sample of this index
  pub violates : ℕ → ℕ → Bool
  -- section 4's header, with its 0a
  pub header : List ℕ

-- cell number = row · times + time, so there are rows · times
abbrev pub cells : Sweep → ℕ
cells s = s.rows * s.times

-- how many of n samples are tried, where v says which violate: sample k is tried when all those before it violate
unfoldable pub tried : ℕ → (ℕ → Bool) → ℕ
unfolding sum all_below
tried n v = sum n (λ k. flag (all_below k v))

-- a cell is marked when all its samples violate it
unfoldable pub marked : Sweep → ℕ → Bool
unfolding all_below
marked s i = all_below s.samples (s.violates i)

-- how many samples of a cell are tried: document 01's probes, of one cell
unfoldable pub cell_probes : Sweep → ℕ → ℕ
unfolding tried
cell_probes s i = tried s.samples (s.violates i)

-- the sweep's mask, one byte a cell, and how many samples it tries, over all cells
unfoldable pub sweep_mask : Sweep → List ℕ
unfolding tab marked
sweep_mask s = tab (cells s) (λ i. flag (marked s i))

unfoldable pub sweep_probes : Sweep → ℕ
unfolding sum cell_probes
sweep_probes s = sum (cells s) (cell_probes s)

-- ---- chunks: chunk c holds cells 64 c to 64 c + 63, the last perhaps fewer

-- how many chunks n cells make, and how many cells chunk c of them holds
unfoldable pub chunks : ℕ → ℕ
chunks n = (n + 63) / 64

unfoldable pub cells_in : ℕ → ℕ → ℕ
cells_in n c = min 64 (n - 64 * c)

-- the number whose bit k, of w bits, says p k
unfoldable pub word : ℕ → (ℕ → Bool) → ℕ
unfolding sum
word w p = sum w (λ k. flag (p k) * 2 ^ k)

-- chunk c's mask: bit k is cell 64 c + k
unfoldable pub chunk_mask : Sweep → ℕ → ℕ
unfolding word marked cells_in
chunk_mask s c = word (cells_in (cells s) c) (λ k. marked s (64 * c + k))

-- chunk c's probes
unfoldable pub chunk_probes : Sweep → ℕ → ℕ
unfolding sum cell_probes cells_in
chunk_probes s c = sum (cells_in (cells s) c) (λ k. cell_probes s (64 * c + k))
