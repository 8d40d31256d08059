-- Laws of chunks: which mask and probes a chunk can have, a chunk's bits are its cells' marks, and the chunks' probes, summed, are the sweep's.
-- Not here: one cell's probes (`Tried`), bits (`Words`). Assumes nothing.
use mathlib.Core.Path.{◌≡◌, refl, sym, ap, ap₂, ◌∙◌}
use mathlib.Core.Logic.{◌↔◌}
use mathlib.Core.Bool.{Bool, true, false}
use Prim.Native.Nat.{ℕ, zero, suc, ◌+◌, ◌-◌, ◌*◌, ◌/◌, ◌%◌, ◌^◌, ◌≤◌, ◌<◌, min}
use native.Mathlib.Nat.{add-zero}
use native.Mathlib.Omega.{arith}
use lib.Count.{ones}
use lib.Dec.{leb}
use borrow.Author.Tests.{leb-true, leb-false}
use Rattle.buffers.specs.Ranges.{flag, sum}
use Rattle.buffers.proofs.Ranges.{sum_add, all_iff}
use Rattle.roll_sweep.specs.Sweep.{Sweep, cells, marked, cell_probes, sweep_probes, chunks, cells_in, chunk_mask, chunk_probes}
use Rattle.roll_sweep.proofs.Words.{word_lt, bit_at, ones_word}
use Rattle.roll_sweep.proofs.Tried.{probes_bounds}

-- a cell is marked exactly when every sample violates it
pub marked_iff : (s : Sweep) (i : ℕ) → (marked s i ≡ true) ↔ ((k : ℕ) → k < s.samples → s.violates i k ≡ true)
unfolding marked
marked_iff s i = all_iff s.samples (s.violates i)

-- ---- one chunk

pub cells_le : (n c : ℕ) → cells_in n c ≤ 64
unfolding cells_in
cells_le n c = omega arith

-- a chunk that exists has its cells within the n
pub within : (n c : ℕ) → c < chunks n → 64 * c + cells_in n c ≤ n
unfolding chunks cells_in
within n c h = omega arith

-- no bit past the last cell is set
pub mask_lt : (s : Sweep) (c : ℕ) → chunk_mask s c < 2 ^ cells_in (cells s) c
unfolding chunk_mask
mask_lt s c = word_lt (cells_in (cells s) c) (λ k. marked s (64 * c + k))

-- probes lie from (clear + n·marked) to n·cells
pub probes_low : (s : Sweep) (c : ℕ) → 1 ≤ s.samples → cells_in (cells s) c - ones (chunk_mask s c) + s.samples * ones (chunk_mask s c) ≤ chunk_probes s c
unfolding chunk_mask chunk_probes marked
probes_low s c h =
    let o : ones (chunk_mask s c) ≡ sum (cells_in (cells s) c) (λ k. flag (marked s (64 * c + k))) = ones_word (cells_in (cells s) c) (λ k. marked s (64 * c + k)) in
    let b = probes_bounds (cells_in (cells s) c) s.samples (λ k. s.violates (64 * c + k)) h in
    rw o (omega (arith, b.0, b.2))

pub probes_high : (s : Sweep) (c : ℕ) → 1 ≤ s.samples → chunk_probes s c ≤ s.samples * cells_in (cells s) c
unfolding chunk_probes
probes_high s c h = (probes_bounds (cells_in (cells s) c) s.samples (λ k. s.violates (64 * c + k)) h).1

-- ---- cells and chunks

pub cell_bit_lem : (s : Sweep) (i : ℕ) → i < cells s → chunk_mask s (i / 64) / 2 ^ (i % 64) % 2 ≡ flag (marked s i)
unfolding chunk_mask cells_in
cell_bit_lem s i h =
    let e : 64 * (i / 64) + i % 64 ≡ i = omega arith in
    bit_at (cells_in (cells s) (i / 64)) (λ k. marked s (64 * (i / 64) + k)) (i % 64) (omega arith) ∙ ap (λ (j : ℕ). flag (marked s j)) e

-- the first m chunks hold the first 64 m cells, or all
sum_chunks : (s : Sweep) (m : ℕ) → sum m (chunk_probes s) ≡ sum (min (64 * m) (cells s)) (cell_probes s)
unfolding sum chunk_probes cells_in
sum_chunks s zero =
    let e : ◌≡◌ {A = ℕ} 0 (min (64 * 0) (cells s)) = omega arith in
    ap (λ (n : ℕ). sum n (cell_probes s)) e
sum_chunks s (suc m) = ap (λ (x : ℕ). x + chunk_probes s m) (sum_chunks s m) ∙ go (leb (64 * m) (cells s)) refl
  where
    go : (t : Bool) → leb (64 * m) (cells s) ≡ t → sum (min (64 * m) (cells s)) (cell_probes s) + chunk_probes s m ≡ sum (min (64 * suc m) (cells s)) (cell_probes s)
    go true e =
        let l : 64 * m ≤ cells s = leb-true (64 * m) (cells s) e in
        let p : min (64 * m) (cells s) ≡ 64 * m = omega arith in
        let q : 64 * m + min 64 (cells s - 64 * m) ≡ min (64 * suc m) (cells s) = omega arith in
        ap (λ (n : ℕ). sum n (cell_probes s) + chunk_probes s m) p
        ∙ sym (sum_add (64 * m) (min 64 (cells s - 64 * m)) (cell_probes s))
        ∙ ap (λ (n : ℕ). sum n (cell_probes s)) q
    go false e =
        let l : cells s < 64 * m = leb-false (64 * m) (cells s) e in
        let p : min (64 * m) (cells s) ≡ min (64 * suc m) (cells s) = omega arith in
        let q : min 64 (cells s - 64 * m) ≡ 0 = omega arith in
        ap₂ (λ (n k : ℕ). sum n (cell_probes s) + sum k (λ j. cell_probes s (64 * m + j))) p q
        ∙ add-zero (sum (min (64 * suc m) (cells s)) (cell_probes s))

-- the chunks' probes are the sweep's
pub probes_chunks : (s : Sweep) → sum (chunks (cells s)) (chunk_probes s) ≡ sweep_probes s
unfolding sweep_probes chunks
probes_chunks s =
    let e : min (64 * chunks (cells s)) (cells s) ≡ cells s = omega arith in
    sum_chunks s (chunks (cells s)) ∙ ap (λ (n : ℕ). sum n (cell_probes s)) e
