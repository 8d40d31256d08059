-- Laws of what the sweep of some cells gives, as its loops ask for them: one cell more, a row's cells more, samples that are all the same.
-- Not here: the samples of one cell (`Tried`), bits (`Words`), a plan's cells (`Cells`). Assumes nothing.
use mathlib.Core.Path.{◌≡◌, refl, sym, ap, ap₂, ◌∙◌}
use mathlib.Core.Bool.{Bool, true, false}
use Prim.Native.Nat.{ℕ, zero, suc, ◌+◌, ◌-◌, ◌*◌, ◌%◌, ◌^◌, ◌≤◌, ◌<◌}
use native.Mathlib.Nat.{add_comm}
use native.Mathlib.Omega.{arith}
use lib.Bits.{bit_or, or_shifted_r}
use lib.Count.{ones}
use lib.Pow.{shl_exact}
use Rattle.buffers.specs.Ranges.{flag, sum, all_below}
use Rattle.buffers.proofs.Ranges.{sum_next, sum_add, sum_ext, sum_mono, sum_same, all_iff, all_stop, all_ext}
use Rattle.roll_sweep.specs.Sweep.{Sweep, cells, tried, marked, cell_probes, cells_in, word, chunk_mask, chunk_probes}
use Rattle.roll_sweep.specs.Chunk.{swept_by, swept_of}
use Rattle.roll_sweep.specs.declared.chunk.Swept.{Swept}
use Rattle.roll_sweep.proofs.Words.{word_next, word_add, word_ext, word_lt, ones_word}
use Rattle.roll_sweep.proofs.Tried.{tried_le, tried_all, tried_at, tried_ext}

-- a mask of k bits, with a word of m bits set above it, as `mask |= more << k` does
pub set_above : (k m mask more : ℕ) → mask < 2 ^ k → more < 2 ^ m → m + k ≤ 64 → bit_or mask ((more * 2 ^ k) % 2 ^ 64) ≡ mask + more * 2 ^ k
set_above k m mask more h g l = ap (bit_or mask) (shl_exact m k 64 g l) ∙ or_shifted_r more k mask h ∙ add_comm (more * 2 ^ k) mask

-- ---- n samples a cell, and v says which sample violates which cell

module _ (n : ℕ) (v : ℕ → ℕ → Bool) where
  -- mask and probes of the first k cells
  pub record Upto (k mask probes : ℕ) : Type 0 where
    pub marks : mask ≡ word k (λ j. all_below n (v j))
    pub trials : probes ≡ sum k (λ j. tried n (v j))

  pub upto_zero : Upto 0 0 0
  unfolding word sum
  upto_zero = record { marks = refl; trials = refl }

  pub upto_whole : {k mask probes : ℕ} → Upto k mask probes → ◌≡◌ {A = Swept} (record { mask = mask; probes = probes }) (swept_by k n v)
  unfolding swept_by
  upto_whole u = rw (u.marks, u.trials)

  pub upto_le : {k mask probes : ℕ} → Upto k mask probes → probes ≤ k * n
  upto_le {k} u =
      rw (u.trials, ← sum_same k n) (sum_mono k (λ j. tried n (v j)) (λ j. n) (λ j l. tried_le n (v j)))

  -- cell k is clear at sample s, and no sample before
  pub upto_clear : {k mask probes : ℕ} (s q : ℕ) → Upto k mask probes → s < n → all_below s (v k) ≡ true → v k s ≡ false → q ≡ probes + (s + 1) → Upto (k + 1) mask q
  upto_clear {k} s q u l h e t =
      let stop : all_below n (v k) ≡ false = all_stop n (v k) s l e in
      record {
        marks = u.marks ∙ omega (arith, word_next k (λ j. all_below n (v j)) ∙ ap (λ (b : Bool). word k (λ j. all_below n (v j)) + flag b * 2 ^ k) stop);
        trials = t ∙ omega (arith, u.trials, sum_next k (λ j. tried n (v j)), tried_at n s (v k) l h e);
      }

  -- every sample violates cell k
  pub upto_marked : {k mask probes : ℕ} (q : ℕ) → Upto k mask probes → k < 64 → all_below n (v k) ≡ true → q ≡ probes + n → Upto (k + 1) (bit_or mask ((1 * 2 ^ k) % 2 ^ 64)) q
  upto_marked {k} {mask} q u l h t =
      let b : mask < 2 ^ k = rw u.marks (word_lt k (λ j. all_below n (v j))) in
      record {
        marks = set_above k 1 mask 1 b (omega arith) (omega arith) ∙ omega (arith, u.marks, word_next k (λ j. all_below n (v j)) ∙ ap (λ (b : Bool). word k (λ j. all_below n (v j)) + flag b * 2 ^ k) h);
        trials = t ∙ omega (arith, u.trials, sum_next k (λ j. tried n (v j)), tried_all n (v k) h);
      }

  -- the cells from k to e, where they were swept together
  pub upto_part : {k mask probes : ℕ} (e : ℕ) (part : Swept) → Upto k mask probes → k ≤ e → e ≤ 64 → part ≡ swept_by (e - k) n (λ j. v (k + j))
      → Upto e (bit_or mask ((part.mask * 2 ^ k) % 2 ^ 64)) (probes + part.probes)
  unfolding swept_by
  upto_part {k} {mask} e part u h l q =
      let m : ℕ = e - k in
      let z : k + m ≡ e = omega arith in
      let a : part.mask ≡ word m (λ j. all_below n (v (k + j))) = ap (λ (w : Swept). w.mask) q in
      let b : part.probes ≡ sum m (λ j. tried n (v (k + j))) = ap (λ (w : Swept). w.probes) q in
      let c : mask < 2 ^ k = rw u.marks (word_lt k (λ j. all_below n (v j))) in
      let d : part.mask < 2 ^ m = rw a (word_lt m (λ j. all_below n (v (k + j)))) in
      rw (← z) (record {
        marks = set_above k m mask part.mask c d (omega arith) ∙ ap₂ (λ (x y : ℕ). x + y * 2 ^ k) u.marks a ∙ sym (word_add k m (λ j. all_below n (v j)));
        trials = ap₂ (λ (x y : ℕ). x + y) u.trials b ∙ sym (sum_add k m (λ j. tried n (v j)));
      })

pub swept_ext : (w n : ℕ) (v u : ℕ → ℕ → Bool) → ((k s : ℕ) → k < w → s < n → v k s ≡ u k s) → swept_by w n v ≡ swept_by w n u
unfolding swept_by
swept_ext w n v u h =
    ap₂ {C = Swept} (λ (a b : ℕ). record { mask = a; probes = b })
    (word_ext w (λ k. all_below n (v k)) (λ k. all_below n (u k)) (λ k l. all_ext n (v k) (u k) (λ s g. h k s l g)))
    (sum_ext w (λ k. tried n (v k)) (λ k. tried n (u k)) (λ k l. tried_ext n (v k) (u k) (λ s g. h k s l g)))

-- the cells of a chunk
pub swept_chunk : (s : Sweep) (c w : ℕ) → w ≡ cells_in (cells s) c → swept_by w s.samples (λ k. s.violates (64 * c + k)) ≡ swept_of s c
unfolding swept_by chunk_mask chunk_probes marked cell_probes
swept_chunk s c w e = rw e

-- one sample a cell: one try each
pub one_each : (w : ℕ) (v : ℕ → ℕ → Bool) (one : Swept) → w ≤ 64 → one ≡ swept_by w 1 v → one.probes ≤ 64
unfolding swept_by
one_each w v one l e =
    let a : one.probes ≡ sum w (λ k. tried 1 (v k)) = ap (λ (r : Swept). r.probes) e in
    omega (arith, sum_mono w (λ k. tried 1 (v k)) (λ k. 1) (λ k h. tried_le 1 (v k)), sum_same w 1)

-- ---- samples that are all the same: one of them decides

module _ (m : ℕ) (v u : ℕ → Bool) (h : (s : ℕ) → v s ≡ u 0) where
  all_same : all_below (suc m) v ≡ all_below 1 u
  unfolding all_below
  all_same = go (u 0) refl
    where
      go : (b : Bool) → u 0 ≡ b → all_below (suc m) v ≡ u 0
      go true e = (all_iff (suc m) v).1 (λ s l. h s ∙ e) ∙ sym e
      go false e = all_stop (suc m) v 0 (omega arith) (h 0 ∙ e) ∙ sym e

  tried_same : tried (suc m) v ≡ tried 1 u + m * flag (all_below 1 u)
  unfolding tried all_below
  tried_same = go (u 0) refl
    where
      go : (b : Bool) → u 0 ≡ b → tried (suc m) v ≡ 1 + m * flag b
      go true e = tried_all (suc m) v ((all_iff (suc m) v).1 (λ s l. h s ∙ e)) ∙ omega arith
      go false e = tried_at (suc m) 0 v (omega arith) refl (h 0 ∙ e) ∙ omega arith

module _ (m : ℕ) (v u : ℕ → ℕ → Bool) (h : (k s : ℕ) → v k s ≡ u k 0) where
  marks_same : (w : ℕ) → word w (λ k. all_below (suc m) (v k)) ≡ word w (λ k. all_below 1 (u k))
  marks_same w = word_ext w (λ k. all_below (suc m) (v k)) (λ k. all_below 1 (u k)) (λ k l. all_same m (v k) (u k) (h k))

  trials_same : (w : ℕ) → sum w (λ k. tried (suc m) (v k)) ≡ sum w (λ k. tried 1 (u k)) + m * sum w (λ k. flag (all_below 1 (u k)))
  unfolding sum
  trials_same zero = omega arith
  trials_same (suc w) = omega (arith, trials_same w, tried_same m (v w) (u w) (h w))

-- the answer for n of them, from the answer for one
pub swept_same : (w n : ℕ) (v u : ℕ → ℕ → Bool) (one all : Swept) → 1 ≤ n → ((k s : ℕ) → v k s ≡ u k 0) → one ≡ swept_by w 1 u
    → all.mask ≡ one.mask → all.probes ≡ one.probes + (n - 1) * ones one.mask → all ≡ swept_by w n v
unfolding swept_by
swept_same w zero v u one all l h e a b = absurd (omega arith)
swept_same w (suc m) v u one all l h e a b =
    let x : one.mask ≡ word w (λ k. all_below 1 (u k)) = ap (λ (r : Swept). r.mask) e in
    let y : one.probes ≡ sum w (λ k. tried 1 (u k)) = ap (λ (r : Swept). r.probes) e in
    let z : suc m - 1 ≡ m = omega arith in
    let o : ones one.mask ≡ sum w (λ k. flag (all_below 1 (u k))) = ap ones x ∙ ones_word w (λ k. all_below 1 (u k)) in
    ap₂ {C = Swept} (λ (p q : ℕ). record { mask = p; probes = q })
    (a ∙ x ∙ sym (marks_same m v u h w))
    (b ∙ ap₂ (λ (p q : ℕ). one.probes + p * q) z o ∙ ap (λ (p : ℕ). p + m * sum w (λ k. flag (all_below 1 (u k)))) y ∙ sym (trials_same m v u h w))
