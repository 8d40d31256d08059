-- Laws of the samples tried: of one cell, through its first clear sample, and the bounds over several cells that a right line has. Assumes nothing.
use mathlib.Core.Path.{◌≡◌, refl, sym, ap, ap₂, ◌∙◌}
use mathlib.Core.Bool.{Bool, true, false, ◌&&◌}
use Prim.Native.Nat.{ℕ, zero, suc, ◌+◌, ◌-◌, ◌*◌, ◌≤◌, ◌<◌}
use native.Mathlib.Nat.{add-suc, add-zero, not-suc-le-zero}
use native.Mathlib.Numerals.{add-one}
use native.Mathlib.Omega.{arith}
use Rattle.buffers.specs.Ranges.{flag, sum, all_below}
use Rattle.buffers.proofs.Ranges.{sum_ext, all_ext}
use Rattle.buffers.proofs.Tests.{and_left, flag_le}
use Rattle.roll_sweep.specs.Sweep.{tried}

-- ---- one cell: v says which samples violate it

pub tried_zero : (v : ℕ → Bool) → tried 0 v ≡ 0
unfolding tried
tried_zero v = refl

pub tried_next : (n : ℕ) (v : ℕ → Bool) → tried (n + 1) v ≡ tried n v + flag (all_below n v)
unfolding tried
tried_next n v = ap (λ (m : ℕ). sum m (λ k. flag (all_below k v))) (add-one n)

pub tried_le : (n : ℕ) (v : ℕ → Bool) → tried n v ≤ n
unfolding tried
tried_le zero v = omega arith
tried_le (suc n) v = omega (arith, tried_le n v, flag_le (all_below n v))

-- all violate it: all are tried
pub tried_all : (n : ℕ) (v : ℕ → Bool) → all_below n v ≡ true → tried n v ≡ n
unfolding tried
tried_all zero v h = refl
tried_all (suc n) v h =
    let l : all_below n v ≡ true = and_left (all_below n v) (v n) h in
    omega (arith, tried_all n v l, ap flag l)

-- sample k is the first clear one: k + 1 are tried
pub tried_first : (k m : ℕ) (v : ℕ → Bool) → all_below k v ≡ true → v k ≡ false → tried (suc k + m) v ≡ suc k
unfolding tried
tried_first k zero v h e = ap (λ (n : ℕ). tried n v) (add-zero (suc k)) ∙ omega (arith, tried_all k v h, ap flag h)
tried_first k (suc m) v h e = ap (λ (n : ℕ). tried n v) (add-suc (suc k) m) ∙ omega (arith, tried_first k m v h e, ap flag (stop m))
  where
    stop : (j : ℕ) → all_below (suc k + j) v ≡ false
    stop zero = ap (λ (n : ℕ). all_below n v) (add-zero (suc k)) ∙ ap₂ (λ (a b : Bool). a && b) h e
    stop (suc j) = ap (λ (n : ℕ). all_below n v) (add-suc (suc k) j) ∙ ap (λ (a : Bool). a && v (suc k + j)) (stop j)

pub tried_at : (n k : ℕ) (v : ℕ → Bool) → k < n → all_below k v ≡ true → v k ≡ false → tried n v ≡ k + 1
tried_at n k v l h e =
    let q : n ≡ suc k + (n - suc k) = omega arith in
    ap (λ (m : ℕ). tried m v) q ∙ tried_first k (n - suc k) v h e ∙ sym (add-one k)

pub tried_ext : (n : ℕ) (v w : ℕ → Bool) → ((k : ℕ) → k < n → v k ≡ w k) → tried n v ≡ tried n w
unfolding tried
tried_ext n v w h = sum_ext n (λ k. flag (all_below k v)) (λ k. flag (all_below k w)) (λ k l. ap flag (all_ext k v w (λ j g. h j (omega arith))))

tried_some : (n : ℕ) (v : ℕ → Bool) → 1 ≤ tried (suc n) v
unfolding tried
tried_some zero v = omega arith
tried_some (suc n) v = omega (arith, tried_some n v)

-- a cell is tried once at least, n times if it is marked, and n times at most
pub tried_bounds : (n : ℕ) (v : ℕ → Bool) → 1 ≤ n → (1 + n * flag (all_below n v) ≤ tried n v + flag (all_below n v)) × (tried n v ≤ n)
tried_bounds zero v h = absurd (not-suc-le-zero h)
tried_bounds (suc n) v h = (go (all_below (suc n) v) refl, tried_le (suc n) v)
  where
    go : (b : Bool) → all_below (suc n) v ≡ b → 1 + suc n * flag b ≤ tried (suc n) v + flag b
    go true e = omega (arith, tried_all (suc n) v e)
    go false e = omega (arith, tried_some n v)

-- ---- w cells: from w, less the marked, plus n for each marked, to n for each
pub probes_bounds : (w n : ℕ) (v : ℕ → ℕ → Bool) → 1 ≤ n
    → (w + n * sum w (λ k. flag (all_below n (v k))) ≤ sum w (λ k. tried n (v k)) + sum w (λ k. flag (all_below n (v k))))
    × (sum w (λ k. tried n (v k)) ≤ n * w)
    × (sum w (λ k. flag (all_below n (v k))) ≤ w)
unfolding sum
probes_bounds zero n v h = (omega arith, omega arith, omega arith)
probes_bounds (suc w) n v h =
    let i = probes_bounds w n v h in
    let b = tried_bounds n (v w) h in
    (omega (arith, i.0, b.0), omega (arith, i.1, b.1), omega (arith, i.2, flag_le (all_below n (v w))))
