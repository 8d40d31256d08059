-- What the lists of runs are, said without saying how they are found: which run is maximal, which clear run rule V lists, and when a list holds
-- exactly such runs, each once, in time order. That the runs of Runs.antt are these is proved. Definitions only. Assumes nothing.
use Rattle.std.specs.Prelude.{◌≡◌, ℕ, suc, ◌+◌, ◌<◌, ◌≤◌, Bool, true, false, ◌⊎◌, List, [], ◌∷◌, length, slice_index_or}
use mathlib.Core.List.{Memᴰ}
use Rattle.windows.specs.Runs.{Run, samples_are}

-- whether sample k of a row is there, and true
abbrev pub true_at : List Bool → ℕ → Bool
true_at m k = slice_index_or m k false

-- whether sample k of a mask is there, and is the byte v
abbrev pub sample_is : ℕ → List ℕ → ℕ → Bool
unfolding samples_are
sample_is v m k = true_at (samples_are v m) k

-- r is a maximal run of the samples at which g is true: neither the sample before it nor the one after it is
pub record Maximal (g : ℕ → Bool) (r : Run) : Type 0 where
  pub ordered : r.first ≤ r.last
  pub inside : (k : ℕ) → r.first ≤ k → k ≤ r.last → g k ≡ true
  pub before : (k : ℕ) → suc k ≡ r.first → g k ≡ false
  pub after : g (suc r.last) ≡ false

-- a run that rule V keeps: maximal among the clear samples, of two samples or more, or reaching the last
pub record Visible (m : List ℕ) (r : Run) : Type 0 where
  pub clear : Maximal (sample_is 0 m) r
  pub long : (r.first < r.last) ⊎ (r.last + 1 ≡ length m)

-- in time order, none touching the next, so each once
abbrev pub InOrder : List Run → Type 0
InOrder [] = Unit {0}
InOrder (r ∷ rs) = (r.first ≤ r.last) × ((x : Run) → Memᴰ x rs → suc r.last < x.first) × InOrder rs

-- the runs of a list are exactly those that P says, each once, in time order
pub record Exactly (P : Run → Type 0) (rs : List Run) : Type 0 where
  pub only : (r : Run) → Memᴰ r rs → P r
  pub each : (r : Run) → P r → Memᴰ r rs
  pub order : InOrder rs
