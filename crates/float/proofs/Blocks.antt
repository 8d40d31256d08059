-- Lists that a loop writes from the first place to the last. Assumes nothing.
use Rattle.std.proofs.Common.{◌≡◌, ℕ, refl, ◌≤◌, List, ◌++◌, length, get_or, drop, ap, ◌∙◌}
use mathlib.Core.List.{append-nil}
use lib.ListN.{drop_of_length-le}
use Rattle.buffers.specs.Ranges.{tab}
use Rattle.buffers.specs.Lent.{filled}
use Rattle.buffers.proofs.Ranges.{length_tab, tab_ext, get_or_tab}

module _ {A : Type 0} (f : ℕ → A) where
  -- all places
  pub filled_whole : (n : ℕ) (l : List A) → length l ≤ n → filled n f l ≡ tab n f
  unfolding filled
  filled_whole n l h = ap (λ (t : List A). tab n f ++ t) (drop_of_length-le l h) ∙ append-nil (tab n f)

  -- the first places, lent by themselves
  pub filled_part : (n : ℕ) (l : List A) → tab n f ++ drop n l ≡ filled n f l
  unfolding filled
  filled_part n l = refl

  -- each value written, then each made from the one that stands
  pub tab_then : (g : ℕ → A → A) (n : ℕ) (d : A) (m r : List A) → m ≡ tab n f → r ≡ tab (length m) (λ k. g k (get_or m k d)) → r ≡ tab n (λ k. g k (f k))
  tab_then g n d m r e h =
      h
      ∙ ap (λ (j : ℕ). tab j (λ k. g k (get_or m k d))) (ap length e ∙ length_tab n f)
      ∙ tab_ext n _ _ (λ k l. ap (g k) (ap (λ (t : List A). get_or t k d) e ∙ get_or_tab n f d k l))
