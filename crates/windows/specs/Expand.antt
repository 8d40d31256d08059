-- Section 5's expansion of windows to a mask, `_get_constraint_vec`, both branches: they differ on windows that end before they start. Definitions
-- only. Assumes nothing.
use Rattle.std.specs.Prelude.{◌≡◌, ℕ, ◌<◌, Bool, true, false, cond, not, ◌&&◌, ◌||◌, List, [], ◌∷◌, map, length, ℤ, pos, int_lt, nat_lt, slice_index_or}
use Rattle.buffers.specs.Ranges.{flag, any}
use Rattle.buffers.specs.Refusal.{Conditions, first}
use Rattle.windows.specs.Runs.{Run, visibility_runs}
use Rattle.windows.specs.Refusal.{most_lent, beyond, differ}

-- a window's first and last time
pub record Span : Type 0 where
  pub first : ℤ
  pub last : ℤ

-- the window from time f to time l
abbrev pub span : ℤ → ℤ → Span
span f l = record { first = f; last = l }

-- the windows of two columns of times
unfoldable pub spans : List ℤ → List ℤ → List Span
spans [] ls = []
spans (f ∷ fs) [] = []
spans (f ∷ fs) (l ∷ ls) = span f l ∷ spans fs ls

-- strictly increasing: each time is after all that stand before it
abbrev pub Increasing : List ℤ → Type 0
Increasing ts = (j k : ℕ) → j < k → k < length ts → int_lt (slice_index_or ts j (pos 0)) (slice_index_or ts k (pos 0)) ≡ true

-- no time is before the one that stands before it; repeated times are in order
unfoldable pub in_order : List ℤ → Bool
in_order [] = true
in_order (t ∷ []) = true
in_order (t ∷ u ∷ ts) = not (int_lt u t) && in_order (u ∷ ts)

-- ---- times in order: windows that ended before a time are passed once, for it and for all later times

-- the windows from the first on that did not end before t
unfoldable pub skip : ℤ → List Span → List Span
skip t [] = []
skip t (w ∷ ws) = cond (int_lt w.last t) (skip t ws) (w ∷ ws)

-- t lies in the first of the windows
unfoldable pub in_first : ℤ → List Span → Bool
in_first t [] = false
in_first t (w ∷ ws) = not (int_lt t w.first) && not (int_lt w.last t)

-- the marks of the times, each by the first window that did not end before it
unfoldable pub expanded_in_order : List ℤ → List Span → List ℕ
unfolding skip in_first
expanded_in_order [] ws = []
expanded_in_order (t ∷ ts) ws = flag (in_first t (skip t ws)) ∷ expanded_in_order ts (skip t ws)

-- ---- times in any order: for each the windows are looked through, up to the first that starts after it

-- t lies in one of the windows that stand before the first that starts after it
unfoldable pub in_some : ℤ → List Span → Bool
in_some t [] = false
in_some t (w ∷ ws) = cond (int_lt t w.first) false (cond (int_lt w.last t) (in_some t ws) true)

-- the marks of the times, each by all the windows
unfoldable pub expanded_reordered : List ℤ → List Span → List ℕ
unfolding in_some
expanded_reordered ts ws = map (λ (t : ℤ). flag (in_some t ws)) ts

-- ---- both branches

-- the mask of the times, a byte a time: 1 where a window holds it
unfoldable pub expanded : List ℤ → List Span → List ℕ
unfolding in_order expanded_in_order expanded_reordered
expanded ts ws = cond (in_order ts) (expanded_in_order ts ws) (expanded_reordered ts ws)

-- `ConstraintResult`'s visibility windows: those of the expanded mask
unfoldable pub constraint_result_visibility : List ℤ → List Span → List Run
unfolding expanded visibility_runs
constraint_result_visibility ts ws = visibility_runs (expanded ts ws)

-- *Expand*: windows of two columns of times, the times, and the places of the mask
abbrev pub expand_conditions : List ℤ → List ℤ → List ℤ → ℕ → Conditions
expand_conditions firsts lasts times places =
    (differ (length firsts ∷ length lasts ∷ []), 1)
    ∷ (nat_lt most_lent (length firsts) || nat_lt most_lent (length times), 2)
    ∷ (any beyond firsts || (any beyond lasts || any beyond times), 8)
    ∷ (nat_lt places (length times), 7)
    ∷ []

-- the number of the first of these that holds, 0 for none
unfoldable pub expand_refusal : List ℤ → List ℤ → List ℤ → ℕ → ℕ
unfolding first
expand_refusal firsts lasts times places = first (expand_conditions firsts lasts times places)
