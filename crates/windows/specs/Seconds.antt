-- Section 5's seconds: each window's length divided by 1,000,000,000 toward zero, summed. Definitions only. Assumes nothing.
use Rattle.std.specs.Prelude.{ℕ, ◌||◌, List, [], ◌∷◌, length, ℤ, pos, ◌+ℤ◌, ◌-ℤ◌, int_div, nat_lt, Float}
use Rattle.std.specs.Float.{binary64}
use Rattle.std.specs.Float.Ieee.{of_int}
use Rattle.buffers.specs.Ranges.{any}
use Rattle.buffers.specs.Refusal.{Conditions, first}
use Rattle.float.specs.Arithmetic.{◌⊕◌}
use Rattle.windows.specs.Refusal.{most_lent, beyond, differ}

-- a window's length in whole seconds, toward zero
unfoldable pub seconds : ℤ → ℤ → ℤ
seconds first last = int_div (last -ℤ first) (pos 1_000_000_000)

-- their sum, over the windows of two columns of times
unfoldable pub total_seconds : List ℤ → List ℤ → ℤ
unfolding seconds
total_seconds [] ls = pos 0
total_seconds (f ∷ fs) [] = pos 0
total_seconds (f ∷ fs) (l ∷ ls) = seconds f l +ℤ total_seconds fs ls

-- the same numbers summed as f64, each sum rounded, from x on in the order of the windows
unfoldable pub float_seconds : Float → List ℤ → List ℤ → Float
unfolding seconds
float_seconds x [] ls = x
float_seconds x (f ∷ fs) [] = x
float_seconds x (f ∷ fs) (l ∷ ls) = float_seconds (x ⊕ of_int binary64 (seconds f l)) fs ls

-- *Seconds*: windows of two columns of times
abbrev pub duration_conditions : List ℤ → List ℤ → Conditions
duration_conditions firsts lasts =
    (differ (length firsts ∷ length lasts ∷ []), 1)
    ∷ (nat_lt most_lent (length firsts), 2)
    ∷ (any beyond firsts || any beyond lasts, 8)
    ∷ []

-- the number of the first of these that holds, 0 for none
unfoldable pub duration_refusal : List ℤ → List ℤ → ℕ
unfolding first
duration_refusal firsts lasts = first (duration_conditions firsts lasts)
