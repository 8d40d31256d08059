-- What a call leaves in a lent list: its first places written, or bytes put at an index. Definitions only. Assumes nothing.
use Rattle.std.specs.Prelude.{List, ◌++◌, ℕ, ◌+◌, length, take, drop}
use Rattle.buffers.specs.Ranges.{tab}

-- the list `old` with t written from its first place on; the places beyond stay
unfoldable pub over : {A : Type 0} → List A → List A → List A
over t old = t ++ drop (length t) old

-- the list `old` with f 0, .., f (n - 1) written into its first n places; the places beyond stay
unfoldable pub filled : {A : Type 0} → ℕ → (ℕ → A) → List A → List A
unfolding tab
filled n f old = tab n f ++ drop n old

-- the list `old` with t written from place i on; the places before and beyond stay
unfoldable pub put : {A : Type 0} → ℕ → List A → List A → List A
put i t old = take i old ++ (t ++ drop (i + length t) old)
