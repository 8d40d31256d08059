-- A list that holds rows of `times` cells, one row after the other, written some columns at a time. Definitions only. Assumes nothing.
use Rattle.std.specs.Prelude.{◌≡◌, List, ℕ, ◌+◌, ◌*◌, ◌<◌, ◌≤◌, length, get_or}

-- The list `new` is the list `old` where, of each of the first `done` of `rows` rows, the `count` cells from column `from` on hold f row column.
-- Columns before these and places beyond the rows stay; of later columns nothing is said, since they are written later. d is any value.
pub record ColumnsWritten {A : Type 0} (rows times done from count : ℕ) (f : ℕ → ℕ → A) (d : A) (old new : List A) : Type 0 where
  pub same : length new ≡ length old
  pub inside : (r j : ℕ) → r < done → from ≤ j → j < from + count → get_or new (r * times + j) d ≡ f r j
  pub before : (r j : ℕ) → r < rows → j < from → get_or new (r * times + j) d ≡ get_or old (r * times + j) d
  pub beyond : (k : ℕ) → rows * times ≤ k → get_or new k d ≡ get_or old k d
