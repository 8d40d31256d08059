-- Section 5's window records: of each run its sample numbers, its times, its severity and its last flag; the lists of violation and of visibility
-- windows; and these lists written as columns. Definitions only. Assumes nothing.
use Rattle.std.specs.Prelude.{ℕ, zero, suc, ◌+◌, ◌-◌, cond, List, map, length, ℤ, pos, ◌==◌, slice_index_or, Float}
use Rattle.std.specs.Float.{nan}
use Rattle.std.specs.Float.Ieee.{lt}
use Rattle.buffers.specs.Ranges.{flag}
use Rattle.buffers.specs.Lent.{over}
use Rattle.float.specs.Arithmetic.{zero·0}
use Rattle.windows.specs.Runs.{Run, violation_runs, visibility_runs}
use Rattle.windows.specs.declared.Window.{Window}

-- the larger of two floats that are no NaN
unfoldable pub larger : Float → Float → Float
larger a b = cond (lt a b) b a

-- the largest of the samples s to s + n
unfoldable pub largest_from : List Float → ℕ → ℕ → Float
unfolding larger
largest_from xs s zero = slice_index_or xs s nan
largest_from xs s (suc n) = larger (largest_from xs s n) (slice_index_or xs (s + suc n) nan)

-- the largest severity in a run
unfoldable pub largest : List Float → Run → Float
unfolding largest_from
largest xs r = largest_from xs r.first (r.last - r.first)

-- the window of a run, of a row of samples at these times; its last flag is 1 if it ends with the final sample
unfoldable pub window_of : List ℤ → (Run → Float) → Run → Window
window_of times severity r = record {
  first = r.first;
  last = r.last;
  first_time = slice_index_or times r.first (pos 0);
  last_time = slice_index_or times r.last (pos 0);
  severity = severity r;
  is_last = flag (r.last + 1 == length times);
}

-- violation windows have the largest severity in their run
unfoldable pub violation_windows : List ℕ → List ℤ → List Float → List Window
unfolding window_of largest violation_runs
violation_windows mask times severities = map (window_of times (largest severities)) (violation_runs mask)

-- visibility windows have severity zero
unfoldable pub visibility_windows : List ℕ → List ℤ → List Window
unfolding window_of visibility_runs
visibility_windows mask times = map (window_of times (λ (r : Run). zero·0)) (visibility_runs mask)

-- ---- columns

-- a lent list for each field of the record
pub record Columns : Type 0 where
  pub first : List ℕ
  pub last : List ℕ
  pub first_time : List ℤ
  pub last_time : List ℤ
  pub severity : List Float
  pub is_last : List ℕ

-- the columns of six lists, in the order in which a listing is lent them
abbrev pub columns : List ℕ → List ℕ → List ℤ → List ℤ → List Float → List ℕ → Columns
columns f l ft lt s il = record { first = f; last = l; first_time = ft; last_time = lt; severity = s; is_last = il }

-- the columns with a list of windows written into their first places; the places beyond stay
unfoldable pub written : List Window → Columns → Columns
unfolding over
written ws old = record {
  first = over (map (λ (w : Window). w.first) ws) old.first;
  last = over (map (λ (w : Window). w.last) ws) old.last;
  first_time = over (map (λ (w : Window). w.first_time) ws) old.first_time;
  last_time = over (map (λ (w : Window). w.last_time) ws) old.last_time;
  severity = over (map (λ (w : Window). w.severity) ws) old.severity;
  is_last = over (map (λ (w : Window). w.is_last) ws) old.is_last;
}
