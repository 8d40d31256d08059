-- Demand 3's windows: what both listings and expand, lent a row's part of a mask and the times, make of it. Each clause stands under the
-- customer's words. What a call answers and leaves in the columns and the mask that it is lent is said by the definitions that its contract cites:
-- violationReply, violationColumns, visibilityReply, visibilityColumns, expandReply, expandMask. Definitions only. Assumes nothing.
use Rattle.std.specs.Prelude.{◌≡◌, false, List, [], ◌∷◌, map, ℕ, ◌*◌, ◌≤◌, length, get_or, take, drop, ℤ, pos, Float}
use Rattle.buffers.specs.Ranges.{any}
use Rattle.buffers.specs.Lent.{over}
use Rattle.buffers.specs.Refusal.{accepted}
use Rattle.windows.specs.Runs.{Run, run}
use Rattle.windows.specs.Maximal.{sample_is, Maximal, Visible, Exactly}
use Rattle.windows.specs.Windows.{Columns}
use Rattle.windows.specs.Refusal.{beyond}
use Rattle.windows.specs.Expand.{Increasing}
use Rattle.windows.specs.Calls.{violation_reply, violation_columns, visibility_reply, visibility_columns, expand_reply, expand_mask}

-- "with strictly increasing times in document 01's range": a time for each of a row's n samples, none if there are none
pub record Times (n : ℕ) (times : List ℤ) : Type 0 where
  pub each : length times ≡ n
  pub increasing : Increasing times
  pub in_range : any beyond times ≡ false

-- of a mask whose rows have n samples each, row r's part
abbrev pub row_part : ℕ → ℕ → List ℕ → List ℕ
row_part n r mask = take n (drop (r * n) mask)

-- the runs of a column of first and a column of last sample numbers
unfoldable pub runs_of : List ℕ → List ℕ → List Run
runs_of [] ls = []
runs_of (f ∷ fs) [] = []
runs_of (f ∷ fs) (l ∷ ls) = run f l ∷ runs_of fs ls

-- the first n places of the columns c hold n windows: of exactly the runs that P says, each once, in time order, with the times of their samples
pub record Listed (P : Run → Type 0) (times : List ℤ) (n : ℕ) (c : Columns) : Type 0 where
  pub count : length (runs_of (take n c.first) (take n c.last)) ≡ n
  pub runs : Exactly P (runs_of (take n c.first) (take n c.last))
  pub first_times : take n c.first_time ≡ map (λ (k : ℕ). get_or times k (pos 0)) (take n c.first)
  pub last_times : take n c.last_time ≡ map (λ (k : ℕ). get_or times k (pos 0)) (take n c.last)

-- expand, lent the n windows in the columns c by their times, accepts, and leaves `part` in the first places of the lent mask
pub record ExpandsTo (part : List ℕ) (times : List ℤ) (n : ℕ) (c : Columns) (mask : List ℕ) : Type 0 where
  pub accepts : expand_reply (take n c.first_time) (take n c.last_time) times mask ≡ accepted 0
  pub leaves : expand_mask (take n c.first_time) (take n c.last_time) times mask ≡ over part mask

-- "For demand 3 both listings are lent a row's part of collect's mask and the times, with any severities and room that they accept; expand gets the
-- violation windows, the same times and room enough."
pub record RowWindows (times : List ℤ) (part : List ℕ) : Type 0 where
  -- "Each row's violation windows are its maximal marked runs, each once, in time order,"
  pub violations : (severities : List Float) (room : Columns) (n : ℕ) → violation_reply part times severities room ≡ accepted n
      → Listed (Maximal (sample_is 1 part)) times n (violation_columns part times severities room)
  -- "and expand to its part of that mask."
  pub expand : (severities : List Float) (room : Columns) (n : ℕ) → violation_reply part times severities room ≡ accepted n
      → (mask : List ℕ) → length times ≤ length mask → ExpandsTo part times n (violation_columns part times severities room) mask
  -- "Its visibility windows are every clear run that rule V lists, each once, in time order."
  pub visible : (room : Columns) (n : ℕ) → visibility_reply part times room ≡ accepted n
      → Listed (Visible part) times n (visibility_columns part times room)
