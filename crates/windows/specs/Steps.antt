-- What the private functions of the listings say to one another: which runs a listing gives, and what is left of them from a sample on. No public
-- contract cites these. Definitions only. Assumes nothing.
use Rattle.std.specs.Prelude.{◌≡◌, ℕ, suc, ◌+◌, ◌-◌, ◌<◌, ◌≤◌, Bool, true, cond, not, ◌&&◌, ◌||◌, List, [], ◌∷◌, map, length, drop, ℤ, nat_le, slice_set, Float}
use Rattle.buffers.specs.Ranges.{flag}
use Rattle.float.specs.Arithmetic.{zero·0}
use Rattle.windows.specs.Runs.{Run, run, shut, runs_from, samples_are, filter, rule_v}
use Rattle.windows.specs.Windows.{Columns, largest, window_of}
use Rattle.windows.specs.Refusal.{differ, no_room, windows_refusal}
use Rattle.windows.specs.Expand.{Span, spans}
use Rattle.windows.specs.declared.Window.{Window}
use Rattle.windows.specs.declared.Spans.{Spans}
use Rattle.windows.specs.declared.Listing.{Listing}
use Rattle.windows.specs.declared.Listing.TheVariants.{Violations, Visibility}

-- whether the top bit of a 64-bit number is set
abbrev pub top_bit : ℕ → Bool
top_bit n = nat_le 0x8000_0000_0000_0000 n

-- how many elements at the front of a list have the property p
unfoldable pub leading : {A : Type 0} → (A → Bool) → List A → ℕ
leading p [] = 0
leading p (x ∷ xs) = cond (p x) (suc (leading p xs)) 0

-- how many samples are true with no true one directly before them; b is the sample before the first of the list
unfoldable pub starts : Bool → List Bool → ℕ
starts b [] = 0
starts b (x ∷ m) = flag (x && not b) + starts x m

-- the byte whose runs a listing gives
unfoldable pub byte_of : Listing → ℕ
byte_of Violations = 1
byte_of Visibility = 0

-- whether a listing of n samples keeps a maximal run of its byte
unfoldable pub keeps : Listing → ℕ → Run → Bool
unfolding rule_v
keeps Violations n r = true
keeps Visibility n r = rule_v n r

-- the severity of a run in a listing
unfoldable pub severity_of : Listing → List Float → Run → Float
unfolding largest
severity_of Violations severities r = largest severities r
severity_of Visibility severities r = zero·0

-- the runs of a listing from sample i on, where no run is open before it
unfoldable pub runs_left : Listing → List ℕ → ℕ → List Run
unfolding filter keeps runs_from samples_are byte_of
runs_left l mask i = filter (keeps l (length mask)) (runs_from i shut (samples_are (byte_of l) (drop i mask)))

-- and their windows
unfoldable pub windows_left : Listing → List ℕ → List ℤ → List Float → ℕ → List Window
unfolding window_of severity_of runs_left
windows_left l mask times severities i = map (window_of times (severity_of l severities)) (runs_left l mask i)

-- the next run of a listing from sample `from` on goes from `first` to `end` - 1
pub record IsNextRun (l : Listing) (mask : List ℕ) (from first end : ℕ) : Type 0 where
  pub within : end ≤ length mask
  pub onward : from < end
  pub some : first < end
  pub left : runs_left l mask from ≡ run first (end - 1) ∷ runs_left l mask end

-- a row's lists differ in length: visibility looks at no severities
unfoldable pub uneven : Listing → List ℕ → List ℤ → List Float → Bool
unfolding differ
uneven Violations mask times severities = differ (length mask ∷ length times ∷ length severities ∷ [])
uneven Visibility mask times severities = differ (length mask ∷ length times ∷ [])

-- why a listing is refused, 0 for none: `places` are the lengths of the lists that it is lent for windows
unfoldable pub listing_refusal : Listing → List ℕ → List ℤ → List Float → List ℕ → ℕ
unfolding uneven differ windows_refusal no_room runs_left
listing_refusal l mask times severities places =
    windows_refusal (uneven l mask times severities || differ places) mask times severities (no_room places (length (runs_left l mask 0)))

-- a row of samples that a listing has accepted
pub record Row (l : Listing) (mask : List ℕ) (times : List ℤ) (severities : List Float) : Type 0 where
  pub timed : length times ≡ length mask
  pub rated : l ≡ Violations → length severities ≡ length mask

-- each column has a place for each of n windows
pub record Room (n : ℕ) (c : Columns) : Type 0 where
  pub first : n ≤ length c.first
  pub last : n ≤ length c.last
  pub first_time : n ≤ length c.first_time
  pub last_time : n ≤ length c.last_time
  pub severity : n ≤ length c.severity
  pub is_last : n ≤ length c.is_last

-- the columns with a window stored at place k
unfoldable pub stored : ℕ → Window → Columns → Columns
stored k w c = record {
  first = slice_set c.first k w.first;
  last = slice_set c.last k w.last;
  first_time = slice_set c.first_time k w.first_time;
  last_time = slice_set c.last_time k w.last_time;
  severity = slice_set c.severity k w.severity;
  is_last = slice_set c.is_last k w.is_last;
}

-- ---- windows by their times: as many last ones as first ones, and the windows
abbrev pub Even : Spans → Type 0
Even s = length s.last.now ≡ length s.first.now

abbrev pub spans_of : Spans → List Span
spans_of s = spans s.first.now s.last.now
