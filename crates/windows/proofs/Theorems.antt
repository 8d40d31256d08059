-- Section 5's theorems, about the definitions that the public contracts cite: what the violation windows and the visibility windows of a row are;
-- that expanding the violation windows gives the mask back; `ConstraintResult`'s visibility windows; the sum of seconds. Last, what a row's listings
-- and its expansion say together when they are accepted. Assumes nothing.
use Rattle.std.proofs.Common.{◌≡◌, ℕ, ◌+◌, ◌/◌, ◌<◌, ◌≤◌, Bool, false, ◌||◌, List, [], ◌∷◌, map, length, get_or, take, ℤ, pos, nat_abs, sym, refl, ap, ◌∙◌, arith, take_at}
use mathlib.Core.List.{map-map, Memᴰ}
use lib.ListN.{length-map}
use lib.Ieee.{Float, nan, binary64, of_int}
use lib.Ieee.Exact.{HasValue}
use Rattle.buffers.specs.Ranges.{any}
use Rattle.buffers.specs.Lent.{over}
use Rattle.buffers.proofs.Tests.{or_left, or_none}
use Rattle.buffers.proofs.Ranges.{any_get_or}
use Rattle.float.specs.Arithmetic.{zero·0}
use Rattle.windows.specs.Runs.{Run, samples_are, violation_runs, visibility_runs}
use Rattle.windows.specs.Maximal.{Maximal, Visible, Exactly, sample_is}
use Rattle.windows.specs.Windows.{largest, window_of, violation_windows, visibility_windows, Columns, written}
use Rattle.windows.specs.Refusal.{most_lent, beyond, bad_mark, bad_severity, differ, lengths, no_room, violation_refusal}
use Rattle.windows.specs.Expand.{spans, Increasing, expanded, constraint_result_visibility, expand_refusal}
use Rattle.windows.specs.Seconds.{total_seconds, float_seconds, duration_refusal}
use Rattle.windows.specs.Steps.{starts}
use Rattle.windows.specs.declared.Window.{Window}
use Rattle.windows.proofs.MaximalRuns.{violation_runs_lem, visibility_runs_lem, violation_count, violation_bound, visibility_bound, within, length_samples}
use Rattle.windows.proofs.Severities.{Largest, severity_is_largest}
use Rattle.windows.proofs.MaskBack.{mask_back}
use Rattle.windows.proofs.Refusals.{WindowsAccepted, windows_accepted, expand_accepts, same_at}
use Rattle.windows.proofs.Durations.{negative, float_sum_exact, total_exact}

-- ---- violation windows

-- They are the windows of the maximal marked runs, each once, in time order; as many as there are marked samples with no marked one directly before
-- them, so at most (times + 1) / 2; and a run's severity is the largest of its samples', where all severities are accepted.
pub record ViolationWindows (mask : List ℕ) (times : List ℤ) (severities : List Float) : Type 0 where
  pub windows : violation_windows mask times severities ≡ map (window_of times (largest severities)) (violation_runs mask)
  pub runs : Exactly (Maximal (sample_is 1 mask)) (violation_runs mask)
  pub count : length (violation_windows mask times severities) ≡ starts false (samples_are 1 mask)
  pub bound : length (violation_windows mask times severities) ≤ (length mask + 1) / 2
  pub severity : length severities ≡ length mask → any bad_severity severities ≡ false → (r : Run) → Memᴰ r (violation_runs mask) → Largest severities r.first r.last (largest severities r)

pub violation_windows_lem : (mask : List ℕ) (times : List ℤ) (severities : List Float) → ViolationWindows mask times severities
unfolding violation_windows samples_are
violation_windows_lem mask times severities = record {
  windows = refl;
  runs = violation_runs_lem mask;
  count = length-map (violation_runs mask) (window_of times (largest severities)) ∙ violation_count mask;
  bound = omega (arith, length-map (violation_runs mask) (window_of times (largest severities)), violation_bound mask);
  severity = λ e g r h.
      let m = (violation_runs_lem mask).only r h in
      severity_is_largest severities r m.ordered (λ k a b. any_get_or bad_severity severities nan k g (omega (arith, within (samples_are 1 mask) r m, length_samples 1 mask)));
}

-- ---- visibility windows

-- They are the windows of rule V's runs, each once, in time order, with severity zero.
pub record VisibilityWindows (mask : List ℕ) (times : List ℤ) : Type 0 where
  pub windows : visibility_windows mask times ≡ map (window_of times (λ (r : Run). zero·0)) (visibility_runs mask)
  pub runs : Exactly (Visible mask) (visibility_runs mask)
  pub bound : length (visibility_windows mask times) ≤ (length mask + 1) / 2

pub visibility_windows_lem : (mask : List ℕ) (times : List ℤ) → VisibilityWindows mask times
unfolding visibility_windows
visibility_windows_lem mask times = record {
  windows = refl;
  runs = visibility_runs_lem mask;
  bound = omega (arith, length-map (visibility_runs mask) (window_of times (λ (r : Run). zero·0)), visibility_bound mask);
}

-- ---- expansion

-- the columns of first and of last times of a list of windows
abbrev pub first_times : List Window → List ℤ
first_times = map (λ (w : Window). w.first_time)

abbrev pub last_times : List Window → List ℤ
last_times = map (λ (w : Window). w.last_time)

module _ (mask : List ℕ) (times : List ℤ) (severities : List Float) where
  first_times_lem : first_times (violation_windows mask times severities) ≡ map (λ (r : Run). get_or times r.first (pos 0)) (violation_runs mask)
  unfolding violation_windows window_of
  first_times_lem = map-map (λ (w : Window). w.first_time) (window_of times (largest severities)) (violation_runs mask)

  last_times_lem : last_times (violation_windows mask times severities) ≡ map (λ (r : Run). get_or times r.last (pos 0)) (violation_runs mask)
  unfolding violation_windows window_of
  last_times_lem = map-map (λ (w : Window). w.last_time) (window_of times (largest severities)) (violation_runs mask)

  -- with strictly increasing times, expanding the violation windows of a mask gives the mask back
  pub expand_gives_mask : length times ≡ length mask → any bad_mark mask ≡ false → Increasing times
      → expanded times (spans (first_times (violation_windows mask times severities)) (last_times (violation_windows mask times severities))) ≡ mask
  expand_gives_mask l e up = rw (first_times_lem, last_times_lem) (mask_back mask times l e up)

  -- so `ConstraintResult`'s visibility windows, which are those of the expanded mask, are then those of the mask
  pub constraint_result : length times ≡ length mask → any bad_mark mask ≡ false → Increasing times
      → constraint_result_visibility times (spans (first_times (violation_windows mask times severities)) (last_times (violation_windows mask times severities))) ≡ visibility_runs mask
  unfolding constraint_result_visibility
  constraint_result l e up = ap visibility_runs (expand_gives_mask l e up)

-- ---- seconds

-- "summed as f64, exactly": the seconds of the windows, summed as f64 in their order from zero, are their whole-number sum as an f64, and that f64 is
-- exactly this number
pub record SecondsExact (firsts lasts : List ℤ) : Type 0 where
  pub summed : float_seconds zero·0 firsts lasts ≡ of_int binary64 (total_seconds firsts lasts)
  pub exactly : HasValue (of_int binary64 (total_seconds firsts lasts)) (negative (total_seconds firsts lasts)) (nat_abs (total_seconds firsts lasts)) 1

-- of accepted windows
pub seconds_exact : (firsts lasts : List ℤ) → duration_refusal firsts lasts ≡ 0 → SecondsExact firsts lasts
seconds_exact firsts lasts ok = record { summed = float_sum_exact firsts lasts ok; exactly = total_exact firsts lasts ok }

-- ---- a row: both listings and the expansion, accepted

-- the windows that a listing has written are in the first places of each column
written_column : {A : Type 0} (f : Window → A) (ws : List Window) (old : List A) → take (length ws) (over (map f ws) old) ≡ map f ws
unfolding over
written_column f ws old = take_at (map f ws) _ (length ws) (length-map ws f)

module _ (ws : List Window) (d : Columns) where
  pub first_written : take (length ws) (written ws d).first ≡ map (λ (w : Window). w.first) ws
  unfolding written
  first_written = written_column (λ (w : Window). w.first) ws d.first

  pub last_written : take (length ws) (written ws d).last ≡ map (λ (w : Window). w.last) ws
  unfolding written
  last_written = written_column (λ (w : Window). w.last) ws d.last

  pub first_time_written : take (length ws) (written ws d).first_time ≡ first_times ws
  unfolding written
  first_time_written = written_column (λ (w : Window). w.first_time) ws d.first_time

  pub last_time_written : take (length ws) (written ws d).last_time ≡ last_times ws
  unfolding written
  last_time_written = written_column (λ (w : Window). w.last_time) ws d.last_time

-- an element of a list of times, or none of them
any_map : {A : Type 0} (p : ℤ → Bool) (f : A → ℤ) (l : List A) → ((x : A) → Memᴰ x l → p (f x) ≡ false) → any p (map f l) ≡ false
unfolding any
any_map p f [] h = refl
any_map p f (x ∷ l) h = or_none (p (f x)) (any p (map f l)) (h x (Memᴰ.head refl)) (any_map p f l (λ y m. h y (Memᴰ.tail m)))

-- A row of samples at strictly increasing times whose violation listing is accepted, into the columns d: what is written there are the windows of its
-- maximal marked runs; expand accepts their times with the same times and room enough, and gives the mask back.
module _ (mask : List ℕ) (times : List ℤ) (severities : List Float) (d : Columns) (ok : violation_refusal mask times severities (lengths d) ≡ 0) (up : Increasing times) where
  abbrev ws : List Window
  ws = violation_windows mask times severities

  facts : WindowsAccepted (differ (length mask ∷ length times ∷ length severities ∷ []) || differ (lengths d)) mask times severities (no_room (lengths d) (length (violation_runs mask)))
  unfolding violation_refusal
  facts = windows_accepted _ mask times severities _ ok

  timed : length times ≡ length mask
  timed = same_at (length mask) (length times ∷ length severities ∷ []) 0 (or_left (differ (length mask ∷ length times ∷ length severities ∷ [])) (differ (lengths d)) facts.even) (omega arith)

  in_row : (r : Run) → Memᴰ r (violation_runs mask) → (r.first ≤ r.last) × (r.last < length times)
  unfolding samples_are
  in_row r h = let m = (violation_runs_lem mask).only r h in (m.ordered, omega (arith, within (samples_are 1 mask) r m, length_samples 1 mask, timed))

  pub row_expand_accepted : (places : ℕ) → length times ≤ places
      → expand_refusal (take (length ws) (written ws d).first_time) (take (length ws) (written ws d).last_time) times places ≡ 0
  row_expand_accepted places room =
      rw (first_time_written ws d, last_time_written ws d, first_times_lem mask times severities, last_times_lem mask times severities)
      (accept (violation_runs mask)
      (omega (arith, violation_bound mask, facts.few))
      (any_map beyond (λ (r : Run). get_or times r.first (pos 0)) (violation_runs mask) (λ r h. let b = in_row r h in any_get_or beyond times (pos 0) r.first facts.timely (omega arith)))
      (any_map beyond (λ (r : Run). get_or times r.last (pos 0)) (violation_runs mask) (λ r h. any_get_or beyond times (pos 0) r.last facts.timely (in_row r h).1)))
    where
      accept : (rs : List Run) → length rs ≤ most_lent → any beyond (map (λ (r : Run). get_or times r.first (pos 0)) rs) ≡ false → any beyond (map (λ (r : Run). get_or times r.last (pos 0)) rs) ≡ false
          → expand_refusal (map (λ (r : Run). get_or times r.first (pos 0)) rs) (map (λ (r : Run). get_or times r.last (pos 0)) rs) times places ≡ 0
      accept rs few a b = expand_accepts (map (λ (r : Run). get_or times r.first (pos 0)) rs) (map (λ (r : Run). get_or times r.last (pos 0)) rs) times places
          (length-map rs _ ∙ sym (length-map rs _)) (rw (length-map rs (λ (r : Run). get_or times r.first (pos 0))) few) (omega (arith, facts.few, timed)) a b facts.timely room

  pub row_expands : expanded times (spans (take (length ws) (written ws d).first_time) (take (length ws) (written ws d).last_time)) ≡ mask
  row_expands = rw (first_time_written ws d, last_time_written ws d) (expand_gives_mask mask times severities timed facts.marks up)
