-- Section 5: what both listings, as columns and as records, expand and the seconds answer, and what they leave in the lists that they are lent. The
-- contracts of these calls cite these definitions. Definitions only. Assumes nothing.
use Rattle.std.specs.Prelude.{ℕ, List, [], ◌∷◌, length, ℤ, Float}
use Rattle.std.specs.Float.{binary64}
use Rattle.std.specs.Float.Ieee.{of_int}
use Rattle.buffers.specs.Lent.{over}
use Rattle.buffers.specs.Refusal.{Reply, reply, unless_refused}
use Rattle.windows.specs.Windows.{violation_windows, visibility_windows, Columns, written}
use Rattle.windows.specs.Refusal.{lengths, violation_refusal, visibility_refusal}
use Rattle.windows.specs.Expand.{spans, expanded, expand_refusal}
use Rattle.windows.specs.Seconds.{total_seconds, duration_refusal}
use Rattle.windows.specs.declared.Window.{Window}

-- ---- the listings into six lent columns c

-- how many violation windows there are
abbrev pub violation_reply : List ℕ → List ℤ → List Float → Columns → Reply ℕ
violation_reply mask times severities c = reply (violation_refusal mask times severities (lengths c)) (length (violation_windows mask times severities))

-- c with the violation windows in its first places
abbrev pub violation_columns : List ℕ → List ℤ → List Float → Columns → Columns
violation_columns mask times severities c =
    unless_refused (violation_refusal mask times severities (lengths c)) (written (violation_windows mask times severities) c) c

-- how many visibility windows there are
abbrev pub visibility_reply : List ℕ → List ℤ → Columns → Reply ℕ
visibility_reply mask times c = reply (visibility_refusal mask times (lengths c)) (length (visibility_windows mask times))

-- c with the visibility windows in its first places
abbrev pub visibility_columns : List ℕ → List ℤ → Columns → Columns
visibility_columns mask times c = unless_refused (visibility_refusal mask times (lengths c)) (written (visibility_windows mask times) c) c

-- ---- the thin calls: the same windows as records, into one lent list `out`

-- how many violation windows there are
abbrev pub violation_records_reply : List ℕ → List ℤ → List Float → List Window → Reply ℕ
violation_records_reply mask times severities out =
    reply (violation_refusal mask times severities (length out ∷ [])) (length (violation_windows mask times severities))

-- `out` with the violation windows in its first places
abbrev pub violation_records : List ℕ → List ℤ → List Float → List Window → List Window
violation_records mask times severities out =
    unless_refused (violation_refusal mask times severities (length out ∷ [])) (over (violation_windows mask times severities) out) out

-- how many visibility windows there are
abbrev pub visibility_records_reply : List ℕ → List ℤ → List Window → Reply ℕ
visibility_records_reply mask times out = reply (visibility_refusal mask times (length out ∷ [])) (length (visibility_windows mask times))

-- `out` with the visibility windows in its first places
abbrev pub visibility_records : List ℕ → List ℤ → List Window → List Window
visibility_records mask times out = unless_refused (visibility_refusal mask times (length out ∷ [])) (over (visibility_windows mask times) out) out

-- ---- expand, of windows by their first and last times

-- 0 where it accepts
abbrev pub expand_reply : List ℤ → List ℤ → List ℤ → List ℕ → Reply ℕ
expand_reply firsts lasts times mask = reply (expand_refusal firsts lasts times (length mask)) 0

-- the lent mask with a byte for each of the times in its first places
abbrev pub expand_mask : List ℤ → List ℤ → List ℤ → List ℕ → List ℕ
expand_mask firsts lasts times mask =
    unless_refused (expand_refusal firsts lasts times (length mask)) (over (expanded times (spans firsts lasts)) mask) mask

-- ---- seconds, of windows by their first and last times

-- each window's length in whole seconds, summed exactly, as an f64
abbrev pub duration_reply : List ℤ → List ℤ → Reply Float
duration_reply firsts lasts = reply (duration_refusal firsts lasts) (of_int binary64 (total_seconds firsts lasts))
