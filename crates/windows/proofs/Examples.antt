-- Records, columns, seconds and refusals by computation. Assumes nothing.
use Rattle.std.proofs.Common.{◌≡◌, ℕ, true, false, List, [], ◌∷◌, ℤ, pos, negsuc, Ok, Err, refl}
use lib.Ieee.{Float, nan, binary64, of_bits, of_int, lt}
use Rattle.buffers.specs.Ranges.{any}
use Rattle.buffers.specs.Lent.{over}
use Rattle.buffers.specs.Refusal.{first, refused, accepted, reply, unless_refused, number_of, replied}
use Rattle.buffers.specs.declared.reasons.Refusal.{Refusal}
use Rattle.float.specs.Arithmetic.{zero·0, sign_bit_of, finite}
use Rattle.windows.specs.Runs.{runs_from, samples_are, filter, rule_v, violation_runs, visibility_runs}
use Rattle.windows.specs.Windows.{larger, largest_from, largest, window_of, violation_windows, visibility_windows, columns}
use Rattle.windows.specs.Refusal.{beyond, bad_mark, bad_severity, differ, no_room, windows_refusal, violation_refusal, visibility_refusal}
use Rattle.windows.specs.Expand.{expand_refusal}
use Rattle.windows.specs.Seconds.{seconds, total_seconds, duration_refusal}
use Rattle.windows.specs.Calls.{violation_records_reply, violation_records, visibility_records_reply, visibility_records, expand_reply, duration_reply}
use Rattle.windows.specs.declared.Window.{Window}

-- a whole number as an f64
abbrev number : ℕ → Float
number n = of_int binary64 (pos n)

-- first and last sample number, their times, the severity and the last flag
abbrev window : ℕ → ℕ → ℕ → ℕ → Float → ℕ → Window
window f l ft lt s il = record { first = f; last = l; first_time = pos ft; last_time = pos lt; severity = s; is_last = il }

-- a place that no window is written into
abbrev free : Window
free = window 7 7 7 7 zero·0 7

-- document 01's rows 01011 and 0010
abbrev row : List ℕ
row = 0 ∷ 1 ∷ 0 ∷ 1 ∷ 1 ∷ []

abbrev times : List ℤ
times = pos 10 ∷ pos 20 ∷ pos 30 ∷ pos 40 ∷ pos 50 ∷ []

abbrev severities : List Float
severities = zero·0 ∷ number 1 ∷ zero·0 ∷ number 3 ∷ number 2 ∷ []

abbrev clear : List ℕ
clear = 0 ∷ 0 ∷ 1 ∷ 0 ∷ []

abbrev early : List ℤ
early = pos 10 ∷ pos 20 ∷ pos 30 ∷ pos 40 ∷ []

pub records :
    (violation_records_reply row times severities (free ∷ free ∷ free ∷ []) ≡ accepted 2) ×
    (violation_records row times severities (free ∷ free ∷ free ∷ []) ≡ window 1 1 20 20 (number 1) 0 ∷ window 3 4 40 50 (number 3) 1 ∷ free ∷ []) ×
    (visibility_records_reply clear early (free ∷ free ∷ free ∷ []) ≡ accepted 2) ×
    (visibility_records clear early (free ∷ free ∷ free ∷ []) ≡ window 0 1 10 20 zero·0 0 ∷ window 3 3 40 40 zero·0 1 ∷ free ∷ []) ×
    -- refused, nothing changes
    (violation_records_reply row times severities (free ∷ []) ≡ refused 7) ×
    (violation_records row times severities (free ∷ []) ≡ free ∷ []) ×
    (visibility_records_reply clear early (free ∷ []) ≡ refused 7) ×
    (visibility_records clear early (free ∷ []) ≡ free ∷ [])
unfolding violation_windows visibility_windows window_of largest largest_from larger violation_runs visibility_runs runs_from samples_are filter rule_v violation_refusal visibility_refusal windows_refusal differ no_room beyond bad_mark bad_severity any first reply unless_refused over finite sign_bit_of lt of_int of_bits
records = (refl, refl, refl, refl, refl, refl, refl, refl)

-- the lists of six columns, in the order in which they are lent
pub of_columns : (f l : List ℕ) (ft lt : List ℤ) (s : List Float) (il : List ℕ)
    → ((columns f l ft lt s il).first ≡ f)
    × ((columns f l ft lt s il).last ≡ l)
    × ((columns f l ft lt s il).first_time ≡ ft)
    × ((columns f l ft lt s il).last_time ≡ lt)
    × ((columns f l ft lt s il).severity ≡ s)
    × ((columns f l ft lt s il).is_last ≡ il)
of_columns f l ft lt s il = (refl, refl, refl, refl, refl, refl)

-- ---- refusals

-- 1 before 8 before 14 before 7
pub refusals :
    (violation_refusal row early severities [] ≡ 1) ×
    (violation_refusal row times (nan ∷ []) [] ≡ 1) ×
    (violation_refusal row times severities (2 ∷ 2 ∷ 3 ∷ []) ≡ 1) ×
    (violation_refusal (2 ∷ []) (pos 4_000_000_000_000_000_001 ∷ []) (nan ∷ []) (0 ∷ []) ≡ 8) ×
    (violation_refusal (1 ∷ []) (pos 0 ∷ []) (nan ∷ []) (0 ∷ []) ≡ 14) ×
    (violation_refusal (2 ∷ []) (pos 0 ∷ []) (zero·0 ∷ []) (0 ∷ []) ≡ 14) ×
    (visibility_refusal (2 ∷ 0 ∷ []) (pos 0 ∷ pos 1 ∷ []) (0 ∷ []) ≡ 14) ×
    (visibility_refusal (0 ∷ 0 ∷ []) (pos 0 ∷ []) (0 ∷ []) ≡ 1) ×
    -- of expand 1 before 8 before 7
    (expand_reply (pos 4_000_000_000_000_000_001 ∷ []) [] (pos 0 ∷ []) [] ≡ refused 1) ×
    (expand_reply (pos 0 ∷ []) (pos 0 ∷ []) (pos 4_000_000_000_000_000_001 ∷ []) [] ≡ refused 8) ×
    (expand_reply (pos 0 ∷ []) (pos 0 ∷ []) (pos 0 ∷ []) [] ≡ refused 7) ×
    (expand_reply (pos 0 ∷ []) (pos 0 ∷ []) (pos 0 ∷ []) (9 ∷ []) ≡ accepted 0)
unfolding violation_refusal visibility_refusal windows_refusal expand_refusal violation_runs visibility_runs runs_from samples_are filter rule_v differ no_room beyond bad_mark bad_severity any first reply finite sign_bit_of of_int of_bits
refusals = (refl, refl, refl, refl, refl, refl, refl, refl, refl, refl, refl, refl)

-- 4 * 10 ^ 18 either way (negsuc n is -(n + 1)), and the times beyond
pub ends :
    (beyond (pos 4_000_000_000_000_000_000) ≡ false) ×
    (beyond (pos 4_000_000_000_000_000_001) ≡ true) ×
    (beyond (negsuc 3_999_999_999_999_999_999) ≡ false) ×
    (beyond (negsuc 4_000_000_000_000_000_000) ≡ true)
unfolding beyond
ends = (refl, refl, refl, refl)

-- ---- seconds

pub durations :
    -- 3.5 s and 1.999999999 s, each toward zero; and a window that ends 2.5 s before it starts
    (duration_reply (pos 0 ∷ pos 5_000_000_000 ∷ []) (pos 3_500_000_000 ∷ pos 6_999_999_999 ∷ []) ≡ accepted (number 4)) ×
    (duration_reply (pos 0 ∷ pos 5_000_000_000 ∷ []) (pos 3_500_000_000 ∷ pos 2_500_000_000 ∷ []) ≡ accepted (number 1)) ×
    (duration_reply (pos 4_000_000_000_000_000_001 ∷ []) [] ≡ refused 1) ×
    (duration_reply (pos 4_000_000_000_000_000_001 ∷ []) (pos 0 ∷ []) ≡ refused 8)
unfolding duration_refusal total_seconds seconds differ beyond any first reply of_int
durations = (refl, refl, refl, refl)

pub of_duration : (x : Float) (e : Refusal) → (replied (Ok x) ≡ accepted x) × (replied {A = Float} (Err e) ≡ refused (number_of e))
of_duration x e = (refl, refl)
