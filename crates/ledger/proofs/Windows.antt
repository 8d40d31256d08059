-- Demand 3's windows: what the laws of runs and of expansion say of the columns that the listings leave, for any row of samples. Also that the listings
-- accept a row of a mask, so that no clause is empty. Assumes nothing.
use mathlib.Core.Path.{◌≡◌, refl, sym, ap, ap₂, ◌∙◌, subst}
use mathlib.Core.Bool.{false, not, ◌||◌}
use mathlib.Core.List.{List, [], ◌∷◌, map}
use Prim.Native.Nat.{ℕ, ◌+◌, ◌/◌, ◌≤◌}
use native.Mathlib.Omega.{arith}
use lib.ListN.{length, get_or, take, length-map}
use lib.IntN.{ℤ, pos}
use lib.Ieee.{Float}
use borrow.Author.Tests.{le-ltb, eq-eqb}
use Rattle.buffers.specs.Ranges.{any}
use Rattle.buffers.specs.Lent.{over}
use Rattle.buffers.specs.Refusal.{first, accepted, reply, unless_refused}
use Rattle.buffers.proofs.Refusals.{reply_none, reply_accepted, written_none}
use Rattle.solar_roll.specs.Plan.{most_times}
use Rattle.windows.specs.Runs.{Run, violation_runs, visibility_runs}
use Rattle.windows.specs.Maximal.{sample_is, Maximal, Visible, Exactly}
use Rattle.windows.specs.Windows.{largest, window_of, violation_windows, visibility_windows, Columns, written}
use Rattle.windows.specs.Refusal.{beyond, bad_mark, bad_severity, differ, lengths, no_room, windows_refusal, violation_refusal, visibility_refusal}
use Rattle.windows.specs.Expand.{Increasing}
use Rattle.windows.specs.Calls.{violation_reply, violation_columns, visibility_reply}
use Rattle.windows.specs.declared.Window.{Window}
use Rattle.windows.proofs.MaximalRuns.{violation_runs_lem, visibility_runs_lem, violation_bound, visibility_bound}
use Rattle.windows.proofs.Theorems.{first_written, last_written, first_time_written, last_time_written, row_expand_accepted, row_expands}
use Rattle.ledger.specs.Windows.{runs_of, Listed, ExpandsTo, RowWindows}

-- ---- the windows of a list of runs, written over the columns d, read back

module _ (times : List ℤ) (severity : Run → Float) where
  runs_back : (rs : List Run) → runs_of (map (λ (w : Window). w.first) (map (window_of times severity) rs)) (map (λ (w : Window). w.last) (map (window_of times severity) rs)) ≡ rs
  unfolding window_of runs_of
  runs_back [] = refl
  runs_back (r ∷ rs) = ap (λ (t : List Run). r ∷ t) (runs_back rs)

  first_times_lem : (rs : List Run) → map (λ (w : Window). w.first_time) (map (window_of times severity) rs) ≡ map (λ (k : ℕ). get_or times k (pos 0)) (map (λ (w : Window). w.first) (map (window_of times severity) rs))
  unfolding window_of
  first_times_lem [] = refl
  first_times_lem (r ∷ rs) = ap (λ (t : List ℤ). get_or times r.first (pos 0) ∷ t) (first_times_lem rs)

  last_times_lem : (rs : List Run) → map (λ (w : Window). w.last_time) (map (window_of times severity) rs) ≡ map (λ (k : ℕ). get_or times k (pos 0)) (map (λ (w : Window). w.last) (map (window_of times severity) rs))
  unfolding window_of
  last_times_lem [] = refl
  last_times_lem (r ∷ rs) = ap (λ (t : List ℤ). get_or times r.last (pos 0) ∷ t) (last_times_lem rs)

  -- P says exactly these runs: then their windows are listed, as many as a listing of them answers
  module _ (P : Run → Type 0) (rs : List Run) (exactly : Exactly P rs) (d : Columns) where
    abbrev ws : List Window
    ws = map (window_of times severity) rs

    back : runs_of (take (length ws) (written ws d).first) (take (length ws) (written ws d).last) ≡ rs
    back = ap₂ runs_of (first_written ws d) (last_written ws d) ∙ runs_back rs

    whole : Listed P times (length ws) (written ws d)
    whole = record {
      count = ap length back ∙ sym (length-map rs (window_of times severity));
      runs = subst (Exactly P) (sym back) exactly;
      first_times = first_time_written ws d ∙ first_times_lem rs ∙ ap (map (λ (k : ℕ). get_or times k (pos 0))) (sym (first_written ws d));
      last_times = last_time_written ws d ∙ last_times_lem rs ∙ ap (map (λ (k : ℕ). get_or times k (pos 0))) (sym (last_written ws d));
    }

    listed : (why n : ℕ) → reply why (length ws) ≡ accepted n → Listed P times n (unless_refused why (written ws d) d)
    listed why n e =
        let a = reply_accepted why (length ws) n e in
        subst (λ (c : Columns). Listed P times n c) (sym (written_none why (written ws d) d a.0))
        (subst (λ (m : ℕ). Listed P times m (written ws d)) a.1 whole)

-- ---- a row of samples at strictly increasing times

pub row_windows : (times : List ℤ) → Increasing times → (part : List ℕ) → RowWindows times part
unfolding violation_windows visibility_windows
row_windows times up part = record {
  violations = λ severities room n e. listed times (largest severities) (Maximal (sample_is 1 part)) (violation_runs part) (violation_runs_lem part) room (violation_refusal part times severities (lengths room)) n e;
  expand = λ severities room n e mask enough. expands severities room n e mask enough;
  visible = λ room n e. listed times _ (Visible part) (visibility_runs part) (visibility_runs_lem part) room (visibility_refusal part times (lengths room)) n e;
}
  where
    expands : (severities : List Float) (room : Columns) (n : ℕ) → violation_reply part times severities room ≡ accepted n
        → (mask : List ℕ) → length times ≤ length mask → ExpandsTo part times n (violation_columns part times severities room) mask
    expands severities room n e mask enough =
        let ws : List Window = violation_windows part times severities in
        let why : ℕ = violation_refusal part times severities (lengths room) in
        let a = reply_accepted why (length ws) n e in
        let r = row_expand_accepted part times severities room a.0 up (length mask) enough in
        let whole : ExpandsTo part times (length ws) (written ws room) mask = record {
          accepts = reply_none _ 0 r;
          leaves = written_none _ _ mask r ∙ ap (λ (m : List ℕ). over m mask) (row_expands part times severities room a.0 up);
        } in
        subst (λ (c : Columns). ExpandsTo part times n c mask) (sym (written_none why (written ws room) room a.0))
        (subst (λ (m : ℕ). ExpandsTo part times m (written ws room) mask) a.1 whole)

-- ---- what the listings accept: a row of marks, its times in range, severities that are none of 14's, and columns of (samples + 1) / 2 places

abbrev pub places : Columns → ℕ → Type 0
places c n = (differ (lengths c) ≡ false) × (n ≤ length c.first)

module _ (part : List ℕ) (times : List ℤ) (each : length times ≡ length part) (few : length part ≤ most_times) (bytes : any bad_mark part ≡ false) (in_range : any beyond times ≡ false) (room : Columns) (enough : places room ((length part + 1) / 2)) where
  pub violations_accepted : (severities : List Float) → length severities ≡ length part → any bad_severity severities ≡ false
      → violation_reply part times severities room ≡ accepted (length (violation_windows part times severities))
  unfolding violation_refusal windows_refusal differ no_room lengths reply
  violations_accepted severities rated fine =
      let t = eq-eqb (length times) (length part) each in
      let s = eq-eqb (length severities) (length part) rated in
      let f = le-ltb most_times (length part) few in
      let r = le-ltb (length room.first) (length (violation_runs part)) (omega (arith, violation_bound part, enough.1)) in
      λ i. reply (first ((not (t i) || (not (s i) || false) || enough.0 i, 1) ∷ (f i, 2) ∷ (in_range i, 8) ∷ (bytes i || fine i, 14) ∷ (r i, 7) ∷ [])) (length (violation_windows part times severities))

  pub visibility_accepted : visibility_reply part times room ≡ accepted (length (visibility_windows part times))
  unfolding visibility_refusal windows_refusal differ no_room lengths any reply
  visibility_accepted =
      let t = eq-eqb (length times) (length part) each in
      let f = le-ltb most_times (length part) few in
      let r = le-ltb (length room.first) (length (visibility_runs part)) (omega (arith, visibility_bound part, enough.1)) in
      λ i. reply (first (((not (t i) || false) || enough.0 i, 1) ∷ (f i, 2) ∷ (in_range i, 8) ∷ (bytes i || false, 14) ∷ (r i, 7) ∷ [])) (length (visibility_windows part times))
