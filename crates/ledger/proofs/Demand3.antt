-- Demand 3, for every accepted plan: `demand3`, from an empty journal; `demand3_from`, from every start; `demand3_split`, from the journal of a sweep
-- that was split; `range_cut`, of work over a range. They are for n even rolls; `demand3_table`, .. for a lent table of rolls; and `demand3_over`, .. for every
-- list of 1 to 3,600 rolls: instances of one proof, over n samples and the roll of each. Then that the window listings accept each row of a collected mask,
-- so that its windows are there to be read. Assumes nothing.
use mathlib.Core.Path.{◌≡◌, sym, ap, ◌∙◌, subst}
use mathlib.Core.Logic.{◌↔◌}
use mathlib.Core.Bool.{Bool, true, false}
use mathlib.Core.List.{List, ◌++◌}
use Prim.Native.Nat.{ℕ, ◌+◌, ◌*◌, ◌/◌, ◌≤◌, ◌<◌}
use native.Mathlib.Omega.{arith}
use lib.IntN.{ℤ}
use lib.Ieee.{Float, nan}
use lib.ListN.{length, get_or}
use borrow.Author.Tests.{le-ltb}
use Rattle.buffers.specs.Ranges.{flag, sum, tab, any}
use Rattle.buffers.specs.Refusal.{accepted}
use Rattle.buffers.proofs.Ranges.{sum_ext, sum_rows, length_tab, get_or_tab, any_tab}
use Rattle.buffers.proofs.Rows.{cell_below}
use Rattle.buffers.proofs.Tests.{flag_le, flag_one}
use Rattle.solar_roll.specs.Plan.{most_times, Plan, rows_of, times_of, violates_at, samples_refusal, plan_refusal}
use Rattle.solar_roll.proofs.PlanFacts.{nothing_said}
use Rattle.roll_sweep.specs.Sweep.{Sweep, tried, marked, cell_probes, sweep_mask, sweep_probes}
use Rattle.roll_sweep.specs.Rolls.{even_roll, even_rolls, table_refusal}
use Rattle.roll_sweep.proofs.Chunks.{marked_iff}
use Rattle.roll_sweep.proofs.Tried.{tried_ext}
use Rattle.roll_sweep.proofs.Rows.{row_part_lem}
use Rattle.roll_sweep.proofs.Tables.{table_samples}
use Rattle.journal.specs.Plan.{sweep_of, even_sweep, table_sweep}
use Rattle.journal.proofs.Planned.{even_says}
use Rattle.journal.proofs.Written.{SweepFacts}
use Rattle.windows.specs.Windows.{Columns, violation_windows, visibility_windows}
use Rattle.windows.specs.Refusal.{bad_mark, bad_severity}
use Rattle.windows.specs.Calls.{violation_reply, visibility_reply}
use Rattle.ledger.specs.Machine.{Entry, collect, gathered, answer}
use Rattle.ledger.specs.Ledger.{Ledger, blank, ledger_journal}
use Rattle.ledger.specs.Windows.{Times, row_part}
use Rattle.ledger.specs.Demand3.{Distinct, Start, machine_after, Collected, Demand3Of, Demand3Over, Demand3, Demand3Table}
use Rattle.ledger.specs.Split.{split_chunks, split_lines, split_ledger}
use Rattle.ledger.specs.Range.{RangeKept}
use Rattle.ledger.proofs.PlanSweep.{Samples, entries, even_samples, accepted_plan, few_times, sample_roll_lem}
use Rattle.ledger.proofs.Theorem.{start_blank, same_after, recover_is, collect_is, range_is}
use Rattle.ledger.proofs.Split.{split_start, split_journal}
use Rattle.ledger.proofs.Windows.{row_windows, places, violations_accepted, visibility_accepted}

-- ---- the sweep's mask and probes, in the plan's words

module _ (p : Plan) (rolls : List Float) (said : ℕ) where
  abbrev s : Sweep
  s = sweep_of p rolls said

  byte_at : (i : ℕ) → i < rows_of p * times_of p → get_or (sweep_mask s) i 0 ≡ flag (marked s i)
  unfolding sweep_mask sweep_of
  byte_at i l = get_or_tab (rows_of p * times_of p) (λ j. flag (marked s j)) 0 i l

  length_mask : length (sweep_mask s) ≡ rows_of p * times_of p
  unfolding sweep_mask sweep_of
  length_mask = length_tab (rows_of p * times_of p) (λ j. flag (marked s j))

  probes_rows : sweep_probes s ≡ sum (rows_of p) (λ i. sum (times_of p) (λ j. cell_probes s (i * times_of p + j)))
  unfolding sweep_probes sweep_of
  probes_rows = sum_rows (rows_of p) (times_of p) (cell_probes s)

  -- row i's part of the mask: a byte a time, none but 0 and 1
  row_of : (i : ℕ) → i < rows_of p → row_part (times_of p) i (sweep_mask s) ≡ tab (times_of p) (λ j. flag (marked s (i * times_of p + j)))
  unfolding sweep_of
  row_of i h = row_part_lem s i h

  length_row : (i : ℕ) → i < rows_of p → length (row_part (times_of p) i (sweep_mask s)) ≡ times_of p
  length_row i h = ap length (row_of i h) ∙ length_tab (times_of p) (λ j. flag (marked s (i * times_of p + j)))

  row_marks : (i : ℕ) → i < rows_of p → any bad_mark (row_part (times_of p) i (sweep_mask s)) ≡ false
  unfolding bad_mark
  row_marks i h =
      ap (any bad_mark) (row_of i h)
      ∙ any_tab bad_mark (times_of p) (λ j. flag (marked s (i * times_of p + j))) (λ j l. le-ltb 1 (flag (marked s (i * times_of p + j))) (flag_le (marked s (i * times_of p + j))))

  module _ (n : ℕ) (roll : ℕ → Float) (told : Samples rolls n roll) where
    -- every sampled roll violates the cell
    every_roll : (i j : ℕ) → j < times_of p → (marked s (i * times_of p + j) ≡ true) ↔ ((k : ℕ) → k < n → violates_at p i j (roll k) ≡ true)
    unfolding sweep_of
    every_roll i j h =
        let m = marked_iff s (i * times_of p + j) in
        let at : (k : ℕ) → k < n → s.violates (i * times_of p + j) k ≡ violates_at p i j (roll k) = λ k l. sample_roll_lem p rolls said n roll told i j k h l in
        ((λ e k l. sym (at k l) ∙ m.0 e k (omega (arith, told.count))), (λ f. m.1 (λ k l. let l' : k < n = omega (arith, told.count) in at k l' ∙ f k l')))

    -- the samples tried of a cell, and of all cells, row by row
    probes_at_lem : (i j : ℕ) → j < times_of p → cell_probes s (i * times_of p + j) ≡ tried n (λ k. violates_at p i j (roll k))
    unfolding cell_probes sweep_of
    probes_at_lem i j h =
        ap (λ (m : ℕ). tried m (s.violates (i * times_of p + j))) told.count
        ∙ tried_ext n (s.violates (i * times_of p + j)) (λ k. violates_at p i j (roll k)) (λ k l. sample_roll_lem p rolls said n roll told i j k h l)

    probes_are : sweep_probes s ≡ sum (rows_of p) (λ i. sum (times_of p) (λ j. tried n (λ k. violates_at p i j (roll k))))
    probes_are =
        probes_rows
        ∙ sum_ext (rows_of p) (λ i. sum (times_of p) (λ j. cell_probes s (i * times_of p + j))) (λ i. sum (times_of p) (λ j. tried n (λ k. violates_at p i j (roll k))))
        (λ i g. sum_ext (times_of p) (λ j. cell_probes s (i * times_of p + j)) (λ j. tried n (λ k. violates_at p i j (roll k))) (λ j h. probes_at_lem i j h))

    -- what is to be shown of an accepted collect, for the sweep's mask and probes
    collected : (times : List ℤ) → Times (times_of p) times → Collected p n roll times (sweep_mask s) (sweep_probes s)
    collected times t = record {
      bytes = length_mask;
      bits = λ i l. subst (λ (b : ℕ). b ≤ 1) (sym (byte_at i l)) (flag_le (marked s i));
      marks = λ i j g h.
          let at = byte_at (i * times_of p + j) (cell_below (rows_of p) (times_of p) i j g h) in
          let m : Bool = marked s (i * times_of p + j) in (
            (λ u. (every_roll i j h).0 ((flag_one m).0 (sym at ∙ u))),
            (λ u. at ∙ (flag_one m).1 ((every_roll i j h).1 u)),
          );
      probes = probes_are;
      windows = λ i h. row_windows times t.increasing (row_part (times_of p) i (sweep_mask s));
    }

-- ---- for every list of 1 to 3,600 rolls, told as n samples and the roll of each

module _ (p : Plan) (rolls : List Float) (said : ℕ) (plan : plan_refusal p said false ≡ 0) (few : samples_refusal (length rolls) ≡ 0) where
  abbrev sweep : Sweep
  sweep = sweep_of p rolls said

  facts : SweepFacts sweep
  facts = accepted_plan p rolls said plan few

  -- work over a range, after any list from every start: its whole write, cut at byte k, leaves the journal of the ledger after the first k / 33 works and
  -- a cut of k % 33 of the next
  pub range_cut_over : (l : Ledger) → Start sweep l → (es : List Entry) (from to : ℕ) (x : List ℕ) → RangeKept sweep l es from to x
  range_cut_over l h es from to x = range_is sweep facts l h es from to x

  module _ (times : List ℤ) (t : Times (times_of p) times) where
    told_from : (n : ℕ) (roll : ℕ → Float) → Samples rolls n roll → (l : Ledger) → Start sweep l → (es : List Entry) → Demand3Of sweep p n roll times l es
    told_from n roll told l h es = record {
      same = same_after sweep facts l h es;
      recovered = λ x e. recover_is sweep facts l h es x;
      collected = λ x o m q e.
          let c = collect_is sweep facts l h es x o m q e in
          subst (λ (k : List ℕ). Collected p n roll times k q) (sym c.0) (subst (Collected p n roll times (sweep_mask sweep)) (sym c.1) (collected p rolls said n roll told times t));
    }

    told_split : (n : ℕ) (roll : ℕ → Float) → Samples rolls n roll → (runs : List (List Entry)) → Distinct (split_chunks sweep runs)
        → (ledger_journal sweep (split_ledger sweep runs) ≡ sweep.header ++ split_lines sweep runs)
        × ((es : List Entry) → Demand3Of sweep p n roll times (split_ledger sweep runs) es)
    told_split n roll told runs d = (split_journal sweep facts runs, λ es. told_from n roll told (split_ledger sweep runs) (split_start sweep facts runs d) es)

    -- from every start, and from an empty journal; sample k is the list's entry k
    pub demand3_over_from : (l : Ledger) → Start sweep l → (es : List Entry) → Demand3Over p rolls said times l es
    demand3_over_from = told_from (length rolls) (λ k. get_or rolls k nan) (entries rolls)

    pub demand3_over : (es : List Entry) → Demand3Over p rolls said times blank es
    demand3_over es = demand3_over_from blank (start_blank sweep facts) es

    -- from the header followed by the lines of several runs of the plan, no chunk twice
    pub demand3_over_split : (runs : List (List Entry)) → Distinct (split_chunks sweep runs)
        → (ledger_journal sweep (split_ledger sweep runs) ≡ sweep.header ++ split_lines sweep runs)
        × ((es : List Entry) → Demand3Over p rolls said times (split_ledger sweep runs) es)
    demand3_over_split = told_split (length rolls) (λ k. get_or rolls k nan) (entries rolls)

    -- ---- after an accepted collect the listings accept each row of its mask, where severities are none of 14's and there is room for (times + 1) / 2

    module _ (l : Ledger) (h : Start sweep l) (es : List Entry) (x o m : List ℕ) (q : ℕ) (e : answer sweep (collect x o) (machine_after sweep l es) ≡ accepted (gathered m q)) (i : ℕ) (g : i < rows_of p) (room : Columns) (enough : places room ((times_of p + 1) / 2)) where
      mask_is : m ≡ sweep_mask sweep
      mask_is = (collect_is sweep facts l h es x o m q e).0

      part_length : length (row_part (times_of p) i m) ≡ times_of p
      part_length = ap (λ (k : List ℕ). length (row_part (times_of p) i k)) mask_is ∙ length_row p rolls said i g

      part_marks : any bad_mark (row_part (times_of p) i m) ≡ false
      part_marks = ap (λ (k : List ℕ). any bad_mark (row_part (times_of p) i k)) mask_is ∙ row_marks p rolls said i g

      not_many : length (row_part (times_of p) i m) ≤ most_times
      not_many = omega (arith, part_length, few_times p rolls said plan)

      room_for : places room ((length (row_part (times_of p) i m) + 1) / 2)
      room_for = subst (λ (k : ℕ). places room ((k + 1) / 2)) (sym part_length) enough

      pub row_violations : (severities : List Float) → length severities ≡ times_of p → any bad_severity severities ≡ false
          → violation_reply (row_part (times_of p) i m) times severities room ≡ accepted (length (violation_windows (row_part (times_of p) i m) times severities))
      row_violations severities rated fine =
          violations_accepted (row_part (times_of p) i m) times (t.each ∙ sym part_length) not_many part_marks t.in_range room room_for severities (rated ∙ sym part_length) fine

      pub row_visible : visibility_reply (row_part (times_of p) i m) times room ≡ accepted (length (visibility_windows (row_part (times_of p) i m) times))
      row_visible = visibility_accepted (row_part (times_of p) i m) times (t.each ∙ sym part_length) not_many part_marks t.in_range room room_for

-- ---- "Take one accepted plan of 1 to 3,600 rolls, with strictly increasing times in document 01's range."

module _ (p : Plan) (n : ℕ) (plan : plan_refusal p (samples_refusal n) false ≡ 0) where
  even : samples_refusal (length (even_rolls n)) ≡ 0
  even = even_says n (nothing_said p (samples_refusal n) false plan)

  pub range_cut : (l : Ledger) → Start (even_sweep p n) l → (es : List Entry) (from to : ℕ) (x : List ℕ) → RangeKept (even_sweep p n) l es from to x
  range_cut = range_cut_over p (even_rolls n) (samples_refusal n) plan even

  module _ (times : List ℤ) (t : Times (times_of p) times) where
    -- from every start
    pub demand3_from : (l : Ledger) → Start (even_sweep p n) l → (es : List Entry) → Demand3 p n times l es
    demand3_from = told_from p (even_rolls n) (samples_refusal n) plan even times t n (even_roll n) (even_samples n)

    -- "For every list of begin, work, cut, recover and collect from an empty journal, ..": demand 3
    pub demand3 : (es : List Entry) → Demand3 p n times blank es
    demand3 es = demand3_from blank (start_blank (even_sweep p n) (accepted_plan p (even_rolls n) (samples_refusal n) plan even)) es

    -- from the header followed by the lines of several runs of the plan, no chunk twice
    pub demand3_split : (runs : List (List Entry)) → Distinct (split_chunks (even_sweep p n) runs)
        → (ledger_journal (even_sweep p n) (split_ledger (even_sweep p n) runs) ≡ (even_sweep p n).header ++ split_lines (even_sweep p n) runs)
        × ((es : List Entry) → Demand3 p n times (split_ledger (even_sweep p n) runs) es)
    demand3_split = told_split p (even_rolls n) (samples_refusal n) plan even times t n (even_roll n) (even_samples n)

-- ---- document 02's request Five: one accepted plan with a lent table

module _ (p : Plan) (rolls : List Float) (plan : plan_refusal p (table_refusal rolls) false ≡ 0) where
  held : samples_refusal (length rolls) ≡ 0
  held = table_samples rolls (nothing_said p (table_refusal rolls) false plan)

  pub range_cut_table : (l : Ledger) → Start (table_sweep p rolls) l → (es : List Entry) (from to : ℕ) (x : List ℕ) → RangeKept (table_sweep p rolls) l es from to x
  range_cut_table = range_cut_over p rolls (table_refusal rolls) plan held

  module _ (times : List ℤ) (t : Times (times_of p) times) where
    pub demand3_table_from : (l : Ledger) → Start (table_sweep p rolls) l → (es : List Entry) → Demand3Table p rolls times l es
    demand3_table_from = demand3_over_from p rolls (table_refusal rolls) plan held times t

    -- "A cell is marked exactly when every sample so taken violates it, and windows, cuts and probes follow from that."
    pub demand3_table : (es : List Entry) → Demand3Table p rolls times blank es
    demand3_table = demand3_over p rolls (table_refusal rolls) plan held times t

    pub demand3_table_split : (runs : List (List Entry)) → Distinct (split_chunks (table_sweep p rolls) runs)
        → (ledger_journal (table_sweep p rolls) (split_ledger (table_sweep p rolls) runs) ≡ (table_sweep p rolls).header ++ split_lines (table_sweep p rolls) runs)
        × ((es : List Entry) → Demand3Table p rolls times (split_ledger (table_sweep p rolls) runs) es)
    demand3_table_split = demand3_over_split p rolls (table_refusal rolls) plan held times t
