-- Document 02's request Four, of the journal itself: after any list from every start, where collect is accepted, the journal has the length foretold
-- (`length_foretold`), and what collect answers is the sweep's own count (`own_count`), from the fewest probes to the most (`count_foretold`); the same over any
-- rolls, and so over a table (`length_foretold_over`, `own_count_over`, `count_foretold_over`). Of the two plans that the calls write the count is the most
-- (`costliest_collected`) and the fewest (`cheapest_collected`). The numbers foretold are those that an accepted call for the cost leaves. Assumes nothing.
use mathlib.Core.Path.{◌≡◌, refl, sym, ap, ap₂, ◌∙◌, subst}
use mathlib.Core.Bool.{Bool, true, false, cond}
use mathlib.Core.List.{List, [], ◌++◌}
use Prim.Native.Nat.{ℕ, ◌+◌, ◌*◌}
use native.Mathlib.Omega.{arith}
use lib.ListN.{length, length-append}
use lib.Ieee.{Float}
use borrow.Author.Tests.{not-false}
use Rattle.buffers.specs.Refusal.{accepted}
use Rattle.buffers.proofs.Ranges.{sum_same}
use Rattle.buffers.proofs.Refusals.{first_clears, reply_accepted}
use Rattle.solar_roll.specs.Plan.{Plan, rows_of, times_of, samples_refusal, plan_refusal}
use Rattle.roll_sweep.specs.Sweep.{Sweep, cells, chunks, sweep_probes}
use Rattle.roll_sweep.specs.Rolls.{even_rolls}
use Rattle.roll_sweep.proofs.Even.{length_even}
use Rattle.journal.specs.Lines.{header_length, line_length}
use Rattle.journal.specs.Plan.{sweep_of, even_sweep}
use Rattle.journal.proofs.Planned.{even_says}
use Rattle.journal.proofs.Written.{SweepFacts}
use Rattle.cost.specs.Cost.{journal_length, cost_refusal, costliest_plan, cheapest_plan}
use Rattle.cost.specs.Foretold.{length_left, fewest_left, most_left, Between}
use Rattle.cost.proofs.Foretold.{length_is, bounds_over, costliest, cheapest}
use Rattle.solar_roll.proofs.PlanFacts.{nothing_said}
use Rattle.ledger.specs.Machine.{Entry, collect, Machine, gathered, answer}
use Rattle.ledger.specs.Ledger.{Ledger, lines_of, ledger_journal, ended, are_in, unfinished, ledger_conditions, ledger_refusal, ledger_answer}
use Rattle.ledger.specs.Demand3.{event_of, Start, machine_after}
use Rattle.ledger.proofs.Chunks.{Good, over_ones, sum_all}
use Rattle.ledger.proofs.Written.{front, length_front}
use Rattle.ledger.proofs.Simulation.{State, ledger_of, machine_of, known, finished, collect_at}
use Rattle.ledger.proofs.PlanSweep.{accepted_plan}
use Rattle.ledger.proofs.Theorem.{reach, collect_is}

module _ (s : Sweep) (a : SweepFacts s) where
  -- where the header stands without a remnant and each chunk has a line, there is a line a chunk
  whole_length : (l : Ledger) → Good s l.lines → unfinished l ≡ false → are_in (chunks (cells s)) l.lines ≡ true
      → length (ledger_journal s l) ≡ header_length + line_length * chunks (cells s)
  unfolding ledger_journal ended
  whole_length l g u v =
      let f = finished s a l.mark l.remnant u in
      let m : ℕ = chunks (cells s) in
      let many : length l.lines ≡ m = sym (over_ones l.lines) ∙ sum_all m (λ c. 1) l.lines g.exist g.distinct v ∙ sum_same m 1 ∙ omega arith in
      ap₂ (λ (b : Bool) (r : List ℕ). length (cond b s.header [] ++ lines_of s l.lines ++ r)) f.0 f.1
      ∙ length-append (front s l.lines) []
      ∙ omega (arith, length_front s a l.lines)

  -- an accepted collect found it so
  length_after : (l : Ledger) → Start s l → (es : List Entry) (x o m : List ℕ) (q : ℕ) → answer s (collect x o) (machine_after s l es) ≡ accepted (gathered m q)
      → length (machine_after s l es).journal ≡ header_length + line_length * chunks (cells s)
  unfolding ledger_answer ledger_refusal
  length_after l h es x o m q e =
      let r = reach s a l h es in
      let t : State s = r.state in
      let free = (reply_accepted (ledger_refusal s (event_of (collect x o) (machine_of s t)) (ledger_of s t)) _ _ (sym (collect_at s a t x o) ∙ sym (ap (answer s (collect x o)) r.machine) ∙ e)).0 in
      let c = first_clears (ledger_conditions s (event_of (collect x o) (machine_of s t)) (ledger_of s t)) refl free in
      ap (λ (k : Machine). length k.journal) r.machine ∙ whole_length (ledger_of s t) (known s a t).good c.0 (not-false _ c.1.0)

-- ---- for every list of 1 to 3,600 rolls; `out` is what the call for the plan's cost was lent

module _ (p : Plan) (rolls : List Float) (said : ℕ) (plan : plan_refusal p said false ≡ 0) (few : samples_refusal (length rolls) ≡ 0)
    (l : Ledger) (h : Start (sweep_of p rolls said) l) (es : List Entry) (x o m : List ℕ) (q : ℕ)
    (e : answer (sweep_of p rolls said) (collect x o) (machine_after (sweep_of p rolls said) l es) ≡ accepted (gathered m q)) where
  -- what collect answers is the sweep's own count
  pub own_count_over : q ≡ sweep_probes (sweep_of p rolls said)
  own_count_over = (collect_is (sweep_of p rolls said) (accepted_plan p rolls said plan few) l h es x o m q e).1

  -- "the journal's exact length"
  pub length_foretold_over : (out : List ℕ) → cost_refusal (rows_of p) (times_of p) (length rolls) (length out) ≡ 0
      → length (machine_after (sweep_of p rolls said) l es).journal ≡ length_left (rows_of p) (times_of p) (length rolls) out
  unfolding journal_length sweep_of
  length_foretold_over out size =
      length_after (sweep_of p rolls said) (accepted_plan p rolls said plan few) l h es x o m q e ∙ sym (length_is (rows_of p) (times_of p) (length rolls) out size)

  -- "the fewest and most probes"
  pub count_foretold_over : (out : List ℕ) → cost_refusal (rows_of p) (times_of p) (length rolls) (length out) ≡ 0 → Between (rows_of p) (times_of p) (length rolls) out q
  count_foretold_over out size = subst (Between (rows_of p) (times_of p) (length rolls) out) (sym own_count_over) (bounds_over p rolls said out size)

-- ---- of n even rolls

module _ (p : Plan) (n : ℕ) (plan : plan_refusal p (samples_refusal n) false ≡ 0) (l : Ledger) (h : Start (even_sweep p n) l) (es : List Entry)
    (x o m : List ℕ) (q : ℕ) (e : answer (even_sweep p n) (collect x o) (machine_after (even_sweep p n) l es) ≡ accepted (gathered m q)) where
  even : samples_refusal (length (even_rolls n)) ≡ 0
  even = even_says n (nothing_said p (samples_refusal n) false plan)

  pub own_count : q ≡ sweep_probes (even_sweep p n)
  own_count = own_count_over p (even_rolls n) (samples_refusal n) plan even l h es x o m q e

  pub length_foretold : (out : List ℕ) → cost_refusal (rows_of p) (times_of p) n (length out) ≡ 0
      → length (machine_after (even_sweep p n) l es).journal ≡ length_left (rows_of p) (times_of p) n out
  length_foretold out =
      subst (λ (k : ℕ). cost_refusal (rows_of p) (times_of p) k (length out) ≡ 0 → length (machine_after (even_sweep p n) l es).journal ≡ length_left (rows_of p) (times_of p) k out)
      (length_even n) (length_foretold_over p (even_rolls n) (samples_refusal n) plan even l h es x o m q e out)

  pub count_foretold : (out : List ℕ) → cost_refusal (rows_of p) (times_of p) n (length out) ≡ 0 → Between (rows_of p) (times_of p) n out q
  count_foretold out =
      subst (λ (k : ℕ). cost_refusal (rows_of p) (times_of p) k (length out) ≡ 0 → Between (rows_of p) (times_of p) k out q)
      (length_even n) (count_foretold_over p (even_rolls n) (samples_refusal n) plan even l h es x o m q e out)

-- ---- the two plans: "Show for both that the sweep's own count is the number foretold."

module _ (targets times n : ℕ) (out : List ℕ) (size : cost_refusal targets times n (length out) ≡ 0) where
  pub costliest_collected : let s : Sweep = even_sweep (costliest_plan targets times) n in (l : Ledger) → Start s l → (es : List Entry) (x o m : List ℕ) (q : ℕ)
      → answer s (collect x o) (machine_after s l es) ≡ accepted (gathered m q) → q ≡ most_left targets times n out
  costliest_collected l h es x o m q e =
      let r = costliest targets times n out size in
      own_count (costliest_plan targets times) n r.accepted l h es x o m q e ∙ r.count (samples_refusal n)

  pub cheapest_collected : let s : Sweep = even_sweep (cheapest_plan targets times) n in (l : Ledger) → Start s l → (es : List Entry) (x o m : List ℕ) (q : ℕ)
      → answer s (collect x o) (machine_after s l es) ≡ accepted (gathered m q) → q ≡ fewest_left targets times n out
  cheapest_collected l h es x o m q e =
      let r = cheapest targets times n out size in
      own_count (cheapest_plan targets times) n r.accepted l h es x o m q e ∙ r.count (samples_refusal n)
