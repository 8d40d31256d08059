-- What machine and ledger do together from every start, for the sweep of any accepted plan: `same_after`, `recover_is`, `collect_is`; the start from an
-- empty journal; which calls are accepted. `range_is` is a range of works. Assumes nothing.
use mathlib.Core.Path.{◌≡◌, refl, sym, ap, ap₂, ◌∙◌, subst}
use mathlib.Core.Bool.{Bool, true, false, not, false≢true}
use mathlib.Core.List.{List, [], ◌∷◌, ◌++◌}
use Prim.Native.Nat.{ℕ, ◌-◌, ◌≤◌, ◌<◌}
use native.Mathlib.Omega.{arith}
use lib.ListN.{length, take, drop, take-append-drop}
use lib.Seq.{length-take-le}
use Rattle.buffers.specs.Refusal.{first, accepted, reply}
use Rattle.buffers.proofs.Refusals.{reply_accepted}
use Rattle.roll_sweep.specs.Sweep.{Sweep, cells, sweep_mask, sweep_probes, chunks}
use Rattle.journal.specs.Calls.{work_refusal, collect_short}
use Rattle.journal.specs.Range.{Ran, ran_to, ran, range_refusal, range_stopped}
use Rattle.ledger.specs.Machine.{Entry, cut, recover, collect, Machine, step, done, gathered, answer, trace, machine_run, power_up}
use Rattle.ledger.specs.Ledger.{works, Ledger, blank, ended, ledger_journal, is_in, are_in, unfinished, ledger_refusal, ledger_answer, ledger_trace, ledger_run}
use Rattle.ledger.specs.Demand3.{event_of, events, Start, machine_at, machine_after, ledger_after}
use Rattle.ledger.specs.Range.{range_step, works_of, range_entries, ledger_range_refusal, Uncut, RangeKept}
use Rattle.journal.proofs.Written.{SweepFacts}
use Rattle.ledger.proofs.Simulation.{State, off, on, ledger_of, machine_of, Reached, same_from, reach_from, recover_at, work_at, range_at, collect_at}
use Rattle.ledger.proofs.Range.{run_append, range_done, cut_range}

module _ (s : Sweep) (a : SweepFacts s) where
  -- a start is one of the states that the machine and the ledger go through
  start : (l : Ledger) → Start s l → Reached s a (machine_at s l) l
  start l h = go l.mark refl
    where
      go : (m : Bool) → l.mark ≡ m → Reached s a (machine_at s l) l
      go true e =
          let t : State s = on l.lines l.remnant (record { exist = h.exist; distinct = h.distinct }) (h.tail e) in
          let p : l ≡ ledger_of s t = λ i. record { mark = e i; lines = l.lines; remnant = l.remnant; last = h.last i } in
          record { state = t; machine = λ i. record { journal = ledger_journal s (p i); added = 0 }; ledger = p }
      go false e =
          let t : State s = off (length l.remnant) (h.opening e).0 in
          let p : l ≡ ledger_of s t = λ i. record { mark = e i; lines = h.off e i; remnant = (h.opening e).1 i; last = h.last i } in
          record { state = t; machine = λ i. record { journal = ledger_journal s (p i); added = 0 }; ledger = p }

  -- where a list of entries leads from a start
  pub reach : (l : Ledger) → Start s l → (es : List Entry) → Reached s a (machine_after s l es) (ledger_after s l es)
  reach l h es =
      let t = start l h in
      let r = reach_from s a es t.state in
      record {
        state = r.state;
        machine = ap (machine_run s es) t.machine ∙ r.machine;
        ledger = ap₂ (λ (m : Machine) (l : Ledger). ledger_run s (events s es m) l) t.machine t.ledger ∙ r.ledger;
      }

  -- bytes and answers, after every entry
  pub same_after : (l : Ledger) → Start s l → (es : List Entry) → trace s es (machine_at s l) ≡ ledger_trace s (events s es (machine_at s l)) l
  same_after l h es =
      let r = start l h in
      ap (trace s es) r.machine
      ∙ same_from s a es r.state
      ∙ sym (ap₂ (λ (m : Machine) (l : Ledger). ledger_trace s (events s es m) l) r.machine r.ledger)

  -- J, after a list
  pub journal_after_lem : (l : Ledger) → Start s l → (es : List Entry) → (machine_after s l es).journal ≡ ledger_journal s (ledger_after s l es)
  journal_after_lem l h es = let r = reach l h es in ap (λ (m : Machine). m.journal) r.machine ∙ sym (ap (ledger_journal s) r.ledger)

  -- what a recover leaves
  pub recover_is : (l : Ledger) → Start s l → (es : List Entry) (x : List ℕ) → (step s (recover x) (machine_after s l es)).journal ≡ ended s (ledger_after s l es)
  recover_is l h es x =
      let r = reach l h es in
      ap (λ (m : Machine). (step s (recover x) m).journal) r.machine ∙ (recover_at s a r.state x).1 ∙ ap (ended s) (sym r.ledger)

  -- what an accepted collect answers
  pub collect_is : (l : Ledger) → Start s l → (es : List Entry) (x o m : List ℕ) (q : ℕ) → answer s (collect x o) (machine_after s l es) ≡ accepted (gathered m q)
      → (m ≡ sweep_mask s) × (q ≡ sweep_probes s)
  unfolding ledger_answer
  collect_is l h es x o m q e =
      let r = reach l h es in
      let t : State s = r.state in
      let g : gathered (sweep_mask s) (sweep_probes s) ≡ gathered m q =
      (reply_accepted (ledger_refusal s (event_of (collect x o) (machine_of s t)) (ledger_of s t)) _ _ (sym (collect_at s a t x o) ∙ sym (ap (answer s (collect x o)) r.machine) ∙ e)).1 in
      (cc, cc)

  -- what work of a chunk is refused with after a list, where J is the first u bytes of the buffer b
  work_is : (l : Ledger) → Start s l → (es : List Entry) (c : ℕ) (b : List ℕ) (u : ℕ) → u ≤ length b → (machine_after s l es).journal ≡ take u b
      → work_refusal s c b u ≡ ledger_refusal s (works c (length b)) (ledger_after s l es)
  work_is l h es c b u k e =
      let r = reach l h es in
      let j : ledger_journal s (ledger_of s r.state) ≡ take u b = sym (ap (λ (m : Machine). m.journal) r.machine) ∙ e in
      let whole : ledger_journal s (ledger_of s r.state) ++ drop u b ≡ b = ap (λ (p : List ℕ). p ++ drop u b) j ∙ take-append-drop u b in
      sym (ap₂ (work_refusal s c) whole (ap length j ∙ length-take-le u b k))
      ∙ work_at s a r.state c (drop u b)
      ∙ ap₂ (λ (n : ℕ) (l : Ledger). ledger_refusal s (works c n) l) (ap length whole) (sym r.ledger)

  -- a range of works that is not cut
  range_uncut : (l : Ledger) → Start s l → (es : List Entry) (from to : ℕ) (x : List ℕ) → let m : Machine = machine_after s l es in
      range_refusal s from to (m.journal ++ x) (length m.journal) ≡ 0 → (old : ℕ)
      → Uncut s l es from to x m (range_stopped s from to (m.journal ++ x) (length m.journal) old)
  range_uncut l h es from to x e old =
      let m : Machine = machine_after s l es in
      let d = range_done s from to x m e old in
      let r : Ran = ran s (to - from) (ran_to (m.journal ++ x) (length m.journal) from) in
      let fs : List Entry = es ++ works_of (r.next - from) from x in
      let j : (machine_after s l fs).journal ≡ take r.used r.bytes = ap (λ (y : Machine). y.journal) (run_append s es (works_of (r.next - from) from x) (machine_at s l)) ∙ d.works in
      subst (Uncut s l es from to x m) (sym d.stopped) (record {
        some = d.some;
        most = d.most;
        answered = d.answered;
        journal = d.journal ∙ sym j ∙ journal_after_lem l h fs;
        stopped = λ g.
            subst (λ (n : ℕ). 0 < n) (work_is l h fs r.next r.bytes r.used d.within j ∙ ap (λ (n : ℕ). ledger_refusal s (works r.next n) (ledger_after s l fs)) d.room) (d.refused g);
      })

  -- a range of works, cut at any byte of its whole write
  pub range_is : (l : Ledger) → Start s l → (es : List Entry) (from to : ℕ) (x : List ℕ) → RangeKept s l es from to x
  range_is l h es from to x =
      let r = reach l h es in
      let cuts : (k : ℕ) → k ≤ (range_step s from to x (machine_after s l es)).added
      → step s (cut k) (range_step s from to x (machine_after s l es)) ≡ machine_after s l (es ++ range_entries k from x) =
      λ k g. cut_range s from to x (machine_after s l es) k g ∙ sym (run_append s es (range_entries k from x) (machine_at s l)) in
      record {
        refusal =
            ap (λ (m : Machine). range_refusal s from to (m.journal ++ x) (length m.journal)) r.machine
            ∙ range_at s a r.state from to x
            ∙ sym (ap₂ (λ (m : Machine) (l : Ledger). ledger_range_refusal s from to (length (m.journal ++ x)) l) r.machine r.ledger);
        uncut = range_uncut l h es from to x;
        machine = cuts;
        journal = λ k g. ap (λ (m : Machine). m.journal) (cuts k g) ∙ journal_after_lem l h (es ++ range_entries k from x);
      }

  -- ---- from the empty journal
  pub start_blank : Start s blank
  unfolding is_in
  start_blank = record {
    exist = λ c e. absurd (false≢true e);
    distinct = tt;
    off = λ e. refl;
    opening = λ e. (omega arith, refl);
    tail = λ e. omega arith;
    last = refl;
  }

  -- there the ledger is blank and the machine has just been powered up
  pub from_empty : machine_at s blank ≡ power_up
  unfolding ledger_journal
  from_empty = refl

  -- ---- which calls are accepted
  -- recover is, always
  pub recover_accepted : (l : Ledger) → Start s l → (es : List Entry) (x : List ℕ) → answer s (recover x) (machine_after s l es) ≡ accepted done
  recover_accepted l h es x = let r = reach l h es in ap (answer s (recover x)) r.machine ∙ (recover_at s a r.state x).0

  -- collect is, once the header stands without a remnant, each chunk has a line, and the lent mask has room
  pub collect_accepted : (l : Ledger) → Start s l → (es : List Entry) (x o : List ℕ)
      → unfinished (ledger_after s l es) ≡ false
      → are_in (chunks (cells s)) (ledger_after s l es).lines ≡ true
      → collect_short s (length o) ≡ false
      → answer s (collect x o) (machine_after s l es) ≡ accepted (gathered (sweep_mask s) (sweep_probes s))
  unfolding ledger_answer ledger_refusal
  collect_accepted l h es x o u v w =
      let r = reach l h es in
      ap (answer s (collect x o)) r.machine
      ∙ collect_at s a r.state x o
      ∙ ap (λ (l : Ledger). ledger_answer s (event_of (collect x o) (machine_of s r.state)) l) (sym r.ledger)
      ∙ (λ i. reply (first ((u i, 12) ∷ (not (v i), 15) ∷ (w i, 7) ∷ [])) (gathered (sweep_mask s) (sweep_probes s)))
