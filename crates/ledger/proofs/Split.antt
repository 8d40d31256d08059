-- A sweep that was split: the header followed by the lines of several runs of one plan, no chunk twice, is the journal of a start.
-- Assumes nothing.
use mathlib.Core.Path.{◌≡◌, refl, sym, ap, ap₂, ◌∙◌, subst}
use mathlib.Core.Bool.{Bool, true, false, ◌||◌, false≢true, or_assoc}
use mathlib.Core.List.{List, [], ◌∷◌, ◌++◌, append_assoc, append-nil}
use Prim.Native.Nat.{ℕ, ◌<◌}
use native.Mathlib.Omega.{arith}
use lib.ListN.{drop}
use lib.Seq.{drop_at}
use lib.Dec.{eqb}
use Rattle.roll_sweep.specs.Sweep.{Sweep, cells, chunks}
use Rattle.journal.specs.Lines.{header_length, line_of}
use Rattle.ledger.specs.Machine.{Entry}
use Rattle.ledger.specs.Ledger.{Ledger, blank, lines_of, ended, ledger_journal, is_in}
use Rattle.ledger.specs.Demand3.{Exist, Distinct, Start}
use Rattle.ledger.specs.Split.{run_chunks, run_lines, split_chunks, split_lines, split_ledger}
use Rattle.journal.proofs.Written.{SweepFacts}
use Rattle.ledger.proofs.Chunks.{Good, good_nil}
use Rattle.ledger.proofs.Simulation.{State, off, on, began, worked, ledger_of}
use Rattle.ledger.proofs.Theorem.{recover_is, start_blank, reach}

-- what is in two lists, one after the other
in_both : (d : ℕ) (L M : List ℕ) → is_in d (L ++ M) ≡ (is_in d L || is_in d M)
unfolding is_in
in_both d [] M = refl
in_both d (c ∷ L) M = ap (λ (t : Bool). eqb c d || t) (in_both d L M) ∙ sym (or_assoc (eqb c d) (is_in d L) (is_in d M))

lines_both : (s : Sweep) (L M : List ℕ) → lines_of s (L ++ M) ≡ lines_of s L ++ lines_of s M
unfolding lines_of
lines_both s [] M = refl
lines_both s (c ∷ L) M = ap (λ (t : List ℕ). line_of s c ++ t) (lines_both s L M) ∙ sym (append_assoc (line_of s c) (lines_of s L) (lines_of s M))

module _ (s : Sweep) (a : SweepFacts s) where
  -- one run's chunks exist, and its lines are theirs
  good_of : (t : State s) → Good s (ledger_of s t).lines
  good_of (off k h) = good_nil s
  good_of (on L r g h) = g
  good_of began = good_nil s
  good_of (worked L c g) = g

  after : (q : List ℕ) → drop header_length (s.header ++ q) ≡ q
  after q = drop_at s.header q header_length a.header

  ended_of : (t : State s) → drop header_length (ended s (ledger_of s t)) ≡ lines_of s (ledger_of s t).lines
  unfolding ended
  ended_of (off k h) = refl
  ended_of (on L r g h) = after (lines_of s L)
  ended_of began = after []
  ended_of (worked L c g) = after (lines_of s (L ++ (c ∷ [])))

  run_good : (es : List Entry) → Good s (run_chunks s es)
  unfolding run_chunks ledger_journal
  run_good es = let r = reach s a blank (start_blank s a) es in subst (λ (l : Ledger). Good s l.lines) (sym r.ledger) (good_of r.state)

  run_lines_lem : (es : List Entry) → run_lines s es ≡ lines_of s (run_chunks s es)
  unfolding run_lines run_chunks ledger_journal
  run_lines_lem es =
      let r = reach s a blank (start_blank s a) es in
      ap (drop header_length) (recover_is s a blank (start_blank s a) es [])
      ∙ ap (λ (l : Ledger). drop header_length (ended s l)) r.ledger
      ∙ ended_of r.state
      ∙ ap (λ (l : Ledger). lines_of s l.lines) (sym r.ledger)

  -- so are those of several runs
  split_exist : (runs : List (List Entry)) → Exist s (split_chunks s runs)
  unfolding split_chunks is_in
  split_exist [] c h = absurd (false≢true h)
  split_exist (es ∷ runs) c h = go (is_in c (run_chunks s es)) refl (sym (in_both c (run_chunks s es) (split_chunks s runs)) ∙ h) (split_exist runs c)
    where
      go : (t : Bool) → is_in c (run_chunks s es) ≡ t → is_in c (run_chunks s es) || is_in c (split_chunks s runs) ≡ true
          → (is_in c (split_chunks s runs) ≡ true → c < chunks (cells s)) → c < chunks (cells s)
      go true e q ih = (run_good es).exist c e
      go false e q ih = ih (ap (λ (t : Bool). t || is_in c (split_chunks s runs)) (sym e) ∙ q)

  split_lines_lem : (runs : List (List Entry)) → split_lines s runs ≡ lines_of s (split_chunks s runs)
  unfolding split_lines split_chunks lines_of
  split_lines_lem [] = refl
  split_lines_lem (es ∷ runs) = ap₂ (λ (p q : List ℕ). p ++ q) (run_lines_lem es) (split_lines_lem runs) ∙ sym (lines_both s (run_chunks s es) (split_chunks s runs))

  pub split_start : (runs : List (List Entry)) → Distinct (split_chunks s runs) → Start s (split_ledger s runs)
  split_start runs d = record {
    exist = split_exist runs;
    distinct = d;
    off = λ e. absurd (false≢true (sym e));
    opening = λ e. absurd (false≢true (sym e));
    tail = λ e. omega arith;
    last = refl;
  }

  -- its journal is the header followed by the runs' lines
  pub split_journal : (runs : List (List Entry)) → ledger_journal s (split_ledger s runs) ≡ s.header ++ split_lines s runs
  unfolding ledger_journal
  split_journal runs = append-nil _ ∙ ap (λ (t : List ℕ). s.header ++ t) (sym (split_lines_lem runs))
