-- The machine and the ledger go through the same states, entry by entry. Assumes nothing.
use mathlib.Core.Path.{◌≡◌, refl, sym, ap, ap₂, ◌∙◌}
use mathlib.Core.Bool.{Bool, true, false, ◌||◌, cond, not, false≢true}
use mathlib.Core.List.{List, [], ◌∷◌, ◌++◌, append_assoc, append-nil}
use Prim.Native.Nat.{ℕ, zero, suc, ◌+◌, ◌-◌, ◌≤◌, ◌<◌}
use native.Mathlib.Omega.{arith}
use lib.ListN.{length, take, drop, length-append, length-take}
use lib.Seq.{take_at, take_all, take-append-add}
use lib.Dec.{leb, ltb}
use borrow.Author.Tests.{le-leb, ltb-true, ltb-false, leb-true, leb-false, not-false}
use Rattle.buffers.specs.Refusal.{Reply, accepted, reply, unless_refused}
use Rattle.buffers.specs.Lent.{put, filled}
use Rattle.buffers.proofs.Refusals.{first_clears}
use Rattle.buffers.proofs.Lent.{take_filled}
use Rattle.roll_sweep.specs.Sweep.{Sweep, cells, chunks, sweep_mask, sweep_probes}
use Rattle.journal.specs.Lines.{line_length, header_length, line_of, held_probes}
use Rattle.journal.specs.Right.{whole_lines}
use Rattle.journal.specs.Calls.{begin_refusal, work_refusal, kept, recover_reply, collect_refusal, held_bit}
use Rattle.journal.specs.Range.{range_refusal}
use Rattle.ledger.specs.Machine.{Entry, begin, work, cut, recover, collect, Machine, used_after, leave_of, journal_after, step, Outcome, done, gathered, answering, answer, Seen, trace, machine_run}
use Rattle.ledger.specs.Ledger.{begins, works, cuts, collects, none, header, line, Ledger, lines_of, ended, ledger_journal, is_empty, is_in, are_in, unfinished, ledger_conditions, ledger_refusal, idle, take_back, ledger_accepts, ledger_step, ledger_answer, ledger_trace, ledger_run}
use Rattle.ledger.specs.Demand3.{event_of, events}
use Rattle.ledger.specs.Range.{ledger_range_refusal}
use Rattle.journal.proofs.Written.{SweepFacts, length_line}
use Rattle.ledger.proofs.Chunks.{without_last, Good, good_nil, good_before, good_end, lines_end}
use Rattle.ledger.proofs.Written.{front, length_front}
use Rattle.ledger.proofs.Known.{Known, known_off, known_on, begin_same, work_same, range_same, recover_same, collect_same}

-- ---- the states that both go through

-- the mark is off, and the first k bytes of the header are left; the mark is on, with the lines of L and a remnant r; the header was written just
-- now; the line of c was written just now, after those of L
pub data State (s : Sweep) : Type 0 where
  off : (k : ℕ) → k < header_length → State s
  on : (L r : List ℕ) → Good s L → length r < line_length → State s
  began : State s
  worked : (L : List ℕ) (c : ℕ) → Good s (L ++ (c ∷ [])) → State s

-- the ledger there, and the machine
abbrev pub ledger_of : (s : Sweep) → State s → Ledger
ledger_of s (off k h) = record { mark = false; lines = []; remnant = take k s.header; last = none }
ledger_of s (on L r g h) = record { mark = true; lines = L; remnant = r; last = none }
ledger_of s began = record { mark = true; lines = []; remnant = []; last = header }
ledger_of s (worked L c g) = record { mark = true; lines = L ++ (c ∷ []); remnant = []; last = line c }

abbrev added_of : (s : Sweep) → State s → ℕ
added_of s (off k h) = 0
added_of s (on L r g h) = 0
added_of s began = header_length
added_of s (worked L c g) = line_length

abbrev pub machine_of : (s : Sweep) → State s → Machine
machine_of s t = record { journal = ledger_journal s (ledger_of s t); added = added_of s t }

-- a step that both take
record Next (s : Sweep) (t : State s) (e : Entry) : Type 0 where
  next : State s
  machine : step s e (machine_of s t) ≡ machine_of s next
  ledger : ledger_step s (event_of e (machine_of s t)) (ledger_of s t) ≡ ledger_of s next
  answers : answer s e (machine_of s t) ≡ ledger_answer s (event_of e (machine_of s t)) (ledger_of s t)

-- the machine after a step, by its journal
pub moved : (s : Sweep) (e : Entry) (m : Machine) (j : List ℕ) (n : ℕ) → journal_after s e m ≡ j → length j - length m.journal ≡ n
    → step s e m ≡ record { journal = j; added = n }
unfolding step
moved s e m j n p q = (λ i. record { journal = p i; added = length (p i) - length m.journal }) ∙ (λ i. record { journal = j; added = q i })

-- nothing changes, and nothing is left for a cut
abbrev still : (s : Sweep) → State s → State s
still s (off k h) = off k h
still s (on L r g h) = on L r g h
still s began = on [] [] (good_nil s) (omega arith)
still s (worked L c g) = on (L ++ (c ∷ [])) [] g (omega arith)

still_ledger : (s : Sweep) (t : State s) → idle (ledger_of s t) ≡ ledger_of s (still s t)
still_ledger s (off k h) = refl
still_ledger s (on L r g h) = refl
still_ledger s began = refl
still_ledger s (worked L c g) = refl

still_journal : (s : Sweep) (t : State s) → ledger_journal s (ledger_of s t) ≡ ledger_journal s (ledger_of s (still s t))
unfolding ledger_journal
still_journal s t = ap (ledger_journal s) (still_ledger s t)

still_added : (s : Sweep) (t : State s) → added_of s (still s t) ≡ 0
still_added s (off k h) = refl
still_added s (on L r g h) = refl
still_added s began = refl
still_added s (worked L c g) = refl

still_machine : (s : Sweep) (t : State s) (e : Entry) → journal_after s e (machine_of s t) ≡ ledger_journal s (ledger_of s t) → step s e (machine_of s t) ≡ machine_of s (still s t)
still_machine s t e p =
    let j : List ℕ = ledger_journal s (ledger_of s t) in
    let z : length j - length j ≡ added_of s (still s t) = omega (arith, still_added s t) in
    moved s e (machine_of s t) j (added_of s (still s t)) p z ∙ (λ i. record { journal = still_journal s t i; added = added_of s (still s t) })

-- ---- replies

answering_reply : (f : ℕ → Outcome) (k v : ℕ) → answering f (reply k v) ≡ reply k (f v)
unfolding reply
answering_reply f zero v = refl
answering_reply f (suc k) v = refl

empty_nil : (j : List ℕ) → is_empty j ≡ true → j ≡ []
empty_nil [] e = refl
empty_nil (x ∷ j) e = absurd (false≢true e)

-- ---- cuts and writes of a list of bytes

-- the write that a cut finds whole
pub cut_whole : (j : List ℕ) (n k : ℕ) → n ≤ k → leave_of k n j ≡ j
cut_whole j n k h = go (leb k n) refl
  where
    go : (t : Bool) → leb k n ≡ t → cond t (take (length j - n + k) j) j ≡ j
    go true e = take_all (length j - n + k) j (omega (arith, leb-true k n e))
    go false e = refl

-- the write q that a cut leaves k bytes of
pub cut_part : (p q : List ℕ) (n k : ℕ) → length q ≡ n → k ≤ n → leave_of k n (p ++ q) ≡ p ++ take k q
cut_part p q n k z h =
    let e : length (p ++ q) - n + k ≡ length p + k = omega (arith, length-append p q) in
    ap (λ (t : Bool). cond t (take (length (p ++ q) - n + k) (p ++ q)) (p ++ q)) (le-leb k n h)
    ∙ ap (λ (m : ℕ). take m (p ++ q)) e
    ∙ take-append-add p q k

-- what stands in the used bytes after a write at their end
pub after_put : (j x t : List ℕ) (n : ℕ) → length t ≡ n → take (length j + n) (put (length j) t (j ++ x)) ≡ j ++ t
unfolding put
after_put j x t n e =
    let d : List ℕ = drop (length j + length t) (j ++ x) in
    ap (λ (b : List ℕ). take (length j + n) (b ++ (t ++ d))) (take_at j x (length j) refl)
    ∙ take-append-add j (t ++ d) n
    ∙ ap (λ (b : List ℕ). j ++ b) (take_at t d n e)

module _ (s : Sweep) (a : SweepFacts s) where
  pub known : (t : State s) → Known s (ledger_of s t)
  known (off k h) = known_off s a k h none
  known (on L r g h) = known_on s a L r g h none
  known began = known_on s a [] [] (good_nil s) (omega arith) header
  known (worked L c g) = known_on s a (L ++ (c ∷ [])) [] g (omega arith) (line c)

  -- ---- recover
  recover_reply_lem : (t : State s) (x : List ℕ) → recover_reply s (ledger_journal s (ledger_of s t) ++ x) (length (ledger_journal s (ledger_of s t))) ≡ accepted (kept (length (ledger_journal s (ledger_of s t))))
  unfolding recover_reply
  recover_reply_lem t x = ap (λ (n : ℕ). reply n (kept (length (ledger_journal s (ledger_of s t))))) (recover_same s a (ledger_of s t) (known t) x)

  -- what ended, without the remnant
  recover_journal : (t : State s) (x : List ℕ) → journal_after s (recover x) (machine_of s t) ≡ ended s (ledger_of s t)
  unfolding journal_after ledger_journal
  recover_journal t x =
      let l : Ledger = ledger_of s t in
      ap (λ (r : Reply ℕ). take (used_after r (length (ledger_journal s l))) (ledger_journal s l ++ x)) (recover_reply_lem t x)
      ∙ ap (take (kept (length (ledger_journal s l)))) (append_assoc (ended s l) l.remnant x)
      ∙ take_at (ended s l) (l.remnant ++ x) (kept (length (ledger_journal s l))) (sym (known t).keeps)

  recovered_state : State s → State s
  recovered_state (off k h) = off 0 (omega arith)
  recovered_state (on L r g h) = on L [] g (omega arith)
  recovered_state began = on [] [] (good_nil s) (omega arith)
  recovered_state (worked L c g) = on (L ++ (c ∷ [])) [] g (omega arith)

  recovered_ledger : (t : State s) → ◌≡◌ {A = Ledger} (record { mark = (ledger_of s t).mark; lines = (ledger_of s t).lines; remnant = []; last = none }) (ledger_of s (recovered_state t))
  unfolding recovered_state
  recovered_ledger (off k h) = refl
  recovered_ledger (on L r g h) = refl
  recovered_ledger began = refl
  recovered_ledger (worked L c g) = refl

  recovered_added : (t : State s) → added_of s (recovered_state t) ≡ 0
  unfolding recovered_state
  recovered_added (off k h) = refl
  recovered_added (on L r g h) = refl
  recovered_added began = refl
  recovered_added (worked L c g) = refl

  recovered_journal : (t : State s) → ended s (ledger_of s t) ≡ ledger_journal s (ledger_of s (recovered_state t))
  unfolding ledger_journal
  recovered_journal t = sym (append-nil (ended s (ledger_of s t))) ∙ ap (ledger_journal s) (recovered_ledger t)

  recover_next : (t : State s) (x : List ℕ) → Next s t (recover x)
  unfolding answer ledger_step ledger_answer ledger_journal
  recover_next t x =
      let l : Ledger = ledger_of s t in
      let z : length (ended s l) - length (ledger_journal s l) ≡ added_of s (recovered_state t) = omega (arith, recovered_added t, length-append (ended s l) l.remnant) in
      record {
        next = recovered_state t;
        machine =
            moved s (recover x) (machine_of s t) (ended s l) (added_of s (recovered_state t)) (recover_journal t x) z
            ∙ (λ i. record { journal = recovered_journal t i; added = added_of s (recovered_state t) });
        ledger = recovered_ledger t;
        answers = ap (answering (λ v. done)) (recover_reply_lem t x);
      }

  -- ---- begin
  -- an empty journal has no header
  no_header : (L r : List ℕ) → front s L ++ r ≡ [] → ⊥
  no_header L r e = omega (arith, length-append (front s L) r, length_front s a L, ap length e)

  begun : (t : State s) → ledger_journal s (ledger_of s t) ≡ [] → ◌≡◌ {A = Ledger} (record { mark = true; lines = (ledger_of s t).lines; remnant = (ledger_of s t).remnant; last = header }) (ledger_of s began)
  unfolding ledger_journal
  begun (off k h) e = λ i. record { mark = true; lines = []; remnant = e i; last = header }
  begun (on L r g h) e = absurd (no_header L r e)
  begun began e = absurd (no_header [] [] e)
  begun (worked L c g) e = absurd (no_header (L ++ (c ∷ [])) [] e)

  -- the journal that begin leaves
  header_only : ledger_journal s (ledger_of s began) ≡ s.header
  unfolding ledger_journal
  header_only = append-nil _ ∙ append-nil _

  begin_empty : (l : Ledger) (room : ℕ) → ledger_refusal s (begins room) l ≡ 0 → ledger_journal s l ≡ []
  unfolding ledger_refusal
  begin_empty l room e =
      let p = first_clears (ledger_conditions s (begins room) l) refl e in
      empty_nil (ledger_journal s l) (not-false (is_empty (ledger_journal s l)) p.0)

  begin_answer : (t : State s) (x : List ℕ) → answer s (begin x) (machine_of s t) ≡ ledger_answer s (event_of (begin x) (machine_of s t)) (ledger_of s t)
  unfolding answer ledger_answer
  begin_answer t x =
      let j : List ℕ = ledger_journal s (ledger_of s t) in
      answering_reply (λ v. done) (begin_refusal s (j ++ x) (length j)) header_length ∙ ap (λ (n : ℕ). reply n done) (begin_same s a (ledger_of s t) x)

  begin_next : (t : State s) (x : List ℕ) → Next s t (begin x)
  unfolding journal_after ledger_step ledger_journal put
  begin_next t x = go (begin_refusal s (ledger_journal s (ledger_of s t) ++ x) (length (ledger_journal s (ledger_of s t)))) refl
    where
      go : (n : ℕ) → begin_refusal s (ledger_journal s (ledger_of s t) ++ x) (length (ledger_journal s (ledger_of s t))) ≡ n → Next s t (begin x)
      go (suc k) e =
          let l : Ledger = ledger_of s t in
          let j : List ℕ = ledger_journal s l in
          record {
            next = still s t;
            machine =
                still_machine s t (begin x)
                (ap (λ (n : ℕ). take (used_after (reply n header_length) (length j)) (unless_refused n (put 0 s.header (j ++ x)) (j ++ x))) e ∙ take_at j x (length j) refl);
            ledger = ap (λ (n : ℕ). unless_refused n (ledger_accepts s (begins (length (j ++ x))) l) (idle l)) (sym (begin_same s a l x) ∙ e) ∙ still_ledger s t;
            answers = begin_answer t x;
          }
      go zero e =
          let l : Ledger = ledger_of s t in
          let j : List ℕ = ledger_journal s l in
          let r : ledger_refusal s (begins (length (j ++ x))) l ≡ 0 = sym (begin_same s a l x) ∙ e in
          let z : j ≡ [] = begin_empty l (length (j ++ x)) r in
          let u : length (ledger_journal s (ledger_of s began)) - length j ≡ header_length = ap₂ (λ (p q : List ℕ). length p - length q) header_only z ∙ omega (arith, a.header) in
          record {
            next = began;
            machine =
                moved s (begin x) (machine_of s t) (ledger_journal s (ledger_of s began)) header_length
                (ap (λ (n : ℕ). take (used_after (reply n header_length) (length j)) (unless_refused n (put 0 s.header (j ++ x)) (j ++ x))) e
                ∙ take_at s.header (drop (0 + length s.header) (j ++ x)) header_length a.header
                ∙ sym header_only)
                u;
            ledger = ap (λ (n : ℕ). unless_refused n (ledger_accepts s (begins (length (j ++ x))) l) (idle l)) r ∙ begun t z;
            answers = begin_answer t x;
          }

  -- ---- work
  work_answer : (t : State s) (c : ℕ) (x : List ℕ) → answer s (work c x) (machine_of s t) ≡ ledger_answer s (event_of (work c x) (machine_of s t)) (ledger_of s t)
  unfolding answer ledger_answer
  work_answer t c x =
      let j : List ℕ = ledger_journal s (ledger_of s t) in
      answering_reply (λ v. done) (work_refusal s c (j ++ x) (length j)) (length j + line_length) ∙ ap (λ (n : ℕ). reply n done) (work_same s a (ledger_of s t) (known t) c x)

  -- what an accepted work knows: the chunk exists, the header stands without a remnant, and the chunk is new
  record Fresh (l : Ledger) (c : ℕ) : Type 0 where
    exists : c < chunks (cells s)
    stands : l.mark ≡ true
    whole : l.remnant ≡ []
    new : is_in c l.lines ≡ false

  pub finished : (m : Bool) (r : List ℕ) → not m || not (is_empty r) ≡ false → (m ≡ true) × (r ≡ [])
  finished true [] e = (refl, refl)
  finished true (y ∷ r) e = absurd (false≢true (sym e))
  finished false r e = absurd (false≢true (sym e))

  work_fresh : (l : Ledger) (c room : ℕ) → ledger_refusal s (works c room) l ≡ 0 → Fresh l c
  unfolding ledger_refusal
  work_fresh l c room e =
      let p = first_clears (ledger_conditions s (works c room) l) refl e in
      let f = finished l.mark l.remnant p.1.0 in
      record { exists = leb-false (chunks (cells s)) c p.0; stands = f.0; whole = f.1; new = p.1.1.0 }

  -- the journal that work leaves
  line_added : (l : Ledger) (c : ℕ) → Fresh l c → (g : Good s (l.lines ++ (c ∷ []))) → ledger_journal s l ++ line_of s c ≡ ledger_journal s (ledger_of s (worked l.lines c g))
  unfolding ledger_journal
  line_added l c f g =
      let e : s.header ++ lines_of s l.lines ++ [] ++ line_of s c ≡ s.header ++ (lines_of s l.lines ++ line_of s c) ++ [] = simp (append_assoc, append-nil) in
      (λ i. cond (f.stands i) s.header [] ++ lines_of s l.lines ++ f.whole i ++ line_of s c)
      ∙ e
      ∙ ap (λ (t : List ℕ). s.header ++ t ++ []) (sym (lines_end s l.lines c))

  work_next : (t : State s) (c : ℕ) (x : List ℕ) → Next s t (work c x)
  unfolding journal_after ledger_step
  work_next t c x = go (work_refusal s c (ledger_journal s (ledger_of s t) ++ x) (length (ledger_journal s (ledger_of s t)))) refl
    where
      go : (n : ℕ) → work_refusal s c (ledger_journal s (ledger_of s t) ++ x) (length (ledger_journal s (ledger_of s t))) ≡ n → Next s t (work c x)
      go (suc k) e =
          let l : Ledger = ledger_of s t in
          let j : List ℕ = ledger_journal s l in
          record {
            next = still s t;
            machine =
                still_machine s t (work c x)
                (ap (λ (n : ℕ). take (used_after (reply n (length j + line_length)) (length j)) (unless_refused n (put (length j) (line_of s c) (j ++ x)) (j ++ x))) e ∙ take_at j x (length j) refl);
            ledger = ap (λ (n : ℕ). unless_refused n (ledger_accepts s (works c (length (j ++ x))) l) (idle l)) (sym (work_same s a l (known t) c x) ∙ e) ∙ still_ledger s t;
            answers = work_answer t c x;
          }
      go zero e =
          let l : Ledger = ledger_of s t in
          let j : List ℕ = ledger_journal s l in
          let r : ledger_refusal s (works c (length (j ++ x))) l ≡ 0 = sym (work_same s a l (known t) c x) ∙ e in
          let f = work_fresh l c (length (j ++ x)) r in
          let g : Good s (l.lines ++ (c ∷ [])) = good_end s l.lines c (known t).good f.exists f.new in
          let w : j ++ line_of s c ≡ ledger_journal s (ledger_of s (worked l.lines c g)) = line_added l c f g in
          let u : length (ledger_journal s (ledger_of s (worked l.lines c g))) - length j ≡ line_length = ap (λ (p : List ℕ). length p - length j) (sym w) ∙ omega (arith, length-append j (line_of s c), length_line s c) in
          record {
            next = worked l.lines c g;
            machine =
                moved s (work c x) (machine_of s t) (ledger_journal s (ledger_of s (worked l.lines c g))) line_length
                (ap (λ (n : ℕ). take (used_after (reply n (length j + line_length)) (length j)) (unless_refused n (put (length j) (line_of s c) (j ++ x)) (j ++ x))) e
                ∙ after_put j x (line_of s c) line_length (length_line s c)
                ∙ w)
                u;
            ledger =
                ap (λ (n : ℕ). unless_refused n (ledger_accepts s (works c (length (j ++ x))) l) (idle l)) r
                ∙ (λ i. record { mark = f.stands i; lines = l.lines ++ (c ∷ []); remnant = f.whole i; last = line c });
            answers = work_answer t c x;
          }

  -- ---- cut
  cut_still : (t : State s) (k : ℕ) → added_of s t ≤ k → ledger_accepts s (cuts k) (ledger_of s t) ≡ idle (ledger_of s t) → Next s t (cut k)
  unfolding journal_after answer ledger_answer ledger_step
  cut_still t k h e = record {
    next = still s t;
    machine = still_machine s t (cut k) (cut_whole (ledger_journal s (ledger_of s t)) (added_of s t) k h);
    ledger = e ∙ still_ledger s t;
    answers = refl;
  }

  -- a cut short of the write w, which left p before it and is q
  module _ (t t' : State s) (k : ℕ) (p q : List ℕ) (n : ℕ) (j : ledger_journal s (ledger_of s t) ≡ p ++ q) (z : length q ≡ n) (d : added_of s t ≡ n) (h : k < n) where
    cut_short : p ++ take k q ≡ ledger_journal s (ledger_of s t') → added_of s t' ≡ 0 → ledger_accepts s (cuts k) (ledger_of s t) ≡ ledger_of s t' → Next s t (cut k)
    unfolding journal_after answer ledger_answer ledger_step
    cut_short j' d' e =
        let u : length (p ++ take k q) - length (ledger_journal s (ledger_of s t)) ≡ added_of s t' = ap (λ (b : List ℕ). length (p ++ take k q) - length b) j ∙ omega (arith, length-append p q, length-append p (take k q), length-take k q) in
        record {
          next = t';
          machine =
              moved s (cut k) (machine_of s t) (p ++ take k q) (added_of s t') (ap₂ (leave_of k) d j ∙ cut_part p q n k z (omega arith)) u
              ∙ (λ i. record { journal = j' i; added = added_of s t' });
          ledger = e;
          answers = refl;
        }

  cut_header : (k : ℕ) → Next s began (cut k)
  unfolding ledger_journal ledger_accepts
  cut_header k = go (ltb k (length s.header)) refl
    where
      go : (b : Bool) → ltb k (length s.header) ≡ b → Next s began (cut k)
      go true e =
          let h : k < header_length = omega (arith, ltb-true k (length s.header) e, a.header) in
          cut_short began (off k h) k [] s.header header_length header_only a.header refl h refl refl
          (ap (λ (b : Bool). cond b (take_back s k header (ledger_of s began)) (idle (ledger_of s began))) e)
      go false e =
          cut_still began k (omega (arith, ltb-false k (length s.header) e, a.header))
          (ap (λ (b : Bool). cond b (take_back s k header (ledger_of s began)) (idle (ledger_of s began))) e)

  cut_line : (L : List ℕ) (c : ℕ) (g : Good s (L ++ (c ∷ []))) (k : ℕ) → Next s (worked L c g) (cut k)
  unfolding ledger_journal ledger_accepts
  cut_line L c g k = go (ltb k (length (line_of s c))) refl
    where
      go : (b : Bool) → ltb k (length (line_of s c)) ≡ b → Next s (worked L c g) (cut k)
      go true e =
          let h : k < line_length = omega (arith, ltb-true k (length (line_of s c)) e, length_line s c) in
          let m : length (take k (line_of s c)) < line_length = omega (arith, length-take k (line_of s c)) in
          let t : State s = worked L c g in
          let j : s.header ++ lines_of s (L ++ (c ∷ [])) ++ [] ≡ front s L ++ line_of s c = append-nil _ ∙ ap (λ (b : List ℕ). s.header ++ b) (lines_end s L c) ∙ sym (append_assoc s.header (lines_of s L) (line_of s c)) in
          cut_short t (on L (take k (line_of s c)) (good_before s L c g) m) k (front s L) (line_of s c) line_length j (length_line s c) refl h refl refl
          (ap (λ (b : Bool). cond b (take_back s k (line c) (ledger_of s t)) (idle (ledger_of s t))) e
          ∙ (λ i. record { mark = true; lines = without_last L c i; remnant = take k (line_of s c); last = none }))
      go false e =
          let t : State s = worked L c g in
          cut_still t k (omega (arith, ltb-false k (length (line_of s c)) e, length_line s c))
          (ap (λ (b : Bool). cond b (take_back s k (line c) (ledger_of s t)) (idle (ledger_of s t))) e)

  nothing : (l : Ledger) (b : Bool) → cond b l l ≡ l
  nothing l true = refl
  nothing l false = refl

  cut_next : (t : State s) (k : ℕ) → Next s t (cut k)
  unfolding ledger_accepts
  cut_next (off j h) k = cut_still (off j h) k (omega arith) (nothing (idle (ledger_of s (off j h))) (ltb k 0))
  cut_next (on L r g h) k = cut_still (on L r g h) k (omega arith) (nothing (idle (ledger_of s (on L r g h))) (ltb k 0))
  cut_next began k = cut_header k
  cut_next (worked L c g) k = cut_line L c g k

  -- ---- collect
  -- an accepted collect found the header, no remnant, and every chunk
  collect_whole : (l : Ledger) (room maskRoom : ℕ) → ledger_refusal s (collects room maskRoom) l ≡ 0 → (unfinished l ≡ false) × (are_in (chunks (cells s)) l.lines ≡ true)
  unfolding ledger_refusal
  collect_whole l room maskRoom e =
      let p = first_clears (ledger_conditions s (collects room maskRoom) l) refl e in
      (p.0, not-false (are_in (chunks (cells s)) l.lines) p.1.0)

  collect_answer : (t : State s) (x o : List ℕ) → answer s (collect x o) (machine_of s t) ≡ ledger_answer s (event_of (collect x o) (machine_of s t)) (ledger_of s t)
  unfolding answer ledger_answer
  collect_answer t x o = go (ledger_refusal s (collects (length (ledger_journal s (ledger_of s t) ++ x)) (length o)) (ledger_of s t)) refl
    where
      go : (n : ℕ) → ledger_refusal s (collects (length (ledger_journal s (ledger_of s t) ++ x)) (length o)) (ledger_of s t) ≡ n → answer s (collect x o) (machine_of s t) ≡ ledger_answer s (event_of (collect x o) (machine_of s t)) (ledger_of s t)
      go n e =
          let l : Ledger = ledger_of s t in
          let b : List ℕ = ledger_journal s l ++ x in
          let u : ℕ = length (ledger_journal s l) in
          let v : ℕ = held_probes b (whole_lines u) in
          let shown : ℕ → Reply Outcome = λ n. answering (gathered (take (cells s) (unless_refused n (filled (cells s) (held_bit b u) o) o))) (reply n v) in
          let r : collect_refusal s b u o ≡ n = collect_same s a l (known t) x o ∙ e in
          ap shown r ∙ said n e ∙ ap (λ (n : ℕ). reply n (gathered (sweep_mask s) (sweep_probes s))) (sym e)
        where
          said : (n : ℕ) → ledger_refusal s (collects (length (ledger_journal s (ledger_of s t) ++ x)) (length o)) (ledger_of s t) ≡ n
              → answering (gathered (take (cells s) (unless_refused n (filled (cells s) (held_bit (ledger_journal s (ledger_of s t) ++ x) (length (ledger_journal s (ledger_of s t)))) o) o))) (reply n (held_probes (ledger_journal s (ledger_of s t) ++ x) (whole_lines (length (ledger_journal s (ledger_of s t))))))
              ≡ reply n (gathered (sweep_mask s) (sweep_probes s))
          said (suc n) e = refl
          said zero e =
              let l : Ledger = ledger_of s t in
              let w = collect_whole l (length (ledger_journal s l ++ x)) (length o) e in
              ap₂ (λ (m : List ℕ) (p : ℕ). accepted (gathered m p))
              (take_filled (held_bit (ledger_journal s l ++ x) (length (ledger_journal s l))) (cells s) o ∙ (known t).mask x w.0 w.1)
              ((known t).probes x w.0 w.1)

  collect_next : (t : State s) (x o : List ℕ) → Next s t (collect x o)
  unfolding journal_after ledger_step
  collect_next t x o = record {
    next = still s t;
    machine = still_machine s t (collect x o) refl;
    ledger = go (ledger_refusal s (event_of (collect x o) (machine_of s t)) (ledger_of s t)) ∙ still_ledger s t;
    answers = collect_answer t x o;
  }
    where
      go : (n : ℕ) → unless_refused n (idle (ledger_of s t)) (idle (ledger_of s t)) ≡ idle (ledger_of s t)
      go zero = refl
      go (suc n) = refl

  -- ---- every list
  step_next : (t : State s) (e : Entry) → Next s t e
  step_next t (begin x) = begin_next t x
  step_next t (work c x) = work_next t c x
  step_next t (cut k) = cut_next t k
  step_next t (recover x) = recover_next t x
  step_next t (collect x o) = collect_next t x o

  pub same_from : (es : List Entry) (t : State s) → trace s es (machine_of s t) ≡ ledger_trace s (events s es (machine_of s t)) (ledger_of s t)
  unfolding trace ledger_trace events
  same_from [] t = refl
  same_from (e ∷ es) t =
      let n = step_next t e in
      let head : ◌≡◌ {A = Seen} (record { reply = answer s e (machine_of s t); bytes = (step s e (machine_of s t)).journal })
      (record { reply = ledger_answer s (event_of e (machine_of s t)) (ledger_of s t); bytes = ledger_journal s (ledger_step s (event_of e (machine_of s t)) (ledger_of s t)) }) =
      λ i. record {
        reply = n.answers i;
        bytes = (ap (λ (m : Machine). m.journal) n.machine ∙ sym (ap (ledger_journal s) n.ledger)) i;
      } in
      let rest : trace s es (step s e (machine_of s t)) ≡ ledger_trace s (events s es (step s e (machine_of s t))) (ledger_step s (event_of e (machine_of s t)) (ledger_of s t)) =
      ap (trace s es) n.machine
      ∙ same_from es n.next
      ∙ sym (ap₂ (λ (m : Machine) (l : Ledger). ledger_trace s (events s es m) l) n.machine n.ledger) in
      ap₂ {C = List Seen} (λ x xs. x ∷ xs) head rest

  -- ---- where a list leads
  pub record Reached (m : Machine) (l : Ledger) : Type 0 where
    pub state : State s
    pub machine : m ≡ machine_of s state
    pub ledger : l ≡ ledger_of s state

  pub reach_from : (es : List Entry) (t : State s) → Reached (machine_run s es (machine_of s t)) (ledger_run s (events s es (machine_of s t)) (ledger_of s t))
  unfolding machine_run ledger_run events
  reach_from [] t = record { state = t; machine = refl; ledger = refl }
  reach_from (e ∷ es) t =
      let n = step_next t e in
      let r = reach_from es n.next in
      record {
        state = r.state;
        machine = ap (machine_run s es) n.machine ∙ r.machine;
        ledger = ap₂ (λ (m : Machine) (l : Ledger). ledger_run s (events s es m) l) n.machine n.ledger ∙ r.ledger;
      }

  pub recover_at : (t : State s) (x : List ℕ) → (answer s (recover x) (machine_of s t) ≡ accepted done) × ((step s (recover x) (machine_of s t)).journal ≡ ended s (ledger_of s t))
  unfolding answer step
  recover_at t x = (ap (answering (λ v. done)) (recover_reply_lem t x), recover_journal t x)

  pub range_at : (t : State s) (from to : ℕ) (x : List ℕ)
      → range_refusal s from to (ledger_journal s (ledger_of s t) ++ x) (length (ledger_journal s (ledger_of s t))) ≡ ledger_range_refusal s from to (length (ledger_journal s (ledger_of s t) ++ x)) (ledger_of s t)
  range_at t from to x = range_same s a (ledger_of s t) (known t) from to x

  pub work_at : (t : State s) (c : ℕ) (x : List ℕ)
      → work_refusal s c (ledger_journal s (ledger_of s t) ++ x) (length (ledger_journal s (ledger_of s t))) ≡ ledger_refusal s (works c (length (ledger_journal s (ledger_of s t) ++ x))) (ledger_of s t)
  work_at t c x = work_same s a (ledger_of s t) (known t) c x

  pub collect_at : (t : State s) (x o : List ℕ) → answer s (collect x o) (machine_of s t) ≡ ledger_answer s (event_of (collect x o) (machine_of s t)) (ledger_of s t)
  collect_at t x o = collect_answer t x o
