-- Work over a range, in the machine: a call whose write has many lines, and may be cut at every byte; and the works and the cut that it comes to.
-- Definitions only. Assumes nothing.
use Rattle.std.specs.Prelude.{◌≡◌, List, [], ◌∷◌, ◌++◌, ℕ, zero, suc, ◌+◌, ◌-◌, ◌*◌, ◌/◌, ◌%◌, ◌≤◌, ◌<◌, leb, length, take, drop}
use Rattle.buffers.specs.Refusal.{first, carried, accepted}
use Rattle.roll_sweep.specs.Sweep.{Sweep}
use Rattle.journal.specs.Lines.{line_length}
use Rattle.journal.specs.Range.{range_refusal, range_reply, range_bytes, range_stopped}
use Rattle.ledger.specs.Machine.{Entry, work, cut, Machine, used_after, step}
use Rattle.ledger.specs.Ledger.{works, Ledger, ledger_journal, ledger_refusal}
use Rattle.ledger.specs.Demand3.{machine_after, ledger_after}

-- J after work over the chunks from `from` to `to`, lent with the bytes x after J
unfoldable pub range_journal : Sweep → ℕ → ℕ → List ℕ → Machine → List ℕ
unfolding range_reply range_bytes
range_journal s from to x m =
    let b : List ℕ = m.journal ++ x in
    let u : ℕ = length m.journal in
    take (used_after (range_reply s from to b u) u) (range_bytes s from to b u)

-- the machine after it: what it added is its whole write, all its lines
unfoldable pub range_step : Sweep → ℕ → ℕ → List ℕ → Machine → Machine
unfolding range_journal
range_step s from to x m = record { journal = range_journal s from to x m; added = length (range_journal s from to x m) - length m.journal }

-- q works from chunk c on, each lent what the one before left in the same buffer; then what `rest` makes of the next chunk and of what is left of x
unfoldable pub works_then : ℕ → ℕ → List ℕ → (ℕ → List ℕ → List Entry) → List Entry
works_then zero c x rest = rest c x
works_then (suc q) c x rest = work c x ∷ works_then q (c + 1) (drop line_length x) rest

-- the works alone; and with a cut of the next that leaves r bytes of it. With r = 0 the next leaves nothing, whether it was accepted or not
abbrev pub works_of : ℕ → ℕ → List ℕ → List Entry
works_of q c x = works_then q c x (λ d y. [])

abbrev pub works_cut : ℕ → ℕ → ℕ → List ℕ → List Entry
works_cut q r c x = works_then q c x (λ d y. work d y ∷ cut r ∷ [])

-- what its write, cut at byte k, comes to: the first k / 33 works, and a cut of k % 33 of the next
abbrev pub range_entries : ℕ → ℕ → List ℕ → List Entry
range_entries k from x = works_cut (k / line_length) (k % line_length) from x

-- the number that the ledger gives it: 9 if from is not below to, else that of its work of from
unfoldable pub ledger_range_refusal : Sweep → ℕ → ℕ → ℕ → Ledger → ℕ
unfolding first carried ledger_refusal
ledger_range_refusal s from to room l =
    first ((leb to from, 9)
    ∷ carried (ledger_refusal s (works from room) l)
    ∷ [])

-- an accepted range that is not cut, on the machine m after the entries es: c is the lent number that it leaves
pub record Uncut (s : Sweep) (l : Ledger) (es : List Entry) (from to : ℕ) (x : List ℕ) (m : Machine) (c : ℕ) : Type 0 where
  -- it did the works of from, .., c - 1, and one at least
  pub some : from < c
  pub most : c ≤ to
  -- it answers the used length after their lines
  pub answered : range_reply s from to (m.journal ++ x) (length m.journal) ≡ accepted (length m.journal + line_length * (c - from))
  -- it leaves the journal of the ledger after them
  pub journal : range_journal s from to x m ≡ ledger_journal s (ledger_after s l (es ++ works_of (c - from) from x))
  -- it stopped at c because that is the end, or because the ledger refuses work of c there
  pub stopped : c < to → 0 < ledger_refusal s (works c (length (m.journal ++ x))) (ledger_after s l (es ++ works_of (c - from) from x))

-- the clauses, of a range on the machine m after the entries es
pub record RangeKeptOn (s : Sweep) (l : Ledger) (es : List Entry) (from to : ℕ) (x : List ℕ) (m : Machine) : Type 0 where
  -- it is accepted, or refused with its number, as the ledger says
  pub refusal : range_refusal s from to (m.journal ++ x) (length m.journal) ≡ ledger_range_refusal s from to (length (m.journal ++ x)) (ledger_after s l es)
  -- uncut: the answer, the lent number (whatever it was before) and the journal
  pub uncut : range_refusal s from to (m.journal ++ x) (length m.journal) ≡ 0 → (old : ℕ)
      → Uncut s l es from to x m (range_stopped s from to (m.journal ++ x) (length m.journal) old)
  -- its whole write cut at byte k: the machine is that of the works and the cut. k may be all of its bytes: such a cut leaves the journal as the range left it
  pub machine : (k : ℕ) → k ≤ (range_step s from to x m).added → step s (cut k) (range_step s from to x m) ≡ machine_after s l (es ++ range_entries k from x)
  -- and the journal is that of the ledger after them
  pub journal : (k : ℕ) → k ≤ (range_step s from to x m).added
      → (step s (cut k) (range_step s from to x m)).journal ≡ ledger_journal s (ledger_after s l (es ++ range_entries k from x))

-- after a list es of entries from the state of the ledger l
abbrev pub RangeKept : Sweep → Ledger → List Entry → ℕ → ℕ → List ℕ → Type 0
RangeKept s l es from to x = RangeKeptOn s l es from to x (machine_after s l es)
