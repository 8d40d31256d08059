-- Section 4: the machine that runs a list of begin, work, cut, recover and collect on one journal. Its calls are the very definitions that the
-- contracts of the journal's calls cite. Document 01 is quoted above what it defines. Definitions only. Assumes nothing.
use Rattle.std.specs.Prelude.{cond, List, [], ◌∷◌, ◌++◌, ℕ, ◌+◌, ◌-◌, leb, length, take}
use Rattle.buffers.specs.Refusal.{Reply, refused, accepted}
use Rattle.roll_sweep.specs.Sweep.{Sweep, cells}
use Rattle.journal.specs.Calls.{begin_reply, begin_bytes, work_reply, work_bytes, recover_reply, collect_reply, collect_mask}

-- "Each call is lent the one plan, and J as the entry before left it, in a buffer that holds it": J, and after it any bytes, which a call's entry
-- gives. Work has the number c, cut the number k. Collect is lent a mask too: any bytes, the second list.
pub data Entry : Type 0 where
  begin : List ℕ → Entry
  work : ℕ → List ℕ → Entry
  cut : ℕ → Entry
  recover : List ℕ → Entry
  collect : List ℕ → List ℕ → Entry

-- "The machine: J, the used bytes, at first empty." Also how many bytes the entry before added to J: more than 0 only after an accepted begin or work.
pub record Machine : Type 0 where
  pub journal : List ℕ
  pub added : ℕ

-- the machine at first
abbrev pub power_up : Machine
power_up = record { journal = []; added = 0 }

-- the used length that a call leaves, of u before it
abbrev pub used_after : Reply ℕ → ℕ → ℕ
used_after (refused k) u = u
used_after (accepted v) u = v

-- "Cut k, only directly after an accepted begin or work, leaves of that write its first k bytes, 0 to all; earlier bytes stand." A cut that follows
-- no such write, or has k beyond it, is no entry of demand 3's lists: it changes nothing, here and in the ledger.
abbrev pub leave_of : ℕ → ℕ → List ℕ → List ℕ
leave_of k added j = cond (leb k added) (take (length j - added + k) j) j

-- J after an entry. Recover alters no byte, and collect is lent J for reading only.
unfoldable pub journal_after : Sweep → Entry → Machine → List ℕ
unfolding begin_reply begin_bytes work_reply work_bytes recover_reply
journal_after s (begin x) m =
    let b : List ℕ = m.journal ++ x in
    let u : ℕ = length m.journal in
    take (used_after (begin_reply s b u) u) (begin_bytes s b u)
journal_after s (work c x) m =
    let b : List ℕ = m.journal ++ x in
    let u : ℕ = length m.journal in
    take (used_after (work_reply s c b u) u) (work_bytes s c b u)
journal_after s (cut k) m = leave_of k m.added m.journal
journal_after s (recover x) m =
    let b : List ℕ = m.journal ++ x in
    let u : ℕ = length m.journal in
    take (used_after (recover_reply s b u) u) b
journal_after s (collect x o) m = m.journal

-- the machine after an entry
unfoldable pub step : Sweep → Entry → Machine → Machine
unfolding journal_after
step s e m = record { journal = journal_after s e m; added = length (journal_after s e m) - length m.journal }

-- what an accepted entry answers: a collect its mask and sum, any other nothing
pub data Outcome : Type 0 where
  done : Outcome
  gathered : List ℕ → ℕ → Outcome

-- a call's reply, its number taken as the outcome f
abbrev pub answering : (ℕ → Outcome) → Reply ℕ → Reply Outcome
answering f (refused k) = refused k
answering f (accepted v) = accepted (f v)

-- what an entry answers. Collect's mask is the lent one's first places, one byte a cell.
unfoldable pub answer : Sweep → Entry → Machine → Reply Outcome
unfolding begin_reply work_reply recover_reply collect_reply collect_mask
answer s (begin x) m = answering (λ v. done) (begin_reply s (m.journal ++ x) (length m.journal))
answer s (work c x) m = answering (λ v. done) (work_reply s c (m.journal ++ x) (length m.journal))
answer s (cut k) m = accepted done
answer s (recover x) m = answering (λ v. done) (recover_reply s (m.journal ++ x) (length m.journal))
answer s (collect x o) m =
    let b : List ℕ = m.journal ++ x in
    let u : ℕ = length m.journal in
    answering (gathered (take (cells s) (collect_mask s b u o))) (collect_reply s b u o)

-- "After every entry it compares J's used bytes; for a call also whether it is accepted or which number it gives, and for an accepted collect the
-- mask and the sum."
pub record Seen : Type 0 where
  pub reply : Reply Outcome
  pub bytes : List ℕ

-- what is seen after each entry of a list
unfoldable pub trace : Sweep → List Entry → Machine → List Seen
unfolding answer step
trace s [] m = []
trace s (e ∷ es) m = record { reply = answer s e m; bytes = (step s e m).journal } ∷ trace s es (step s e m)

-- the machine after a list of entries
unfoldable pub machine_run : Sweep → List Entry → Machine → Machine
unfolding step
machine_run s [] m = m
machine_run s (e ∷ es) m = machine_run s es (step s e m)
