-- Demand 3 for a plan and its times. Each clause stands under the customer's words. The journal's calls see a plan p and its rolls as a sweep,
-- `sweep_of p rolls said` (journal: specs/Plan), of n even rolls `even_sweep p n`, of a lent table of rolls `table_sweep p rolls`; machine and ledger are
-- that sweep's. Definitions only. Assumes nothing.
use Rattle.std.specs.Prelude.{◌≡◌, ◌↔◌, true, false, List, [], ◌∷◌, ◌++◌, ℕ, ◌+◌, ◌*◌, ◌≤◌, ◌<◌, length, get_or, take, ℤ, Float}
use Rattle.std.specs.Float.{nan}
use Rattle.buffers.specs.Ranges.{sum}
use Rattle.buffers.specs.Refusal.{accepted}
use Rattle.solar_roll.specs.Plan.{Plan, rows_of, times_of, violates_at}
use Rattle.roll_sweep.specs.Sweep.{Sweep, cells, chunks, tried}
use Rattle.roll_sweep.specs.Rolls.{even_roll, table_refusal}
use Rattle.journal.specs.Lines.{header_length, line_length}
use Rattle.journal.specs.Plan.{sweep_of, even_sweep}
use Rattle.ledger.specs.Machine.{Entry, begin, work, cut, recover, collect, Machine, step, done, gathered, answer, trace, machine_run}
use Rattle.ledger.specs.Ledger.{Event, begins, works, cuts, recovers, collects, none, Ledger, ended, ledger_journal, is_in, ledger_trace, ledger_run}
use Rattle.ledger.specs.Windows.{row_part, RowWindows}

-- an entry as the ledger is fed it: of what is lent, the lengths only
abbrev pub event_of : Entry → Machine → Event
event_of (begin x) m = begins (length (m.journal ++ x))
event_of (work c x) m = works c (length (m.journal ++ x))
event_of (cut k) m = cuts k
event_of (recover x) m = recovers (length (m.journal ++ x))
event_of (collect x o) m = collects (length (m.journal ++ x)) (length o)

-- a list of entries as the ledger is fed it, each on the machine that the one before left
unfoldable pub events : Sweep → List Entry → Machine → List Event
unfolding step
events s [] m = []
events s (e ∷ es) m = event_of e m ∷ events s es (step s e m)

-- ---- where a list may start: with no bytes, and more generally in each state that a list can lead to, once more just powered up

-- every chunk of L exists; none is there twice
abbrev pub Exist : Sweep → List ℕ → Type 0
Exist s L = (c : ℕ) → is_in c L ≡ true → c < chunks (cells s)

abbrev pub Distinct : List ℕ → Type 0
Distinct [] = Unit {0}
Distinct (c ∷ L) = (is_in c L ≡ false) × Distinct L

pub record Start (s : Sweep) (l : Ledger) : Type 0 where
  pub exist : Exist s l.lines
  pub distinct : Distinct l.lines
  -- no chunk is there while the mark is off
  pub off : l.mark ≡ false → l.lines ≡ []
  -- the remnant is a proper beginning of the header while the mark is off; while it is on, shorter than a line, as a proper beginning of one is
  pub opening : l.mark ≡ false → (length l.remnant < header_length) × (l.remnant ≡ take (length l.remnant) s.header)
  pub tail : l.mark ≡ true → length l.remnant < line_length
  -- no write has just been made
  pub last : l.last ≡ none

-- the machine there; and machine and ledger after a list of entries
abbrev pub machine_at : Sweep → Ledger → Machine
machine_at s l = record { journal = ledger_journal s l; added = 0 }

abbrev pub machine_after : Sweep → Ledger → List Entry → Machine
machine_after s l es = machine_run s es (machine_at s l)

abbrev pub ledger_after : Sweep → Ledger → List Entry → Ledger
ledger_after s l es = ledger_run s (events s es (machine_at s l)) l

-- ---- demand 3

-- "Once the header stands and each chunk has a line" (the ledger refuses collect before), what "an accepted collect" with the mask m and the sum q is.
-- The cell of row i at time j has number i · times + j; of the n samples, sample k is `roll k`, which violatesAt takes as a Sweep roll.
pub record Collected (p : Plan) (n : ℕ) (roll : ℕ → Float) (times : List ℤ) (m : List ℕ) (q : ℕ) : Type 0 where
  -- "marks a cell exactly when every sampled roll violates it": one byte a cell, 1 where it is marked and 0 where it is not
  pub bytes : length m ≡ rows_of p * times_of p
  pub bits : (i : ℕ) → i < rows_of p * times_of p → get_or m i 0 ≤ 1
  pub marks : (i j : ℕ) → i < rows_of p → j < times_of p
      → (get_or m (i * times_of p + j) 0 ≡ 1) ↔ ((k : ℕ) → k < n → violates_at p i j (roll k) ≡ true)
  -- "Its probes = the sum over cells of the rolls tried through the first clear one, all of them if none is."
  pub probes : q ≡ sum (rows_of p) (λ i. sum (times_of p) (λ j. tried n (λ k. violates_at p i j (roll k))))
  -- "Each row's violation windows .. Its visibility windows ..": in Windows, clause by clause
  pub windows : (i : ℕ) → i < rows_of p → RowWindows times (row_part (times_of p) i m)

-- The clauses, for the sweep s of the plan and its n samples, from the state of the ledger l, where that is a start: "For every list of begin, work, cut,
-- recover and collect .., refused calls included, each on the journal that the one before left, and whichever byte the power fails at:"
pub record Demand3Of (s : Sweep) (p : Plan) (n : ℕ) (roll : ℕ → Float) (times : List ℤ) (l : Ledger) (es : List Entry) : Type 0 where
  -- "the journal's bytes and each answer equal those of document 01's ledger": after every entry
  pub same : trace s es (machine_at s l) ≡ ledger_trace s (events s es (machine_at s l)) l
  -- "and an accepted recover" (the next entry, after any list) "leaves exactly the header, if its writing ended, and the lines whose writing ended,
  -- in the order written."
  pub recovered : (x : List ℕ) → answer s (recover x) (machine_after s l es) ≡ accepted done
      → (step s (recover x) (machine_after s l es)).journal ≡ ended s (ledger_after s l es)
  -- "Once the header stands and each chunk has a line, an accepted collect" (the next entry, after any list) ..
  pub collected : (x o m : List ℕ) (q : ℕ) → answer s (collect x o) (machine_after s l es) ≡ accepted (gathered m q) → Collected p n roll times m q

-- for a plan over a list of rolls: sample k is its entry k. `said` is what was said of the list in the place of 3
abbrev pub Demand3Over : Plan → List Float → ℕ → List ℤ → Ledger → List Entry → Type 0
Demand3Over p rolls said times l es = Demand3Of (sweep_of p rolls said) p (length rolls) (λ k. get_or rolls k nan) times l es

-- document 01's, for a plan of n even rolls: sample k is k times (360 / n)
abbrev pub Demand3 : Plan → ℕ → List ℤ → Ledger → List Entry → Type 0
Demand3 p n times l es = Demand3Of (even_sweep p n) p n (even_roll n) times l es

-- document 02's request Five, for a plan whose rolls are a lent table: sample k is its roll k
abbrev pub Demand3Table : Plan → List Float → List ℤ → Ledger → List Entry → Type 0
Demand3Table p rolls times l es = Demand3Over p rolls (table_refusal rolls) times l es
