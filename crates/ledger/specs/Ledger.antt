-- Section 4: the ledger that demand 3 compares with, sentence by sentence: document 01 is quoted above what it defines. Definitions only.
-- Assumes nothing.
use Rattle.std.specs.Prelude.{Bool, true, false, cond, not, ◌||◌, List, [], ◌∷◌, ◌++◌, ℕ, ◌-◌, leb, ltb, eqb, length, take}
use Rattle.buffers.specs.Ranges.{all_below}
use Rattle.buffers.specs.Refusal.{Conditions, first, Reply, reply, unless_refused}
use Rattle.roll_sweep.specs.Sweep.{Sweep, cells, chunks, sweep_mask, sweep_probes}
use Rattle.journal.specs.Lines.{line_of}
use Rattle.journal.specs.Calls.{begin_short, work_short, collect_short}
use Rattle.ledger.specs.Machine.{Outcome, done, gathered, Seen}

-- "The ledger it compares with is fed the plan, each entry's name and number (c or k) and the lengths of the lent buffers, never the lent bytes of J."
-- The last number of each call is the length of its lent buffer; collect has the length of its lent mask after it.
pub data Event : Type 0 where
  begins : ℕ → Event
  works : ℕ → ℕ → Event
  cuts : ℕ → Event
  recovers : ℕ → Event
  collects : ℕ → ℕ → Event

-- the write of the entry before, which a cut may follow: none, the header, or the line of a chunk
pub data Write : Type 0 where
  none : Write
  header : Write
  line : ℕ → Write

-- its bytes
abbrev pub text_of : Sweep → Write → List ℕ
text_of s none = []
text_of s header = s.header
text_of s (line c) = line_of s c

-- "It has a header mark, at first off, a list L of chunks, at first empty, and a remnant, at first no bytes."
pub record Ledger : Type 0 where
  pub mark : Bool
  -- L, its oldest chunk first
  pub lines : List ℕ
  -- what a cut left of a write, the header's or a line's, until recover drops it
  pub remnant : List ℕ
  -- the write that a cut would cut: document 01 has it in "directly after an accepted begin or work"
  pub last : Write

-- the ledger at first
abbrev pub blank : Ledger
blank = record { mark = false; lines = []; remnant = []; last = none }

-- the lines of L, in order
unfoldable pub lines_of : Sweep → List ℕ → List ℕ
unfolding line_of
lines_of s [] = []
lines_of s (c ∷ L) = line_of s c ++ lines_of s L

-- "The header's writing ended, and it stands, when the mark is on; the lines whose writing ended are those of L."
unfoldable pub ended : Sweep → Ledger → List ℕ
unfolding lines_of
ended s l = cond l.mark s.header [] ++ lines_of s l.lines

-- "Its J is the header if the mark is on, then the lines of L in order, then the remnant."
unfoldable pub ledger_journal : Sweep → Ledger → List ℕ
unfolding ended
ledger_journal s l = ended s l ++ l.remnant

-- ---- what an entry is refused with

abbrev pub is_empty : List ℕ → Bool
is_empty [] = true
is_empty (x ∷ xs) = false

-- c is in L
unfoldable pub is_in : ℕ → List ℕ → Bool
is_in c [] = false
is_in c (d ∷ L) = eqb d c || is_in c L

-- chunks 0 to m - 1 are in L
unfoldable pub are_in : ℕ → List ℕ → Bool
unfolding all_below is_in
are_in m L = all_below m (λ c. is_in c L)

-- "12 if the mark is off or the remnant has bytes"
abbrev pub unfinished : Ledger → Bool
unfinished l = not l.mark || not (is_empty l.remnant)

-- "Begin: 13 if this J is not empty, .. Work c: 9 if no chunk c exists; 12 if the mark is off or the remnant has bytes; 10 if c is in L; ..
-- Collect: 12 as in work, 15 if a chunk is not in L; .. 7, in the calls that have it, comes last." Recover has none, and a cut is no call.
abbrev pub ledger_conditions : Sweep → Event → Ledger → Conditions
ledger_conditions s (begins room) l =
    (not (is_empty (ledger_journal s l)), 13)
    ∷ (begin_short room, 7)
    ∷ []
ledger_conditions s (works c room) l =
    (leb (chunks (cells s)) c, 9)
    ∷ (unfinished l, 12)
    ∷ (is_in c l.lines, 10)
    ∷ (work_short room (length (ledger_journal s l)), 7)
    ∷ []
ledger_conditions s (cuts k) l = []
ledger_conditions s (recovers room) l = []
ledger_conditions s (collects room maskRoom) l =
    (unfinished l, 12)
    ∷ (not (are_in (chunks (cells s)) l.lines), 15)
    ∷ (collect_short s maskRoom, 7)
    ∷ []

unfoldable pub ledger_refusal : Sweep → Event → Ledger → ℕ
unfolding first ledger_journal begin_short chunks is_in work_short are_in collect_short
ledger_refusal s v l = first (ledger_conditions s v l)

-- ---- what it answers and changes where it is accepted

-- "Collect: .. answers section 3's mask and the number of samples section 3 tries, over all cells."
unfoldable pub ledger_outcome : Sweep → Event → Outcome
unfolding sweep_mask sweep_probes
ledger_outcome s (begins room) = done
ledger_outcome s (works c room) = done
ledger_outcome s (cuts k) = done
ledger_outcome s (recovers room) = done
ledger_outcome s (collects room maskRoom) = gathered (sweep_mask s) (sweep_probes s)

-- nothing changes, and a cut has nothing to take back
abbrev pub idle : Ledger → Ledger
idle l = record { mark = l.mark; lines = l.lines; remnant = l.remnant; last = none }

-- "A cut short of the whole write takes back the mark or c, and the remnant becomes the first k bytes of that write"
abbrev pub take_back : Sweep → ℕ → Write → Ledger → Ledger
take_back s k none l = idle l
take_back s k header l = record { mark = false; lines = l.lines; remnant = take k s.header; last = none }
take_back s k (line c) l =
    record { mark = l.mark; lines = take (length l.lines - 1) l.lines; remnant = take k (line_of s c); last = none }

-- "Begin: .. the mark goes on. Work c: .. c joins the end of L." "a cut that leaves all of it changes nothing" "Recover: the remnant becomes no bytes.
-- Collect: .. changes nothing"
unfoldable pub ledger_accepts : Sweep → Event → Ledger → Ledger
unfolding line_of
ledger_accepts s (begins room) l = record { mark = true; lines = l.lines; remnant = l.remnant; last = header }
ledger_accepts s (works c room) l = record { mark = l.mark; lines = l.lines ++ (c ∷ []); remnant = l.remnant; last = line c }
ledger_accepts s (cuts k) l = cond (ltb k (length (text_of s l.last))) (take_back s k l.last l) (idle l)
ledger_accepts s (recovers room) l = record { mark = l.mark; lines = l.lines; remnant = []; last = none }
ledger_accepts s (collects room maskRoom) l = idle l

-- ---- event by event

-- "A refused call changes nothing."
unfoldable pub ledger_step : Sweep → Event → Ledger → Ledger
unfolding ledger_refusal unless_refused ledger_accepts
ledger_step s v l = unless_refused (ledger_refusal s v l) (ledger_accepts s v l) (idle l)

-- the number that it is refused with, or its outcome
unfoldable pub ledger_answer : Sweep → Event → Ledger → Reply Outcome
unfolding ledger_refusal reply ledger_outcome
ledger_answer s v l = reply (ledger_refusal s v l) (ledger_outcome s v)

-- what each event answers, and J after it: what the machine's trace is compared with
unfoldable pub ledger_trace : Sweep → List Event → Ledger → List Seen
unfolding ledger_answer ledger_journal ledger_step
ledger_trace s [] l = []
ledger_trace s (v ∷ vs) l =
    record { reply = ledger_answer s v l; bytes = ledger_journal s (ledger_step s v l) } ∷ ledger_trace s vs (ledger_step s v l)

-- the ledger after a list of events
unfoldable pub ledger_run : Sweep → List Event → Ledger → Ledger
unfolding ledger_step
ledger_run s [] l = l
ledger_run s (v ∷ vs) l = ledger_run s vs (ledger_step s v l)
