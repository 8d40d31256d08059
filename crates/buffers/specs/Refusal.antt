-- Refusals. A refusal is a number, 0 for none: 1 to 15 are document 01's, 16 to 20 document 02's. Conditions are tried in order, and the first
-- that holds gives it. What a call answers and what it leaves follow from that number. Definitions only. Assumes nothing.
use Rattle.std.specs.Prelude.{Bool, cond, not, List, [], ◌∷◌, ℕ, zero, suc, eqb, Result, Ok, Err}
use Rattle.buffers.specs.declared.reasons.Refusal.{Refusal}
use Rattle.buffers.specs.declared.reasons.Refusal.TheVariants as why

-- a call's conditions in the order in which they are tried, each with the number that it gives
abbrev pub Conditions : Type 0
Conditions = List (Bool × ℕ)

-- the number of the first condition that holds, 0 for none
unfoldable pub first : Conditions → ℕ
first [] = 0
first (c ∷ cs) = cond c.0 c.1 (first cs)

-- a refusal that was found before, carried into a chain with its own number
unfoldable pub carried : ℕ → Bool × ℕ
carried k = (not (eqb k 0), k)

-- what a call says: a refusal's number, or that it was accepted, with its answer
pub data Reply (A : Type 0) : Type 0 where
  refused : ℕ → Reply A
  accepted : A → Reply A

-- what a call says, by its refusal's number: refused by it, or, where it is 0, accepted with the answer a
unfoldable pub reply : {A : Type 0} → ℕ → A → Reply A
reply zero a = accepted a
reply (suc k) a = refused (suc k)

-- what a lent list holds after a call: written, or, where the call was refused, what it held before
unfoldable pub unless_refused : {A : Type 0} → ℕ → A → A → A
unless_refused zero written before = written
unless_refused (suc k) written before = before

-- the number of a refusal, by the name that the code gives it
abbrev pub number_of : Refusal → ℕ
number_of (why.LengthsDoNotFit) = 1
number_of (why.TooLarge) = 2
number_of (why.RollCountOutOfRange) = 3
number_of (why.PositionOutOfRange) = 4
number_of (why.TargetOutOfRange) = 5
number_of (why.PanelOutOfRange) = 6
number_of (why.OutputTooShort) = 7
number_of (why.TimeOutOfRange) = 8
number_of (why.NoSuchIndex) = 9
number_of (why.ChunkHasLine) = 10
number_of (why.JournalNotRight) = 11
number_of (why.JournalTorn) = 12
number_of (why.JournalNotEmpty) = 13
number_of (why.SampleInvalid) = 14
number_of (why.ChunkLacksLine) = 15
number_of (why.RadecOutOfRange) = 16
number_of (why.ToleranceCountDiffers) = 17
number_of (why.RollTableLength) = 18
number_of (why.RollTableEntry) = 19
number_of (why.TargetNotUnit) = 20

-- what a call says: its answer, or its refusal's number
abbrev pub replied : {A : Type 0} → Result A Refusal → Reply A
replied (Ok a) = accepted a
replied (Err e) = refused (number_of e)

-- the number of the refusal that a test finds, 0 for none
abbrev pub found : {A : Type 0} → Result A Refusal → ℕ
found (Ok a) = 0
found (Err e) = number_of e
