-- How a call's answer goes out to C: one 64-bit number, which C reads as signed. Definitions only. Assumes nothing.
use Rattle.std.specs.Prelude.{ℕ, ◌-◌, ◌%◌, ◌^◌, Float}
use Rattle.buffers.specs.Refusal.{Reply, refused, accepted}
use Rattle.solar_roll.specs.declared.cell.CellRoll.{CellRoll}
use Rattle.solar_roll.specs.declared.cell.CellRoll.TheVariants.{Free, At, Refused}

-- minus k, in 64 bits
unfoldable pub minus : ℕ → ℕ
minus k = (2 ^ 64 - k) % 2 ^ 64

-- 0 or more when accepted, minus the refusal's number (buffers: specs/Refusal) when refused
unfoldable pub int64 : Reply ℕ → ℕ
unfolding minus
int64 (accepted n) = n
int64 (refused k) = minus k

-- of one cell: 0 for Free, 1 for At
unfoldable pub cell_answer : Reply CellRoll → Reply ℕ
cell_answer (accepted Free) = accepted 0
cell_answer (accepted (At roll)) = accepted 1
cell_answer (accepted (Refused k)) = refused k
cell_answer (refused k) = refused k

-- of one cell: the lent roll afterwards, written for At alone
unfoldable pub cell_written : Reply CellRoll → Float → Float
cell_written (accepted Free) before = before
cell_written (accepted (At roll)) before = roll
cell_written (accepted (Refused k)) before = before
cell_written (refused k) before = before

-- of a call that writes one number: its answer is 0
unfoldable pub number_answer : Reply Float → Reply ℕ
number_answer (accepted x) = accepted 0
number_answer (refused k) = refused k

-- of a call that writes one number: what is lent for it afterwards
unfoldable pub number_written : Reply Float → Float → Float
number_written (accepted x) before = x
number_written (refused k) before = before
