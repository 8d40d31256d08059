-- A sweep that was split: several runs of one plan, each from an empty journal of its own, whose lines are put together after one header.
-- Definitions only. Assumes nothing.
use Rattle.std.specs.Prelude.{true, List, [], ◌∷◌, ◌++◌, ℕ, drop}
use Rattle.journal.specs.Lines.{header_length}
use Rattle.roll_sweep.specs.Sweep.{Sweep}
use Rattle.ledger.specs.Machine.{Entry, recover, step, machine_run, power_up}
use Rattle.ledger.specs.Ledger.{none, Ledger, blank, ledger_run}
use Rattle.ledger.specs.Demand3.{events}

-- of one run: the chunks whose lines' writing ended; and, of the journal that recover leaves, what follows the header
unfoldable pub run_chunks : Sweep → List Entry → List ℕ
run_chunks s es = (ledger_run s (events s es power_up) blank).lines

unfoldable pub run_lines : Sweep → List Entry → List ℕ
run_lines s es = drop header_length (step s (recover []) (machine_run s es power_up)).journal

-- of several runs, one after the other
unfoldable pub split_chunks : Sweep → List (List Entry) → List ℕ
unfolding run_chunks
split_chunks s [] = []
split_chunks s (es ∷ runs) = run_chunks s es ++ split_chunks s runs

unfoldable pub split_lines : Sweep → List (List Entry) → List ℕ
unfolding run_lines
split_lines s [] = []
split_lines s (es ∷ runs) = run_lines s es ++ split_lines s runs

-- the ledger of the journal that they make together: the header stands, and L is their chunks
abbrev pub split_ledger : Sweep → List (List Entry) → Ledger
split_ledger s runs = record { mark = true; lines = split_chunks s runs; remnant = []; last = none }
