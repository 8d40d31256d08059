-- `journal::hex::write_hex` meets its contract. Assumes nothing.
use Rattle.journal.proofs.Write.{Written}
use Rattle.journal.proofs.hex.write_hex.Given as goal

abbrev pub invariant-loop-j : goal.invariant-loop-j
invariant-loop-j l = Written l.initial.digits l.x l.j l.left l.digits
