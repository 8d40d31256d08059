-- `journal::hex::write_hex` meets its contract. Assumes nothing.
use native.Mathlib.Omega.{arith}
use Rattle.journal.proofs.Write.{written_none, written_step, written_all}
use Rattle.journal.proofs.hex.write_hex.Goals as goal

pub loop-j-init : goal.loop-j-init
loop-j-init c = let a = c.args in written_none a.digits.now a.x

pub loop-j-preserved : goal.loop-j-preserved
loop-j-preserved c = let a = c.args in
    let p = c.loop-j in
    written_step a.digits.now a.x p.j p.left c.hex_digit.result p.digits (omega arith) c.hex_digit.ensures p.invariant

pub returns : goal.returns
returns c = let a = c.args in
    let p = c.loop-j in
    written_all a.digits.now a.x p.j p.left p.digits (omega arith) p.invariant
