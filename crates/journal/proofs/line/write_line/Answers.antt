-- `journal::line::write_line` meets its contract. Assumes nothing.
use mathlib.Core.Path.{refl}
use native.Mathlib.Omega.{arith}
use lib.ListN.{length-append}
use Rattle.journal.proofs.Text.{length_hex}
use Rattle.journal.proofs.Write.{field_first, field_next, line_written}
use Rattle.journal.proofs.line.write_line.Goals as goal

pub returns : goal.returns
returns c = let a = c.args in
    let o = a.tail.now in
    let l = a.line in
    let first = field_first o _ 8 l.chunk (omega arith) c.write_hex.ensures in
    let second = field_next o _ _ _ 8 16 l.mask first (length_hex 8 l.chunk) (omega arith) c.write_hex-2.ensures in
    (line_written o _ l.chunk l.mask l.probes c.requires
    (field_next o _ _ _ 24 8 l.probes second (simp (length-append, length_hex) refl) (omega arith) c.write_hex-3.ensures)).0
