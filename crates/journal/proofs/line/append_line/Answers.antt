-- `journal::line::append_line` meets its contract. Assumes nothing.
use Rattle.buffers.proofs.Lent.{over_part}
use Rattle.journal.specs.Lines.{line_text}
use Rattle.journal.proofs.line.append_line.Goals as goal

pub returns : goal.returns
returns c = let a = c.args in
    over_part a.used (line_text a.line.chunk a.line.mask a.line.probes) a.journal.now c.write_line.new.tail c.write_line.ensures
