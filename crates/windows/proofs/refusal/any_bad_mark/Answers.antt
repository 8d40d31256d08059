-- `windows::refusal::any_bad_mark` meets its contract. Assumes nothing.
use Rattle.std.proofs.Common.{refl}
use Rattle.buffers.proofs.Ranges.{gather_end}
use Rattle.windows.specs.Refusal.{bad_mark}
use Rattle.windows.proofs.TopBits.{gather_more}
use Rattle.windows.proofs.refusal.any_bad_mark.Goals as goal

pub loop-byte-preserved : goal.loop-byte-preserved
unfolding bad_mark
loop-byte-preserved c = gather_more bad_mark _ 0 _ c.loop-byte.found _ c.loop-byte-test.true refl c.loop-byte.invariant

pub returns : goal.returns
returns c = gather_end bad_mark _ 0 _ c.loop-byte.found c.loop-byte-test.false c.loop-byte.invariant
