-- `windows::refusal::any_bad_mark` meets its contract. The invariant: what is found, or is still to come, is in the whole list. Assumes nothing.
use Rattle.std.proofs.Common.{◌≡◌, ◌||◌, drop}
use Rattle.buffers.specs.Ranges.{any}
use Rattle.windows.specs.Refusal.{bad_mark}
use Rattle.windows.proofs.refusal.any_bad_mark.Given as goal

abbrev pub invariant-loop-byte : goal.invariant-loop-byte
invariant-loop-byte l = (l.found || any bad_mark (drop l.byte-index l.mask)) ≡ any bad_mark l.mask
