-- `windows::refusal::any_top` meets its contract. The invariant: what is found, or is still to come, is in the whole list. Assumes nothing.
use Rattle.std.proofs.Common.{◌≡◌, ℕ, ◌||◌, Bool, drop}
use Rattle.buffers.specs.Ranges.{any}
use Rattle.windows.specs.Steps.{top_bit}
use Rattle.windows.proofs.refusal.any_top.Given as goal

abbrev pub invariant-loop-x : goal.invariant-loop-x
invariant-loop-x g l = (p : _ → Bool) → ((x : _) (n : ℕ) → goal.F-post g l.number x n → top_bit n ≡ p x) → (top_bit l.found || any p (drop l.x-index l.list)) ≡ any p l.list
