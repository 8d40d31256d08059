-- `PlanLists::short` meets its contract: a quotient by 3 is below a number where the length is below 3 times it. Assumes nothing.
use mathlib.Core.Path.{◌≡◌}
use mathlib.Core.Bool.{true, false}
use Prim.Native.Nat.{ℕ, ◌*◌, ◌/◌, ◌<◌, ◌≤◌}
use native.Mathlib.Omega.{arith}
use lib.Dec.{ltb}
use borrow.Author.Tests.{lt-ltb, le-ltb}
use Rattle.cost.specs.Cost.{plan_short}
use Rattle.cost.proofs.PlanLists.short.Goals as goal

less : (room triples : ℕ) → room / 3 < triples → ltb room (3 * triples) ≡ true
less room triples h = lt-ltb room (3 * triples) (omega arith)

no_less : (room triples : ℕ) → triples ≤ room / 3 → ltb room (3 * triples) ≡ false
no_less room triples h = le-ltb room (3 * triples) (omega arith)

pub returns-then-self-targets : goal.returns-then-self-targets
unfolding plan_short
returns-then-self-targets c = simp (less _ _ c.if-self-targets.true)

pub returns-then-self-times : goal.returns-then-self-times
unfolding plan_short
returns-then-self-times c = simp (no_less _ _ c.if-self-targets.false, less _ _ c.if-self-times.true)

pub returns-then-self-times-2 : goal.returns-then-self-times-2
unfolding plan_short
returns-then-self-times-2 c = simp (no_less _ _ c.if-self-targets.false, no_less _ _ c.if-self-times.false, less _ _ c.if-self-times-2.true)

pub returns-then-self-targets-2 : goal.returns-then-self-targets-2
unfolding plan_short
returns-then-self-targets-2 c = simp (
  no_less _ _ c.if-self-targets.false,
  no_less _ _ c.if-self-times.false,
  no_less _ _ c.if-self-times-2.false,
  lt-ltb _ _ c.if-self-targets-2.true,
)

pub returns : goal.returns
unfolding plan_short
returns c = simp (
  no_less _ _ c.if-self-targets.false,
  no_less _ _ c.if-self-times.false,
  no_less _ _ c.if-self-times-2.false,
  le-ltb _ _ c.if-self-targets-2.false,
)
