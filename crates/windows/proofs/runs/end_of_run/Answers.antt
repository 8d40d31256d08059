-- `windows::runs::end_of_run` meets its contract. The invariant: the samples passed, and those that lead the rest, are those that lead it from the start. Assumes nothing.
use Rattle.std.proofs.Common.{ℕ, eqb, refl, arith, eq-eqb, ne_eqb}
use Rattle.windows.proofs.NextRun.{leading_more, leading_ends, leading_all}
use Rattle.windows.proofs.runs.end_of_run.Goals as goal

pub loop-i-init : goal.loop-i-init
loop-i-init c = (omega arith, refl)

pub returns-then-mask-i : goal.returns-then-mask-i
returns-then-mask-i c = leading_ends (λ (b : ℕ). eqb b c.args.v) _ 0 _ _ c.loop-i-test.true (ne_eqb _ _ c.if-mask-i.true) c.loop-i.invariant.1

pub loop-i-preserved : goal.loop-i-preserved
loop-i-preserved c = (omega arith, leading_more (λ (b : ℕ). eqb b c.args.v) _ 0 _ _ c.loop-i-test.true (eq-eqb _ _ c.if-mask-i.false) c.loop-i.invariant.1)

pub returns : goal.returns
returns c = leading_all (λ (b : ℕ). eqb b c.args.v) _ 0 _ _ c.loop-i-test.false c.loop-i.invariant.1
