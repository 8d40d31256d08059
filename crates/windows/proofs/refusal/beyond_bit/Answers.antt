-- `windows::refusal::beyond_bit` meets its contract. Assumes nothing.
use Rattle.std.proofs.Common.{sym, subst, arith, w64, SFits}
use Rattle.windows.proofs.TopBits.{Early, Late, early, late, whole_cast, whole_sum, early_top, late_top}
use Rattle.windows.proofs.refusal.beyond_bit.Goals as goal
use Rattle.windows.proofs.refusal.beyond_bit.Goals.{Else-t-lt0, Then-t-lt0}

-- on either side of 0
before : (c : Then-t-lt0) → Early c.args.t
before c = early c.args.t c.ranges.t c.if-t-lt0.true

after : (c : Else-t-lt0) → Late c.args.t
after c = late c.args.t c.ranges.t c.if-t-lt0.false

pub overflow_sub-result : goal.overflow_sub-result
overflow_sub-result c = let w = (before (goal.at.overflow_sub-result c).Then-t-lt0).whole in subst (SFits w64) (sym w.is) (record { sfits = w.small })

pub overflow_cast-result : goal.overflow_cast-result
overflow_cast-result c = whole_cast _ _ (before (goal.at.overflow_cast-result c).Then-t-lt0).whole

pub overflow_add-result : goal.overflow_add-result
overflow_add-result c = whole_sum _ _ (before (goal.at.overflow_add-result c).Then-t-lt0).whole 5_223_372_036_854_775_808 (omega arith)

pub returns-then-t-lt0 : goal.returns-then-t-lt0
returns-then-t-lt0 c = early_top _ (before (goal.at.returns-then-t-lt0 c).Then-t-lt0)

pub overflow_cast-result-2 : goal.overflow_cast-result-2
overflow_cast-result-2 c = whole_cast _ _ (after (goal.at.overflow_cast-result-2 c).Else-t-lt0).whole

pub overflow_add-result-2 : goal.overflow_add-result-2
overflow_add-result-2 c = whole_sum _ _ (after (goal.at.overflow_add-result-2 c).Else-t-lt0).whole 5_223_372_036_854_775_807 (omega arith)

pub returns : goal.returns
returns c = late_top _ (after (goal.at.returns c).Else-t-lt0)
