-- `windows::seconds::sum_seconds` meets its contract. The invariant: the total is the sum of the first k windows. Assumes nothing.
use Rattle.windows.proofs.Durations.{summed_none, in_limits, summed_next, summed_all}
use Rattle.windows.proofs.seconds.sum_seconds.Goals as goal

pub loop-k-init : goal.loop-k-init
loop-k-init c = summed_none _ _

pub window_seconds-total-requires : goal.window_seconds-total-requires
window_seconds-total-requires c = in_limits _ _ c.requires _ _ c.loop-k.invariant c.loop-k-test.true

pub loop-k-preserved : goal.loop-k-preserved
loop-k-preserved c = summed_next _ _ c.requires _ _ c.loop-k.invariant c.loop-k-test.true _ c.window_seconds-total.ensures

pub returns : goal.returns
returns c = summed_all _ _ c.requires _ _ c.loop-k.invariant c.loop-k-test.false
