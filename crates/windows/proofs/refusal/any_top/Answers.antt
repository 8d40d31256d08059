-- `windows::refusal::any_top` meets its contract. Assumes nothing.
use Rattle.std.proofs.Common.{ap, ◌∙◌}
use Rattle.windows.specs.Steps.{top_bit}
use Rattle.windows.proofs.TopBits.{join_next, gather_all}
use Rattle.windows.proofs.refusal.any_top.Goals as goal

pub loop-x-preserved : goal.loop-x-preserved
loop-x-preserved g c = λ p h.
    let x = c.x-item.result in
    join_next p c.args.list.now x c.loop-x.x-index c.loop-x.found c.number-found.result c.loop-x-test.true
    (h x c.number-found.result c.number-found.ensures ∙ ap p c.x-item.is) (c.loop-x.invariant p h)

pub returns : goal.returns
returns g c = λ p h. gather_all p _ _ (top_bit c.loop-x.found) c.loop-x-test.false (c.loop-x.invariant p h)
