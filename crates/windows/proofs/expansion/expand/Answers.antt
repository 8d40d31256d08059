-- `windows::expansion::expand` meets its contract. Assumes nothing.
use Rattle.std.proofs.Common.{Bool, cond, sym, refl, ap, ◌∙◌}
use Rattle.std.proofs.lemmas.Result.{err_from_is_err_and}
use Rattle.buffers.specs.Lent.{over}
use Rattle.buffers.proofs.Refusals.{err_replied, ok_replied, err_unless, ok_unless}
use Rattle.windows.specs.Expand.{spans, expanded_in_order, expanded_reordered, expanded}
use Rattle.windows.proofs.Refusals.{expand_accepted}
use Rattle.windows.proofs.expansion.expand.Goals as goal

pub returns-in_err-check_expand : goal.returns-in_err-check_expand
returns-in_err-check_expand c =
    let p = err_from_is_err_and c.from_residual.result c.from_residual.ensures.1 in
    rw (p.1, p.2) (record { answer = err_replied _ _ _ c.in_err-check_expand.ensures; mask = err_unless _ _ _ _ c.in_err-check_expand.ensures })

pub expand_in_order-requires : goal.expand_in_order-requires
expand_in_order-requires c = let w = expand_accepted _ _ _ _ (sym c.in_ok-check_expand.ensures) in
    (w.room, w.even)

pub expand_reordered-requires : goal.expand_reordered-requires
expand_reordered-requires c = let w = expand_accepted _ _ _ _ (sym c.in_ok-check_expand.ensures) in
    (w.room, w.even)

pub returns-then-in_order-clause-answer : goal.returns-then-in_order-clause-answer
returns-then-in_order-clause-answer c = ok_replied _ 0 0 c.in_ok-check_expand.ensures refl

pub returns-then-in_order-clause-mask : goal.returns-then-in_order-clause-mask
unfolding expanded
returns-then-in_order-clause-mask c = let ts = c.args.times.now in
    let ws = spans c.args.first_time.now c.args.last_time.now in
    ok_unless _ _ _ _ c.in_ok-check_expand.ensures (c.expand_in_order.ensures ∙ ap (λ (b : Bool). over (cond b (expanded_in_order ts ws) (expanded_reordered ts ws)) c.args.mask.now) (sym (sym c.in_order.ensures ∙ c.if-in_order.true)))

pub returns-else-in_order-clause-answer : goal.returns-else-in_order-clause-answer
returns-else-in_order-clause-answer c = ok_replied _ 0 0 c.in_ok-check_expand.ensures refl

pub returns-else-in_order-clause-mask : goal.returns-else-in_order-clause-mask
unfolding expanded
returns-else-in_order-clause-mask c = let ts = c.args.times.now in
    let ws = spans c.args.first_time.now c.args.last_time.now in
    ok_unless _ _ _ _ c.in_ok-check_expand.ensures (c.expand_reordered.ensures ∙ ap (λ (b : Bool). over (cond b (expanded_in_order ts ws) (expanded_reordered ts ws)) c.args.mask.now) (sym (sym c.in_order.ensures ∙ c.if-in_order.false)))
