-- `PlanLists::write_plan` meets its contract: every list is left as it was, or has the plan's written over it. Assumes nothing.
use mathlib.Core.Path.{◌≡◌, refl, sym, ap, ◌∙◌}
use borrow.Author.Rules.{rules}
use Rattle.std.specs.Prelude.{Err}
use Rattle.buffers.proofs.Refusals.{err_replied, ok_replied, err_unless, ok_unless}
use Rattle.cost.specs.Cost.{size_refusal, writing_refusal, writing_reply, plan_written}
use Rattle.cost.proofs.Facts.{size_facts}
use Rattle.cost.proofs.PlanLists.write_plan.Goals as goal

pub returns-in_err-size_refusal-clause-result_value : goal.returns-in_err-size_refusal-clause-result_value
unfolding writing_refusal writing_reply
returns-in_err-size_refusal-clause-result_value c =
    let e : c.from_residual.result ≡ Err c.in_err-size_refusal.field-0.0 = search rules in
    rw e (err_replied _ _ _ (c.in_err-size_refusal.ensures ∙ ap (size_refusal _ _ _) c.short-short.ensures))

pub returns-in_err-size_refusal-clause-lists_after : goal.returns-in_err-size_refusal-clause-lists_after
unfolding writing_refusal plan_written
returns-in_err-size_refusal-clause-lists_after c = err_unless _ _ _ _ (c.in_err-size_refusal.ensures ∙ ap (size_refusal _ _ _) c.short-short.ensures)

pub write-requires : goal.write-requires
write-requires c =
    let f = size_facts _ _ _ _ (sym c.in_ok-size_refusal.ensures) in
    (f.few_of.few_rows, f.few_of.few_times, sym c.short-short.ensures ∙ f.room)

pub returns-clause-result_value : goal.returns-clause-result_value
unfolding writing_refusal writing_reply
returns-clause-result_value c = ok_replied _ _ _ (c.in_ok-size_refusal.ensures ∙ ap (size_refusal _ _ _) c.short-short.ensures) refl

pub returns-clause-lists_after : goal.returns-clause-lists_after
unfolding writing_refusal plan_written
returns-clause-lists_after c = ok_unless _ _ _ _ (c.in_ok-size_refusal.ensures ∙ ap (size_refusal _ _ _) c.short-short.ensures) c.write.ensures.value
