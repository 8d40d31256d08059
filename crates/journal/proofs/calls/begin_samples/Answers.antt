-- `journal::calls::begin_samples` meets its contract. Assumes nothing.
use mathlib.Core.Path.{sym}
use Rattle.std.proofs.lemmas.Result.{err_from_is_err_and}
use Rattle.buffers.specs.Refusal.{found}
use Rattle.buffers.specs.declared.reasons.Refusal.TheVariants.{OutputTooShort, JournalNotEmpty}
use Rattle.solar_roll.specs.Plan.{lent}
use Rattle.journal.specs.Calls.{begin_conditions, begin_refusal}
use Rattle.journal.specs.Plan.{sweep_of}
use Rattle.journal.proofs.Chains.{plan_refused, begin_13, begin_7, begin_0, begin_err, begin_ok}
use Rattle.journal.proofs.Planned.{header_put}
use Rattle.journal.proofs.calls.begin_samples.Goals as goal

pub returns-in_err-refusal : goal.returns-in_err-refusal
unfolding begin_refusal sweep_of
returns-in_err-refusal c = let a = c.args in
    let p = err_from_is_err_and c.from_residual.result c.from_residual.ensures.1 in
    rw (p.1, p.2) (λ rolls size.
    let s = sweep_of (lent a.plan.now) rolls (found a.samples.said) in
    begin_err s a.journal.now a.used _ (plan_refused s a.journal.now a.used (begin_conditions a.journal.now a.used) _ c.in_err-refusal.ensures))

pub returns-then-used-ne0 : goal.returns-then-used-ne0
unfolding sweep_of
returns-then-used-ne0 c rolls size = let a = c.args in
    let s = sweep_of (lent a.plan.now) rolls (found a.samples.said) in
    begin_err s a.journal.now a.used JournalNotEmpty (sym (begin_13 s a.journal.now a.used (sym c.in_ok-refusal.ensures) c.if-used-ne0.true))

pub returns-then-room : goal.returns-then-room
unfolding sweep_of
returns-then-room c rolls size = let a = c.args in
    let s = sweep_of (lent a.plan.now) rolls (found a.samples.said) in
    begin_err s a.journal.now a.used OutputTooShort (sym (begin_7 s a.journal.now a.used (sym c.in_ok-refusal.ensures) c.if-used-ne0.false c.if-room.true))

pub returns : goal.returns
unfolding sweep_of
returns c rolls size = let a = c.args in
    let p = lent a.plan.now in
    let s = sweep_of p rolls (found a.samples.said) in
    begin_ok s a.journal.now a.used _ (header_put p rolls (found a.samples.said) a.samples.count size a.journal.now _ c.write_header.ensures)
    (begin_0 s a.journal.now a.used (sym c.in_ok-refusal.ensures) c.if-used-ne0.false c.if-room.false)
