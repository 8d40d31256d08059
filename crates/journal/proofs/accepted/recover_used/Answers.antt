-- `journal::accepted::recover_used` meets its contract. Assumes nothing.
use mathlib.Core.Bool.{true, false}
use mathlib.Core.Path.{sym, ap, ◌∙◌}
use Rattle.std.specs.Prelude.{Err}
use Rattle.std.proofs.lemmas.Result.{err_from_is_err_and}
use Rattle.buffers.specs.Refusal.{replied, number_of}
use Rattle.journal.proofs.Chains.{wrong_of, recover_11, recover_0, recover_err, recover_ok}
use Rattle.journal.proofs.Scan.{told_wrong, told_right}
use Rattle.journal.proofs.accepted.recover_used.Goals as goal

pub returns-in_err-ok_or : goal.returns-in_err-ok_or
returns-in_err-ok_or c = let a = c.args in
    let b = a.journal.now in
    let p = err_from_is_err_and c.from_residual.result c.from_residual.ensures.1 in
    let w = told_wrong _ _ _ _ _ c.check_journal.ensures.checked c.in_err-ok_or.ensures.value in
    λ s q. ap replied (p.1 ∙ ap Err p.2)
    ∙ recover_err s b a.used c.in_err-ok_or.field-0.0 (ap number_of w.1 ∙ sym (recover_11 s b a.used q.plan (wrong_of s a.plan.now b a.used false q w.0)))

pub returns : goal.returns
returns c = let a = c.args in
    let b = a.journal.now in
    let r = told_right _ _ _ _ _ c.check_journal.ensures.checked c.in_ok-ok_or.ensures.value in
    λ s q. recover_ok s b a.used _ c.kept_length.ensures (recover_0 s b a.used q.plan (wrong_of s a.plan.now b a.used true q r.0))
