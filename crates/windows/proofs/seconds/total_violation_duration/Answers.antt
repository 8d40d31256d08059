-- `windows::seconds::total_violation_duration` meets its contract. Assumes nothing.
use Rattle.std.proofs.Common.{sym}
use Rattle.std.proofs.lemmas.Result.{err_from_is_err_and}
use Rattle.buffers.proofs.Refusals.{err_replied, ok_replied}
use Rattle.windows.proofs.seconds.total_violation_duration.Goals as goal

pub sum_seconds-requires : goal.sum_seconds-requires
sum_seconds-requires c = sym c.in_ok-check_windows.ensures

pub returns-in_err-check_windows : goal.returns-in_err-check_windows
returns-in_err-check_windows c =
    let p = err_from_is_err_and c.from_residual.result c.from_residual.ensures.1 in
    rw (p.1, p.2) (err_replied _ _ _ c.in_err-check_windows.ensures)

pub returns : goal.returns
returns c = ok_replied _ _ _ c.in_ok-check_windows.ensures c.sum_seconds.ensures
