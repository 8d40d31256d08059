-- `windows::seconds::window_seconds` meets its contract. Assumes nothing.
use Rattle.std.proofs.Common.{T, get_or, ℤ, pos, sym, ap, subst, arith}
use lib.Ieee.{binary64, of_int, in_float}
use Rattle.float.proofs.Exact.{in_float_lem}
use Rattle.windows.proofs.Durations.{diff_fits, whole_seconds, seconds_size}
use Rattle.windows.proofs.seconds.window_seconds.Goals as goal

pub overflow_sub-length : goal.overflow_sub-length
overflow_sub-length c = diff_fits (get_or c.args.spans.now.first.now c.args.k (pos 0)) (get_or c.args.spans.now.last.now c.args.k (pos 0)) c.requires.2 c.requires.3

pub int_to_float-result : goal.int_to_float-result
int_to_float-result c = subst (λ (z : ℤ). T (in_float binary64 z)) (sym (whole_seconds (get_or c.args.spans.now.first.now c.args.k (pos 0)) (get_or c.args.spans.now.last.now c.args.k (pos 0)) c.requires.2 c.requires.3)) (in_float_lem _ (omega (arith, seconds_size (get_or c.args.spans.now.first.now c.args.k (pos 0)) (get_or c.args.spans.now.last.now c.args.k (pos 0)) c.requires.2 c.requires.3)))

pub returns : goal.returns
returns c = ap (of_int binary64) (whole_seconds (get_or c.args.spans.now.first.now c.args.k (pos 0)) (get_or c.args.spans.now.last.now c.args.k (pos 0)) c.requires.2 c.requires.3)
