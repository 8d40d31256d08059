-- `journal::pass::line_fits` meets its contract. Assumes nothing.
use mathlib.Core.Bool.{Bool, ◌&&◌}
use mathlib.Core.Path.{sym, ap, ◌∙◌}
use native.Mathlib.Omega.{arith}
use borrow.Author.Tests.{lt-ltb, le-ltb}
use Rattle.roll_sweep.specs.Sweep.{chunks}
use Rattle.journal.specs.Right.{possible, fits}
use Rattle.journal.proofs.pass.line_fits.Goals as goal

pub returns-then-line-div_ceil : goal.returns-then-line-div_ceil
unfolding fits chunks
returns-then-line-div_ceil c = let p = c.args.plan.now in
    let l = c.args.line in
    c.is_possible.ensures
    ∙ ap (λ (t : Bool). t && possible p.cells p.samples l.chunk l.mask l.probes) (sym (lt-ltb l.chunk (chunks p.cells) (omega (arith, c.if-line-div_ceil.true, c.div_ceil.ensures))))

pub returns-else-line-div_ceil : goal.returns-else-line-div_ceil
unfolding fits chunks
returns-else-line-div_ceil c = let p = c.args.plan.now in
    let l = c.args.line in
    le-ltb _ _ c.if-line-div_ceil.false
    ∙ ap (λ (t : Bool). t && possible p.cells p.samples l.chunk l.mask l.probes) (sym (le-ltb l.chunk (chunks p.cells) (omega (arith, c.if-line-div_ceil.false, c.div_ceil.ensures))))
