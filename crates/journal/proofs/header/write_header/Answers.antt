-- `journal::header::write_header` meets its contract. Assumes nothing.
use mathlib.Core.Path.{◌∙◌}
use Rattle.buffers.specs.Lent.{over}
use Rattle.solar_roll.specs.Plan.{lent, rows_of, times_of, head_tolerance, head_panel}
use Rattle.journal.specs.Header.{header_text, settings_header, header_of}
use Rattle.journal.proofs.header.write_header.Goals as goal

pub returns : goal.returns
unfolding header_of settings_header head_tolerance head_panel
returns c = let a = c.args in
    let p = lent a.plan.now in
    c.write_numbers.ensures
    ∙ (λ i. over
    (header_text (c.rows-targets.ensures i) (c.times-times.ensures i) a.n
    (c.bits-tolerance.ensures i)
    (c.has_roll-has.ensures i)
    (c.roll_bits-roll.ensures i)
    (c.bits-x.ensures i)
    (c.bits-y.ensures i)
    (c.bits-z.ensures i))
    a.out.now)
    ∙ (λ i. over (settings_header (rows_of p) (times_of p) a.n (c.first_or_zero.ensures i) p.configured (c.triple-panel.ensures i)) a.out.now)
