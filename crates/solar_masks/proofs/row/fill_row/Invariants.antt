-- `fill_row`: before time j, the bytes and severities of the times before it stand. Assumes nothing.
use mathlib.Core.Path.{◌≡◌}
use Rattle.buffers.specs.Lent.{filled}
use Rattle.solar_masks.specs.Mask.{at_configured, mark_at}
use Rattle.solar_masks.specs.Row.{severity_at}
use Rattle.solar_roll.specs.Plan.{lent}
use Rattle.solar_masks.proofs.row.fill_row.Given as goal

abbrev pub invariant-loop-j : goal.invariant-loop-j
invariant-loop-j l =
    let p = lent l.plan in
    (l.mask ≡ filled l.j (mark_at p (at_configured p.configured) l.row) l.initial.mask) × (l.severities ≡ filled l.j (severity_at p l.row) l.initial.severities)
