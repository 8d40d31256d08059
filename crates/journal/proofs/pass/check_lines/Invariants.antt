-- `journal::pass::check_lines` meets its contract. Assumes nothing.
use mathlib.Core.Bool.{true}
use mathlib.Core.Path.{◌≡◌}
use Rattle.journal.specs.Lines.{held_probes}
use Rattle.journal.specs.Right.{lines_right}
use Rattle.journal.specs.Pass.{Tables}
use Rattle.journal.proofs.pass.check_lines.Given as goal

abbrev pub invariant-loop-l : goal.invariant-loop-l
invariant-loop-l l = record {
  right : lines_right l.plan.cells l.plan.samples l.journal l.l ≡ true;
  probes : l.probes ≡ held_probes l.journal l.l;
  tables : Tables l.journal l.l l.seen l.masks;
}
