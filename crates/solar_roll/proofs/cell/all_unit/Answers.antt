use native.Mathlib.Omega.{arith}
use Rattle.std.proofs.Common.{rules, tests, ap, ◌∙◌, not}
use Rattle.std.proofs.lemmas.Iterator.{YieldsList-from_range}
use Rattle.std.proofs.lemmas.Iterator.Search.{all_from_yields_List}
use Rattle.solar_roll.specs.Vectors.{count, triple}
use Rattle.solar_roll.specs.Cell.{not_unit, any_not_unit}
use Rattle.solar_roll.proofs.Cells.{all_lack}
use Rattle.solar_roll.proofs.cell.all_unit.Goals as goal

pub returns : goal.returns
unfolding any_not_unit
returns c =
    let xs = c.args.targets.now in
    let h = all_from_yields_List (λ i. not (not_unit (triple xs i))) _ _ c.all.result c.all.ensures.ran (YieldsList-from_range 0 (count xs) (count xs) (cc) (omega arith)) (λ x b q k. search (rules, tests)) in
    ap not h ∙ all_lack (λ i. not_unit (triple xs i)) (count xs)
