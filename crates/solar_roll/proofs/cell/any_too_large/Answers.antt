use Rattle.std.proofs.Common.{rules, tests, ◌∙◌}
use Rattle.std.proofs.lemmas.Iterator.{YieldsList-from_slice}
use Rattle.std.proofs.lemmas.Iterator.Search.{any_from_yields_List}
use Rattle.solar_roll.specs.Cell.{too_large}
use Rattle.solar_roll.proofs.Cells.{any_listed}
use Rattle.solar_roll.proofs.cell.any_too_large.Goals as goal

pub returns : goal.returns
unfolding too_large
returns c = any_from_yields_List (too_large c.args.limit) _ _ c.any.result c.any.ensures.ran (YieldsList-from_slice c.args.xs.now cc) (λ x b q k. search (rules, tests)) ∙ any_listed _ _
