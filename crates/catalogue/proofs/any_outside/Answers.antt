-- `any_outside`: the library's test of a list is the definition's. Assumes nothing.
use mathlib.Core.Path.{◌∙◌}
use Rattle.std.proofs.Common.{rules, tests}
use Rattle.std.proofs.lemmas.Iterator.{YieldsList-from_slice}
use Rattle.std.proofs.lemmas.Iterator.Search.{any_from_yields_List}
use Rattle.solar_roll.proofs.Cells.{any_listed}
use Rattle.catalogue.specs.Catalogue.{outside}
use Rattle.catalogue.proofs.any_outside.Goals as goal

pub returns : goal.returns
unfolding outside
returns c =
    any_from_yields_List (outside c.args.low c.args.high) _ _ c.any.result c.any.ensures.ran (YieldsList-from_slice c.args.xs.now cc) (λ x b q k. search (rules, tests))
    ∙ any_listed _ _
