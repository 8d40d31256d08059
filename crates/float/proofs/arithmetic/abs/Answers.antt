-- `float::arithmetic::abs` meets its contract. Assumes nothing.
use Rattle.std.proofs.Common.{sym, ◌∙◌}
use Rattle.std.proofs.lemmas.Float.{T_from_true, T_from_false}
use Rattle.float.proofs.Sign.{abs_nan, abs_of_bits, abs_pattern}
use Rattle.float.proofs.arithmetic.abs.Goals as goal

pub returns-then-is_nan : goal.returns-then-is_nan
returns-then-is_nan c = abs_nan c.args.x (sym c.is_nan.ensures.value ∙ c.if-is_nan.true)

pub float_from_bits-result : goal.float_from_bits-result
float_from_bits-result c = abs_pattern c.args.x (T_from_true _ c.well_formed.0.1) (T_from_false _ (sym c.is_nan.ensures.value ∙ c.if-is_nan.false))

pub returns-else-is_nan : goal.returns-else-is_nan
returns-else-is_nan c = abs_of_bits c.args.x (T_from_true _ c.well_formed.0.1) (T_from_false _ (sym c.is_nan.ensures.value ∙ c.if-is_nan.false))
