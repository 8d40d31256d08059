-- `float::arithmetic::bits` meets its contract. Assumes nothing.
use Rattle.std.proofs.Common.{sym, ◌∙◌}
use Rattle.float.proofs.Patterns.{nan_bits_lem}
use Rattle.float.proofs.arithmetic.bits.Goals as goal

pub returns-then-is_nan : goal.returns-then-is_nan
returns-then-is_nan c = nan_bits_lem c.args.x (sym c.is_nan.ensures.value ∙ c.if-is_nan.true)
