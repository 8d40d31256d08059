-- `float::arithmetic::of_bits` meets its contract. Assumes nothing.
use Rattle.std.proofs.Common.{◌∙◌}
use Rattle.std.proofs.lemmas.Float.{not_nan_f64_bits}
use Rattle.float.proofs.Patterns.{of_bits_nan, high_pattern}
use Rattle.float.proofs.arithmetic.of_bits.Goals as goal

pub returns-then-b-gt9218868437227405312 : goal.returns-then-b-gt9218868437227405312
returns-then-b-gt9218868437227405312 c = of_bits_nan ∙ high_pattern c.args.b c.if-b-gt9218868437227405312.true

pub float_from_bits-result : goal.float_from_bits-result
float_from_bits-result c = not_nan_f64_bits c.args.b c.if-b-gt9218868437227405312.false
