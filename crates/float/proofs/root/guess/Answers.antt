-- `float::root::guess` is safe: its float steps start from patterns of numbers. Assumes nothing.
use Rattle.std.proofs.Common.{arith}
use Rattle.std.proofs.lemmas.Float.{not_nan_f64_bits}
use Rattle.float.proofs.root.guess.Goals as goal

pub float_from_bits-f : goal.float_from_bits-f
float_from_bits-f c = not_nan_f64_bits _ (omega arith)

pub float_from_bits-y : goal.float_from_bits-y
float_from_bits-y c = not_nan_f64_bits _ (omega arith)
