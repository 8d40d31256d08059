-- `float::root::packed` meets its contract. Assumes nothing.
use Rattle.float.proofs.Patterns.{packed_is, packed_no_nan}
use Rattle.float.proofs.root.packed.Goals as goal

pub float_from_bits-result : goal.float_from_bits-result
float_from_bits-result c = packed_no_nan c.args.q c.args.k c.requires.0 c.requires.1 c.requires.2

pub returns : goal.returns
returns c = packed_is c.args.q c.args.k c.requires.0 c.requires.1 c.requires.2
