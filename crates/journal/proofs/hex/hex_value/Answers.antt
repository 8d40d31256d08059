-- `journal::hex::hex_value` meets its contract. Assumes nothing.
use mathlib.Core.Path.{refl}
use native.Mathlib.Omega.{arith}
use lib.ListN.{get_or}
use Rattle.journal.specs.Hex.{hex_value}
use Rattle.journal.proofs.Text.{value_step_whole, value_fits, digit_lt}
use Rattle.journal.proofs.hex.hex_value.Goals as goal

pub loop-x-init : goal.loop-x-init
unfolding hex_value
loop-x-init c = refl

pub overflow_mul-v : goal.overflow_mul-v
overflow_mul-v c = omega (arith, value_fits c.args.digits.now 0 c.loop-x.x-index (omega arith))

pub overflow_add-v : goal.overflow_add-v
overflow_add-v c = let b = c.args.digits.now in
    let j = c.loop-x.x-index in
    omega (arith, value_fits b 0 j (omega arith), digit_lt (get_or b j 0), c.digit_value.ensures)

pub loop-x-preserved : goal.loop-x-preserved
loop-x-preserved c = cc (value_step_whole c.args.digits.now c.loop-x.x-index)
