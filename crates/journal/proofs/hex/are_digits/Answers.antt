-- `journal::hex::are_digits` meets its contract. Assumes nothing.
use mathlib.Core.Path.{refl, sym, ap₂, ◌∙◌}
use mathlib.Core.Bool.{Bool, ◌&&◌}
use Rattle.journal.specs.Hex.{are_digits}
use Rattle.journal.proofs.Text.{digits_step_whole}
use Rattle.journal.proofs.hex.are_digits.Goals as goal

pub loop-x-init : goal.loop-x-init
unfolding are_digits
loop-x-init c = refl

pub loop-x-preserved : goal.loop-x-preserved
loop-x-preserved c = let p = c.loop-x in
    ap₂ (λ (x y : Bool). x && y) p.invariant c.is_digit-all.ensures ∙ sym (digits_step_whole c.args.bytes.now p.x-index)
