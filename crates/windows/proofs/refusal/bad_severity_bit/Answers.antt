-- `windows::refusal::bad_severity_bit` meets its contract. Assumes nothing.
use Rattle.std.proofs.Common.{T, sym, refl, ◌∙◌, subst}
use Rattle.std.proofs.lemmas.Float.{T_from_false}
use Rattle.windows.proofs.TopBits.{nan_top, severity_top}
use Rattle.windows.proofs.refusal.bad_severity_bit.Goals as goal

pub returns-then-is_nan : goal.returns-then-is_nan
returns-then-is_nan c = nan_top c.args.x (sym c.is_nan.ensures.value ∙ c.if-is_nan.true)

pub float_to_bits-bits : goal.float_to_bits-bits
float_to_bits-bits c = T_from_false _ (sym c.is_nan.ensures.value ∙ c.if-is_nan.false)

pub returns : goal.returns
returns c = severity_top c.args.x _ (subst T (sym c.well_formed.0.1) tt) refl
