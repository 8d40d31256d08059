-- `float::arctangent::turned_angle` meets its contract. Assumes nothing.
use Rattle.float.specs.Arithmetic.{PI, sign_bit_of}
use Rattle.std.proofs.Common.{◌≡◌, cond, sym, ◌∙◌}
use lib.Ieee.{of_bits, binary64, sub}
use Rattle.float.specs.Arctangent.{turned_angle}
use Rattle.buffers.proofs.Tests.{and_false}
use Rattle.float.proofs.Sign.{std_sign, finite_not_nan}
use Rattle.float.proofs.arctangent.turned_angle.Goals as goal
use Rattle.float.proofs.arctangent.turned_angle.Goals.{then-not-is_finite-via-then-not-is_finite, then-not-is_finite-via-else-not-is_finite+then-not-is_finite-2, Joined-is_sign_negative, then-is_sign_negative, else-is_sign_negative}

-- the angle in the half plane that z's sign bit picks
half : (c : Joined-is_sign_negative) → c.if-is_sign_negative.turned ≡ cond (sign_bit_of c.args.z) (sub binary64 PI c.quadrant_angle-r.result) c.quadrant_angle-r.result
half c =
    let e = c.is_sign_negative.ensures ∙ std_sign c.args.z in
    elim c.if-is_sign_negative.branch [
      | then-is_sign_negative w ↦ simp (sym e ∙ w.if-is_sign_negative.true, w.turned-is)
      | else-is_sign_negative w ↦ simp (sym e ∙ w.if-is_sign_negative.false, w.turned-is)
    ]

pub returns-then-not-is_finite : goal.returns-then-not-is_finite
unfolding turned_angle of_bits
returns-then-not-is_finite c =
    elim c.then-not-is_finite.branch [
      | then-not-is_finite-via-then-not-is_finite w ↦ simp (sym c.is_finite.ensures ∙ w.if-not-is_finite.true)
      | then-not-is_finite-via-else-not-is_finite+then-not-is_finite-2 w ↦ simp (and_false, sym w.is_finite-else-not-is_finite.ensures ∙ w.if-not-is_finite-2.true)
    ]

pub is_sign_negative-requires : goal.is_sign_negative-requires
is_sign_negative-requires c = finite_not_nan c.args.z (sym c.is_finite-else-not-is_finite.ensures ∙ c.if-not-is_finite-2.false)

pub is_sign_negative-requires-2 : goal.is_sign_negative-requires-2
is_sign_negative-requires-2 c = finite_not_nan c.args.y (sym c.is_finite.ensures ∙ c.if-not-is_finite.false)

pub returns-then-is_sign_negative-2 : goal.returns-then-is_sign_negative-2
unfolding turned_angle
returns-then-is_sign_negative-2 c = simp (
  sym c.is_finite.ensures ∙ c.if-not-is_finite.false,
  sym c.is_finite-else-not-is_finite.ensures ∙ c.if-not-is_finite-2.false,
  sym (c.is_sign_negative-2.ensures ∙ std_sign c.args.y) ∙ c.if-is_sign_negative-2.true,
  half (goal.at.returns-then-is_sign_negative-2 c).Joined-is_sign_negative,
  c.quadrant_angle-r.ensures,
  c.abs.ensures,
  c.abs-2.ensures,
)

pub returns-else-is_sign_negative-2 : goal.returns-else-is_sign_negative-2
unfolding turned_angle
returns-else-is_sign_negative-2 c = simp (
  sym c.is_finite.ensures ∙ c.if-not-is_finite.false,
  sym c.is_finite-else-not-is_finite.ensures ∙ c.if-not-is_finite-2.false,
  sym (c.is_sign_negative-2.ensures ∙ std_sign c.args.y) ∙ c.if-is_sign_negative-2.false,
  half (goal.at.returns-else-is_sign_negative-2 c).Joined-is_sign_negative,
  c.quadrant_angle-r.ensures,
  c.abs.ensures,
  c.abs-2.ensures,
)
