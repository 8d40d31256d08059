-- `float::arithmetic::in_units` meets its contract. Assumes nothing.
use Rattle.std.proofs.Common.{◌*◌, ◌^◌, Bool, false, pos, sym, ap, ◌∙◌, subst₂, arith, pow_pos}
use lib.Ieee.{Float, binary64, of_int, round}
use lib.Ieee.Exact.{HasValue}
use Rattle.float.proofs.Exact.{of_int_lem}
use Rattle.float.proofs.Modulo.{mul_round, neg_value, unlike_false}
use Rattle.float.proofs.arithmetic.in_units.Goals as goal
use Rattle.float.proofs.arithmetic.in_units.Goals.{Joined-negative, then-negative, else-negative}

whole : (c : Joined-negative) → HasValue (of_int binary64 (pos c.args.r)) false c.args.r 1
whole c = of_int_lem binary64 (pos c.args.r) (omega (arith, c.requires.0))

-- r with its sign
signed : (c : Joined-negative) → HasValue c.if-negative.signed c.args.negative c.args.r 1
signed c =
    elim c.if-negative.branch [
      | then-negative w ↦ subst₂ (λ (x : Float) (s : Bool). HasValue x s c.args.r 1) (sym w.signed-is) (sym w.if-negative.true) (neg_value _ false c.args.r 1 (whole c))
      | else-negative w ↦ subst₂ (λ (x : Float) (s : Bool). HasValue x s c.args.r 1) (sym w.signed-is) (sym w.if-negative.false) (whole c)
    ]

pub returns : goal.returns
returns c =
    mul_round binary64 c.if-negative.signed c.power.result c.args.negative false c.args.r 1 (2 ^ c.args.k) (2 ^ 1074) (omega arith) (pow_pos 1074) (signed (goal.at.returns c).Joined-negative) c.power.ensures
    ∙ ap (λ (s : Bool). round binary64 s (c.args.r * 2 ^ c.args.k) (2 ^ 1074)) (unlike_false c.args.negative)
