-- `float::root::sqrt` meets its contract, from those of the three steps. Assumes nothing.
use Rattle.std.proofs.Common.{Option, None, ◌≡◌, ◌*◌, ◌^◌, ◌<◌, ◌≤◌, T, not, sym, refl, ◌∙◌, subst₂, arith}
use Rattle.std.proofs.lemmas.Float.{T_from_true}
use lib.Ieee.{Float, binary64, is_nan, to_bits}
use Rattle.float.specs.Root.{sqrt_of}
use Rattle.float.specs.RootSteps.{magnitude, scaled_of, FromOperand}
use Rattle.float.specs.declared.root.Scaled.{Scaled}
use Rattle.float.proofs.Scaling.{Scales}
use Rattle.float.proofs.Steps.{left_over, scaled_is, root_digits, root_from_steps}
use Rattle.float.proofs.root.sqrt.Goals as goal
use Rattle.float.proofs.root.sqrt.Goals.{After-scale-s, After-special, In_default}

-- the root, from what step 1 answered and from the scaled significand
given : (c : After-special) (o : Option Float) (s : Scaled) → (let x = c.args.x in c.special.result ≡ o → s ≡ scaled_of (to_bits binary64 x) → FromOperand o s (sqrt_of x))
given c o s e w =
    let x = c.args.x in
    subst₂ (λ (p : Option Float) (t : Scaled). FromOperand p t (sqrt_of x)) (sym c.special.ensures ∙ e) (sym w) (root_from_steps x (T_from_true _ c.well_formed.0.1))

-- what step 1 left
left : (c : In_default) → (let x = c.args.x in T (not (is_nan x)) × (0 < to_bits binary64 x) × (to_bits binary64 x < 2047 * 2 ^ 52))
left c = left_over c.args.x (sym c.special.ensures ∙ c.in_default.is) (T_from_true _ c.well_formed.0.1)

-- what step 2 is handed
scaled_at : (c : After-scale-s) → Scales (magnitude (to_bits binary64 c.args.x) * 2 ^ 1074) c.scale-s.result × (511 ≤ c.scale-s.result.half) × (c.scale-s.result.half < 1560)
scaled_at c = let l = left c.before in scaled_is (to_bits binary64 c.args.x) c.scale-s.result c.scale-s.ensures l.1 l.2

pub float_to_bits-b : goal.float_to_bits-b
float_to_bits-b c = (left (goal.at.float_to_bits-b c).In_default).0

pub scale-s-requires : goal.scale-s-requires
scale-s-requires c = let l = left (goal.at.scale-s-requires c).In_default in (l.1, l.2)

pub floor_root-f-requires : goal.floor_root-f-requires
floor_root-f-requires c = (scaled_at (goal.at.floor_root-f-requires c).After-scale-s).0.2

pub overflow_sub-s : goal.overflow_sub-s
overflow_sub-s c = let f = (scaled_at (goal.at.overflow_sub-s c).After-scale-s).1 in omega arith

pub rounded-requires : goal.rounded-requires
rounded-requires c = let f = scaled_at (goal.at.rounded-requires c).After-scale-s in
    let R = c.floor_root-f.ensures in
    let d = root_digits c.scale-s.result.significand c.floor_root-f.result.root f.0.1 f.0.2 (R.0, R.1) in
    (d.0, d.1, omega (arith, f.2))

pub returns-in-Some : goal.returns-in-Some
returns-in-Some c = sym (given (goal.at.returns-in-Some c).After-special _ _ c.in-Some.is refl)

pub returns : goal.returns
returns c = c.rounded.ensures ∙ sym (given (goal.at.returns c).After-special None c.scale-s.result c.in_default.is c.scale-s.ensures c.floor_root-f.result c.floor_root-f.ensures)
