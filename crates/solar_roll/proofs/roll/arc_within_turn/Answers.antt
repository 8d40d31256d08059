-- `arc_within_turn`: between -360 and 360 the remainder is x, or x and 360; less 180 it is a number. Assumes nothing.
use mathlib.Core.Path.{◌≡◌, refl, sym, ap, ◌∙◌, subst}
use mathlib.Core.Bool.{Bool, true, false, cond, not, true≢false}
use Prim.Native.Nat.{ℕ, ◌*◌, ◌^◌}
use native.Mathlib.Omega.{arith}
use borrow.Author.Tests.{ltb-true}
use lib.Dec.{T, lit<, lit≤}
use lib.Ieee.{Float, nan, inf, fin, binary64, up, down, add, sub, neg, lt, is_nan, of_bits}
use lib.Ieee.Fits.{sub-fits}
use Rattle.float.specs.Arithmetic.{zero·0, half_turn, full_turn, abs_of, rem_euclid}
use Rattle.float.proofs.Bounds.{Within, within_add, within_sub, weaken}
use Rattle.float.proofs.Remainder.{rem_turn_small}
use Rattle.float.proofs.Sign.{abs_of_bits, abs_pattern}
use Rattle.solar_roll.specs.Roll.{arc}
use Rattle.solar_roll.proofs.roll.arc_within_turn.Goals as goal
use Rattle.solar_roll.proofs.roll.arc_within_turn.Goals.{then-x, else-x, Joined-x}

-- x, or x and 360
abbrev turned : Float → Float
turned x = cond (lt x zero·0) (add binary64 x full_turn) x

within_turn : (x : Float) → lt (neg full_turn) x ≡ true → lt x full_turn ≡ true → Within 9 x
unfolding lt of_bits neg
within_turn nan a b = absurd (true≢false (sym a))
within_turn (inf true) a b = absurd (true≢false (sym a))
within_turn (inf false) a b = absurd (true≢false (sym b))
within_turn (fin false m e) a b = record { s = false; m = m; e = e; is = refl; size_le = let h = ltb-true (m * up e * 1) (45 * 2 ^ 3 * down e) b in omega arith }
within_turn (fin true m e) a b = record { s = true; m = m; e = e; is = refl; size_le = let h = ltb-true (m * up e * 1) (45 * 2 ^ 3 * down e) a in omega arith }

full_within : Within 9 full_turn
unfolding of_bits
full_within = record { s = _; m = _; e = _; is = refl; size_le = lit≤ tt }

half_within : Within 10 half_turn
unfolding of_bits
half_within = record { s = _; m = _; e = _; is = refl; size_le = lit≤ tt }

within_less : (x : Float) → Within 9 x → Within 11 (sub binary64 (turned x) half_turn)
within_less x w = within_sub 10 (lit< tt) (go (lt x zero·0)) half_within
  where
    go : (b : Bool) → Within 10 (cond b (add binary64 x full_turn) x)
    go true = within_add 9 (lit< tt) w full_within
    go false = weaken 9 10 (lit≤ tt) w

number : {j : ℕ} {x : Float} → Within j x → T (not (is_nan x))
unfolding is_nan
number w = subst (λ (y : Float). T (not (is_nan y))) (sym w.is) tt

-- what the code has
less : (c : Joined-x) → sub binary64 c.if-x.d half_turn ≡ sub binary64 (turned c.args.x) half_turn
less c = ap (λ (y : Float). sub binary64 y half_turn) (elim c.if-x.branch [ then-x w ↦ simp (w.if-x.true, w.d-is) | else-x w ↦ simp (w.if-x.false, w.d-is) ])

is_number : (c : Joined-x) → T (not (is_nan (sub binary64 c.if-x.d half_turn)))
is_number c =
    let x = c.args.x in
    subst (λ (y : Float). T (not (is_nan y))) (sym (less c)) (number (within_less x (within_turn x c.requires.0 c.requires.1)))

pub float_to_bits-result : goal.float_to_bits-result
float_to_bits-result c = is_number (goal.at.float_to_bits-result c).Joined-x

pub float_from_bits-result : goal.float_from_bits-result
float_from_bits-result c = abs_pattern (sub binary64 c.if-x.d half_turn) (sub-fits binary64 _ _) (is_number (goal.at.float_from_bits-result c).Joined-x)

pub returns : goal.returns
unfolding arc rem_euclid abs_of neg of_bits
returns c = let x = c.args.x in
    let r = rem_turn_small x (subst T (sym c.well_formed.0.1) tt) c.requires.0 c.requires.1 in
    ap (sub binary64 half_turn) (abs_of_bits (sub binary64 c.if-x.d half_turn) (sub-fits binary64 _ _) (is_number (goal.at.returns c).Joined-x) ∙ ap abs_of (less (goal.at.returns c).Joined-x))
    ∙ ap (λ (y : Float). sub binary64 half_turn (abs_of (sub binary64 (turned y) half_turn))) (sym r)
