-- `float::arithmetic::remainder` meets its contract. Assumes nothing.
use Rattle.std.proofs.Common.{◌≡◌, ℕ, ◌-◌, ◌*◌, ◌%◌, ◌^◌, ◌<◌, ◌≤◌, Bool, not, T, sym, ap, ◌∙◌, subst, subst₂, arith}
use Rattle.std.proofs.lemmas.Float.{T_from_true}
use lib.Ieee.{Float, binary64, fits, is_nan, to_bits, lt, round}
use lib.Ieee.Positive.{first_pos}
use Rattle.float.specs.Arithmetic.{zero·0, sign_bit_of, abs_of}
use Rattle.float.specs.RootSteps.{magnitude}
use Rattle.float.proofs.Patterns.{of_bits_nan}
use Rattle.float.proofs.Sign.{std_sign, finite_not_nan}
use Rattle.float.proofs.Modulo.{Left, left_over, rem_infinite, rem_by_zero, rem_by_larger, no_less_shifted, mod_shifted}
use Rattle.float.proofs.arithmetic.remainder.Goals as goal
use Rattle.float.proofs.arithmetic.remainder.Goals.{Start, Else-p-q, After-digits_of-y}

-- what owning an f64 tells
held_a : (c : Start) → T (fits binary64 c.args.a)
held_a c = T_from_true _ c.well_formed.0.1

held_b : (c : Start) → T (fits binary64 c.args.b)
held_b c = T_from_true _ c.well_formed.1.0.1

-- what the tests left
left : (c : Else-p-q) → Left c.args.a c.args.b
left c =
    left_over c.args.a c.args.b (held_a (goal.at.Else-p-q c).Start) (held_b (goal.at.Else-p-q c).Start) (sym c.is_finite.ensures ∙ c.if-is_finite.true)
    (ap (lt zero·0) (sym c.abs-q.ensures) ∙ c.if-q.true)
    (ap (λ (x : Float). lt x (abs_of c.args.b)) (sym c.abs-p.ensures) ∙ ap (lt c.abs-p.result) (sym c.abs-q.ensures) ∙ c.if-p-q.false)

-- the digits and the shifts of both are their magnitudes
value_x : (c : After-digits_of-y) → c.digits_of-x.result.digits * 2 ^ c.digits_of-x.result.shift ≡ magnitude (to_bits binary64 (abs_of c.args.a))
value_x c = c.digits_of-x.ensures.value ∙ ap (λ (x : Float). magnitude (to_bits binary64 x)) c.abs-p.ensures

value_y : (c : After-digits_of-y) → c.digits_of-y.result.digits * 2 ^ c.digits_of-y.result.shift ≡ magnitude (to_bits binary64 (abs_of c.args.b))
value_y c = c.digits_of-y.ensures.value ∙ ap (λ (x : Float). magnitude (to_bits binary64 x)) c.abs-q.ensures

digits_y : (c : After-digits_of-y) → 0 < c.digits_of-y.result.digits
digits_y c = let y = c.digits_of-y.result in first_pos y.digits (2 ^ y.shift) (subst (λ (n : ℕ). 0 < n) (sym (value_y c)) (left (goal.at.After-digits_of-y c).Else-p-q).some)

shifts : (c : After-digits_of-y) → c.digits_of-y.result.shift ≤ c.digits_of-x.result.shift
shifts c = let x = c.digits_of-x.result in
    let y = c.digits_of-y.result in
    no_less_shifted x.digits x.shift y.digits y.shift c.digits_of-x.ensures.few c.digits_of-y.ensures.normal
    (subst₂ (λ (m n : ℕ). m ≤ n) (sym (value_y c)) (sym (value_x c)) (left (goal.at.After-digits_of-y c).Else-p-q).no_larger)

pub returns-then-p-q : goal.returns-then-p-q
returns-then-p-q c = rem_by_larger c.args.a c.args.b (held_a (goal.at.returns-then-p-q c).Start) (sym c.is_finite.ensures ∙ c.if-is_finite.true)
    (ap (λ (x : Float). lt x (abs_of c.args.b)) (sym c.abs-p.ensures) ∙ ap (lt c.abs-p.result) (sym c.abs-q.ensures) ∙ c.if-p-q.true)

pub float_to_bits-p : goal.float_to_bits-p
float_to_bits-p c = subst (λ (x : Float). T (not (is_nan x))) (sym c.abs-p.ensures) (left (goal.at.float_to_bits-p c).Else-p-q).number_a

pub digits_of-x-requires : goal.digits_of-x-requires
digits_of-x-requires c = subst (λ (x : Float). to_bits binary64 x < 2047 * 2 ^ 52) (sym c.abs-p.ensures) (left (goal.at.digits_of-x-requires c).Else-p-q).finite_a

pub digits_of-y-requires : goal.digits_of-y-requires
digits_of-y-requires c = subst (λ (x : Float). to_bits binary64 x < 2047 * 2 ^ 52) (sym c.abs-q.ensures) (left (goal.at.digits_of-y-requires c).Else-p-q).finite_b

pub overflow_sub-x : goal.overflow_sub-x
overflow_sub-x c = shifts (goal.at.overflow_sub-x c).After-digits_of-y

pub reduced-r-requires : goal.reduced-r-requires
reduced-r-requires c = (c.digits_of-x.ensures.few, digits_y (goal.at.reduced-r-requires c).After-digits_of-y, c.digits_of-y.ensures.few)

pub is_sign_negative-requires : goal.is_sign_negative-requires
is_sign_negative-requires c = finite_not_nan c.args.a (sym c.is_finite.ensures ∙ c.if-is_finite.true)

pub in_units-requires : goal.in_units-requires
in_units-requires c = let n = c.digits_of-x.result.digits * 2 ^ (c.digits_of-x.result.shift - c.digits_of-y.result.shift) in
    let m : n % c.digits_of-y.result.digits < c.digits_of-y.result.digits = omega (arith, digits_y (goal.at.in_units-requires c).After-digits_of-y) in
    (omega (arith, c.reduced-r.ensures, c.digits_of-y.ensures.few), c.digits_of-y.ensures.finite)

pub returns-then-q : goal.returns-then-q
returns-then-q c = let x = c.digits_of-x.result in
    let y = c.digits_of-y.result in
    let at = (goal.at.returns-then-q c).After-digits_of-y in
    let e : magnitude (to_bits binary64 (abs_of c.args.a)) % magnitude (to_bits binary64 (abs_of c.args.b)) ≡ c.reduced-r.result * 2 ^ y.shift =
    ap (λ (n : ℕ). n % magnitude (to_bits binary64 (abs_of c.args.b))) (sym (value_x at)) ∙ ap (λ (n : ℕ). (x.digits * 2 ^ x.shift) % n) (sym (value_y at))
    ∙ mod_shifted x.digits x.shift y.digits y.shift (digits_y at) (shifts at) ∙ ap (λ (n : ℕ). n * 2 ^ y.shift) (sym c.reduced-r.ensures) in
    c.in_units.ensures ∙ ap (λ (s : Bool). round binary64 s (c.reduced-r.result * 2 ^ y.shift) (2 ^ 1074)) (c.is_sign_negative.ensures ∙ std_sign c.args.a)
    ∙ sym ((left (goal.at.returns-then-q c).Else-p-q).is ∙ ap (λ (n : ℕ). round binary64 (sign_bit_of c.args.a) n (2 ^ 1074)) e)

pub returns-else-q : goal.returns-else-q
returns-else-q c = of_bits_nan ∙ rem_by_zero c.args.a c.args.b (sym c.is_finite.ensures ∙ c.if-is_finite.true) (ap (lt zero·0) (sym c.abs-q.ensures) ∙ c.if-q.false)

pub returns-else-is_finite : goal.returns-else-is_finite
returns-else-is_finite c = of_bits_nan ∙ rem_infinite c.args.a c.args.b (sym c.is_finite.ensures ∙ c.if-is_finite.false)
