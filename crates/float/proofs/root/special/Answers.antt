-- `float::root::special` meets its contract. Assumes nothing.
use Rattle.std.proofs.Common.{Some, ◌≡◌, ℕ, zero, suc, ◌+◌, ◌*◌, ◌<◌, true, false, sym, refl, ◌∙◌, subst, zero-lt-suc, mul-pos, zero-mul, arith, ltb-true, lt-ltb}
use mathlib.Core.Bool.{false≢true}
use lib.Ieee.{Float, nan, inf, fin, binary64, up, down, lt, of_bits}
use lib.Ieee.Fits.{up_pos}
use Rattle.float.specs.RootSteps.{operand_of}
use Rattle.float.proofs.Steps.{above_zero_left}
use Rattle.float.proofs.root.special.Goals as goal

-- what is below infinity is not infinity
below_infinity : (x : Float) → lt x (of_bits binary64 0x7ff0_0000_0000_0000) ≡ true → x ≡ inf false → ⊥
unfolding lt of_bits
below_infinity x p e = false≢true (subst (λ (y : Float). lt y (inf false) ≡ true) e p)

infinity_answer : (x : Float) → lt (of_bits binary64 0) x ≡ true → lt x (of_bits binary64 0x7ff0_0000_0000_0000) ≡ false → Some x ≡ operand_of x
unfolding operand_of lt of_bits
infinity_answer nan p q = absurd (false≢true p)
infinity_answer (inf true) p q = absurd (false≢true p)
infinity_answer (inf false) p q = refl
infinity_answer (fin true zero d) p q = absurd (false≢true p)
infinity_answer (fin false zero d) p q = absurd (omega (arith, ltb-true (0 * down d) (0 * up d * 1) p))
infinity_answer (fin true (suc m) d) p q = absurd (false≢true p)
infinity_answer (fin false (suc m) d) p q = absurd (false≢true (sym q))

negative_answer : (x : Float) → lt x (of_bits binary64 0) ≡ true → Some (of_bits binary64 0x7ff8_0000_0000_0000) ≡ operand_of x
unfolding operand_of lt of_bits
negative_answer nan e = absurd (false≢true e)
negative_answer (inf true) e = refl
negative_answer (inf false) e = absurd (false≢true e)
negative_answer (fin false m d) e = absurd (omega (arith, ltb-true (m * up d * 1) (0 * 1 * down d) e, zero-mul (down d)))
negative_answer (fin true zero d) e = absurd (omega (arith, ltb-true 0 (0 * up d * 1 + 0 * 1 * down d) e, zero-mul (down d), zero-mul (up d)))
negative_answer (fin true (suc m) d) e = refl

-- the size of a number other than 0 is above 0
no_zero : (m u : ℕ) → 0 < u → 0 < suc m * u * 1
no_zero m u h = let p : 0 < suc m * u = mul-pos (zero-lt-suc m) h in omega arith

-- what no test takes
nan_answer : (x : Float) → lt (of_bits binary64 0) x ≡ false → lt x (of_bits binary64 0) ≡ false → Some x ≡ operand_of x
unfolding operand_of lt of_bits
nan_answer nan p q = refl
nan_answer (inf true) p q = absurd (false≢true (sym q))
nan_answer (inf false) p q = absurd (false≢true (sym p))
nan_answer (fin true zero d) p q = refl
nan_answer (fin false zero d) p q = refl
nan_answer (fin true (suc m) d) p q = let h = no_zero m (up d) (up_pos d) in absurd (false≢true (sym q ∙ lt-ltb 0 (suc m * up d * 1 + 0 * 1 * down d) (omega arith)))
nan_answer (fin false (suc m) d) p q = let h = no_zero m (up d) (up_pos d) in absurd (false≢true (sym p ∙ lt-ltb (0 * down d) (suc m * up d * 1) (omega (arith, zero-mul (down d)))))

pub returns-then-x-2 : goal.returns-then-x-2
returns-then-x-2 c = sym (above_zero_left c.args.x c.if-x.true (below_infinity c.args.x c.if-x-2.true))

pub returns-else-x-2 : goal.returns-else-x-2
returns-else-x-2 c = infinity_answer c.args.x c.if-x.true c.if-x-2.false

pub returns-then-x-3 : goal.returns-then-x-3
returns-then-x-3 c = negative_answer c.args.x c.if-x-3.true

pub returns : goal.returns
returns c = nan_answer c.args.x c.if-x.false c.if-x-3.false
