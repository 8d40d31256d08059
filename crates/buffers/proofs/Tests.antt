-- Tests joined by && and ||, taken apart and put together. Not here: tests of numbers (`borrow.Author.Tests`). Assumes nothing.
use mathlib.Core.Path.{◌≡◌, refl, ap, ◌∙◌}
use mathlib.Core.Logic.{◌↔◌}
use mathlib.Core.Bool.{Bool, true, false, ◌&&◌, ◌||◌, and-eq-true_iff, true≢false, false≢true}
use native.Mathlib.Omega.{arith}
use Rattle.buffers.specs.Ranges.{flag}
use Prim.Native.Nat.{◌≤◌}

pub and_left : (a b : Bool) → a && b ≡ true → a ≡ true
and_left a b h = ((and-eq-true_iff a b).0 h).0

pub and_right : (a b : Bool) → a && b ≡ true → b ≡ true
and_right a b h = ((and-eq-true_iff a b).0 h).1

pub and_both : (a b : Bool) → a ≡ true → b ≡ true → a && b ≡ true
and_both a b h k = (and-eq-true_iff a b).1 (h, k)

pub and_false : (a : Bool) → (a && false) ≡ false
and_false true = refl
and_false false = refl

-- a test that fails makes the conjunction fail, on either side
pub and_stop : (a b : Bool) → b ≡ false → a && b ≡ false
and_stop a b h = ap (λ (x : Bool). a && x) h ∙ and_false a

pub or_here : (a b : Bool) → a ≡ true → a || b ≡ true
or_here a b e = rw e

pub or_skip : (a b : Bool) → a ≡ false → a || b ≡ b
or_skip a b e = rw e

pub or_none : (a b : Bool) → a ≡ false → b ≡ false → a || b ≡ false
or_none a b e f = rw (e, f)

pub or_left : (a b : Bool) → a || b ≡ false → a ≡ false
or_left true b e = e
or_left false b e = refl

pub or_right : (a b : Bool) → a || b ≡ false → b ≡ false
or_right true b e = absurd (true≢false e)
or_right false b e = e

-- ---- flags

pub flag_le : (b : Bool) → flag b ≤ 1
flag_le true = omega arith
flag_le false = omega arith

pub flag_one : (b : Bool) → (flag b ≡ 1) ↔ (b ≡ true)
flag_one true = (λ e. refl, λ e. refl)
flag_one false = (λ e. absurd (omega arith), λ e. absurd (false≢true e))
