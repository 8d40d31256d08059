-- The fold of a roll lies from 0 up to but not at 360 where the roll is finite (`folded_range`), and is a NaN elsewhere: so it lies there wherever it
-- is finite itself (`folded_in_turn`). The remainder by 360 is at most 360, and 360 is turned to 0. Assumes nothing.
use mathlib.Core.Path.{◌≡◌, refl, sym, ◌∙◌, subst}
use mathlib.Core.Logic.{◌⊎◌, inl, inr}
use mathlib.Core.Bool.{Bool, true, false, cond, ◌||◌, ◌&&◌, true≢false}
use Prim.Native.Nat.{ℕ, ◌+◌, ◌*◌, ◌≤◌}
use native.Mathlib.Omega.{arith}
use borrow.Author.Tests.{lt-ltb, ltb-false, eqb-false, eq-eqb, ne_eqb}
use lib.Arith.{lt_of_le-ne}
use lib.IntN.{ℤ, pos}
use lib.Dec.{ltb, eqb}
use lib.Ieee.{Float, nan, inf, fin, up, down, rem, lt, le, eq, of_bits}
use lib.Ieee.Fits.{down_pos}
use Rattle.float.specs.Arithmetic.{zero·0, abs_of, rem_euclid, finite}
use Rattle.float.proofs.Bounds.{Within}
use Rattle.solar_roll.specs.Roll.{folded_roll, InTurn, roll_between}
use Rattle.solar_roll.proofs.Difference.{K, made_positive, remainder}

-- ---- a remainder, which is at most 360 and not below 0, with 360 turned to 0

abbrev turned : Float → Float
turned r = cond (eq r K) zero·0 r

zero_in : InTurn zero·0
unfolding le lt eq of_bits
zero_in = record { low = refl; high = refl }

-- the test `le zero·0 x` as it computes: of a zero with a sign (`zeros`), of a number without (`from_zero`)
zeros : (a b : ℕ) → a ≡ 0 → b ≡ 0 → (false || (eqb a b && (false || eqb a 0))) ≡ true
zeros a b p q = rw (eq-eqb a b (p ∙ sym q), eq-eqb a 0 p) refl

from_zero : (a b : ℕ) → a ≡ 0 → (ltb a b || (eqb a b && true)) ≡ true
from_zero a b p = go (ltb a b) refl
  where
    go : (l : Bool) → ltb a b ≡ l → (l || (eqb a b && true)) ≡ true
    go true h = refl
    go false h = rw (eq-eqb a b (omega (arith, ltb-false a b h))) refl

turned_range : (s : Bool) (m : ℕ) (e : ℤ) → m * up e ≤ 360 * down e → (s ≡ false) ⊎ (m * up e ≡ 0) → InTurn (turned (fin s m e))
unfolding le lt eq of_bits
turned_range true m e h (inl q) = absurd (true≢false q)
turned_range true m e h (inr z) =
    let n : eqb (m * up e * 1) (360 * down e) ≡ false = ne_eqb (m * up e * 1) (360 * down e) (λ p. omega (arith, down_pos e)) in
    rw n (record { low = zeros (0 * down e) (m * up e * 1) (omega arith) (omega arith); high = lt-ltb 0 (m * up e * 1 + 360 * down e) (omega (arith, down_pos e)) })
turned_range false m e h w = go (eqb (m * up e * 1) (360 * down e)) refl
  where
    go : (b : Bool) → eqb (m * up e * 1) (360 * down e) ≡ b → InTurn (cond (b && true) zero·0 (fin false m e))
    go true p = zero_in
    go false p = record {
      low = from_zero (0 * down e) (m * up e * 1) (omega arith);
      high = lt-ltb (m * up e * 1) (360 * down e) (lt_of_le-ne (omega arith) (eqb-false (m * up e * 1) (360 * down e) p));
    }

turned_within : (s : Bool) (m : ℕ) (e : ℤ) → m * up e ≤ 360 * down e → Within 9 (turned (fin s m e))
unfolding of_bits
turned_within s m e h = go (eq (fin s m e) K)
  where
    go : (b : Bool) → Within 9 (cond b zero·0 (fin s m e))
    go true = record { s = false; m = 0; e = pos 0; is = refl; size_le = omega arith }
    go false = record { s = s; m = m; e = e; is = refl; size_le = omega arith }

-- ---- of a finite roll

pub folded_range : (x : Float) → finite x ≡ true → InTurn (folded_roll x)
unfolding finite folded_roll rem_euclid made_positive abs_of of_bits
folded_range nan h = absurd (true≢false (sym h))
folded_range (inf s) h = absurd (true≢false (sym h))
folded_range (fin s m e) h =
    let t = remainder s m e in
    subst (λ (y : Float). InTurn (turned y)) (sym t.is) (turned_range t.s t.m t.e t.size_le t.sign)

-- so it is at most 512 in size
pub folded_within : (x : Float) → finite x ≡ true → Within 9 (folded_roll x)
unfolding finite folded_roll rem_euclid made_positive abs_of of_bits
folded_within nan h = absurd (true≢false (sym h))
folded_within (inf s) h = absurd (true≢false (sym h))
folded_within (fin s m e) h =
    let t = remainder s m e in
    subst (λ (y : Float). Within 9 (turned y)) (sym t.is) (turned_within t.s t.m t.e t.size_le)

-- ---- of any roll: the fold of one that is not finite is a NaN

folded_nan : (x : Float) → finite x ≡ false → folded_roll x ≡ nan
unfolding finite folded_roll rem_euclid rem lt eq of_bits
folded_nan nan h = refl
folded_nan (inf s) h = refl
folded_nan (fin s m e) h = absurd (true≢false h)

nan_not_finite : finite nan ≡ true → ⊥
unfolding finite
nan_not_finite e = true≢false (sym e)

pub folded_in_turn : (x : Float) → finite (folded_roll x) ≡ true → InTurn (folded_roll x)
folded_in_turn x h = go (finite x) refl
  where
    go : (b : Bool) → finite x ≡ b → InTurn (folded_roll x)
    go true p = folded_range x p
    go false p = absurd (nan_not_finite (subst (λ (y : Float). finite y ≡ true) (folded_nan x p) h))

-- the promise of the functions that give a roll
pub between_in_turn : (r sun panel : Float) → r ≡ roll_between sun panel → finite r ≡ true → InTurn r
unfolding roll_between
between_in_turn r sun panel e h = subst InTurn (sym e) (folded_in_turn _ (subst (λ (y : Float). finite y ≡ true) e h))
