-- Distinct numbers below m are at most m. Assumes nothing.
use mathlib.Core.Path.{◌≡◌, refl, sym, ap, ◌∙◌}
use mathlib.Core.Bool.{Bool, true, false, ◌||◌, or-false, or-true}
use Prim.Native.Nat.{ℕ, zero, suc, ◌+◌, ◌≤◌, ◌<◌}
use native.Mathlib.Nat.{not-suc-le-zero}
use native.Mathlib.Omega.{arith}
use lib.Dec.{eqb}
use lib.Arith.{lt_of_le-ne}
use borrow.Author.Tests.{ne_eqb, eqb-true, eqb-false}
use Rattle.buffers.specs.Ranges.{flag, sum, any_below}
use Rattle.buffers.proofs.Tests.{flag_le}
use Rattle.buffers.proofs.Ranges.{sum_ext, sum_mono, sum_same}

-- one number more that has the property
one_more_lem : (m a : ℕ) (g : ℕ → Bool) → a < m → g a ≡ false → sum m (λ c. flag (g c || eqb a c)) ≡ sum m (λ c. flag (g c)) + 1
unfolding sum
one_more_lem zero a g h e = absurd (not-suc-le-zero h)
one_more_lem (suc m) a g h e = go (eqb a m) refl (one_more_lem m a g)
  where
    go : (t : Bool) → eqb a m ≡ t
        → (a < m → g a ≡ false → sum m (λ c. flag (g c || eqb a c)) ≡ sum m (λ c. flag (g c)) + 1)
        → sum m (λ c. flag (g c || eqb a c)) + flag (g m || eqb a m) ≡ sum m (λ c. flag (g c)) + flag (g m) + 1
    go true q ih =
        let others : sum m (λ c. flag (g c || eqb a c)) ≡ sum m (λ c. flag (g c)) =
        sum_ext m (λ c. flag (g c || eqb a c)) (λ c. flag (g c))
        (λ c l. ap flag (ap (λ (t : Bool). g c || t) (ne_eqb a c (λ z. omega (arith, eqb-true a m q))) ∙ or-false (g c))) in
        let before : flag (g m) ≡ 0 = ap (λ (c : ℕ). flag (g c)) (sym (eqb-true a m q)) ∙ ap flag e in
        let after : flag (g m || eqb a m) ≡ 1 = ap flag (ap (λ (t : Bool). g m || t) q ∙ or-true (g m)) in
        omega arith
    go false q ih =
        let same : flag (g m || eqb a m) ≡ flag (g m) = ap flag (ap (λ (t : Bool). g m || t) q ∙ or-false (g m)) in
        omega (arith, ih (lt_of_le-ne (omega arith) (eqb-false a m q)) e)

module _ (m : ℕ) (f : ℕ → ℕ) where
  -- how many numbers below m are one of f 0, .., f (l - 1)
  counted : (l : ℕ) → ((j : ℕ) → j < l → f j < m) → ((j : ℕ) → j < l → any_below j (λ i. eqb (f i) (f j)) ≡ false)
      → sum m (λ c. flag (any_below l (λ i. eqb (f i) c))) ≡ l
  unfolding any_below
  counted zero h d = sum_same m 0 ∙ omega arith
  counted (suc l) h d =
      one_more_lem m (f l) (λ c. any_below l (λ i. eqb (f i) c)) (h l (omega arith)) (d l (omega arith))
      ∙ omega (arith, counted l (λ j k. h j (omega arith)) (λ j k. d j (omega arith)))

  pub distinct_le : (l : ℕ) → ((j : ℕ) → j < l → f j < m) → ((j : ℕ) → j < l → any_below j (λ i. eqb (f i) (f j)) ≡ false) → l ≤ m
  distinct_le l h d =
      omega (
        arith,
        counted l h d,
        sum_mono m (λ c. flag (any_below l (λ i. eqb (f i) c))) (λ c. 1) (λ c k. flag_le (any_below l (λ i. eqb (f i) c))),
        sum_same m 1,
      )
