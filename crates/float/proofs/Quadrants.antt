-- The five cases of q, of which the code asks for three, and by the sine's for the cosine's. Assumes nothing.
use Rattle.std.proofs.Common.{◌≡◌, ℕ, zero, suc, ◌≤◌, true, false, [], ◌∷◌, get_or, refl, ap, arith}
use lib.Ieee.{Float, nan, inf, fin, neg}
use Rattle.float.specs.Trigonometry.{sine_at, cosine_at}

-- neither 1, 2 nor 3: 0 or 4
pub whole_turn : (q : ℕ) (s c : Float) → q ≤ 4 → (q ≡ 1 → ⊥) → (q ≡ 2 → ⊥) → (q ≡ 3 → ⊥) → s ≡ sine_at q s c
unfolding sine_at
whole_turn zero s c h a b d = refl
whole_turn (suc zero) s c h a b d = absurd (a refl)
whole_turn (suc (suc zero)) s c h a b d = absurd (b refl)
whole_turn (suc (suc (suc zero))) s c h a b d = absurd (d refl)
whole_turn (suc (suc (suc (suc zero)))) s c h a b d = refl
whole_turn (suc (suc (suc (suc (suc n))))) s c h a b d = let x : ⊥ = omega arith in absurd x

neg_neg : (x : Float) → neg (neg x) ≡ x
unfolding neg
neg_neg nan = refl
neg_neg (inf true) = refl
neg_neg (inf false) = refl
neg_neg (fin true m e) = refl
neg_neg (fin false m e) = refl

-- the cosine's cases are the sine's, of the cosine and minus the sine
pub cosine_cases : (q : ℕ) (s c : Float) → sine_at q c (neg s) ≡ cosine_at q s c
unfolding sine_at cosine_at
cosine_cases q s c = ap (λ (x : Float). get_or (c ∷ neg s ∷ neg c ∷ x ∷ c ∷ []) q nan) (neg_neg s)
