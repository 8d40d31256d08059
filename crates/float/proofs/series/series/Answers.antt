-- `float::series::series` meets its contract: the fold over a list of nine coefficients is Horner's rule. Assumes nothing.
use Rattle.std.proofs.Common.{◌≡◌, Float, List, [], ◌∷◌, length, get_or, take, reverse, fold, refl, ◌∙◌, arith}
use Rattle.std.proofs.lemmas.Grind.{common_steps}
use Rattle.std.specs.Float.{nan}
use Rattle.float.specs.Arithmetic.{◌⊕◌, ◌⊗◌}
use Rattle.float.specs.Series.{horner_rule, series_at}
use Rattle.float.proofs.series.series.Goals as goal

-- what the code does
abbrev folded : List Float → Float → Float
folded c t = fold (λ p a. a ⊕ t ⊗ p) (get_or c 8 nan) (reverse (take 8 c))

-- from a list of another length there is nothing to say
by_rule : (c : List Float) (t : Float) → length c ≡ 9 → folded c t ≡ series_at c t
unfolding horner_rule
by_rule [] t h = absurd (let z : ⊥ = omega (arith, h) in z)
by_rule (c0 ∷ []) t h = absurd (let z : ⊥ = omega (arith, h) in z)
by_rule (c0 ∷ c1 ∷ []) t h = absurd (let z : ⊥ = omega (arith, h) in z)
by_rule (c0 ∷ c1 ∷ c2 ∷ []) t h = absurd (let z : ⊥ = omega (arith, h) in z)
by_rule (c0 ∷ c1 ∷ c2 ∷ c3 ∷ []) t h = absurd (let z : ⊥ = omega (arith, h) in z)
by_rule (c0 ∷ c1 ∷ c2 ∷ c3 ∷ c4 ∷ []) t h = absurd (let z : ⊥ = omega (arith, h) in z)
by_rule (c0 ∷ c1 ∷ c2 ∷ c3 ∷ c4 ∷ c5 ∷ []) t h = absurd (let z : ⊥ = omega (arith, h) in z)
by_rule (c0 ∷ c1 ∷ c2 ∷ c3 ∷ c4 ∷ c5 ∷ c6 ∷ []) t h = absurd (let z : ⊥ = omega (arith, h) in z)
by_rule (c0 ∷ c1 ∷ c2 ∷ c3 ∷ c4 ∷ c5 ∷ c6 ∷ c7 ∷ []) t h = absurd (let z : ⊥ = omega (arith, h) in z)
by_rule (c0 ∷ c1 ∷ c2 ∷ c3 ∷ c4 ∷ c5 ∷ c6 ∷ c7 ∷ c8 ∷ []) t h = refl
by_rule (c0 ∷ c1 ∷ c2 ∷ c3 ∷ c4 ∷ c5 ∷ c6 ∷ c7 ∷ c8 ∷ c9 ∷ r) t h = absurd (let z : ⊥ = omega (arith, h) in z)

as_folded : (c : goal.After-fold) → c.fold.result ≡ folded c.args.c.now c.args.t
as_folded c = grind (arith, common_steps)

pub returns : goal.returns
returns c = as_folded c ∙ by_rule c.args.c.now c.args.t c.told-c
