-- `windows::refusal::differ` meets its contract. Assumes nothing.
use Rattle.std.proofs.Common.{◌≡◌, ℕ, false, not, eqb, List, [], ◌∷◌, length, sym, refl, ap, ◌∙◌, rules, tests, arith}
use Rattle.std.proofs.lemmas.Iterator.{YieldsList-from_slice}
use Rattle.std.proofs.lemmas.Iterator.Search.{any_from_yields_List}
use Rattle.windows.specs.Refusal.{differ}
use Rattle.windows.proofs.Refusals.{any_list}
use Rattle.windows.proofs.refusal.differ.Goals as goal

none : (ns : List ℕ) → length ns ≡ 0 → false ≡ differ ns
unfolding differ
none [] e = refl
none (n ∷ ns) e = let z : ⊥ = omega arith in absurd z

pub returns-in-Some : goal.returns-in-Some
unfolding differ
returns-in-Some c =
    let n = c.in-Some.first.now in
    let ns = c.in-Some.rest.now in
    any_from_yields_List (λ (m : ℕ). not (eqb m n)) _ _ _ c.any.ensures.ran (YieldsList-from_slice ns cc) (λ x b q k. search (rules, tests))
    ∙ any_list (λ (m : ℕ). not (eqb m n)) ns
    ∙ sym (ap differ c.in-Some.ensures.cases.0)

pub returns-in-None : goal.returns-in-None
returns-in-None c = none _ c.in-None.ensures.cases
