-- Section 5's runs of a row of samples: the maximal runs of marked samples, and of the clear ones those that rule V keeps, in time order. Definitions
-- only. Assumes nothing.
use Rattle.std.specs.Prelude.{ℕ, suc, ◌+◌, ◌-◌, Bool, true, false, cond, ◌||◌, List, [], ◌∷◌, map, length, ◌==◌, nat_eq, nat_lt}

-- a run of samples: the numbers of its first and of its last
pub record Run : Type 0 where
  pub first : ℕ
  pub last : ℕ

-- the run from sample f to sample l
abbrev pub run : ℕ → ℕ → Run
run f l = record { first = f; last = l }

-- whether a run is open, and since which sample
pub data Open : Type 0 where
  shut : Open
  since : ℕ → Open

-- the maximal runs of `true` among the samples i, i + 1, ..: a run that is open before sample i goes on there, or ends at i - 1
unfoldable pub runs_from : ℕ → Open → List Bool → List Run
runs_from i shut [] = []
runs_from i (since s) [] = run s (i - 1) ∷ []
runs_from i shut (false ∷ m) = runs_from (suc i) shut m
runs_from i shut (true ∷ m) = runs_from (suc i) (since i) m
runs_from i (since s) (true ∷ m) = runs_from (suc i) (since s) m
runs_from i (since s) (false ∷ m) = run s (i - 1) ∷ runs_from (suc i) shut m

-- which samples of a mask are the byte v
unfoldable pub samples_are : ℕ → List ℕ → List Bool
samples_are v = map (λ (b : ℕ). nat_eq b v)

-- the elements that have the property p, in their order
unfoldable pub filter : {A : Type 0} → (A → Bool) → List A → List A
filter p [] = []
filter p (x ∷ xs) = cond (p x) (x ∷ filter p xs) (filter p xs)

-- the maximal runs of marked samples: a mask's byte is 1 where the sample is marked, 0 where it is clear
unfoldable pub violation_runs : List ℕ → List Run
unfolding runs_from samples_are
violation_runs m = runs_from 0 shut (samples_are 1 m)

-- Rule V, a term of document 01, of a clear run in a row of n samples: it has two samples or more, or it reaches the last sample
unfoldable pub rule_v : ℕ → Run → Bool
rule_v n r = nat_lt r.first r.last || r.last + 1 == n

-- the maximal runs of clear samples that rule V keeps
unfoldable pub visibility_runs : List ℕ → List Run
unfolding runs_from samples_are filter rule_v
visibility_runs m = filter (rule_v (length m)) (runs_from 0 shut (samples_are 0 m))
