-- The sweep of an accepted plan: it is one that the laws of machine and ledger ask for, and what its words say of the plan. Assumes nothing.
use mathlib.Core.Path.{◌≡◌, refl, ap, ap₂, ◌∙◌}
use mathlib.Core.Bool.{false}
use mathlib.Core.List.{List}
use Prim.Native.Nat.{ℕ, ◌+◌, ◌*◌, ◌≤◌, ◌<◌}
use lib.ListN.{length, get_or}
use lib.Ieee.{Float, nan}
use Rattle.buffers.proofs.Rows.{cell_row, cell_time}
use Rattle.solar_roll.specs.Plan.{most_times, Plan, times_of, violates_at, samples_refusal, plan_refusal}
use Rattle.roll_sweep.specs.Rolls.{even_roll, even_rolls}
use Rattle.roll_sweep.proofs.Even.{length_even, even_at}
use Rattle.journal.specs.Plan.{sweep_of}
use Rattle.journal.proofs.Planned.{passed, accepted_sweep}
use Rattle.journal.proofs.Written.{SweepFacts}

-- a list of rolls told as n samples and the roll of each
pub record Samples (rolls : List Float) (n : ℕ) (roll : ℕ → Float) : Type 0 where
  pub count : length rolls ≡ n
  pub each : (k : ℕ) → k < n → get_or rolls k nan ≡ roll k

-- by its entries; and the even rolls in document 01's words
pub entries : (rolls : List Float) → Samples rolls (length rolls) (λ k. get_or rolls k nan)
entries rolls = record { count = refl; each = λ k l. refl }

pub even_samples : (n : ℕ) → Samples (even_rolls n) n (even_roll n)
even_samples n = record { count = length_even n; each = even_at n }

module _ (p : Plan) (rolls : List Float) (said : ℕ) where
  pub accepted_plan : plan_refusal p said false ≡ 0 → samples_refusal (length rolls) ≡ 0 → SweepFacts (sweep_of p rolls said)
  unfolding sweep_of
  accepted_plan e few = accepted_sweep p rolls said (λ _. few) 0 0 e

  pub few_times : plan_refusal p said false ≡ 0 → times_of p ≤ most_times
  unfolding sweep_of
  few_times e = (passed p rolls said 0 0 e).facts.few_times

  -- sample k of the cell of row i at time j
  pub sample_roll_lem : (n : ℕ) (roll : ℕ → Float) → Samples rolls n roll → (i j k : ℕ) → j < times_of p → k < n
      → (sweep_of p rolls said).violates (i * times_of p + j) k ≡ violates_at p i j (roll k)
  unfolding sweep_of
  sample_roll_lem n roll told i j k h l =
      ap₂ (λ (r t : ℕ). violates_at p r t (get_or rolls k nan)) (cell_row (times_of p) i j h) (cell_time (times_of p) i j h)
      ∙ ap (violates_at p i j) (told.each k l)
