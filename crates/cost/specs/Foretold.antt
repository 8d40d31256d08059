-- Document 02's request Four: what "the sweep's own count is the number foretold" says. That count is `sweep_probes`, which collect answers once each chunk has a
-- line (demand 3, ledger: specs/Demand3). The theorems are in proofs/Foretold. Definitions only. Assumes nothing.
use Rattle.std.specs.Prelude.{◌≡◌, false, List, ℕ, ◌*◌, ◌≤◌, get_or, take, None}
use Rattle.solar_roll.specs.Plan.{Plan, plan_of, rows_of, times_of, samples_refusal, plan_refusal}
use Rattle.roll_sweep.specs.Sweep.{sweep_probes}
use Rattle.roll_sweep.specs.Rolls.{even_rolls}
use Rattle.journal.specs.Plan.{sweep_of}
use Rattle.cost.specs.Cost.{cost_after, PlanLists}

-- what the call leaves in the lent list: "the journal's exact length [..]; the fewest and most probes", an entry each, in this order
abbrev pub length_left : ℕ → ℕ → ℕ → List ℕ → ℕ
length_left targets times n out = get_or (cost_after targets times n out) 0 0

abbrev pub fewest_left : ℕ → ℕ → ℕ → List ℕ → ℕ
fewest_left targets times n out = get_or (cost_after targets times n out) 1 0

abbrev pub most_left : ℕ → ℕ → ℕ → List ℕ → ℕ
most_left targets times n out = get_or (cost_after targets times n out) 2 0

-- a count q lies from the fewest probes to the most, as the call left them
pub record Between (targets times n : ℕ) (out : List ℕ) (q : ℕ) : Type 0 where
  pub at_least : fewest_left targets times n out ≤ q
  pub at_most : q ≤ most_left targets times n out

-- "a plan of that size that reaches" q probes
pub record Reaches (targets times n : ℕ) (p : Plan) (q : ℕ) : Type 0 where
  -- it has that size
  pub of_targets : rows_of p ≡ targets
  pub of_times : times_of p ≡ times
  -- *Plan* refuses nothing of it, with n rolls
  pub accepted : plan_refusal p (samples_refusal n) false ≡ 0
  -- "the sweep's own count is the number foretold": over n even rolls, whatever was said in the place of 3
  pub count : (said : ℕ) → sweep_probes (sweep_of p (even_rolls n) said) ≡ q

-- the plan in these lists, lent as long as it was written and with no configured roll
unfoldable pub plan_in : ℕ → ℕ → PlanLists → Plan
plan_in targets times l =
    plan_of (take (3 * targets) l.targets) (take (3 * times) l.suns) (take (3 * times) l.observers) (take targets l.tolerances) None (take 3 l.panel)
