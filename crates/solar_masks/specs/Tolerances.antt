-- Document 02, Two: "each marking, severity and probe count uses its target's entry". Each byte, severity and named value of row r is that of the only row of the plan
-- of its target alone, with that target's tolerance (`target_by_target`, proofs/Tolerances; of the sweep: journal, specs/Tolerances). Definitions only. Assumes
-- nothing.
use Rattle.std.specs.Prelude.{◌≡◌, List, ℕ, ◌+◌, ◌*◌, ◌<◌, length, get_or, Float, Option}
use Rattle.std.specs.Float.{nan}
use Rattle.solar_roll.specs.Plan.{Plan, target_alone, rows_of, times_of, optimal_at}
use Rattle.solar_masks.specs.Mask.{at_configured, mark_at, cells_refusal, mask_after, values_after}
use Rattle.solar_masks.specs.Row.{severity_at, row_refusal, row_mask_after, severities_after}
use Rattle.solar_masks.specs.Field.{field_refusal, field_after}
use Rattle.solar_masks.specs.declared.mask.MarkRule.{MarkRule}

pub record TargetByTarget (p : Plan) (r : ℕ) : Type 0 where
  -- of the cell at time j
  pub marks : (rule : MarkRule) (j : ℕ) → mark_at (target_alone p r) rule 0 j ≡ mark_at p rule r j
  pub severities : (j : ℕ) → severity_at (target_alone p r) 0 j ≡ severity_at p r j
  pub values : (j : ℕ) → optimal_at (target_alone p r) 0 j ≡ optimal_at p r j
  -- of what an accepted call leaves: the masks and the named values of all cells
  pub mask_left : (said : ℕ) (rule : Option Float → MarkRule) (mask : List ℕ) (j : ℕ) → cells_refusal p said (length mask) ≡ 0 → r < rows_of p → j < times_of p
      → get_or (mask_after p said rule mask) (r * times_of p + j) 0 ≡ mark_at (target_alone p r) (rule p.configured) 0 j
  pub values_left : (values : List Float) (j : ℕ) → cells_refusal p 0 (length values) ≡ 0 → r < rows_of p → j < times_of p
      → get_or (values_after p values) (r * times_of p + j) nan ≡ optimal_at (target_alone p r) 0 j
  -- one row's mask and severities
  pub row_left : (mask : List ℕ) (severities : List Float) (j : ℕ) → row_refusal p r (length mask) (length severities) ≡ 0 → j < times_of p
      → get_or (row_mask_after p r mask severities) j 0 ≡ mark_at (target_alone p r) (at_configured p.configured) 0 j
  pub severities_left : (mask : List ℕ) (severities : List Float) (j : ℕ) → row_refusal p r (length mask) (length severities) ≡ 0 → j < times_of p
      → get_or (severities_after p r mask severities) j nan ≡ severity_at (target_alone p r) 0 j
  -- both fields of regard, at one time
  pub field_left : (said time : ℕ) (rule : Option Float → MarkRule) (mask : List ℕ) → field_refusal p said time (length mask) ≡ 0 → r < rows_of p
      → get_or (field_after p said time rule mask) r 0 ≡ mark_at (target_alone p r) (rule p.configured) 0 time
