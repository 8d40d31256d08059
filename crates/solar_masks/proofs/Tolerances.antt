-- Document 02, Two: what the calls say of row r is what they say of the plan of its target alone (`target_by_target`). Assumes nothing.
use mathlib.Core.Path.{◌≡◌, refl, ap, ap₂, ◌∙◌}
use mathlib.Core.List.{List}
use Prim.Native.Nat.{ℕ, ◌+◌, ◌*◌, ◌/◌, ◌%◌, ◌<◌}
use lib.ListN.{get_or}
use Rattle.buffers.specs.Lent.{filled}
use Rattle.buffers.specs.Refusal.{unless_refused}
use Rattle.buffers.proofs.Lent.{get_or_filled}
use Rattle.buffers.proofs.Refusals.{written_none}
use Rattle.buffers.proofs.Rows.{cell_row, cell_time, cell_below}
use Rattle.solar_roll.specs.Plan.{Plan, rows_of, times_of, cells_of, optimal_at, triple, row_direction, row_panel, row_config, sun_at, cell_of}
use Rattle.solar_masks.specs.Mask.{mark_at, cell_mark, cell_value, mask_after, values_after}
use Rattle.solar_masks.specs.Row.{severity_at, row_mask_after, severities_after}
use Rattle.solar_masks.specs.Field.{field_after}
use Rattle.solar_masks.specs.Tolerances.{TargetByTarget}

-- entry k of what an accepted call writes
entry : {A : Type 0} (refusal n : ℕ) (f : ℕ → A) (old : List A) (d : A) (k : ℕ) → refusal ≡ 0 → k < n → get_or (unless_refused refusal (filled n f old) old) k d ≡ f k
entry refusal n f old d k h l = ap (λ (left : List _). get_or left k d) (written_none refusal (filled n f old) old h) ∙ get_or_filled f n old d k l

-- of row r at time j, by its cell number
by_cell : {A : Type 0} (p : Plan) (f : ℕ → ℕ → A) (r j : ℕ) → j < times_of p → f ((r * times_of p + j) / times_of p) ((r * times_of p + j) % times_of p) ≡ f r j
by_cell p f r j h = ap₂ f (cell_row (times_of p) r j h) (cell_time (times_of p) r j h)

pub target_by_target : (p : Plan) (r : ℕ) → TargetByTarget p r
unfolding triple row_direction row_panel row_config sun_at cell_of optimal_at mark_at severity_at cell_mark cell_value mask_after values_after row_mask_after severities_after field_after
target_by_target p r =
    record {
      marks = λ rule j. refl;
      severities = λ j. refl;
      values = λ j. refl;
      mask_left = λ said rule mask j h l g.
          entry _ (cells_of p) (cell_mark p (rule p.configured)) mask 0 (r * times_of p + j) h (cell_below (rows_of p) (times_of p) r j l g)
          ∙ by_cell p (mark_at p (rule p.configured)) r j g;
      values_left = λ values j h l g.
          entry _ (cells_of p) (cell_value p) values _ (r * times_of p + j) h (cell_below (rows_of p) (times_of p) r j l g)
          ∙ by_cell p (optimal_at p) r j g;
      row_left = λ mask severities j h g. entry _ (times_of p) _ mask 0 j h g;
      severities_left = λ mask severities j h g. entry _ (times_of p) (severity_at p r) severities _ j h g;
      field_left = λ said time rule mask h l. entry _ (rows_of p) _ mask 0 r h l;
    }
