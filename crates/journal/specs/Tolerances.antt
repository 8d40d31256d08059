-- Document 02, Two: what a plan of one tolerance a target is to plans of one tolerance. Definitions only. Assumes nothing.
use Rattle.std.specs.Prelude.{◌≡◌, Bool, List, [], ◌∷◌, ℕ, ◌+◌, ◌*◌, ◌<◌, length, Float}
use Rattle.buffers.specs.Ranges.{sum}
use Rattle.buffers.specs.Refusal.{first, carried}
use Rattle.solar_roll.specs.Cell.{numbers_refusal}
use Rattle.solar_roll.specs.Plan.{Plan, target_alone, rows_of, times_of, row_panel, config_of, cell_of, violates_at, head_panel, sizes_refusal, plan_refusal}
use Rattle.roll_sweep.specs.Sweep.{marked, cell_probes, sweep_probes}
use Rattle.journal.specs.Header.{settings_header, header_of}
use Rattle.journal.specs.Plan.{sweep_of}

-- "each marking, severity and probe count uses its target's entry": row r of a plan is the only row of the plan of its target alone (severities, and marks outside
-- the sweep: solar_masks, specs/Tolerances)
pub record TargetByTarget (p : Plan) (r : ℕ) : Type 0 where
  pub settings : config_of (target_alone p r) 0 ≡ config_of p r
  pub cells : (j : ℕ) → cell_of (target_alone p r) 0 j ≡ cell_of p r j
  pub violated : (j : ℕ) (roll : Float) → violates_at (target_alone p r) 0 j roll ≡ violates_at p r j roll
  -- of the sweep over any rolls: whether the cell at time j is marked, and the row's share of probes
  pub marks : (rolls : List Float) (said j : ℕ) → j < times_of p → marked (sweep_of p rolls said) (r * times_of p + j) ≡ marked (sweep_of (target_alone p r) rolls said) j
  pub probes : (rolls : List Float) (said : ℕ)
      → sum (times_of p) (λ j. cell_probes (sweep_of p rolls said) (r * times_of p + j)) ≡ sweep_probes (sweep_of (target_alone p r) rolls said)

-- a plan whose targets all have the tolerance t is document 01's plan with the tolerance t
pub record EqualTolerances (p : Plan) (t : Float) : Type 0 where
  -- each row has that plan's settings
  pub settings : (r : ℕ) → r < rows_of p
      → config_of p r ≡ record { tolerance_deg = t; roll_deg = p.configured; panel_normal = row_panel p.panels r }
  -- with a target the header is that plan's
  pub header : 0 < rows_of p → (n : ℕ) → header_of p n ≡ settings_header (rows_of p) (times_of p) n t p.configured (head_panel p)
  -- so are the refusals, with document 02's other numbers where it puts them: 17 is none of them
  pub refusals : (said : ℕ) (beyond : Bool)
      → plan_refusal p said beyond
      ≡ first (carried (sizes_refusal (length p.targets) (length p.suns) (length p.observers) beyond)
      ∷ carried said
      ∷ carried (numbers_refusal p.targets p.suns p.observers p.panels)
      ∷ [])
