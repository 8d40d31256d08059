-- A plan as its calls lend it, and *Plan*, the refusals that come before every call with positions. A plan has rows and times. A row is a target;
-- a cell, document 01's word, is a row at a time. Everything above these definitions speaks of rows: a row's direction and settings are
-- `direction_of` and `config_of`. A row's tolerance and panel are chosen from the plan's lists by `row_config` alone, which has the panel of
-- `row_panel`; the configured roll is the whole plan's. Definitions only. Assumes nothing.
use Rattle.std.specs.Prelude.{◌≡◌, Bool, false, cond, not, ◌||◌, ◌&&◌, List, [], ◌∷◌, ℕ, ◌*◌, ◌/◌, ◌%◌, ◌≤◌, eqb, leb, ltb, length, get_or, Float, Option}
use Rattle.std.specs.Float.{nan}
use Rattle.buffers.specs.Refusal.{first, carried}
use Rattle.float.specs.Arithmetic.{zero·0}
use Rattle.solar_roll.specs.Vectors.{Vector}
-- passed on: what reads a plan's lists, which are flat lists of triples, reads them by these
unfoldable pub use Rattle.solar_roll.specs.Vectors.{count, triple}
use Rattle.solar_roll.specs.Roll.{sun_unit, solar_optimal_roll_deg}
use Rattle.solar_roll.specs.Cell.{optimal_roll, violates, in_force, bad_position, bad_direction, any_not_unit, numbers_refusal}
use Rattle.solar_roll.specs.declared.cell.CellRoll.{CellRoll}
use Rattle.solar_roll.specs.declared.cell.EvaluationRoll.TheVariants.{Sweep}
use Rattle.solar_roll.specs.declared.plan.SolarRollConfig.{SolarRollConfig}
use Rattle.solar_roll.specs.declared.plan.Plan.{Plan as LentPlan}

-- flat lists of triples: the targets' directions, and of each time the Sun's and the observer's position; the tolerances, one a target; the
-- configured roll; and the panels' normals, a flat list of triples, of which the first is every row's
pub record Plan : Type 0 where
  pub targets : List Float
  pub suns : List Float
  pub observers : List Float
  pub tolerances : List Float
  pub configured : Option Float
  pub panels : List Float

-- the plan of what a call is lent
abbrev pub plan_of : List Float → List Float → List Float → List Float → Option Float → List Float → Plan
plan_of targets suns observers tolerances configured panels =
    record { targets = targets; suns = suns; observers = observers; tolerances = tolerances; configured = configured; panels = panels }

-- the same of the struct that the calls are lent
abbrev pub lent : LentPlan → Plan
lent p = plan_of p.targets.now p.suns.now p.observers.now p.tolerances.now p.configured p.panels.now

-- ---- rows, times and cells: cell number = row · times + time

-- how many rows: the targets
abbrev pub rows_of : Plan → ℕ
rows_of p = count p.targets

-- how many times: the Sun's positions
abbrev pub times_of : Plan → ℕ
times_of p = count p.suns

-- how many cells: rows · times
abbrev pub cells_of : Plan → ℕ
cells_of p = rows_of p * times_of p

-- of row r, of the lists that a call is lent: the direction, the panel's normal, and the settings, NaN past the end
unfoldable pub row_direction : List Float → ℕ → Vector
row_direction targets r = triple targets r

unfoldable pub row_panel : List Float → ℕ → Vector
unfolding triple
row_panel panels r = triple panels 0

unfoldable pub row_config : List Float → Option Float → List Float → ℕ → SolarRollConfig
unfolding row_panel
row_config tolerances configured panels r =
    record { tolerance_deg = get_or tolerances r nan; roll_deg = configured; panel_normal = row_panel panels r }

-- the same, of a plan
abbrev pub direction_of : Plan → ℕ → Vector
direction_of p r = row_direction p.targets r

abbrev pub config_of : Plan → ℕ → SolarRollConfig
config_of p r = row_config p.tolerances p.configured p.panels r

-- the Sun's unit at time j
unfoldable pub sun_at : Plan → ℕ → Vector
sun_at p j = sun_unit (triple p.suns j) (triple p.observers j)

-- the answer of the cell of row r at time j
unfoldable pub cell_of : Plan → ℕ → ℕ → CellRoll
cell_of p r j = optimal_roll (direction_of p r) (sun_at p j) (config_of p r).panel_normal

-- its optimal roll, of a Free cell too
unfoldable pub optimal_at : Plan → ℕ → ℕ → Float
optimal_at p r j = solar_optimal_roll_deg (direction_of p r) (sun_at p j) (config_of p r).panel_normal

-- the tolerance and the panel's normal that the journal's header holds: the first of each list. Without targets there is no tolerance, and it
-- holds zeros
unfoldable pub head_tolerance : Plan → Float
head_tolerance p = get_or p.tolerances 0 zero·0

unfoldable pub head_panel : Plan → Vector
unfolding triple
head_panel p = triple p.panels 0

-- a sample violates the cell of row r at time j: it is taken as a Sweep roll
unfoldable pub violates_at : Plan → ℕ → ℕ → Float → Bool
violates_at p r j roll = violates (cell_of p r j) (in_force (Sweep roll) p.configured) (config_of p r).tolerance_deg

-- the plan of row r's target alone, with the one tolerance of that target (document 02, Two)
abbrev pub target_alone : Plan → ℕ → Plan
target_alone p r = plan_of (direction_of p r) p.suns p.observers (get_or p.tolerances r nan ∷ []) p.configured p.panels

-- ---- the refusals

-- the largest plan: rows, times and cells
abbrev pub most_rows : ℕ
most_rows = 65536

abbrev pub most_times : ℕ
most_times = 65536

abbrev pub most_cells : ℕ
most_cells = 1048576

-- the largest n
abbrev pub most_samples : ℕ
most_samples = 3600

-- 1, of the lists' lengths: target numbers or positions not a multiple of 3, or Sun and observer lengths differ
unfoldable pub unlike_lengths : ℕ → ℕ → ℕ → Bool
unlike_lengths targets suns observers = not (eqb (targets % 3) 0) || (not (eqb (suns % 3) 0) || not (eqb suns observers))

-- 2: rows or times over 65,536, or cells over 1,048,576
unfoldable pub too_many : ℕ → ℕ → Bool
too_many rows times = ltb most_rows rows || (ltb most_times times || ltb most_cells (rows * times))

-- the number in the place of 3, 0 for none: n outside 1 to 3,600
unfoldable pub samples_refusal : ℕ → ℕ
samples_refusal n = cond (leb 1 n && leb n most_samples) 0 3

-- the same in section 6's first two calls, where n = 0 is allowed
unfoldable pub samples_or_none_refusal : ℕ → ℕ
samples_or_none_refusal n = cond (leb n most_samples) 0 3

-- what comes before the place of 3, of the lengths of targets, Sun and observers; `beyond` says that a used length lies beyond its buffer
unfoldable pub sizes_refusal : ℕ → ℕ → ℕ → Bool → ℕ
sizes_refusal targets suns observers beyond =
    first ((unlike_lengths targets suns observers || beyond, 1)
    ∷ (too_many (targets / 3) (suns / 3), 2)
    ∷ [])

-- what comes after the place of 3: what the lists hold, and 17: not one tolerance a target
unfoldable pub lists_refusal : Plan → ℕ
lists_refusal p =
    first (carried (numbers_refusal p.targets p.suns p.observers p.panels)
    ∷ (not (eqb (length p.tolerances) (count p.targets)), 17)
    ∷ [])

-- *Plan*, 0 for none: the sizes, the number said in the place of 3, the numbers, and 17: not one tolerance a target
unfoldable pub plan_refusal : Plan → ℕ → Bool → ℕ
plan_refusal p said beyond =
    first (carried (sizes_refusal (length p.targets) (length p.suns) (length p.observers) beyond)
    ∷ carried said
    ∷ carried (numbers_refusal p.targets p.suns p.observers p.panels)
    ∷ (not (eqb (length p.tolerances) (count p.targets)), 17)
    ∷ [])

-- what is known of a plan that is not refused (`plan_facts`, proofs/PlanFacts)
pub record PlanFacts (p : Plan) : Type 0 where
  pub targets_length : length p.targets ≡ 3 * rows_of p
  pub suns_length : length p.suns ≡ 3 * times_of p
  pub observers_length : length p.observers ≡ 3 * times_of p
  pub tolerances_length : length p.tolerances ≡ count p.targets
  pub few_rows : rows_of p ≤ most_rows
  pub few_times : times_of p ≤ most_times
  pub few_cells : cells_of p ≤ most_cells
  pub suns_small : bad_position p.suns ≡ false
  pub observers_small : bad_position p.observers ≡ false
  pub targets_small : bad_direction p.targets ≡ false
  pub targets_unit : any_not_unit p.targets ≡ false
  pub panels_small : bad_position p.panels ≡ false
