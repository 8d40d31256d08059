-- Section 3: what the sweep of one chunk gives, and the call that does it, which is a step of the journal's calls. Definitions only. Assumes nothing.
use Rattle.std.specs.Prelude.{Bool, List, [], ◌∷◌, ℕ, ◌+◌, ◌*◌, ◌/◌, ◌%◌, eqb, leb, length, get_or, Float, Option}
use Rattle.std.specs.Float.{nan}
use Rattle.buffers.specs.Ranges.{sum, all_below}
use Rattle.buffers.specs.Refusal.{first, carried, Reply, reply}
use Rattle.solar_roll.specs.Vectors.{Vector}
use Rattle.solar_roll.specs.Roll.{body_axes, panel_of}
use Rattle.solar_roll.specs.Cell.{roll_in, violates, in_force}
use Rattle.solar_roll.specs.Plan.{count, row_direction, row_config, too_many, samples_refusal}
use Rattle.solar_roll.specs.declared.cell.CellRoll.{CellRoll}
use Rattle.solar_roll.specs.declared.cell.EvaluationRoll.TheVariants.{Sweep as SweepRoll}
use Rattle.solar_roll.specs.declared.plan.SolarRollConfig.{SolarRollConfig}
use Rattle.roll_sweep.specs.Sweep.{Sweep, tried, chunks, cells_in, word, chunk_mask, chunk_probes}
use Rattle.roll_sweep.specs.declared.chunk.Swept.{Swept}

-- ---- what it gives

-- of w cells with n samples each, where v says which sample violates which cell: bit k of the mask is cell k
unfoldable pub swept_by : ℕ → ℕ → (ℕ → ℕ → Bool) → Swept
unfolding word sum all_below tried
swept_by w n v = record { mask = word w (λ k. all_below n (v k)); probes = sum w (λ k. tried n (v k)) }

-- of chunk c
abbrev pub swept_of : Sweep → ℕ → Swept
swept_of s c = record { mask = chunk_mask s c; probes = chunk_probes s c }

-- ---- the call, which is lent the Sun's units for the positions

-- cell i is violated at a roll. The Sun's unit there is entry i % L of a table of L units: of all times, or of a chunk's 64 cells
unfoldable pub violates_by : List Float → ℕ → List Vector → List Float → Option Float → List Float → ℕ → Float → Bool
violates_by targets times units tolerances configured panels i roll =
    let r : ℕ = i / times in
    let config : SolarRollConfig = row_config tolerances configured panels r in
    let cell : CellRoll = roll_in (body_axes (row_direction targets r)) (get_or units (i % length units) []) (panel_of config.panel_normal) in
    violates cell roll config.tolerance_deg

-- the roll that sample k stands for
abbrev pub sample_roll : List Float → Option Float → ℕ → Float
sample_roll rolls configured k = in_force (SweepRoll (get_or rolls k nan)) configured

-- 1, no unit is lent; of *Plan*, what bounds the work: 2, and 3 of the samples; then 9, no such chunk
unfoldable pub chunk_refusal : ℕ → ℕ → ℕ → ℕ → ℕ → ℕ
chunk_refusal rows times units samples c =
    first ((eqb units 0, 1)
    ∷ (too_many rows times, 2)
    ∷ carried (samples_refusal samples)
    ∷ (leb (chunks (rows * times)) c, 9)
    ∷ [])

-- what the sweep of chunk c answers
abbrev pub swept_reply : List Float → ℕ → List Vector → List Float → Option Float → List Float → List Float → ℕ → Reply Swept
swept_reply targets times units tolerances configured panels rolls c =
    let rows : ℕ = count targets in
    let n : ℕ = length rolls in
    let violated : ℕ → Float → Bool = violates_by targets times units tolerances configured panels in
    reply (chunk_refusal rows times (length units) n c)
    (swept_by (cells_in (rows * times) c) n (λ k s. violated (64 * c + k) (sample_roll rolls configured s)))
