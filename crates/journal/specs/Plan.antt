-- The sweep of a plan: here alone the plan and its rolls enter what is said of chunks, journals and the ledger. Definitions only. Assumes nothing.
use Rattle.std.specs.Prelude.{◌≡◌, List, ℕ, ◌/◌, ◌%◌, ◌<◌, length, get_or, Float}
use Rattle.std.specs.Float.{nan}
use Rattle.buffers.specs.Ranges.{tab}
use Rattle.solar_roll.specs.Vectors.{Vector}
use Rattle.solar_roll.specs.Plan.{Plan, rows_of, times_of, sun_at, violates_at, samples_refusal, plan_refusal}
use Rattle.roll_sweep.specs.Sweep.{Sweep}
use Rattle.roll_sweep.specs.Rolls.{even_rolls, table_refusal}
use Rattle.journal.specs.Header.{header_of}

-- the sweep of a plan over a list of rolls; `said` is the number said of them in the place of 3, 0 for none. Cell number = row · times + time; a sample is
-- taken as a Sweep roll (`violates_at`), so a configured roll stands for every sample
unfoldable pub sweep_of : Plan → List Float → ℕ → Sweep
unfolding plan_refusal header_of
sweep_of p rolls said =
    record {
      refusal = plan_refusal p said;
      rows = rows_of p;
      times = times_of p;
      samples = length rolls;
      violates = λ i k. violates_at p (i / times_of p) (i % times_of p) (get_or rolls k nan);
      header = header_of p (length rolls);
    }

-- over n even rolls
abbrev pub even_sweep : Plan → ℕ → Sweep
even_sweep p n = sweep_of p (even_rolls n) (samples_refusal n)

-- over a lent table of rolls: 18 and 19 come in the place of 3, and the header's n is its length
abbrev pub table_sweep : Plan → List Float → Sweep
table_sweep p rolls = sweep_of p rolls (table_refusal rolls)

-- ---- for the contracts of private functions

-- what is said of n samples refuses n outside 1 to 3,600, perhaps more
abbrev pub Says : ℕ → ℕ → Type 0
Says said n = said ≡ 0 → samples_refusal n ≡ 0

-- a table of the Sun's units, one a time of the plan, or none
abbrev pub UnitsOf : Plan → List Vector → Type 0
UnitsOf p units = 0 < length units → units ≡ tab (times_of p) (sun_at p)

-- how many times such a table has room for: the hours of a leap year
abbrev pub table_times : ℕ
table_times = 8784
