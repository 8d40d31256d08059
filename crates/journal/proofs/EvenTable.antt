-- Document 02's request Five: even rolls, lent as a table. Assumes nothing.
use mathlib.Core.Path.{◌≡◌, sym, ap, ◌∙◌}
use Prim.Native.Nat.{ℕ}
use Rattle.solar_roll.specs.Plan.{Plan, samples_refusal}
use Rattle.roll_sweep.specs.Rolls.{even_rolls}
use Rattle.roll_sweep.proofs.EvenTable.{even_accepted}
use Rattle.journal.specs.Plan.{sweep_of, even_sweep, table_sweep}

-- n even rolls, for each n from 1 to 3,600, lent as a table, are accepted and have the sweep of n: every call gives the same answer and leaves the same bytes
pub table_of_even : (p : Plan) (n : ℕ) → samples_refusal n ≡ 0 → table_sweep p (even_rolls n) ≡ even_sweep p n
table_of_even p n few = ap (sweep_of p (even_rolls n)) (even_accepted n few ∙ sym few)
