-- What C lends and reads, by computation. Assumes nothing.
use mathlib.Core.Path.{◌≡◌, refl}
use mathlib.Core.List.{List}
use Prim.Native.Nat.{ℕ}
use lib.Ieee.{Float}
use Rattle.buffers.specs.Refusal.{refused, accepted}
use Rattle.solar_roll.specs.Vectors.{vector}
use Rattle.solar_roll.specs.declared.cell.CellRoll.TheVariants.{Free, At, Refused}
use Rattle.std.specs.Prelude.{None, Some}
use Rattle.solar_roll.specs.declared.cell.EvaluationRoll.TheVariants.{Sweep, Fixed}
use Rattle.wilfnusk.specs.Answers.{minus, int64, cell_answer, cell_written, number_answer, number_written}
use Rattle.wilfnusk.specs.Plans.{configured, lent_plan, asked}

-- a number as it is, and minus a refusal's number, in 64 bits
pub numbers : (int64 (accepted 7) ≡ 7) × (int64 (refused 7) ≡ 0xffff_ffff_ffff_fff9)
unfolding int64 minus
numbers = (refl, refl)

-- of one cell and of a call that writes one number: what is answered, and what the lent number is afterwards, from x before
pub cells : (roll x : Float) (k : ℕ)
    → (cell_answer (accepted Free) ≡ accepted 0) × (cell_written (accepted Free) x ≡ x)
    × (cell_answer (accepted (At roll)) ≡ accepted 1) × (cell_written (accepted (At roll)) x ≡ roll)
    × (cell_answer (accepted (Refused k)) ≡ refused k) × (cell_written (accepted (Refused k)) x ≡ x)
    × (cell_answer (refused k) ≡ refused k) × (cell_written (refused k) x ≡ x)
    × (number_answer (accepted roll) ≡ accepted 0) × (number_written (accepted roll) x ≡ roll)
    × (number_answer (refused k) ≡ refused k) × (number_written (refused k) x ≡ x)
unfolding cell_answer cell_written number_answer number_written
cells roll x k = (refl, refl, refl, refl, refl, refl, refl, refl, refl, refl, refl, refl)

-- the plan that is lent: its lists, the configured roll, which has_roll 0 leaves out, and the panel's normal; and the roll that is asked for
pub plans : (targets suns observers tolerances : List Float) (roll x y z : Float)
    → ((lent_plan targets suns observers tolerances 1 roll x y z).targets ≡ targets)
    × ((lent_plan targets suns observers tolerances 1 roll x y z).suns ≡ suns)
    × ((lent_plan targets suns observers tolerances 1 roll x y z).observers ≡ observers)
    × ((lent_plan targets suns observers tolerances 1 roll x y z).tolerances ≡ tolerances)
    × ((lent_plan targets suns observers tolerances 1 roll x y z).configured ≡ Some roll)
    × ((lent_plan targets suns observers tolerances 2 roll x y z).configured ≡ Some roll)
    × ((lent_plan targets suns observers tolerances 0 roll x y z).configured ≡ None)
    × ((lent_plan targets suns observers tolerances 1 roll x y z).panels ≡ vector x y z)
    × (asked 0 roll ≡ Sweep roll)
    × (asked 1 roll ≡ Fixed roll)
    × (asked 2 roll ≡ Fixed roll)
unfolding configured asked
plans targets suns observers tolerances roll x y z = (refl, refl, refl, refl, refl, refl, refl, refl, refl, refl, refl)
