-- `sweep_samples`: a configured roll, tried once, decides for every sample. Assumes nothing.
use Prim.Native.Nat.{ℕ, ◌+◌}
use mathlib.Core.Path.{sym, ap, ◌∙◌}
use mathlib.Core.Bool.{Bool}
use mathlib.Core.List.{[], ◌∷◌}
use lib.ListN.{length, get_or}
use lib.Ieee.{Float, nan}
use Rattle.solar_roll.specs.Plan.{Plan, lent, row_config}
use Rattle.roll_sweep.specs.Chunk.{violates_by, sample_roll}
use Rattle.roll_sweep.proofs.SweptCells.{swept_ext, swept_same, one_each}
use Rattle.roll_sweep.proofs.Cells.{configured_same, unconfigured}
use Rattle.roll_sweep.proofs.chunk.sweep_samples.Goals as goal
use Rattle.roll_sweep.proofs.chunk.sweep_samples.Goals.{Start}

-- the k-th cell is violated at a roll
abbrev nth_violated : Start → ℕ → Float → Bool
nth_violated x k =
    let a = x.args in
    let p : Plan = lent a.plan.now in
    violates_by p.targets a.times a.units.now p.tolerances p.configured p.panels (a.first + k)

pub repeated-requires : goal.repeated-requires
repeated-requires c = (c.requires.6, c.requires.1, one_each c.args.cells _ c.sweep_cells-tried.result c.requires.0 c.sweep_cells-tried.ensures)

pub returns-in-None : goal.returns-in-None
returns-in-None c = let rolls = c.args.rolls.now in
    c.sweep_cells.ensures
    ∙ swept_ext c.args.cells (length rolls) (λ k s. nth_violated (goal.at.returns-in-None c).Start k (get_or rolls s nan)) (λ k s. nth_violated (goal.at.returns-in-None c).Start k (sample_roll rolls c.args.plan.now.configured s))
    (λ k s h g. ap (nth_violated (goal.at.returns-in-None c).Start k) (sym (unconfigured c.args.plan.now.configured rolls s c.in-None.is)))

pub returns-in-Some : goal.returns-in-Some
unfolding violates_by row_config
returns-in-Some c = let rolls = c.args.rolls.now in
    let roll = c.in-Some.roll_deg in
    swept_same c.args.cells (length rolls)
    (λ k s. nth_violated (goal.at.returns-in-Some c).Start k (sample_roll rolls c.args.plan.now.configured s)) (λ k s. nth_violated (goal.at.returns-in-Some c).Start k (get_or (roll ∷ []) s nan))
    c.sweep_cells-tried.result c.repeated.result c.requires.6
    (λ k s. ap (nth_violated (goal.at.returns-in-Some c).Start k) (configured_same c.args.plan.now.configured roll rolls s c.in-Some.is))
    c.sweep_cells-tried.ensures c.repeated.ensures.0 c.repeated.ensures.1
