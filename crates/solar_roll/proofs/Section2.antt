-- Section 2's sentences hold of each cell of an accepted plan (`section2`). Assumes nothing.
use mathlib.Core.Path.{◌≡◌, refl, sym, ap, ◌∙◌}
use mathlib.Core.Logic.{◌⊎◌, inl, inr, ⊎_elim, ◌↔◌}
use mathlib.Core.Bool.{Bool, true, false, cond, ◌||◌, false≢true}
use Prim.Native.Nat.{ℕ, ◌≤◌, ◌<◌}
use lib.Dec.{lit≤}
use lib.ListN.{length}
use lib.Ieee.{Float, nan, inf, fin, lt, of_bits}
use Rattle.float.specs.Arithmetic.{◌⊖◌, finite}
use Rattle.float.proofs.Bounds.{Within, weaken, within_finite}
use Rattle.float.proofs.Order.{lt_self, below_zero}
use Rattle.float.proofs.Overflow.{finite_sub}
use Rattle.solar_roll.specs.Roll.{sun_along_boresight, panel_is_free, roll_is_unconstrained, circular_diff_deg}
use Rattle.solar_roll.specs.Cell.{optimal_roll, violates}
use Rattle.solar_roll.specs.Plan.{Plan, rows_of, times_of, direction_of, config_of, sun_at, cell_of, optimal_at, plan_refusal}
use Rattle.solar_roll.specs.Section2.{FiniteFloat, Section2}
use Rattle.solar_roll.specs.declared.cell.CellRoll.{CellRoll}
use Rattle.solar_roll.specs.declared.cell.CellRoll.TheVariants.{Free, At}
use Rattle.solar_roll.proofs.PlanFacts.{plan_facts}
use Rattle.solar_roll.proofs.Cells.{free_not_at}
use Rattle.solar_roll.proofs.Difference.{difference_range, difference_nan, difference_not_finite}
use Rattle.solar_roll.proofs.Finite.{roll_within, roll_range}

lt_nan : (t : Float) → lt t nan ≡ false
unfolding lt
lt_nan nan = refl
lt_nan (inf s) = refl
lt_nan (fin s m e) = refl

nan_lt : (d : Float) → lt nan d ≡ false
unfolding lt
nan_lt d = refl

or_true : (a b : Bool) → (a || b ≡ true) ↔ ((a ≡ true) ⊎ (b ≡ true))
or_true true b = ((λ h. inl refl), (λ h. refl))
or_true false b = ((λ h. inr h), (λ h. ⊎_elim (λ e. absurd (false≢true e)) (λ e. e) h))

-- ---- the answer, Free or At a roll, by whether the roll is unconstrained

abbrev answer : Bool → Float → CellRoll
answer free optimal = cond free Free (At optimal)

at_not_free : (optimal : Float) → At optimal ≡ Free → ⊥
at_not_free optimal e = free_not_at optimal (sym e)

answer_free : (b : Bool) (optimal : Float) → (answer b optimal ≡ Free) ↔ (b ≡ true)
answer_free true optimal = ((λ h. refl), (λ h. refl))
answer_free false optimal = ((λ h. absurd (at_not_free optimal h)), (λ h. absurd (false≢true h)))

answer_at : (b : Bool) (optimal : Float) → (answer b optimal ≡ Free → ⊥) → answer b optimal ≡ At optimal
answer_at true optimal n = absurd (n refl)
answer_at false optimal n = refl

violated_iff : (b : Bool) (optimal roll tolerance : Float)
    → (violates (answer b optimal) roll tolerance ≡ true) ↔ ((answer b optimal ≡ Free → ⊥) × (lt tolerance (circular_diff_deg roll optimal) ≡ true))
unfolding violates
violated_iff true optimal roll tolerance = ((λ h. absurd (false≢true h)), (λ h. absurd (h.0 refl)))
violated_iff false optimal roll tolerance = ((λ h. (at_not_free optimal, h)), (λ h. h.1))

-- where the difference is not above the tolerance, Free or not
clear : (b : Bool) (optimal roll tolerance : Float) → lt tolerance (circular_diff_deg roll optimal) ≡ false → violates (answer b optimal) roll tolerance ≡ false
unfolding violates
clear true optimal roll tolerance h = refl
clear false optimal roll tolerance h = h

-- ---- the sentences; a panel, three numbers, is there

module _ (p : Plan) (said : ℕ) (beyond : Bool) (accepted : plan_refusal p said beyond ≡ 0) (three : 3 ≤ length p.panels)
    (i j : ℕ) (in_rows : i < rows_of p) (in-times : j < times_of p) where
  abbrev optimal : Float
  optimal = optimal_at p i j

  abbrev along : Bool
  along = sun_along_boresight (direction_of p i) (sun_at p j)

  abbrev facing : Bool
  facing = panel_is_free (config_of p i).panel_normal

  cell : cell_of p i j ≡ answer (along || facing) optimal
  unfolding cell_of optimal_roll roll_is_unconstrained optimal_at
  cell = refl

  within : Within 20 optimal
  within = roll_within p (plan_facts p said beyond accepted) three i j in_rows in-times

  no_overflow : (roll : Float) → FiniteFloat roll → finite (roll ⊖ optimal) ≡ true
  no_overflow roll f = finite_sub roll optimal f.held f.is_finite (weaken 20 969 (lit≤ tt) within)

  pub section2 : Section2 p i j
  unfolding finite of_bits
  section2 = record {
    free = rw cell (let f = answer_free (along || facing) optimal in let o = or_true along facing in ((λ h. o.0 (f.0 h)), (λ h. f.1 (o.1 h))));
    otherwise = rw cell (answer_at (along || facing) optimal);
    roll_range = roll_range p (plan_facts p said beyond accepted) three i j in_rows in-times;
    roll_finite = within_finite 20 within;
    no_overflow = no_overflow;
    range = difference_range;
    else_nan = difference_nan;
    not_finite = difference_not_finite;
    violated = rw cell (violated_iff (along || facing) optimal);
    nan_roll = rw cell (λ t. clear (along || facing) optimal nan t (ap (lt t) (difference_not_finite nan optimal (inl refl)) ∙ lt_nan t));
    nan_tolerance = rw cell (λ roll. clear (along || facing) optimal roll nan (nan_lt _));
    below_zero = rw cell (λ roll t f below n. (violated_iff (along || facing) optimal roll t).1 (n, below_zero t _ below (difference_range roll optimal (no_overflow roll f)).low));
    met_exactly = rw cell (λ roll. clear (along || facing) optimal roll _ (lt_self _));
  }
