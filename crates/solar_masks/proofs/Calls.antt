-- What a call knows once its refusal is 0: the plan's facts, and room enough; and how large the number of a refusal can be. Assumes nothing.
use mathlib.Core.Path.{◌≡◌, refl}
use mathlib.Core.List.{[], ◌∷◌}
use mathlib.Core.Bool.{Bool, true, false, cond, ◌||◌}
use Prim.Native.Nat.{ℕ, ◌≤◌, ◌<◌}
use native.Mathlib.Omega.{arith}
use lib.Dec.{leb, ltb, lit<}
use borrow.Author.Tests.{ltb-false, leb-true}
use Rattle.buffers.specs.Refusal.{first, carried}
use Rattle.buffers.proofs.Refusals.{first_clear, carried_clear, given_below}
use Rattle.buffers.proofs.Tests.{or_left, or_right}
use Rattle.solar_roll.specs.Plan.{Plan, rows_of, times_of, cells_of, most_samples, samples_or_none_refusal, plan_refusal, PlanFacts}
use Rattle.solar_masks.specs.Mask.{cells_short, cells_refusal}
use Rattle.solar_masks.specs.Row.{row_short, row_refusal}
use Rattle.solar_masks.specs.Field.{field_short, field_refusal}
use Rattle.solar_roll.proofs.PlanFacts.{plan_facts, nothing_said, plan_below}

-- 3 was not said
pub few_samples : (n : ℕ) → samples_or_none_refusal n ≡ 0 → n ≤ most_samples
unfolding samples_or_none_refusal
few_samples n h = go (leb n most_samples) refl h
  where
    go : (b : Bool) → leb n most_samples ≡ b → ◌≡◌ {A = ℕ} (cond b 0 3) 0 → n ≤ most_samples
    go true e z = leb-true n most_samples e
    go false e z = absurd (omega arith)

module _ (p : Plan) (said room : ℕ) (h : cells_refusal p said room ≡ 0) where
  pub cells_plan : plan_refusal p said false ≡ 0
  unfolding cells_refusal
  cells_plan = (carried_clear _ _ h).0

  pub cells_facts : PlanFacts p
  cells_facts = plan_facts p said false cells_plan

  pub cells_room : cells_of p ≤ room
  unfolding cells_refusal cells_short
  cells_room = ltb-false _ _ (first_clear _ _ _ (lit< tt) (carried_clear _ _ h).1).0

  pub cells_said : said ≡ 0
  cells_said = nothing_said p said false cells_plan

-- the number that such a call is refused by
pub cells_below : (p : Plan) (said room : ℕ) → said < 64 → cells_refusal p said room < 64
unfolding cells_refusal carried
cells_below p said room h = given_below 64 _ (lit< tt) (plan_below p said false h, (lit< tt, tt))

-- the field of regard's chain, written out
pub field_parts : (p : Plan) (said time room : ℕ)
    → field_refusal p said time room ≡ first (carried (plan_refusal p said false) ∷ (leb (times_of p) time, 9) ∷ (ltb room (rows_of p), 7) ∷ [])
unfolding field_refusal field_short
field_parts p said time room = refl

module _ (p : Plan) (said time room : ℕ) (h : field_refusal p said time room ≡ 0) where
  pub field_said : said ≡ 0
  unfolding field_refusal
  field_said = nothing_said p said false (carried_clear _ _ h).0

  pub field_room : rows_of p ≤ room
  unfolding field_refusal field_short
  field_room = ltb-false _ _ (first_clear _ _ _ (lit< tt) (first_clear _ _ _ (lit< tt) (carried_clear _ _ h).1).1).0

module _ (p : Plan) (r mask severities : ℕ) (h : row_refusal p r mask severities ≡ 0) where
  enough : (ltb mask (times_of p) || ltb severities (times_of p)) ≡ false
  unfolding row_refusal row_short
  enough = (first_clear _ _ _ (lit< tt) (first_clear _ _ _ (lit< tt) (carried_clear _ _ h).1).1).0

  pub row_room : (times_of p ≤ mask) × (times_of p ≤ severities)
  row_room =
      let a : Bool = ltb mask (times_of p) in
      let b : Bool = ltb severities (times_of p) in
      (ltb-false _ _ (or_left a b enough), ltb-false _ _ (or_right a b enough))
