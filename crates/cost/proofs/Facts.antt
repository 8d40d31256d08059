-- What is known of a size, and of the lists lent for a plan of it, that are not refused. Assumes nothing.
use mathlib.Core.Path.{◌≡◌}
use mathlib.Core.Bool.{Bool, false, ◌||◌}
use Prim.Native.Nat.{ℕ, ◌*◌, ◌≤◌}
use borrow.Author.Tests.{ltb-false}
use lib.Dec.{ltb, lit<}
use Rattle.buffers.proofs.Refusals.{first_clear, carried_clear}
use Rattle.buffers.proofs.Tests.{or_left, or_right}
use Rattle.solar_roll.specs.Plan.{most_samples, samples_refusal}
use Rattle.solar_roll.proofs.PlanFacts.{Few, few}
use Rattle.roll_sweep.proofs.ChunkFacts.{samples_within}
use Rattle.cost.specs.Cost.{size_refusal, plan_short}

pub record SizeFacts (targets times n : ℕ) (short : Bool) : Type 0 where
  pub few_of : Few targets times
  pub samples : samples_refusal n ≡ 0
  pub one : 1 ≤ n
  pub most : n ≤ most_samples
  pub room : short ≡ false

pub size_facts : (targets times n : ℕ) (short : Bool) → size_refusal targets times n short ≡ 0 → SizeFacts targets times n short
unfolding size_refusal
size_facts targets times n short h =
    let c1 = first_clear _ _ _ (lit< tt) h in
    let c2 = carried_clear _ _ c1.1 in
    let c3 = first_clear _ _ _ (lit< tt) c2.1 in
    let s = samples_within n c2.0 in
    record { few_of = few targets times c1.0; samples = c2.0; one = s.0; most = s.1; room = c3.0 }

-- each lent list has the places that are written
pub record Rooms (targets times directions suns observers tolerances panel : ℕ) : Type 0 where
  pub directions_room : 3 * targets ≤ directions
  pub suns_room : 3 * times ≤ suns
  pub observers_room : 3 * times ≤ observers
  pub tolerances_room : targets ≤ tolerances
  pub panel_room : 3 ≤ panel

pub rooms : (targets times directions suns observers tolerances panel : ℕ) → plan_short targets times directions suns observers tolerances panel ≡ false
    → Rooms targets times directions suns observers tolerances panel
unfolding plan_short
rooms targets times directions suns observers tolerances panel h =
    let a : Bool = ltb directions (3 * targets) in
    let b : Bool = ltb suns (3 * times) in
    let c : Bool = ltb observers (3 * times) in
    let d : Bool = ltb tolerances targets in
    let e : Bool = ltb panel 3 in
    let r1 : (b || (c || (d || e))) ≡ false = or_right a (b || (c || (d || e))) h in
    let r2 : (c || (d || e)) ≡ false = or_right b (c || (d || e)) r1 in
    let r3 : (d || e) ≡ false = or_right c (d || e) r2 in
    record {
      directions_room = ltb-false _ _ (or_left a (b || (c || (d || e))) h);
      suns_room = ltb-false _ _ (or_left b (c || (d || e)) r1);
      observers_room = ltb-false _ _ (or_left c (d || e) r2);
      tolerances_room = ltb-false _ _ (or_left d e r3);
      panel_room = ltb-false _ _ (or_right d e r3);
    }
