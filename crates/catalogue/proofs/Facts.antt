-- What is known of a call that is not refused. Assumes nothing.
use mathlib.Core.Path.{◌≡◌, refl}
use mathlib.Core.Bool.{false}
use mathlib.Core.List.{List}
use Prim.Native.Nat.{ℕ, ◌*◌, ◌≤◌}
use borrow.Author.Tests.{ltb-false, eqb-true, not-false}
use lib.ListN.{length}
use lib.Ieee.{Float}
use Rattle.buffers.specs.Ranges.{any}
use Rattle.buffers.proofs.Refusals.{first_clears}
use Rattle.buffers.proofs.Tests.{or_left, or_right}
use Rattle.catalogue.specs.Catalogue.{bad_ra, bad_dec, catalogue_refusal}

pub record CatalogueFacts (ras decs : List Float) (room : ℕ) : Type 0 where
  pub same : length ras ≡ length decs
  pub ras_in : any bad_ra ras ≡ false
  pub decs_in : any bad_dec decs ≡ false
  pub room_for : 3 * length ras ≤ room

pub catalogue_facts : (ras decs : List Float) (room : ℕ) → catalogue_refusal ras decs room ≡ 0 → CatalogueFacts ras decs room
unfolding catalogue_refusal
catalogue_facts ras decs room h =
    let c = first_clears _ refl h in
    record {
      same = eqb-true (length ras) (length decs) (not-false _ c.0);
      ras_in = or_left (any bad_ra ras) (any bad_dec decs) c.1.0;
      decs_in = or_right (any bad_ra ras) (any bad_dec decs) c.1.0;
      room_for = ltb-false _ _ c.1.1.0;
    }
