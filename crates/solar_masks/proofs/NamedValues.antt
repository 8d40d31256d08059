-- The values that an accepted call for named values leaves lie from 0 up to but not at 360 (`values_in_turn`). Assumes nothing.
use mathlib.Core.Path.{◌≡◌, sym, ap, ◌∙◌, subst}
use mathlib.Core.List.{List}
use Prim.Native.Nat.{◌/◌, ◌%◌, ◌<◌, ◌≤◌}
use native.Mathlib.Nat.{mod-lt, div-lt_iff_lt-mul}
use lib.ListN.{length, get_or}
use lib.Ieee.{Float, nan}
use Rattle.buffers.proofs.Lent.{get_or_filled}
use Rattle.buffers.proofs.Refusals.{written_none}
use Rattle.buffers.proofs.Rows.{some_time}
use Rattle.solar_roll.specs.Roll.{InTurn}
use Rattle.solar_roll.specs.Plan.{Plan, times_of, cells_of}
use Rattle.solar_roll.proofs.Finite.{roll_range}
use Rattle.solar_masks.specs.Mask.{cell_value, ValuesInTurn, cells_refusal, values_after}
use Rattle.solar_masks.proofs.Calls.{cells_facts}

pub values_in_turn : (p : Plan) (values : List Float) → 3 ≤ length p.panels → cells_refusal p 0 (length values) ≡ 0 → ValuesInTurn p (values_after p values)
unfolding values_after cell_value
values_in_turn p values three h k l =
    let times : 0 < times_of p = some_time _ _ k l in
    let value = ap (λ (vs : List Float). get_or vs k nan) (written_none _ _ values h) ∙ get_or_filled (cell_value p) (cells_of p) values nan k l in
    subst InTurn (sym value) (roll_range p (cells_facts p 0 _ h) three (k / times_of p) (k % times_of p) ((div-lt_iff_lt-mul times).1 l) (mod-lt k times))
