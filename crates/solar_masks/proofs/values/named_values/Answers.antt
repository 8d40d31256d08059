use Rattle.buffers.proofs.Refusals.{err_replied, err_unless, ok_replied, ok_unless, reply_accepted}
use Rattle.solar_masks.proofs.Calls.{cells_room}
use Rattle.solar_masks.proofs.Shared.{values_shared}
use Rattle.solar_masks.proofs.NamedValues.{values_in_turn}
use Rattle.solar_masks.specs.Mask.{ValuesInTurn, cells_reply, values_after}
use Rattle.solar_roll.specs.Plan.{Plan, lent}
use Prim.Native.Nat.{ℕ, ◌≤◌}
use borrow.Author.Rules.{rules}
use Rattle.std.specs.Prelude.{Err}
use mathlib.Core.Path.{◌≡◌, refl, sym, ◌∙◌, subst}
use mathlib.Core.List.{List}
use lib.ListN.{length}
use lib.Ieee.{Float}
use Rattle.buffers.specs.Refusal.{Reply, accepted, replied}
use Rattle.solar_masks.proofs.values.named_values.Goals as goal

-- the values' range follows from the first two promises
promised : (p : Plan) (said : Reply ℕ) (before after : List Float) → said ≡ cells_reply p 0 (length before) → after ≡ values_after p before
    → 3 ≤ length p.panels → said ≡ accepted 0 → ValuesInTurn p after
unfolding cells_reply
promised p said before after h e three a = subst (ValuesInTurn p) (sym e) (values_in_turn p before three (reply_accepted _ 0 0 (sym h ∙ a)).0)

pub returns-in_err-cells_refusal : goal.returns-in_err-cells_refusal
unfolding cells_reply values_after
returns-in_err-cells_refusal c = let e = c.in_err-cells_refusal.ensures in
    let is : c.from_residual.result ≡ Err c.in_err-cells_refusal.field-0.0 = search rules in
    let r : replied c.from_residual.result ≡ cells_reply (lent c.args.plan.now) 0 (length c.args.values.now) = rw is (err_replied _ _ _ e) in
    let w = err_unless _ _ _ _ e in
    record { result_value = r; values_after = w; in_turn = promised _ _ _ _ r w }

pub write_cells-requires : goal.write_cells-requires
write_cells-requires c = cells_room _ _ _ (sym c.in_ok-cells_refusal.ensures)

pub returns : goal.returns
unfolding cells_reply values_after
returns c = let p = lent c.args.plan.now in
    let e = c.in_ok-cells_refusal.ensures in
    let r = ok_replied _ _ _ e refl in
    let w = ok_unless _ _ _ _ e (c.write_cells.ensures ∙ values_shared p c.panel_at-panel_angle.result c.panel_at-panel_angle.ensures c.args.values.now) in
    record { result_value = r; values_after = w; in_turn = promised _ _ _ _ r w }
