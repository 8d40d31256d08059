use mathlib.Core.Path.{◌≡◌, sym, ap, ◌∙◌}
use Prim.Native.Nat.{ℕ}
use lib.Dec.{lit<, lit≤}
use Rattle.buffers.specs.Refusal.{accepted}
use Rattle.buffers.proofs.Refusals.{reply_none}
use Rattle.solar_roll.specs.Plan.{Plan}
use Rattle.solar_masks.specs.Mask.{cells_reply}
use Rattle.solar_masks.proofs.Calls.{cells_below}
use Rattle.wilfnusk.specs.Answers.{int64}
use Rattle.wilfnusk.proofs.Accepted.{read_zero}
use Rattle.wilfnusk.proofs.masks.wilfnusk_named_values.Goals as goal

-- an answer that C reads as 0 is an accepted one
read_accepted : (p : Plan) (room r : ℕ) → r ≡ int64 (cells_reply p 0 room) → r ≡ 0 → cells_reply p 0 room ≡ accepted 0
unfolding cells_reply
read_accepted p room r h e = reply_none _ 0 (read_zero _ 0 (cells_below p 0 room (lit< tt)) (sym h ∙ e))

pub returns : goal.returns
returns c = let call = c.named_values.ensures in
    let roll = c.configured.ensures in
    let accepted-if = read_accepted _ _ _ (c.int64.ensures ∙ ap int64 call.result_value) in
    (simp (c.int64.ensures, call.result_value, roll), simp (call.values_after, roll), λ e. call.in_turn (lit≤ tt) (call.result_value ∙ accepted-if e))
