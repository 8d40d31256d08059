-- `mask_by`: bytes that are cleared are those of a rule that marks nothing; of another, the rows share their panel. Assumes nothing.
use mathlib.Core.Path.{◌≡◌, sym, ap, ap₂, ◌∙◌}
use mathlib.Core.List.{List, ◌++◌}
use Prim.Native.Nat.{ℕ, ◌*◌, ◌<◌, ◌≤◌}
use native.Mathlib.Nat.{lt_of_le_of_lt}
use native.Mathlib.Omega.{arith}
use lib.Dec.{lit<}
use lib.ListN.{length, drop, replicate, length-replicate, get_or-replicate}
use lib.Seq.{ext_get_or, length-take-le}
use Rattle.buffers.specs.Ranges.{tab}
use Rattle.buffers.specs.Lent.{filled}
use Rattle.buffers.proofs.Ranges.{length_tab, get_or_tab}
use Rattle.buffers.proofs.Lent.{filled_ext}
use Rattle.buffers.proofs.Refusals.{err_unless, ok_unless}
use Rattle.solar_roll.specs.Plan.{Plan, lent, cells_of}
use Rattle.solar_masks.proofs.Calls.{cells_facts, cells_room}
use Rattle.solar_masks.proofs.Shared.{marks_shared}
use Rattle.solar_masks.specs.Mask.{marked_by, mark_at, cell_mark, mask_after}
use Rattle.solar_masks.specs.declared.mask.MarkRule.{MarkRule}
use Rattle.solar_masks.specs.declared.mask.MarkRule.TheVariants.{Nothing}
use Rattle.solar_masks.proofs.mask.mask_by.Goals as goal

replicated : (n a : ℕ) (old : List ℕ) → replicate n a ++ drop n old ≡ filled n (λ k. a) old
unfolding filled
replicated n a old =
    let w : length (replicate n a) ≡ n = length-replicate n a in
    ap (λ (t : List ℕ). t ++ drop n old)
    (ext_get_or a (replicate n a) (tab n (λ k. a)) (w ∙ sym (length_tab n (λ k. a)))
    (λ k l. let h : k < n = omega (arith, w) in get_or-replicate n k a a h ∙ sym (get_or_tab n (λ k. a) a k h)))

none_marked : (p : Plan) (rule : MarkRule) (n : ℕ) (old : List ℕ) → rule ≡ Nothing → filled n (λ k. 0) old ≡ filled n (cell_mark p rule) old
unfolding cell_mark mark_at marked_by
none_marked p rule n old e = filled_ext _ _ n old (λ k l. simp e)

pub returns-in_err-cells_refusal-clause-mask_after : goal.returns-in_err-cells_refusal-clause-mask_after
unfolding mask_after
returns-in_err-cells_refusal-clause-mask_after c = err_unless _ _ _ _ c.in_err-cells_refusal.ensures

pub overflow_mul-rows : goal.overflow_mul-rows
overflow_mul-rows c = let f = cells_facts _ _ _ (sym c.in_ok-cells_refusal.ensures) in
    simp (c.rows.ensures, c.times.ensures) (record { fits = lt_of_le_of_lt f.few_cells (lit< tt) })

pub slice_bounds-fill-end : goal.slice_bounds-fill-end
slice_bounds-fill-end c = simp (c.rows.ensures, c.times.ensures) (cells_room _ _ _ (sym c.in_ok-cells_refusal.ensures))

pub slice_bounds-fill-end-in-Nothing : goal.slice_bounds-fill-end-in-Nothing
slice_bounds-fill-end-in-Nothing c =
    let n = c.rows.result * c.times.result in
    let room : n ≤ length c.args.mask.now = simp (c.rows.ensures, c.times.ensures) (cells_room _ _ _ (sym c.in_ok-cells_refusal.ensures)) in
    sym (length-take-le n c.args.mask.now room)

pub returns-in-Nothing-clause-mask_after : goal.returns-in-Nothing-clause-mask_after
unfolding mask_after
returns-in-Nothing-clause-mask_after c =
    let p = lent c.args.plan.now in
    let old = c.args.mask.now in
    let n = c.rows.result * c.times.result in
    let e : n ≡ cells_of p = ap₂ (λ (r t : ℕ). r * t) c.rows.ensures c.times.ensures in
    let room : n ≤ length old = rw e (cells_room _ _ _ (sym c.in_ok-cells_refusal.ensures)) in
    let zeros : c.fill.new.self ≡ replicate n 0 = c.fill.ensures.after (λ y e. e) ∙ ap (λ (k : ℕ). replicate k 0) (length-take-le n old room) in
    let cleared = ap (λ (t : List ℕ). t ++ drop n old) zeros ∙ replicated n 0 old ∙ ap (λ (k : ℕ). filled k (λ i. 0) old) e in
    ok_unless _ _ _ _ c.in_ok-cells_refusal.ensures (cleared ∙ none_marked p c.args.rule (cells_of p) old c.in-Nothing.is)

pub write_cells-requires : goal.write_cells-requires
write_cells-requires c = cells_room _ _ _ (sym c.in_ok-cells_refusal.ensures)

pub returns-clause-mask_after : goal.returns-clause-mask_after
unfolding mask_after
returns-clause-mask_after c =
    ok_unless _ _ _ _ c.in_ok-cells_refusal.ensures (c.write_cells.ensures ∙ marks_shared (lent c.args.plan.now) c.panel_at-panel.result c.panel_at-panel.ensures c.args.rule c.args.mask.now)
