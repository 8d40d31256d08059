-- `windows::records::list_records` meets its contract. Assumes nothing.
use Rattle.std.proofs.Common.{◌<◌, [], ◌∷◌, length, arith, rules}
use Rattle.std.proofs.lemmas.Result.{err_from_is_err_and}
use Rattle.buffers.specs.Lent.{over}
use Rattle.windows.proofs.WindowLists.{Accepted, accepted_listing, accepted_few, refused_listing, records_none, records_fit, records_ask, records_next, records_all}
use Rattle.windows.proofs.records.list_records.Goals as goal
use Rattle.windows.proofs.records.list_records.Goals.{In_ok-count}

ok : (c : In_ok-count) → Accepted c.args.listing c.args.row.now.mask.now c.args.row.now.times.now c.args.row.now.severities.now (length c.args.out.now ∷ []) c.in_ok-count.count
ok c = accepted_listing _ _ _ _ _ _ c.in_ok-count.ensures

pub returns-in_err-count : goal.returns-in_err-count
returns-in_err-count c =
    let p = err_from_is_err_and c.from_residual.result c.from_residual.ensures.1 in
    rw (p.1, p.2) (refused_listing _ _ _ _ _ (λ ws. over ws c.args.out.now) c.args.out.now _ c.in_err-count.ensures)

pub loop-k-init : goal.loop-k-init
loop-k-init c = records_none _ _ _ _ _

pub next_window-w-requires : goal.next_window-w-requires
next_window-w-requires c =
    let k = ok (goal.at.next_window-w-requires c).In_ok-count in
    records_ask _ _ _ _ _ _ _ _ _ (accepted_few _ _ _ _ _ _ k) (records_fit _ _ _ _ _ _ _ _ _ k c.loop-k.invariant) c.loop-k.invariant k.row c.loop-k-test.true

pub offset_bounds-out-k : goal.offset_bounds-out-k
offset_bounds-out-k c = let b : c.loop-k.k < length c.args.out.now = omega (arith, c.loop-k-test.true, records_fit _ _ _ _ _ _ _ _ _ (ok (goal.at.offset_bounds-out-k c).In_ok-count) c.loop-k.invariant) in search rules

pub bounds-out-k : goal.bounds-out-k
bounds-out-k c = omega (arith, c.loop-k-test.true, records_fit _ _ _ _ _ _ _ _ _ (ok (goal.at.bounds-out-k c).In_ok-count) c.loop-k.invariant)

pub loop-k-preserved : goal.loop-k-preserved
loop-k-preserved c =
    let k = ok (goal.at.loop-k-preserved c).In_ok-count in
    records_next _ _ _ _ _ _ _ _ _ (accepted_few _ _ _ _ _ _ k) (records_fit _ _ _ _ _ _ _ _ _ k c.loop-k.invariant) c.loop-k.invariant c.loop-k-test.true _ (c.next_window-w.ensures.0, c.next_window-w.ensures.1)

pub returns : goal.returns
returns c = records_all _ _ _ _ _ _ _ _ _ (ok (goal.at.returns c).In_ok-count) c.loop-k.invariant c.loop-k-test.false (omega arith)
