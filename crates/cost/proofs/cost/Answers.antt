-- `cost::cost` meets its contract. Assumes nothing.
use mathlib.Core.Path.{◌≡◌, refl, sym}
use Prim.Native.Nat.{◌+◌, ◌*◌, ◌/◌, ◌≤◌}
use native.Mathlib.Nat.{mul-le-mul, lt_of_le_of_lt}
use native.Mathlib.Omega.{arith}
use lib.Dec.{ltb, lit<}
use lib.ListN.{length}
use lib.Seq.{length-take-le}
use borrow.Author.Rules.{rules}
use borrow.Author.Tests.{ltb-false}
use Rattle.std.specs.Prelude.{Err}
use Rattle.buffers.specs.Lent.{over}
use Rattle.buffers.proofs.Refusals.{err_replied, ok_replied, err_unless, ok_unless}
use Rattle.roll_sweep.specs.Sweep.{chunks}
use Rattle.cost.specs.Cost.{journal_length, cost_refusal, cost_reply, cost_after}
use Rattle.cost.proofs.Facts.{SizeFacts, size_facts}
use Rattle.cost.proofs.cost.Goals as goal
use Rattle.cost.proofs.cost.Goals.{In_ok-size_refusal}

-- what is known once the size is not refused
known : (c : In_ok-size_refusal) → SizeFacts c.args.targets c.args.times c.args.n (ltb (length c.args.out.now) 3)
known c = size_facts _ _ _ _ (sym c.in_ok-size_refusal.ensures)

pub returns-in_err-size_refusal : goal.returns-in_err-size_refusal
unfolding cost_reply cost_after cost_refusal
returns-in_err-size_refusal c =
    let e : c.from_residual.result ≡ Err c.in_err-size_refusal.field-0.0 = search rules in
    let h = c.in_err-size_refusal.ensures in
    record {
      result_value = rw e (err_replied _ _ _ h);
      out_after = err_unless _ _ _ _ h;
    }

pub overflow_mul-cells : goal.overflow_mul-cells
overflow_mul-cells c = record { fits = lt_of_le_of_lt (known (goal.at.overflow_mul-cells c).In_ok-size_refusal).few_of.few_cells (lit< tt) }

pub overflow_mul-length : goal.overflow_mul-length
overflow_mul-length c = record { fits = omega (arith, (known (goal.at.overflow_mul-length c).In_ok-size_refusal).few_of.few_cells) }

pub overflow_add-length : goal.overflow_add-length
overflow_add-length c = record { fits = omega (arith, (known (goal.at.overflow_add-length c).In_ok-size_refusal).few_of.few_cells) }

pub slice_bounds-copy_from_slice-end : goal.slice_bounds-copy_from_slice-end
slice_bounds-copy_from_slice-end c = ltb-false _ _ (known (goal.at.slice_bounds-copy_from_slice-end c).In_ok-size_refusal).room

pub slice_bounds-copy_from_slice-end-2 : goal.slice_bounds-copy_from_slice-end-2
slice_bounds-copy_from_slice-end-2 c =
    let h : 3 ≤ length c.args.out.now = ltb-false _ _ (known (goal.at.slice_bounds-copy_from_slice-end-2 c).In_ok-size_refusal).room in
    sym (length-take-le 3 c.args.out.now h)

pub overflow_mul-n : goal.overflow_mul-n
overflow_mul-n c =
    let f = known (goal.at.overflow_mul-n c).In_ok-size_refusal in
    record { fits = lt_of_le_of_lt (mul-le-mul f.most f.few_of.few_cells) (lit< tt) }

pub copy_from_slice-requires : goal.copy_from_slice-requires
copy_from_slice-requires c =
    let h : 3 ≤ length c.args.out.now = ltb-false _ _ (known (goal.at.copy_from_slice-requires c).In_ok-size_refusal).room in
    length-take-le 3 c.args.out.now h

pub returns : goal.returns
unfolding cost_reply cost_after cost_refusal journal_length chunks over
returns c =
    let h = c.in_ok-size_refusal.ensures in
    let rounded : c.div_ceil-chunks.result ≡ (c.args.targets * c.args.times + 63) / 64 = omega arith in
    record {
      result_value = ok_replied _ _ _ h refl;
      out_after = ok_unless _ _ _ _ h (rw (c.copy_from_slice.ensures.after, rounded));
    }
