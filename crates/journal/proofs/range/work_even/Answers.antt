-- `journal::range::work_even` meets its contract. Assumes nothing.
use mathlib.Core.Bool.{true, false≢true}
use mathlib.Core.Path.{◌≡◌, refl, sym, ap, ◌∙◌}
use Prim.Native.Nat.{◌≤◌}
use native.Mathlib.Omega.{arith}
use lib.Ieee.{Float, binary64, of_bits}
use lib.ListN.{length, take, replicate, length-replicate}
use Rattle.std.specs.Prelude.{Result, Ok, Err}
use Rattle.std.specs.Result.{is_ok}
use Rattle.buffers.specs.Refusal.{found}
use Rattle.buffers.specs.declared.reasons.Refusal.{Refusal}
use Rattle.buffers.proofs.Refusals.{number_positive}
use Rattle.solar_roll.specs.Plan.{lent, most_samples, samples_refusal}
use Rattle.roll_sweep.specs.Rolls.{even_rolls}
use Rattle.roll_sweep.proofs.Even.{length_even, even_lent}
use Rattle.roll_sweep.proofs.ChunkFacts.{samples_within}
use Rattle.journal.proofs.Planned.{even_or_refused}
use Rattle.journal.proofs.range.work_even.Goals as goal
use Rattle.journal.proofs.range.work_even.Goals.{After-even_rolls, Joined-is_ok, then-is_ok, else-is_ok}

-- what is found where nothing is said, and the other way round
none_found : (r : Result Unit Refusal) → is_ok r ≡ true → found r ≡ 0
none_found (Ok done) e = refl
none_found (Err why) e = absurd cc

none_said : (r : Result Unit Refusal) → found r ≡ 0 → is_ok r ≡ true
none_said (Ok done) e = refl
none_said (Err why) e = absurd (omega (arith, e, number_positive why))

-- a table has room for the samples that it is to hold
most : (c : Joined-is_ok) → c.if-is_ok.end ≤ most_samples
most c = elim c.if-is_ok.branch [
  | then-is_ok w ↦ omega (arith, w.end-is, (samples_within _ (sym c.samples_refusal-said.ensures ∙ none_found _ (sym c.is_ok.ensures.value ∙ w.if-is_ok.true))).1)
  | else-is_ok w ↦ omega (arith, w.end-is)
]

-- they are all, where n is not refused
all : (c : Joined-is_ok) → found c.samples_refusal-said.result ≡ 0 → c.if-is_ok.end ≡ c.args.n
all c e = elim c.if-is_ok.branch [ then-is_ok w ↦ w.end-is | else-is_ok w ↦ absurd (false≢true (sym w.if-is_ok.false ∙ c.is_ok.ensures.value ∙ none_said _ e)) ]

-- the table's first places hold the even rolls
even : (c : After-even_rolls) → c.if-is_ok.end ≤ most_samples → let n = c.if-is_ok.end in take n c.even_rolls.new.table ≡ even_rolls n
even c few =
    let n = c.if-is_ok.end in
    ap (take n) c.even_rolls.ensures ∙ even_lent n (replicate most_samples (of_bits binary64 0)) (omega (arith, length-replicate {A = Float} most_samples (of_bits binary64 0), few))

length_rolls : (c : After-even_rolls) → c.if-is_ok.end ≤ most_samples → let n = c.if-is_ok.end in length (take n c.even_rolls.new.table) ≡ n
length_rolls c few = ap length (even c few) ∙ length_even _

pub overflow_cast-end : goal.overflow_cast-end
overflow_cast-end c = omega (arith, most (goal.at.overflow_cast-end c).Joined-is_ok)

pub slice_bounds-rolls-end : goal.slice_bounds-rolls-end
slice_bounds-rolls-end c = omega (arith, most (goal.at.slice_bounds-rolls-end c).Joined-is_ok)

pub slice_bounds-work_over-end : goal.slice_bounds-work_over-end
slice_bounds-work_over-end c = let at = goal.at.slice_bounds-work_over-end c in sym (length_rolls at.After-even_rolls (most at.Joined-is_ok))

pub work_over-requires : goal.work_over-requires
work_over-requires c e = let at = goal.at.work_over-requires c in
    ap samples_refusal (length_rolls at.After-even_rolls (most at.Joined-is_ok) ∙ all at.Joined-is_ok e) ∙ sym c.samples_refusal-said.ensures ∙ e

pub returns : goal.returns
returns c to e = let a = c.args in
    let at = goal.at.returns c in
    even_or_refused (lent a.plan.now) a.n _ _
    c.samples_refusal-said.ensures (λ z. even at.After-even_rolls (most at.Joined-is_ok) ∙ ap even_rolls (all at.Joined-is_ok z)) a.from to a.journal.now a.used a.stopped.now _ _ _ (c.work_over.ensures to e)
