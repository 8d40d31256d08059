-- `table_refusal`: the scan of the rolls' numbers, from 0 on, is the definition's. Assumes nothing.
use Prim.Native.Nat.{ℕ, zero, suc, ◌+◌, ◌-◌}
use mathlib.Core.Path.{◌≡◌, refl, sym, ap, ◌∙◌}
use mathlib.Core.List.{List}
use mathlib.Core.Bool.{Bool, true, false, ◌||◌, or-false}
use native.Mathlib.Nat.{add-zero}
use native.Mathlib.Omega.{arith}
use borrow.Author.Tests.{le-ltb}
use lib.ListN.{length}
use Rattle.std.proofs.Common.{rules, tests}
use Rattle.std.specs.List.{list_any, range_with_len}
use Rattle.std.proofs.lemmas.Iterator.{YieldsList-from_range}
use Rattle.std.proofs.lemmas.Iterator.Search.{any_from_yields_List}
use Rattle.buffers.specs.Ranges.{any_below}
use Rattle.buffers.specs.Refusal.{first}
use Rattle.buffers.proofs.Ranges.{any_step}
use Rattle.roll_sweep.specs.Rolls.{bad_roll, table_refusal}
use Rattle.roll_sweep.proofs.rolls.table_refusal.Goals as goal
use Rattle.roll_sweep.proofs.rolls.table_refusal.Goals.{After-any}

or_assoc : (a b c : Bool) → (a || (b || c)) ≡ ((a || b) || c)
or_assoc true b c = refl
or_assoc false b c = refl

any_from : (p : ℕ → Bool) (n a : ℕ) → (any_below a p || list_any p (range_with_len a n)) ≡ any_below (a + n) p
any_from p zero a = or-false _ ∙ ap (λ (k : ℕ). any_below k p) (sym (add-zero a))
any_from p (suc n) a =
    let rest : List ℕ = range_with_len (a + 1) n in
    let e : a + 1 + n ≡ a + suc n = omega arith in
    or_assoc (any_below a p) (p a) (list_any p rest)
    ∙ ap (λ (b : Bool). b || list_any p rest) (sym (any_step a p))
    ∙ any_from p n (a + 1)
    ∙ ap (λ (k : ℕ). any_below k p) e

scanned : (c : After-any) → c.any.result ≡ any_below (length c.args.rolls.now) (bad_roll c.args.rolls.now)
unfolding any_below
scanned c =
    let rolls = c.args.rolls.now in
    let n : ℕ = length rolls in
    let counted : n - 0 ≡ n = omega arith in
    let whole : 0 + n ≡ n = omega arith in
    any_from_yields_List (bad_roll rolls) _ _ c.any.result c.any.ensures.ran (YieldsList-from_range 0 _ _ refl counted) (λ x b q k. search (rules, tests))
    ∙ any_from (bad_roll rolls) n 0
    ∙ ap (λ (k : ℕ). any_below k (bad_roll rolls)) whole

pub returns-then-any : goal.returns-then-any
unfolding table_refusal first
returns-then-any c = simp (← c.is_empty.ensures, c.if-is_empty.false, le-ltb _ _ c.if-rolls-gt-MOST_SAMPLES.false, ← scanned (goal.at.returns-then-any c).After-any, c.if-any.true)

pub returns : goal.returns
unfolding table_refusal first
returns c = simp (← c.is_empty.ensures, c.if-is_empty.false, le-ltb _ _ c.if-rolls-gt-MOST_SAMPLES.false, ← scanned (goal.at.returns c).After-any, c.if-any.false)
