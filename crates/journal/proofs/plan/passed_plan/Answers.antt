-- `journal::plan::passed_plan` meets its contract. Assumes nothing.
use mathlib.Core.Path.{◌≡◌, sym, subst}
use Prim.Native.Nat.{◌*◌}
use mathlib.Core.List.{[]}
use native.Mathlib.Omega.{arith}
use Rattle.std.proofs.lemmas.Result.{err_from_is_err_and}
use Rattle.buffers.specs.Refusal.{found}
use Rattle.solar_roll.specs.Plan.{lent}
use Rattle.roll_sweep.specs.Sweep.{Sweep}
use Rattle.journal.specs.declared.plan.PassedPlan.{PassedPlan}
use Rattle.journal.specs.Pass.{Passed}
use Rattle.journal.specs.Plan.{sweep_of}
use Rattle.journal.proofs.Planned.{passed, passed_with}
use Rattle.journal.proofs.plan.passed_plan.Goals as goal

pub returns-in_err-refusal : goal.returns-in_err-refusal
unfolding sweep_of
returns-in_err-refusal c =
    let p = err_from_is_err_and c.from_residual.result c.from_residual.ensures.1 in
    rw (p.1, p.2) (record { refusal = λ rolls size. c.in_err-refusal.ensures; passed = λ rolls size q e. absurd cc })

pub overflow_mul-cells : goal.overflow_mul-cells
unfolding sweep_of
overflow_mul-cells c = let a = c.args in
    let few = (passed (lent a.plan.now) [] (found a.samples.said) a.room a.used (sym c.in_ok-refusal.ensures)).facts.few_cells in
    rw (c.rows.ensures, c.times.ensures) (omega (arith, few))

pub returns : goal.returns
unfolding sweep_of
returns c = let a = c.args in
    record {
      refusal = λ rolls size. c.in_ok-refusal.ensures;
      passed = λ rolls size q e.
          let s : Sweep = sweep_of (lent a.plan.now) rolls (found a.samples.said) in
          let p : PassedPlan = record { header = c.write_header.new.out; cells = c.rows.result * c.times.result; samples = a.samples.count } in
          let w : Passed s p a.room a.used = rw (c.rows.ensures, c.times.ensures) (passed_with (lent a.plan.now) rolls (found a.samples.said) a.samples.count size a.samples.says _ a.room a.used (sym c.in_ok-refusal.ensures) c.write_header.ensures) in
          let same : p ≡ q = cc in
          subst (λ (k : PassedPlan). Passed s k a.room a.used) same w;
    }
