-- `windows::runs::count_runs` meets its contract. Assumes nothing.
use Rattle.std.proofs.Common.{◌≡◌, ℕ, ◌≤◌, false, List, length, sym, ap, ◌∙◌, arith}
use Rattle.windows.specs.Runs.{samples_are}
use Rattle.windows.specs.Steps.{starts, runs_left}
use Rattle.windows.specs.declared.Listing.{Listing}
use Rattle.windows.specs.declared.Listing.TheVariants.{Violations}
use Rattle.windows.proofs.MaximalRuns.{violation_count, violation_bound}
use Rattle.windows.proofs.NextRun.{violations_left}
use Rattle.windows.proofs.runs.count_runs.Goals as goal

-- each violation run has one start
each_start : (l : Listing) (mask : List ℕ) (n : ℕ) → l ≡ Violations → n ≡ starts false (samples_are 1 mask) → (n ≡ length (runs_left l mask 0)) × (n ≤ length mask)
each_start l mask n e q =
    let r : length (runs_left l mask 0) ≡ starts false (samples_are 1 mask) = ap (λ (k : Listing). length (runs_left k mask 0)) e ∙ ap length (violations_left mask) ∙ violation_count mask in
    (q ∙ sym r, omega (arith, violation_count mask, violation_bound mask))

pub returns-then-mask-le-MOST_LENT : goal.returns-then-mask-le-MOST_LENT
returns-then-mask-le-MOST_LENT c = each_start c.args.listing c.args.mask.now _ c.in-Violations.is c.count_starts.ensures
