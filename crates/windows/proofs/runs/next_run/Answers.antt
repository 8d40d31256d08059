-- `windows::runs::next_run` meets its contract. The invariant: no run is open at `at`, and the runs left there are those left at `from`. Assumes
-- nothing.
use Rattle.std.proofs.Common.{◌≡◌, ℕ, ◌+◌, ◌<◌, eqb, List, length, get_or, drop, sym, refl, ap, ◌∙◌, subst, arith, ne_eqb}
use Rattle.windows.specs.Steps.{leading, byte_of}
use Rattle.windows.specs.declared.Listing.{Listing}
use Rattle.windows.proofs.NextRun.{Stopped, stopped, left_clear, left_passed, next_some, next_none}
use Rattle.windows.proofs.runs.next_run.Goals as goal
use Rattle.windows.proofs.runs.next_run.Goals.{After-end_of_run-at}

-- the search for a run's end, by the listing's byte
stops : (l : Listing) (mask : List ℕ) (v i j : ℕ) → v ≡ byte_of l → i < length mask → get_or mask i 0 ≡ v → j ≡ i + 1 + leading (λ (b : ℕ). eqb b v) (drop (i + 1) mask) → Stopped (byte_of l) mask i j
stops l mask v i j q h g e = subst (λ (w : ℕ). Stopped w mask i j) q (stopped v mask i j h g e)

ended : (c : After-end_of_run-at) → Stopped (byte_of c.args.listing) c.args.mask.now c.loop-at.at c.end_of_run-at.result
ended c =
    stops c.args.listing c.args.mask.now _ _ _ c.byte_of-v.ensures c.loop-at-test.true c.if-mask-first.true c.end_of_run-at.ensures

pub loop-at-init : goal.loop-at-init
loop-at-init c = (omega arith, c.requires, refl)

pub end_of_run-at-requires : goal.end_of_run-at-requires
end_of_run-at-requires c = omega (arith, c.loop-at-test.true)

pub is_listed-requires : goal.is_listed-requires
is_listed-requires c = (ended (goal.at.is_listed-requires c).After-end_of_run-at).later

pub returns-then-is_listed : goal.returns-then-is_listed
returns-then-is_listed c = let l = c.loop-at in
    next_some _ _ _ _ _ l.invariant.0 (ended (goal.at.returns-then-is_listed c).After-end_of_run-at) l.invariant.2 (sym c.is_listed.ensures ∙ c.if-is_listed.true)

pub loop-at-smaller-else-is_listed : goal.loop-at-smaller-else-is_listed
loop-at-smaller-else-is_listed c = let e = ended (goal.at.loop-at-smaller-else-is_listed c).After-end_of_run-at in
    omega (arith, e.later, e.in_row)

pub loop-at-preserved-else-is_listed : goal.loop-at-preserved-else-is_listed
loop-at-preserved-else-is_listed c = let l = c.loop-at in
    let e = ended (goal.at.loop-at-preserved-else-is_listed c).After-end_of_run-at in
    (omega (arith, l.invariant.0, e.later), e.in_row, sym (left_passed _ _ _ _ e (sym c.is_listed.ensures ∙ c.if-is_listed.false)) ∙ l.invariant.2)

pub loop-at-smaller : goal.loop-at-smaller
loop-at-smaller c = omega (arith, c.loop-at-test.true)

pub loop-at-preserved : goal.loop-at-preserved
loop-at-preserved c = let l = c.loop-at in
    (omega (arith, l.invariant.0), omega (arith, c.loop-at-test.true), sym (left_clear c.args.listing c.args.mask.now l.at c.loop-at-test.true (ap (eqb (get_or c.args.mask.now l.at 0)) (sym c.byte_of-v.ensures) ∙ ne_eqb _ _ c.if-mask-first.false)) ∙ l.invariant.2)

pub returns : goal.returns
returns c = next_none _ _ _ _ c.loop-at-test.false c.loop-at.invariant.2
