-- `windows::listings::window_at` meets its contract. Assumes nothing.
use Rattle.std.proofs.Common.{◌≡◌, ℕ, ◌+◌, eqb, List, length, get_or, ℤ, pos, ◌∙◌, rules, w64}
use lib.Ieee.{Float}
use mir.Val.{SFits}
use mir.ValLaws.{to_z-of_z}
use Rattle.buffers.specs.Ranges.{flag}
use Rattle.windows.specs.Runs.{Run, run}
use Rattle.windows.specs.declared.Window.{Window}
use Rattle.windows.specs.Windows.{window_of}
use Rattle.windows.proofs.Refusals.{byte_flag}
use Rattle.windows.proofs.listings.window_at.Goals as goal

-- field by field
same : (times : List ℤ) (severity : Float) (f l : ℕ) (t u : ℤ) (b : ℕ) → t ≡ get_or times f (pos 0) → u ≡ get_or times l (pos 0) → b ≡ flag (eqb (l + 1) (length times))
    → ◌≡◌ {A = Window} (record { first = f; last = l; first_time = t; last_time = u; severity = severity; is_last = b }) (window_of times (λ (_ : Run). severity) (run f l))
unfolding window_of
same times severity f l t u b p q r = λ i. record { first = f; last = l; first_time = p i; last_time = q i; severity = severity; is_last = r i }

pub returns : goal.returns
returns c = let f : SFits w64 (get_or c.args.times.now c.args.first (pos 0)) = search rules in
    let l : SFits w64 (get_or c.args.times.now c.args.last (pos 0)) = search rules in
    same c.args.times.now c.args.severity c.args.first c.args.last _ _ _ (to_z-of_z w64 _ f) (to_z-of_z w64 _ l) (c.from.ensures ∙ byte_flag _)
