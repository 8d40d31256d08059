-- `windows::listings::store` meets its contract. Assumes nothing.
use Rattle.std.proofs.Common.{◌≡◌, ℕ, set, ℤ, rules, w64}
use mir.Val.{SFits}
use mir.ValLaws.{to_z-of_z}
use Rattle.windows.specs.Windows.{Columns}
use Rattle.windows.specs.declared.Window.{Window}
use Rattle.windows.specs.Steps.{stored}
use Rattle.windows.proofs.listings.store.Goals as goal

-- field by field
same : (k : ℕ) (w : Window) (d : Columns) (t u : ℤ) → t ≡ w.first_time → u ≡ w.last_time
    → ◌≡◌ {A = Columns} (record { first = set d.first k w.first; last = set d.last k w.last; first_time = set d.first_time k t; last_time = set d.last_time k u; severity = set d.severity k w.severity; is_last = set d.is_last k w.is_last })
    (stored k w d)
unfolding stored
same k w d t u p q = λ i. record { first = set d.first k w.first; last = set d.last k w.last; first_time = set d.first_time k (p i); last_time = set d.last_time k (q i); severity = set d.severity k w.severity; is_last = set d.is_last k w.is_last }

pub returns : goal.returns
returns c = let f : SFits w64 c.args.w.first_time = search rules in
    let l : SFits w64 c.args.w.last_time = search rules in
    same c.args.k c.args.w _ _ _ (to_z-of_z w64 _ f) (to_z-of_z w64 _ l)
