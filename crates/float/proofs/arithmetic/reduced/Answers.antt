-- `float::arithmetic::reduced` meets its contract. Assumes nothing.
use Rattle.std.proofs.Common.{◌≡◌, ℕ, ◌+◌, ◌-◌, ◌*◌, ◌/◌, ◌%◌, ◌^◌, ◌<◌, ◌≤◌, ap, ◌∙◌, subst, arith}
use Rattle.float.proofs.Modulo.{brought_down, last_down}
use Rattle.float.proofs.arithmetic.reduced.Goals as goal

-- s is n - 1, and the turns are s / 11: before a turn eleven digits are left, and after it eleven fewer
eleven : (n s i : ℕ) → s ≡ n - 1 → i < s / 11 → (11 ≤ n - 11 * i) × (n - 11 * i - 11 ≡ n - 11 * (i + 1))
eleven n s i e h = (omega arith, omega arith)

-- after the turns at most eleven
last : (n s : ℕ) → s ≡ n - 1 → n - 11 * (s / 11) ≤ 11
last n s e = omega arith

turned : (t i : ℕ) → t ≤ i → i ≤ t → i ≡ t
turned t i h l = omega arith

pub loop-preserved : goal.loop-preserved
loop-preserved c = let l = c.loop in
    let m : ((l.r * 2 ^ 11) % 2 ^ 64) % c.args.m < c.args.m = omega (arith, c.requires.1) in
    let e = eleven c.args.n c.saturating_sub-turns.result l.counter c.saturating_sub-turns.ensures c.loop-test.true in (
      omega (arith, c.requires.2),
      subst (λ (k : ℕ). ((((l.r * 2 ^ 11) % 2 ^ 64) % c.args.m) * 2 ^ k) % c.args.m ≡ (c.args.d * 2 ^ c.args.n) % c.args.m) e.1
          (brought_down l.r (c.args.n - 11 * l.counter) c.args.m e.0 l.invariant.0 ∙ l.invariant.1),
    )

pub returns : goal.returns
returns c = let l = c.loop in
    let s = c.saturating_sub-turns.result in
    let k = c.args.n - 11 * (s / 11) in
    ap (λ (x : ℕ). x % c.args.m) (last_down l.r k (last c.args.n s c.saturating_sub-turns.ensures) l.invariant.0)
    ∙ subst (λ (i : ℕ). (l.r * 2 ^ (c.args.n - 11 * i)) % c.args.m ≡ (c.args.d * 2 ^ c.args.n) % c.args.m)
    (turned (s / 11) l.counter c.loop-test.false l.auto.counter-end) l.invariant.1
