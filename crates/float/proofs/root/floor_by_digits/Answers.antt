-- `float::root::floor_by_digits` meets its contract. After i turns `root` is the floor of the root of the first 2 * i bits of m * 2 ^ 54, which has 108, `rest` is
-- what its square leaves of them, and `bits` has the next 64. Assumes nothing.
use Rattle.std.proofs.Common.{◌≡◌, ℕ, ◌+◌, ◌-◌, ◌*◌, ◌/◌, ◌%◌, ◌^◌, ◌<◌, ◌≤◌, sym, ap, ◌∙◌, subst₂, lt_of_lt_of_le, mul_assoc, pow-suc, add-one, arith, pow_mono}
use native.Mathlib.Nat.{mul-mul-mul_comm}
use Rattle.float.proofs.Isqrt.{sq_suc}
use Rattle.float.proofs.root.floor_by_digits.Goals as goal
use Rattle.float.proofs.root.floor_by_digits.Invariants.{Digits}
use Rattle.float.proofs.root.floor_by_digits.Goals.{then-trial-rest, else-trial-rest, In-loop}

small : (m bits root rest i : ℕ) → Digits m bits root rest i → i < 54 → root < 2 ^ 53
small m bits root rest i d h = lt_of_lt_of_le d.3 (pow_mono {i = i} {j = 53} (omega arith))

next : (m i : ℕ) → m * 2 ^ 10 * 4 ^ (i + 1) ≡ m * 2 ^ 10 * 4 ^ i * 4
next m i = ap (λ (x : ℕ). m * 2 ^ 10 * x) (ap (λ (x : ℕ). 4 ^ x) (add-one i) ∙ pow-suc 4 i) ∙ sym (mul_assoc (m * 2 ^ 10) (4 ^ i) 4)

double : (i : ℕ) → 2 ^ (i + 1) ≡ 2 ^ i * 2
double i = ap (λ (x : ℕ). 2 ^ x) (add-one i) ∙ pow-suc 2 i

sq2 : (r : ℕ) → r * 2 * (r * 2) ≡ r * r * 4
sq2 r = mul-mul-mul_comm r 2 r 2

up : (m bits root rest i : ℕ) → Digits m bits root rest i → i < 54 → root * 4 + 1 ≤ rest * 4 + bits / 2 ^ 62
    → Digits m ((bits * 2 ^ 2) % 2 ^ 64) (root * 2 + 1) (rest * 4 + bits / 2 ^ 62 - (root * 4 + 1)) (i + 1)
up m bits root rest i d h t = (omega arith, omega (arith, next m i, sq_suc (root * 2), sq2 root), omega arith, omega (arith, double i), omega arith)

down : (m bits root rest i : ℕ) → Digits m bits root rest i → i < 54 → rest * 4 + bits / 2 ^ 62 < root * 4 + 1
    → Digits m ((bits * 2 ^ 2) % 2 ^ 64) (root * 2) (rest * 4 + bits / 2 ^ 62) (i + 1)
down m bits root rest i d h t = (omega arith, omega (arith, next m i, sq2 root), omega arith, omega (arith, double i), omega arith)

move : (m bits i : ℕ) {r r' s s' : ℕ} → r ≡ r' → s ≡ s' → Digits m bits r' s' i → Digits m bits r s i
move m bits i p q d = subst₂ (λ (x y : ℕ). Digits m bits x y i) (sym p) (sym q) d

-- what a turn starts with
root_small : (c : In-loop) → (let l = c.loop in (l.root < 2 ^ 53) × (l.rest ≤ 2 * l.root) × (l.bits < 2 ^ 64))
root_small c = let l = c.loop in (small c.args.m l.bits l.root l.rest l.counter l.invariant c.loop-test.true, l.invariant.2, l.invariant.4)

pub overflow_mul-rest : goal.overflow_mul-rest
overflow_mul-rest c = let b = root_small (goal.at.overflow_mul-rest c).In-loop in omega (arith, b.1, b.2)

pub overflow_add-rest : goal.overflow_add-rest
overflow_add-rest c = let b = root_small (goal.at.overflow_add-rest c).In-loop in omega (arith, b.1, b.2)

pub overflow_mul-trial : goal.overflow_mul-trial
overflow_mul-trial c = let b = root_small (goal.at.overflow_mul-trial c).In-loop in omega (arith, b.1, b.2)

pub overflow_add-trial : goal.overflow_add-trial
overflow_add-trial c = let b = root_small (goal.at.overflow_add-trial c).In-loop in omega (arith, b.1, b.2)

pub loop-preserved : goal.loop-preserved
loop-preserved c = let m = c.args.m in
    let l = c.loop in
    elim c.if-trial-rest.branch [
      | then-trial-rest w ↦ move _ _ _ w.root-is w.rest-is (up m l.bits l.root l.rest l.counter l.invariant c.loop-test.true (omega (arith, w.if-trial-rest.true)))
      | else-trial-rest w ↦ move _ _ _ w.root-is w.rest-is (down m l.bits l.root l.rest l.counter l.invariant c.loop-test.true w.if-trial-rest.false)
    ]
