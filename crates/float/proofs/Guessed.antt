-- A guess that is tried: q is what rounding makes of the root of m * 2 ^ 54 exactly where m * 2 ^ 52 lies between the squares half a unit below and above it.
-- The code compares by d = q - 1: m * 2 ^ 52 is d's square and t + d + 1. Assumes nothing.
use Rattle.std.proofs.Common.{Some, ◌≡◌, ℕ, zero, suc, ◌+◌, ◌-◌, ◌*◌, ◌/◌, ◌%◌, ◌^◌, ◌<◌, ◌≤◌, Bool, true, false, eqb, ◌⊎◌, sym, refl, ap, ◌∙◌, subst, inl, inr, le_trans, lt_of_lt_of_le, mul-le-mul, eq-or-lt_of_le, arith, eq-eqb, ne_eqb, eqb-true}
use Rattle.float.specs.RootSteps.{LargestRoot, rounded_of, Tried}
use Rattle.float.specs.declared.root.Floor.{Floor}
use Rattle.float.proofs.Isqrt.{sq_mono, sq_suc, sq_odd}
use Rattle.float.proofs.Steps.{no_tie}

-- ---- rounding

-- an odd number's square is odd
even_root : (m r h : ℕ) → h ≡ r % 2 → r * r ≡ m * 2 ^ 54 → h ≡ 0
even_root m r zero e w = refl
even_root m r (suc h) e w =
    let s : r ≡ 2 * (r / 2) + 1 = omega arith in
    let v : (2 * (r / 2) + 1) * (2 * (r / 2) + 1) ≡ m * 2 ^ 54 = subst (λ (x : ℕ). x * x ≡ m * 2 ^ 54) s w in
    absurd (omega (arith, sq_odd (r / 2)))

-- so an odd root is not exact, and there is no tie
rounds_up : (m : ℕ) (f : Floor) → f.exact ≡ eqb (f.root * f.root) (m * 2 ^ 54) → rounded_of f ≡ (f.root + 1) / 2
rounds_up m f e = no_tie f.root (f.root % 2) f.exact refl (λ (t : f.exact ≡ true). even_root m f.root (f.root % 2) refl (eqb-true (f.root * f.root) (m * 2 ^ 54) (sym e ∙ t)))

-- ---- found

-- the trial of q that finds r and b
abbrev pub Finds : ℕ → ℕ → ℕ → Bool → Type 0
Finds m q r b = Tried (m * 2 ^ 54) q (Some (record { root = r; exact = b }))

finds : (m q r : ℕ) (b : Bool) → r * r ≤ m * 2 ^ 54 → m * 2 ^ 54 < (r + 1) * (r + 1) → b ≡ eqb (r * r) (m * 2 ^ 54) → (r + 1) / 2 ≡ q → Finds m q r b
finds m q r b lo hi e h = ((lo, hi, e), rounds_up m (record { root = r; exact = b }) e ∙ h)

-- m * 2 ^ 52 is the square of q
pub found_exact : (m q d t : ℕ) → q ≡ d + 1 → m * 2 ^ 52 ≡ d * d + (t + q) → t ≡ d → Finds m q (q * 2) true
found_exact m q d t e u h =
    let s : q * q ≡ d * d + 2 * d + 1 = ap (λ (x : ℕ). x * x) e ∙ sq_suc d in
    let v : q * 2 * (q * 2) ≡ m * 2 ^ 54 = omega arith in
    finds m q (q * 2) true (omega arith) (omega (arith, sq_suc (q * 2))) (sym (eq-eqb (q * 2 * (q * 2)) (m * 2 ^ 54) v)) (omega arith)

-- it lies between the squares of half an r and of the next half
inexact : (m q r : ℕ) → r * r < m * 2 ^ 54 → m * 2 ^ 54 < (r + 1) * (r + 1) → (r + 1) / 2 ≡ q → Finds m q r false
inexact m q r lo hi h = finds m q r false (omega arith) hi (sym (ne_eqb (r * r) (m * 2 ^ 54) (omega arith))) h

-- so it does where it is not the square of q
pub found_between : (m q d t up : ℕ) → q ≡ d + 1 → m * 2 ^ 52 ≡ d * d + (t + q) → t ≤ q * 2 - 1 → (t ≡ d → ⊥) → ((t < d) × (up ≡ 0)) ⊎ ((d ≤ t) × (up ≡ 1)) → Finds m q (d * 2 + 1 + up) false
found_between m q d t up e u k n (inl w) = subst (λ (r : ℕ). Finds m q r false) (omega (arith, w.1)) (inexact m q (d * 2 + 1) (omega arith) (omega (arith, w.0)) (omega arith))
found_between m q d t up e u k n (inr w) = subst (λ (r : ℕ). Finds m q r false) (omega (arith, w.1)) (inexact m q (d * 2 + 2) (omega (arith, w.0)) (omega arith) (omega arith))

-- ---- the square of d by its upper and its lower digits

pub square : (d : ℕ) → (let a = d / 2 ^ 26 in let c = d % 2 ^ 26 in d * d ≡ a * a * 2 ^ 52 + a * c * 2 ^ 27 + c * c)
square d =
    let a = d / 2 ^ 26 in
    let c = d % 2 ^ 26 in
    let s : d ≡ a * 2 ^ 26 + c = omega arith in
    ap (λ (n : ℕ). n * n) s ∙ omega arith

-- the products of d's digits
pub digits : (d : ℕ) → d < 2 ^ 53 → (let a = d / 2 ^ 26 in let c = d % 2 ^ 26 in (a * a ≤ 2 ^ 54) × (a * c ≤ 2 ^ 53) × (c * c ≤ 2 ^ 52))
digits d h =
    let a = d / 2 ^ 26 in
    let c = d % 2 ^ 26 in (
      mul-le-mul {n₁ = a} {m₁ = a} {n₂ = 2 ^ 27} {m₂ = 2 ^ 27} (omega arith) (omega arith),
      mul-le-mul {n₁ = a} {m₁ = c} {n₂ = 2 ^ 27} {m₂ = 2 ^ 26} (omega arith) (omega arith),
      mul-le-mul {n₁ = c} {m₁ = c} {n₂ = 2 ^ 26} {m₂ = 2 ^ 26} (omega arith) (omega arith),
    )

-- m - a * a has at most 28 digits: where a is 2 ^ 27 - 1, since m has 54; else since a * c is small enough
pub over_small : (m a c s : ℕ) → m < 2 ^ 54 → a ≤ 2 ^ 27 - 1 → c ≤ 2 ^ 26 - 1 → s < 2 ^ 52 + 3 * 2 ^ 53 → m * 2 ^ 52 ≡ a * a * 2 ^ 52 + a * c * 2 ^ 27 + s → m < a * a + 2 ^ 28
over_small m a c s M A C S e = elim (eq-or-lt_of_le A) [
  | inl z ↦ let w : a * a ≡ (2 ^ 27 - 1) * (2 ^ 27 - 1) = ap (λ (x : ℕ). x * x) z in omega arith
  | inr l ↦ let w = mul-le-mul {n₁ = a} {m₁ = c} {n₂ = 2 ^ 27 - 2} {m₂ = 2 ^ 26 - 1} (omega arith) C in omega arith
]

-- ---- missed

-- where step 3 makes q of the root, what is left of m * 2 ^ 52 after d's square is at least q and at most 3 * q - 1
pub between : (m q d : ℕ) (f : Floor) → q ≡ d + 1 → LargestRoot (m * 2 ^ 54) f → rounded_of f ≡ q → (d * d + q ≤ m * 2 ^ 52) × (m * 2 ^ 52 ≤ d * d + (d * 2 + 1 + q))
between m q d f e R h =
    let r = f.root in
    let u : (r + 1) / 2 ≡ q = sym (rounds_up m f R.2) ∙ h in
    let lo : (2 * d + 1) * (2 * d + 1) ≤ r * r = sq_mono (omega arith) in
    let hi : (r + 1) * (r + 1) ≤ (2 * d + 3) * (2 * d + 3) = sq_mono (omega arith) in
    let s : (2 * d + 3) * (2 * d + 3) ≡ 4 * (d * d) + 12 * d + 9 = omega arith in
    let lower = le_trans lo R.0 in
    let upper = lt_of_lt_of_le R.1 hi in
    (omega (arith, sq_odd d, lower), omega (arith, s, upper))
