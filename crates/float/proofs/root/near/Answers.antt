-- `float::root::near` meets its contract. Each difference that a test lets through did not wrap; and where q is the rounded root, none wraps and each test lets it
-- through. Assumes nothing.
use Rattle.std.proofs.Common.{not-le_of_lt, Bool, true, false, leb, refl, ◌≡◌, ℕ, ◌+◌, ◌-◌, ◌*◌, ◌/◌, ◌%◌, ◌^◌, ◌<◌, ◌≤◌, ◌⊎◌, sym, subst, inl, inr, arith}
use mir.Val.{bool_byte}
use Rattle.std.proofs.lemmas.Bool.{leb-true, leb-false}
use Rattle.float.specs.RootSteps.{LargestRoot, rounded_of}
use Rattle.float.specs.declared.root.Floor.{Floor}
use Rattle.float.proofs.Guessed.{found_exact, found_between, square, digits, over_small, between}
use Rattle.float.proofs.root.near.Goals as goal

-- a difference that is small did not wrap
small_unwrapped : (s b a : ℕ) → (s + b) % 2 ^ 64 ≡ a → s < 2 ^ 63 → b < 2 ^ 63 → s + b ≡ a
small_unwrapped s b a e h l = omega arith

-- nor did one that is not below 0
whole_unwrapped : (s b a : ℕ) → (s + b) % 2 ^ 64 ≡ a → s < 2 ^ 64 → b ≤ a → a < 2 ^ 64 → s + b ≡ a
whole_unwrapped s b a e h l k = omega arith

-- what is left of m * 2 ^ 52 after d's square, where the tests let it through
left : (m q over part rest t : ℕ) → (let d = q - 1 in let a = d / 2 ^ 26 in let c = d % 2 ^ 26 in
    2 ^ 52 ≤ q → q < 2 ^ 53 → (over + a * a) % 2 ^ 64 ≡ m → over < 2 ^ 28 → (part + a * c) % 2 ^ 64 ≡ over * 2 ^ 25 → part < 2 ^ 30
    → (rest + c * c) % 2 ^ 64 ≡ part * 2 ^ 27 → (t + q) % 2 ^ 64 ≡ rest → t < 2 ^ 62 → m * 2 ^ 52 ≡ d * d + (t + q))
left m q over part rest t lo hi o over< p part< r w t< =
    let d = q - 1 in
    let a = d / 2 ^ 26 in
    let c = d % 2 ^ 26 in
    let g = digits d (omega arith) in
    let v : t + q ≡ rest = small_unwrapped t q rest w (omega arith) (omega arith) in
    let x = small_unwrapped over (a * a) m o (omega arith) (omega arith) in
    let y = small_unwrapped part (a * c) (over * 2 ^ 25) p (omega arith) (omega arith) in
    let z = small_unwrapped rest (c * c) (part * 2 ^ 27) r (omega arith) (omega arith) in
    omega (arith, square d)

-- where step 3 makes q of the root: m * 2 ^ 52 by d's digits and the rest, the rest's bounds, and that of what the first test looks at
abbrev Rounds : ℕ → ℕ → Type 0
Rounds m q = (let d = q - 1 in let a = d / 2 ^ 26 in let c = d % 2 ^ 26 in let r = m * 2 ^ 52 - d * d in
    (m * 2 ^ 52 ≡ a * a * 2 ^ 52 + a * c * 2 ^ 27 + c * c + r) × (q ≤ r) × (r ≤ d * 2 + 1 + q) × (m < a * a + 2 ^ 28))

rounds : (m q : ℕ) (f : Floor) → m < 2 ^ 54 → 2 ^ 52 ≤ q → q < 2 ^ 53 → LargestRoot (m * 2 ^ 54) f → rounded_of f ≡ q → Rounds m q
rounds m q f M lo hi R h =
    let d = q - 1 in
    let a = d / 2 ^ 26 in
    let c = d % 2 ^ 26 in
    let r = m * 2 ^ 52 - d * d in
    let b = between m q d f (omega arith) R h in
    let g = digits d (omega arith) in
    let e : m * 2 ^ 52 ≡ a * a * 2 ^ 52 + a * c * 2 ^ 27 + c * c + r = omega (arith, square d) in
    (e, omega arith, omega arith, over_small m a c (c * c + r) M (omega arith) (omega arith) (omega arith) (omega arith))

-- so each test lets it through
first_test : (m q over : ℕ) → (let a = (q - 1) / 2 ^ 26 in Rounds m q → m < 2 ^ 54 → (over + a * a) % 2 ^ 64 ≡ m → over < 2 ^ 64 → over < 2 ^ 28)
first_test m q over R M o over< =
    let a = (q - 1) / 2 ^ 26 in
    let x = whole_unwrapped over (a * a) m o over< (omega (arith, R.0)) (omega arith) in
    omega (arith, R.3)

second_test : (m q over part : ℕ) → (let d = q - 1 in let a = d / 2 ^ 26 in let c = d % 2 ^ 26 in
    Rounds m q → q < 2 ^ 53 → (over + a * a) % 2 ^ 64 ≡ m → over < 2 ^ 28 → (part + a * c) % 2 ^ 64 ≡ over * 2 ^ 25 → part < 2 ^ 64 → part < 2 ^ 30)
second_test m q over part R hi o over< p part< =
    let d = q - 1 in
    let a = d / 2 ^ 26 in
    let c = d % 2 ^ 26 in
    let g = digits d (omega arith) in
    let x = small_unwrapped over (a * a) m o (omega arith) (omega arith) in
    let y = whole_unwrapped part (a * c) (over * 2 ^ 25) p part< (omega (arith, R.0)) (omega arith) in
    omega (arith, R.0, R.2)

-- the difference of b + r and b is r
rest_is : (rest b a r : ℕ) → (rest + b) % 2 ^ 64 ≡ a → rest < 2 ^ 64 → a ≡ b + r → a < 2 ^ 64 → rest ≡ r
rest_is rest b a r e h k l = let z = whole_unwrapped rest b a e h (omega arith) l in omega arith

-- what is left over q
within : (t q rest d : ℕ) → (t + q) % 2 ^ 64 ≡ rest → t < 2 ^ 64 → (q ≤ rest) × (rest ≤ d * 2 + 1 + q) → rest < 2 ^ 64 → t ≤ d * 2 + 1
within t q rest d e h r k = let z = whole_unwrapped t q rest e h r.0 k in omega (arith, r.1)

third_test : (m q over part rest t : ℕ) → (let d = q - 1 in let a = d / 2 ^ 26 in let c = d % 2 ^ 26 in
    Rounds m q → q < 2 ^ 53 → (over + a * a) % 2 ^ 64 ≡ m → over < 2 ^ 28 → (part + a * c) % 2 ^ 64 ≡ over * 2 ^ 25 → part < 2 ^ 30
    → (rest + c * c) % 2 ^ 64 ≡ part * 2 ^ 27 → rest < 2 ^ 64 → (t + q) % 2 ^ 64 ≡ rest → t < 2 ^ 64 → t ≤ d * 2 + 1)
third_test m q over part rest t R hi o over< p part< w rest< v t< =
    let d = q - 1 in
    let a = d / 2 ^ 26 in
    let c = d % 2 ^ 26 in
    let r = m * 2 ^ 52 - d * d in
    let g = digits d (omega arith) in
    let x = small_unwrapped over (a * a) m o (omega arith) (omega arith) in
    let y = small_unwrapped part (a * c) (over * 2 ^ 25) p (omega arith) (omega arith) in
    let e : part * 2 ^ 27 ≡ c * c + r = omega (arith, R.0, x, y) in
    let z : rest ≡ r = rest_is rest (c * c) (part * 2 ^ 27) r w rest< e (omega arith) in
    within t q rest d v t< (subst (λ (k : ℕ). (q ≤ k) × (k ≤ d * 2 + 1 + q)) (sym z) (R.1, R.2)) rest<

-- ---- the code's differences

-- a - b, modulo 2 ^ 64
abbrev less : ℕ → ℕ → ℕ
less a b = (a + (2 ^ 64 - b)) % 2 ^ 64

wraps : (a b : ℕ) → a < 2 ^ 64 → b < 2 ^ 64 → (less a b + b) % 2 ^ 64 ≡ a
wraps a b h l = omega arith

fits : (a b : ℕ) → less a b < 2 ^ 64
fits a b = omega arith

-- those of the four lines
abbrev over_of : ℕ → ℕ → ℕ
over_of m q = less m ((q - 1) / 2 ^ 26 * ((q - 1) / 2 ^ 26))

abbrev part_of : ℕ → ℕ → ℕ
part_of m q = less (over_of m q * 2 ^ 25) ((q - 1) / 2 ^ 26 * ((q - 1) % 2 ^ 26))

abbrev rest_of : ℕ → ℕ → ℕ
rest_of m q = less (part_of m q * 2 ^ 27) ((q - 1) % 2 ^ 26 * ((q - 1) % 2 ^ 26))

abbrev t_of : ℕ → ℕ → ℕ
t_of m q = less (rest_of m q) q

-- the products fit
products : (q : ℕ) → q < 2 ^ 53 → (let d = q - 1 in let a = d / 2 ^ 26 in let c = d % 2 ^ 26 in (a * a < 2 ^ 64) × (a * c < 2 ^ 64) × (c * c < 2 ^ 64))
products q h = let p = digits (q - 1) (omega arith) in (omega arith, omega arith, omega arith)

-- what a test let through, shifted, fits
shifted_25 : (x : ℕ) → x < 2 ^ 28 → x * 2 ^ 25 < 2 ^ 64
shifted_25 x h = omega arith

shifted_27 : (x : ℕ) → x < 2 ^ 30 → x * 2 ^ 27 < 2 ^ 64
shifted_27 x h = omega arith

below_62 : (t q : ℕ) → t ≤ q * 2 - 1 → q < 2 ^ 53 → t < 2 ^ 62
below_62 t q h l = omega arith

too_far : (t q : ℕ) → 2 ^ 52 ≤ q → t ≤ (q - 1) * 2 + 1 → q * 2 - 1 < t → ⊥
too_far t q l h k = omega arith

module _ (m q : ℕ) (M : m < 2 ^ 54) (lo : 2 ^ 52 ≤ q) (hi : q < 2 ^ 53) where
  over_wraps : (over_of m q + (q - 1) / 2 ^ 26 * ((q - 1) / 2 ^ 26)) % 2 ^ 64 ≡ m
  over_wraps = wraps m _ (omega arith) (products q hi).0

  part_wraps : over_of m q < 2 ^ 28 → (part_of m q + (q - 1) / 2 ^ 26 * ((q - 1) % 2 ^ 26)) % 2 ^ 64 ≡ over_of m q * 2 ^ 25
  part_wraps h = wraps (over_of m q * 2 ^ 25) _ (shifted_25 _ h) (products q hi).1

  rest_wraps : part_of m q < 2 ^ 30 → (rest_of m q + (q - 1) % 2 ^ 26 * ((q - 1) % 2 ^ 26)) % 2 ^ 64 ≡ part_of m q * 2 ^ 27
  rest_wraps h = wraps (part_of m q * 2 ^ 27) _ (shifted_27 _ h) (products q hi).2

  t_wraps : (t_of m q + q) % 2 ^ 64 ≡ rest_of m q
  t_wraps = wraps (rest_of m q) q (fits _ _) (omega arith)

  -- what the three tests let through
  tests_passed : over_of m q < 2 ^ 28 → part_of m q < 2 ^ 30 → t_of m q ≤ q * 2 - 1 → m * 2 ^ 52 ≡ (q - 1) * (q - 1) + (t_of m q + q)
  tests_passed h l k = left m q (over_of m q) (part_of m q) (rest_of m q) (t_of m q) lo hi over_wraps h (part_wraps h) l (rest_wraps l) t_wraps (below_62 _ q k hi)

-- `up`, by its test
up_by_test : (d t up : ℕ) (b : Bool) → leb d t ≡ b → up ≡ bool_byte b → ((t < d) × (up ≡ 0)) ⊎ ((d ≤ t) × (up ≡ 1))
up_by_test d t up true e h = inr (leb-true d t e, h)
up_by_test d t up false e h = inl (leb-false d t e, h)

pub returns-then-t-d : goal.returns-then-t-d
returns-then-t-d c = let m = c.args.m in
    let q = c.args.q in
    let r = c.requires in
    found_exact m q (q - 1) (t_of m q) (omega (arith, r.1)) (tests_passed m q r.0 r.1 r.2 c.if-over-lt268435456.true c.if-part-lt1073741824.true c.if-t-q.true) c.if-t-d.true

pub returns-then-t-q : goal.returns-then-t-q
returns-then-t-q c = let m = c.args.m in
    let q = c.args.q in
    let r = c.requires in
    found_between m q (q - 1) (t_of m q) c.from-up.result (omega (arith, r.1)) (tests_passed m q r.0 r.1 r.2 c.if-over-lt268435456.true c.if-part-lt1073741824.true c.if-t-q.true)
    c.if-t-q.true c.if-t-d.false (up_by_test (q - 1) (t_of m q) c.from-up.result _ refl c.from-up.ensures)

pub returns-else-t-q : goal.returns-else-t-q
returns-else-t-q c f R h = let m = c.args.m in
    let q = c.args.q in
    let r = c.requires in
    let z =
    third_test m q (over_of m q) (part_of m q) (rest_of m q) (t_of m q) (rounds m q f r.0 r.1 r.2 R h) r.2 (over_wraps m q r.0 r.1 r.2) c.if-over-lt268435456.true
    (part_wraps m q r.0 r.1 r.2 c.if-over-lt268435456.true) c.if-part-lt1073741824.true (rest_wraps m q r.0 r.1 r.2 c.if-part-lt1073741824.true) (fits _ _) (t_wraps m q r.0 r.1 r.2) (fits _ _) in
    too_far (t_of m q) q r.1 z c.if-t-q.false

pub returns-else-part-lt1073741824 : goal.returns-else-part-lt1073741824
returns-else-part-lt1073741824 c f R h = let m = c.args.m in
    let q = c.args.q in
    let r = c.requires in
    not-le_of_lt
    (second_test m q (over_of m q) (part_of m q) (rounds m q f r.0 r.1 r.2 R h) r.2 (over_wraps m q r.0 r.1 r.2) c.if-over-lt268435456.true
    (part_wraps m q r.0 r.1 r.2 c.if-over-lt268435456.true) (fits _ _))
    c.if-part-lt1073741824.false

pub returns-else-over-lt268435456 : goal.returns-else-over-lt268435456
returns-else-over-lt268435456 c f R h = let m = c.args.m in
    let q = c.args.q in
    let r = c.requires in
    not-le_of_lt (first_test m q (over_of m q) (rounds m q f r.0 r.1 r.2 R h) r.0 (over_wraps m q r.0 r.1 r.2) (fits _ _)) c.if-over-lt268435456.false
