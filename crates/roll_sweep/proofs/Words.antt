-- Laws of a number whose bit k says p k: its size, one bit, and how many bits are set. Assumes nothing.
use mathlib.Core.Path.{◌≡◌, refl, sym, ap, ap₂, ◌∙◌, subst}
use mathlib.Core.Bool.{Bool, true, false}
use Prim.Native.Nat.{ℕ, zero, suc, ◌+◌, ◌-◌, ◌*◌, ◌/◌, ◌%◌, ◌^◌, ◌<◌}
use native.Mathlib.Nat.{add_comm, add-zero, add-suc, mul_comm, mul_assoc, pow-suc, add-mul-mod_self_left, not-suc-le-zero}
use native.Mathlib.Numerals.{add-one}
use native.Mathlib.Omega.{arith}
use lib.Pow.{pow-add, high, field}
use lib.Count.{ones, ones_cat}
use lib.Arith.{lt_of_le-ne}
use lib.Dec.{eqb}
use borrow.Author.Tests.{eqb-true, eqb-false}
use Rattle.buffers.specs.Ranges.{flag, sum}
use Rattle.buffers.proofs.Ranges.{sum_ext}
use Rattle.roll_sweep.specs.Sweep.{word}

-- no bit, and one bit more
pub word_zero : (p : ℕ → Bool) → word 0 p ≡ 0
unfolding word
word_zero p = refl

pub word_next : (w : ℕ) (p : ℕ → Bool) → word (w + 1) p ≡ word w p + flag (p w) * 2 ^ w
unfolding word
word_next w p = ap (λ (n : ℕ). sum n (λ k. flag (p k) * 2 ^ k)) (add-one w)

-- k bits, then m more
pub word_add : (k m : ℕ) (p : ℕ → Bool) → word (k + m) p ≡ word k p + word m (λ j. p (k + j)) * 2 ^ k
unfolding word
word_add k zero p = ap (λ (n : ℕ). word n p) (add-zero k) ∙ omega arith
word_add k (suc m) p =
    let w : ℕ = word m (λ j. p (k + j)) in
    ap (λ (n : ℕ). word n p) (add-suc k m)
    ∙ ap₂ (λ (a b : ℕ). a + flag (p (k + m)) * b) (word_add k m p) (pow-add 2 k m)
    ∙ omega arith

pub word_ext : (w : ℕ) (p q : ℕ → Bool) → ((k : ℕ) → k < w → p k ≡ q k) → word w p ≡ word w q
unfolding word
word_ext w p q h = sum_ext w (λ k. flag (p k) * 2 ^ k) (λ k. flag (q k) * 2 ^ k) (λ k l. ap (λ (b : Bool). flag b * 2 ^ k) (h k l))

one_bit : (b : Bool) (r n : ℕ) → r < n → r + flag b * n < n * 2
one_bit true r n h = omega arith
one_bit false r n h = omega arith

pub word_lt : (w : ℕ) (p : ℕ → Bool) → word w p < 2 ^ w
unfolding word
word_lt zero p = omega arith
word_lt (suc w) p = subst (λ (n : ℕ). word w p + flag (p w) * 2 ^ w < n) (sym (pow-suc 2 w)) (one_bit (p w) (word w p) (2 ^ w) (word_lt w p))

flag_mod : (b : Bool) → flag b % 2 ≡ flag b
flag_mod true = refl
flag_mod false = refl

-- a block added at 2 ^ (k + 1 + j) leaves bit k alone
low_bit : (r a k j : ℕ) → (r + a * 2 ^ (suc k + j)) / 2 ^ k % 2 ≡ r / 2 ^ k % 2
low_bit r a k j =
    let one : 1 + k ≡ suc k = add_comm 1 k ∙ add-one k in
    let block : a * 2 ^ (suc k + j) ≡ 2 ^ suc k * (2 ^ j * a) = ap (λ (x : ℕ). a * x) (pow-add 2 (suc k) j) ∙ mul_comm a (2 ^ suc k * 2 ^ j) ∙ mul_assoc (2 ^ suc k) (2 ^ j) a in
    sym (field (r + a * 2 ^ (suc k + j)) 1 k)
    ∙ ap (λ (x : ℕ). x / 2 ^ k)
    (ap₂ (λ (x y : ℕ). (r + x) % 2 ^ y) block one ∙ add-mul-mod_self_left r (2 ^ suc k) (2 ^ j * a) ∙ ap (λ (x : ℕ). r % 2 ^ x) (sym one))
    ∙ field r 1 k

-- bit k
pub bit_at : (w : ℕ) (p : ℕ → Bool) (k : ℕ) → k < w → word w p / 2 ^ k % 2 ≡ flag (p k)
unfolding word
bit_at zero p k h = absurd (not-suc-le-zero h)
bit_at (suc w) p k h = go (eqb k w) refl (bit_at w p k)
  where
    go : (t : Bool) → eqb k w ≡ t → (k < w → word w p / 2 ^ k % 2 ≡ flag (p k)) → (word w p + flag (p w) * 2 ^ w) / 2 ^ k % 2 ≡ flag (p k)
    go true e ih =
        let q : k ≡ w = eqb-true k w e in
        ap (λ (x : ℕ). (word w p + flag (p w) * 2 ^ w) / 2 ^ x % 2) q
        ∙ ap (λ (x : ℕ). x / 2 ^ w % 2) (add_comm (word w p) (flag (p w) * 2 ^ w))
        ∙ ap (λ (x : ℕ). x % 2) (high (flag (p w)) w (word_lt w p))
        ∙ flag_mod (p w)
        ∙ ap (λ (x : ℕ). flag (p x)) (sym q)
    go false e ih =
        let l : k < w = lt_of_le-ne (omega arith) (eqb-false k w e) in
        let q : suc k + (w - suc k) ≡ w = omega arith in
        ap (λ (x : ℕ). (word w p + flag (p w) * 2 ^ x) / 2 ^ k % 2) (sym q)
        ∙ low_bit (word w p) (flag (p w)) k (w - suc k)
        ∙ ih l

ones_flag : (b : Bool) → ones (flag b) ≡ flag b
unfolding ones
ones_flag true = refl
ones_flag false = refl

-- how many bits are set
pub ones_word : (w : ℕ) (p : ℕ → Bool) → ones (word w p) ≡ sum w (λ k. flag (p k))
unfolding word
ones_word zero p = ones_flag false
ones_word (suc w) p =
    ap ones (add_comm (word w p) (flag (p w) * 2 ^ w))
    ∙ ones_cat w (flag (p w)) (word w p) (word_lt w p)
    ∙ ap₂ (λ (a b : ℕ). a + b) (ones_flag (p w)) (ones_word w p)
    ∙ add_comm (flag (p w)) (sum w (λ k. flag (p k)))
