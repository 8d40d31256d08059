-- What is written in lowercase hexadecimal is read back: a digit, a text of w digits, and, for loops, one digit more. Assumes nothing.
use mathlib.Core.Path.{◌≡◌, refl, sym, ap, ap₂, ◌∙◌, subst}
use mathlib.Core.Bool.{Bool, true, false, ◌&&◌, cond}
use mathlib.Core.List.{List, [], ◌∷◌, ◌++◌, append_assoc}
use Prim.Native.Nat.{ℕ, zero, suc, ◌+◌, ◌*◌, ◌/◌, ◌%◌, ◌^◌, ◌≤◌, ◌<◌}
use native.Mathlib.Nat.{add-suc, add_assoc, add-zero, zero-add, pow-suc, div-lt_iff_lt-mul, lt_of_lt_of_le, pow-le-pow_right}
use native.Mathlib.Numerals.{add-one}
use native.Mathlib.Omega.{arith}
use lib.ListN.{length, get_or, take, drop, length-append, length-drop}
use lib.Seq.{get_or-append-add, get_or_at, get_or-take, get_or-drop, length-take-le}
use lib.Dec.{ltb}
use borrow.Author.Tests.{lt-ltb, le-ltb, le-leb, lt-leb, ltb-true, ltb-false}
use Rattle.buffers.proofs.Tests.{and_left, and_right, and_both}
use Rattle.buffers.proofs.Ranges.{all_ext}
use Rattle.journal.specs.Hex.{hex_digit, digit_value, is_digit, hex_text, are_digits, hex_value}

-- ---- a digit

digit_small : (d : ℕ) → d < 10 → (digit_value (hex_digit d) ≡ d) × (is_digit (hex_digit d) ≡ true)
digit_small d h = (
  rw (lt-ltb d 10 h, lt-ltb (48 + d) 58 (omega arith)) (omega arith),
  rw (lt-ltb d 10 h, le-leb 48 (48 + d) (omega arith), le-leb (48 + d) 57 (omega arith)),
)

digit_big : (d : ℕ) → 10 ≤ d → d < 16 → (digit_value (hex_digit d) ≡ d) × (is_digit (hex_digit d) ≡ true)
digit_big d h l = (
  rw (le-ltb d 10 h, le-ltb (87 + d) 58 (omega arith)) (omega arith),
  rw (le-ltb d 10 h, le-leb 48 (87 + d) (omega arith), lt-leb (87 + d) 57 (omega arith), le-leb 97 (87 + d) (omega arith), le-leb (87 + d) 102 (omega arith)),
)

digit : (d : ℕ) → d < 16 → (digit_value (hex_digit d) ≡ d) × (is_digit (hex_digit d) ≡ true)
digit d l = go (ltb d 10) refl
  where
    go : (t : Bool) → ltb d 10 ≡ t → (digit_value (hex_digit d) ≡ d) × (is_digit (hex_digit d) ≡ true)
    go true e = digit_small d (ltb-true d 10 e)
    go false e = digit_big d (ltb-false d 10 e) l

-- ---- a text of w digits

pub length_hex : (w x : ℕ) → length (hex_text w x) ≡ w
unfolding hex_text
length_hex zero x = refl
length_hex (suc w) x = simp length-append (omega (arith, length_hex w (x / 16)))

-- the text of w + 1 digits, cut before the last
cut_last : (w x : ℕ) (p q : List ℕ) → p ++ (hex_text (suc w) x ++ q) ≡ p ++ (hex_text w (x / 16) ++ (hex_digit (x % 16) ∷ q))
unfolding hex_text
cut_last w x p q = ap (λ (r : List ℕ). p ++ r) (append_assoc (hex_text w (x / 16)) (hex_digit (x % 16) ∷ []) q)

last_digit : (w x : ℕ) (p q : List ℕ) → get_or (p ++ (hex_text (suc w) x ++ q)) (length p + w) 0 ≡ hex_digit (x % 16)
last_digit w x p q =
    ap (λ (b : List ℕ). get_or b (length p + w) 0) (cut_last w x p q)
    ∙ get_or-append-add p (hex_text w (x / 16) ++ (hex_digit (x % 16) ∷ q)) w 0
    ∙ get_or_at (hex_text w (x / 16)) (hex_digit (x % 16)) q 0 w (length_hex w (x / 16))

pub value_hex : (w x : ℕ) (p q : List ℕ) → x < 16 ^ w → hex_value (p ++ (hex_text w x ++ q)) (length p) w ≡ x
unfolding hex_value
value_hex zero x p q h = omega arith
value_hex (suc w) x p q h =
    ap₂ (λ (a d : ℕ). a * 16 + digit_value d)
    (ap (λ (b : List ℕ). hex_value b (length p) w) (cut_last w x p q)
    ∙ value_hex w (x / 16) p (hex_digit (x % 16) ∷ q) ((div-lt_iff_lt-mul (omega arith)).1 (subst (λ (k : ℕ). x < k) (pow-suc 16 w) h)))
    (last_digit w x p q)
    ∙ ap (λ (d : ℕ). x / 16 * 16 + d) (digit (x % 16) (omega arith)).0
    ∙ omega arith

pub digits_hex : (w x : ℕ) (p q : List ℕ) → are_digits (p ++ (hex_text w x ++ q)) (length p) w ≡ true
unfolding are_digits
digits_hex zero x p q = refl
digits_hex (suc w) x p q =
    ap₂ (λ (a : Bool) (d : ℕ). a && is_digit d)
    (ap (λ (b : List ℕ). are_digits b (length p) w) (cut_last w x p q) ∙ digits_hex w (x / 16) p (hex_digit (x % 16) ∷ q))
    (last_digit w x p q)
    ∙ (digit (x % 16) (omega arith)).1

-- digits, and digits after them
pub digits_add : (b : List ℕ) (i w v : ℕ) → are_digits b i w ≡ true → are_digits b (i + w) v ≡ true → are_digits b i (w + v) ≡ true
unfolding are_digits
digits_add b i w zero h k = ap (are_digits b i) (add-zero w) ∙ h
digits_add b i w (suc v) h k =
    ap (are_digits b i) (add-suc w v)
    ∙ and_both (are_digits b i (w + v)) (is_digit (get_or b (i + (w + v)) 0))
    (digits_add b i w v h (and_left (are_digits b (i + w) v) (is_digit (get_or b (i + w + v) 0)) k))
    (ap (λ (n : ℕ). is_digit (get_or b n 0)) (sym (add_assoc i w v)) ∙ and_right (are_digits b (i + w) v) (is_digit (get_or b (i + w + v) 0)) k)

-- ---- for the loops: one more digit, and what fits 64 bits

pub digit_lt : (x : ℕ) → digit_value x < 16
digit_lt x = go (ltb x 58)
  where
    go : (t : Bool) → cond t (x % 16) ((x + 9) % 16) < 16
    go true = omega arith
    go false = omega arith

pub value_lt : (b : List ℕ) (i w : ℕ) → hex_value b i w < 16 ^ w
unfolding hex_value
value_lt b i zero = omega arith
value_lt b i (suc w) = subst (λ (n : ℕ). hex_value b i w * 16 + digit_value (get_or b (i + w) 0) < n) (sym (pow-suc 16 w)) (omega (arith, value_lt b i w, digit_lt (get_or b (i + w) 0)))

pub value_step : (b : List ℕ) (i j : ℕ) → hex_value b i (j + 1) ≡ hex_value b i j * 16 + digit_value (get_or b (i + j) 0)
unfolding hex_value
value_step b i j = ap (hex_value b i) (add-one j)

pub value_fits : (b : List ℕ) (i j : ℕ) → j < 16 → hex_value b i j < 16 ^ 15
value_fits b i j h = lt_of_lt_of_le (value_lt b i j) (pow-le-pow_right {n = 16} (omega arith) {i = j} {j = 15} (omega arith))

pub digits_step : (b : List ℕ) (i j : ℕ) → are_digits b i (j + 1) ≡ (are_digits b i j && is_digit (get_or b (i + j) 0))
unfolding are_digits
digits_step b i j = ap (are_digits b i) (add-one j)

-- of a whole list, as the loops read it
pub value_step_whole : (b : List ℕ) (j : ℕ) → hex_value b 0 (j + 1) ≡ hex_value b 0 j * 16 + digit_value (get_or b j 0)
value_step_whole b j = value_step b 0 j ∙ ap (λ (k : ℕ). hex_value b 0 j * 16 + digit_value (get_or b k 0)) (zero-add j)

pub digits_step_whole : (b : List ℕ) (j : ℕ) → are_digits b 0 (j + 1) ≡ (are_digits b 0 j && is_digit (get_or b j 0))
digits_step_whole b j = digits_step b 0 j ∙ ap (λ (k : ℕ). are_digits b 0 j && is_digit (get_or b k 0)) (zero-add j)

-- ---- the same bytes in another list, or at another place

pub value_alike : (a b : List ℕ) (i j w : ℕ) → ((k : ℕ) → k < w → get_or a (i + k) 0 ≡ get_or b (j + k) 0) → hex_value a i w ≡ hex_value b j w
unfolding hex_value
value_alike a b i j zero e = refl
value_alike a b i j (suc w) e = ap₂ (λ (v x : ℕ). v * 16 + digit_value x) (value_alike a b i j w (λ k h. e k (omega arith))) (e w (omega arith))

pub digits_alike : (a b : List ℕ) (i j w : ℕ) → ((k : ℕ) → k < w → get_or a (i + k) 0 ≡ get_or b (j + k) 0) → are_digits a i w ≡ are_digits b j w
unfolding are_digits
digits_alike a b i j w e = all_ext w (λ k. is_digit (get_or a (i + k) 0)) (λ k. is_digit (get_or b (j + k) 0)) (λ k h. ap is_digit (e k h))

-- a byte of the part of w bytes from byte i on
pub part_at : (b : List ℕ) (i w k : ℕ) → k < w → get_or (take w (drop i b)) k 0 ≡ get_or b (i + k) 0
part_at b i w k h = get_or-take w (drop i b) k 0 h ∙ get_or-drop i b k 0

pub length_part : (b : List ℕ) (i w : ℕ) → i + w ≤ length b → length (take w (drop i b)) ≡ w
length_part b i w h = length-take-le w (drop i b) (omega (arith, length-drop i b))

-- the digits of a whole part
pub digits_part : (b : List ℕ) (i w : ℕ) → i + w ≤ length b → are_digits (take w (drop i b)) 0 (length (take w (drop i b))) ≡ are_digits b i w
digits_part b i w h =
    let z : (k : ℕ) → 0 + k ≡ k = λ k. omega arith in
    ap (are_digits (take w (drop i b)) 0) (length_part b i w h)
    ∙ digits_alike (take w (drop i b)) b 0 i w (λ k l. ap (λ (j : ℕ). get_or (take w (drop i b)) j 0) (z k) ∙ part_at b i w k l)

-- and the number that they write, of a part of a part too
value_whole : (b : List ℕ) (i w : ℕ) → i + w ≤ length b → hex_value (take w (drop i b)) 0 (length (take w (drop i b))) ≡ hex_value b i w
value_whole b i w h =
    let z : (k : ℕ) → 0 + k ≡ k = λ k. omega arith in
    ap (hex_value (take w (drop i b)) 0) (length_part b i w h)
    ∙ value_alike (take w (drop i b)) b 0 i w (λ k l. ap (λ (j : ℕ). get_or (take w (drop i b)) j 0) (z k) ∙ part_at b i w k l)

pub value_part : (b : List ℕ) (i n j w v : ℕ) → i + n ≤ length b → j + v ≤ n → w ≡ v
    → hex_value (take w (drop j (take n (drop i b)))) 0 (length (take w (drop j (take n (drop i b))))) ≡ hex_value b (i + j) v
value_part b i n j w v h g e =
    let d : List ℕ = take n (drop i b) in
    let z : (k : ℕ) → i + (j + k) ≡ i + j + k = λ k. omega arith in
    ap (λ (u : ℕ). hex_value (take u (drop j d)) 0 (length (take u (drop j d)))) e
    ∙ value_whole d j v (omega (arith, length_part b i n h))
    ∙ value_alike d b j (i + j) v (λ k l. part_at b i n (j + k) (omega arith) ∙ ap (λ (m : ℕ). get_or b m 0) (z k))
