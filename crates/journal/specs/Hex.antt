-- Section 4: lowercase hexadecimal, written and read. Bytes are read by index, as a loop reads them. Definitions only. Assumes nothing.
use Rattle.std.specs.Prelude.{Bool, cond, ◌&&◌, ◌||◌, List, [], ◌∷◌, ◌++◌, ℕ, zero, suc, ◌+◌, ◌*◌, ◌/◌, ◌%◌, leb, ltb, get_or}
use Rattle.buffers.specs.Ranges.{all_below}

-- the byte of a digit: '0' is 48, 'a' is 97
abbrev pub hex_digit : ℕ → ℕ
hex_digit d = cond (ltb d 10) (48 + d) (87 + d)

-- the digit of a byte, below 16 for every byte
abbrev pub digit_value : ℕ → ℕ
digit_value x = cond (ltb x 58) (x % 16) ((x + 9) % 16)

-- the byte is a digit
abbrev pub is_digit : ℕ → Bool
is_digit x = leb 48 x && leb x 57 || leb 97 x && leb x 102

-- x in w digits
unfoldable pub hex_text : ℕ → ℕ → List ℕ
hex_text zero x = []
hex_text (suc w) x = hex_text w (x / 16) ++ (hex_digit (x % 16) ∷ [])

-- the w bytes of b from index i on are digits
unfoldable pub are_digits : List ℕ → ℕ → ℕ → Bool
unfolding all_below
are_digits b i w = all_below w (λ j. is_digit (get_or b (i + j) 0))

-- the number that the w digits of b from index i on write
unfoldable pub hex_value : List ℕ → ℕ → ℕ → ℕ
hex_value b i zero = 0
hex_value b i (suc w) = hex_value b i w * 16 + digit_value (get_or b (i + w) 0)
