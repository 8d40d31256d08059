-- Laws of the even samples: how many there are, each of them, and that a table that was lent for them holds them; and of a list whose first
-- places a loop writes. Assumes nothing.
use mathlib.Core.Path.{◌≡◌, ap, ◌∙◌}
use mathlib.Core.List.{List, ◌++◌, append-nil}
use Prim.Native.Nat.{ℕ, ◌≤◌, ◌<◌, min}
use native.Mathlib.Omega.{arith}
use lib.ListN.{length, get_or, take, drop, drop_of_length-le}
use lib.Seq.{length-take-le}
use lib.Ieee.{Float, nan}
use Rattle.buffers.specs.Lent.{filled}
use Rattle.buffers.proofs.Ranges.{length_tab, get_or_tab}
use Rattle.buffers.proofs.Lent.{take_filled}
use Rattle.roll_sweep.specs.Rolls.{even_roll, even_rolls}

pub length_even : (n : ℕ) → length (even_rolls n) ≡ n
unfolding even_rolls
length_even n = length_tab n (even_roll n)

pub even_at : (n k : ℕ) → k < n → get_or (even_rolls n) k nan ≡ even_roll n k
unfolding even_rolls
even_at n k h = get_or_tab n (even_roll n) nan k h

pub even_lent : (n : ℕ) (l : List Float) → n ≤ length l → take n (filled (min n (length l)) (even_roll n) l) ≡ even_rolls n
unfolding even_rolls
even_lent n l h =
    let e : min n (length l) ≡ n = omega arith in
    ap (λ (m : ℕ). take n (filled m (even_roll n) l)) e ∙ take_filled (even_roll n) n l

-- the first n places, lent by themselves and filled, and those beyond
pub places_filled : {A : Type 0} (f : ℕ → A) (n k m : ℕ) (l first : List A) → n ≤ length l → k ≡ n → n ≡ m → first ≡ filled k f (take n l) → first ++ drop n l ≡ filled m f l
unfolding filled
places_filled f n k m l first h e g i =
    let few : length (take n l) ≤ n = omega (arith, length-take-le n l h) in
    rw (i, e, drop_of_length-le (take n l) few, append-nil, ← g)
