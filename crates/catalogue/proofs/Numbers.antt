-- The numbers of the vectors, one after the other, and the three of a position, stored. Assumes nothing.
use mathlib.Core.Path.{◌≡◌, refl, ap, ap₂, ◌∙◌}
use mathlib.Core.List.{List, ◌++◌}
use Prim.Native.Nat.{ℕ, ◌+◌, ◌*◌, ◌<◌, ◌≤◌}
use native.Mathlib.Omega.{arith}
use lib.Dec.{lit<}
use lib.ListN.{length, get_or, take, drop}
use lib.Seq.{drop-drop}
use lib.Ieee.{Float, nan}
use Rattle.buffers.specs.Ranges.{tab}
use Rattle.buffers.specs.Lent.{filled, put}
use Rattle.buffers.proofs.Lent.{filled_put}
use Rattle.catalogue.specs.Catalogue.{radec_to_unit, vector_of, catalogue_number}

-- component j of position i
pub number_at : (ras decs : List Float) (i j : ℕ) → j < 3 → catalogue_number ras decs (3 * i + j) ≡ get_or (vector_of ras decs i) j nan
unfolding catalogue_number
number_at ras decs i j h = ap₂ (λ (x y : ℕ). get_or (vector_of ras decs x) y nan) (omega arith) (omega arith)

-- the vector of position i is three of them
vector_numbers : (ras decs : List Float) (i : ℕ) → vector_of ras decs i ≡ tab 3 (λ j. catalogue_number ras decs (3 * i + j))
unfolding vector_of radec_to_unit tab
vector_numbers ras decs i = rw (number_at ras decs i 0 (lit< tt), number_at ras decs i 1 (lit< tt), number_at ras decs i 2 (lit< tt))

-- the vector v of position i is stored in the n places from its first on
pub stored : (ras decs : List Float) (i n : ℕ) (out old v : List Float) → n ≡ 3 → out ≡ filled (3 * i) (catalogue_number ras decs) old → 3 * i + 3 ≤ length old
    → v ≡ vector_of ras decs i → take (3 * i) out ++ (v ++ drop n (drop (3 * i) out)) ≡ filled (3 * (i + 1)) (catalogue_number ras decs) old
unfolding put tab
stored ras decs i n out old v three e h is =
    let f : ℕ → Float = catalogue_number ras decs in
    let next : 3 * i + 3 ≡ 3 * (i + 1) = omega arith in
    rw (three, drop-drop 3 (3 * i) out, e, is, vector_numbers ras decs i)
    (filled_put f (3 * i) 3 (tab 3 (λ j. f (3 * i + j))) old refl h ∙ ap (λ (m : ℕ). filled m f old) next)
