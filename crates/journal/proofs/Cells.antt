-- What the loops of collect ask: the flags of all chunks, the bits of a word, and the cells of 64 at a time. Assumes nothing.
use mathlib.Core.Path.{◌≡◌, refl, sym, ap, ap₂, ◌∙◌}
use mathlib.Core.Bool.{Bool, false, ◌&&◌}
use mathlib.Core.List.{List, ◌++◌}
use Prim.Native.Nat.{ℕ, zero, suc, ◌+◌, ◌-◌, ◌*◌, ◌/◌, ◌%◌, ◌^◌, ◌≤◌, ◌<◌, min}
use native.Mathlib.Omega.{arith}
use native.Mathlib.Numerals.{add-one}
use lib.ListN.{length, get_or, take, drop, length-drop}
use lib.Seq.{drop-drop, length-take-le}
use Rattle.std.specs.List.{list_all}
use Rattle.std.proofs.lemmas.List.Folds.{list_all_more}
use lib.Pow.{shr-shr}
use Rattle.buffers.specs.Ranges.{tab, all_below}
use Rattle.buffers.specs.Lent.{filled, put}
use Rattle.buffers.proofs.Ranges.{tab_ext, length_tab}
use Rattle.buffers.proofs.Lent.{filled_put, filled_over, length_filled, over_all}
use Rattle.journal.proofs.Write.{placed}
use Rattle.solar_roll.specs.Plan.{most_cells}
use Rattle.journal.specs.Lines.{bit_of, has_chunks, held_mask}
use Rattle.journal.specs.Pass.{most_chunks, Tables}

-- one bit less
pub half_next : (m v k : ℕ) → v ≡ m / 2 ^ k → v / 2 ≡ m / 2 ^ (k + 1)
half_next m v k e = ap (λ (x : ℕ). x / 2) e ∙ shr-shr m k 1

-- all places filled
pub filled_all : (f : ℕ → ℕ) (n : ℕ) (l : List ℕ) → n ≡ length l → filled n f l ≡ tab n f
filled_all f n l e = filled_over f n l ∙ over_all (tab n f) l (omega (arith, length_tab n f))

-- the first places filled, lent and back
pub filled_first : (f : ℕ → ℕ) (n : ℕ) (l part : List ℕ) → n ≤ length l → part ≡ tab (length (take n l)) f → part ++ drop n l ≡ filled n f l
unfolding filled
filled_first f n l part h e = ap (λ (t : List ℕ). t ++ drop n l) (e ∙ ap (λ (k : ℕ). tab k f) (length-take-le n l h))

-- the bit of cell i
abbrev pub cell_bit : List ℕ → ℕ → ℕ
cell_bit masks i = bit_of (get_or masks (i / 64) 0) (i % 64)

-- the w cells from cell n on, of one word
pub cells_next : (n w : ℕ) (masks l : List ℕ) → n % 64 ≡ 0 → w ≤ 64 → n + w ≤ length l
    → put n (tab w (bit_of (get_or masks (n / 64) 0))) (filled n (cell_bit masks) l) ≡ filled (n + w) (cell_bit masks) l
cells_next n w masks l z h r =
    filled_put (cell_bit masks) n w (tab w (bit_of (get_or masks (n / 64) 0))) l
    (tab_ext w (bit_of (get_or masks (n / 64) 0)) (λ k. cell_bit masks (n + k)) (λ k g. same k g))
    r
  where
    same : (k : ℕ) → k < w → bit_of (get_or masks (n / 64) 0) k ≡ cell_bit masks (n + k)
    same k g =
        let q : n / 64 ≡ (n + k) / 64 = omega arith in
        let m : k ≡ (n + k) % 64 = omega arith in
        ap₂ (λ (a b : ℕ). bit_of (get_or masks a 0) b) q m

-- the cells of word c, written into their part of a list whose cells before it are written
pub cells_step : (c w n : ℕ) (masks o out part : List ℕ) → n ≡ length o → 64 * c < n → w ≡ min n (64 * c + 64) - 64 * c
    → out ≡ filled (min (64 * c) n) (cell_bit masks) o → part ≡ tab (length (take w (drop (64 * c) out))) (bit_of (get_or masks c 0))
    → take (64 * c) out ++ (part ++ drop w (drop (64 * c) out)) ≡ filled (min (64 * (c + 1)) n) (cell_bit masks) o
cells_step c w n masks o out part size h e f p =
    let i : ℕ = 64 * c in
    let g : out ≡ filled i (cell_bit masks) o = f ∙ ap (λ (k : ℕ). filled k (cell_bit masks) o) (omega arith) in
    let room : i + w ≤ length o = omega arith in
    let long : length out ≡ length o = ap length g ∙ length_filled (cell_bit masks) i o (omega arith) in
    let k : length (take w (drop i out)) ≡ w = length-take-le w (drop i out) (omega (arith, length-drop i out)) in
    let q : c ≡ i / 64 = omega arith in
    let t : part ≡ tab w (bit_of (get_or masks (i / 64) 0)) = p ∙ ap₂ (λ (j d : ℕ). tab j (bit_of (get_or masks d 0))) k q in
    let m : w ≡ length (tab w (bit_of (get_or masks (i / 64) 0))) = sym (length_tab w (bit_of (get_or masks (i / 64) 0))) in
    let end : i + w ≡ min (64 * (c + 1)) n = omega arith in
    ap₂ (λ (y r : List ℕ). take i out ++ (y ++ r)) t (drop-drop w i out ∙ ap (λ (j : ℕ). drop (i + j) out) m)
    ∙ placed i (tab w (bit_of (get_or masks (i / 64) 0))) out
    ∙ ap (put i (tab w (bit_of (get_or masks (i / 64) 0)))) g
    ∙ cells_next i w masks o (omega arith) (omega arith) room
    ∙ ap (λ (j : ℕ). filled j (cell_bit masks) o) end

-- ---- the tables read

module _ (b : List ℕ) (seen : List Bool) (masks : List ℕ) (l : ℕ) (t : Tables b l seen masks) where
  pub all_have_lines : (m : ℕ) → m ≤ most_chunks → list_all (λ flag. flag) (take m seen) ≡ has_chunks b l m
  unfolding has_chunks all_below
  all_have_lines zero h = refl
  all_have_lines (suc m) h =
      let i : m < length seen = omega (arith, t.flags.count) in
      ap (λ (k : ℕ). list_all (λ flag. flag) (take k seen)) (sym (add-one m))
      ∙ list_all_more (λ flag. flag) seen m false i
      ∙ ap₂ (λ (x y : Bool). x && y) (all_have_lines m (omega arith)) (t.flags.chunk m (omega arith))

  pub held_bits : (n : ℕ) (o : List ℕ) → n ≤ most_cells → filled n (cell_bit masks) o ≡ filled n (λ i. bit_of (held_mask b l (i / 64)) (i % 64)) o
  unfolding filled
  held_bits n o h =
      ap (λ (s : List ℕ). s ++ drop n o)
      (tab_ext n (cell_bit masks) (λ i. bit_of (held_mask b l (i / 64)) (i % 64)) (λ i k. ap (λ (x : ℕ). bit_of x (i % 64)) (t.mask (i / 64) (omega arith))))
