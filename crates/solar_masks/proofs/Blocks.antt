-- Blocks of times, whose Sun's units stand in a table of 2,048 places: a plan's times are gone through block by block. Assumes nothing.
use mathlib.Core.Path.{◌≡◌, ap, ◌∙◌}
use mathlib.Core.List.{List, []}
use Prim.Native.Nat.{ℕ, ◌+◌, ◌-◌, ◌≤◌, ◌<◌, min}
use native.Mathlib.Omega.{arith}
use lib.ListN.{length, get_or, take}
use Rattle.buffers.specs.Ranges.{tab}
use Rattle.buffers.specs.Lent.{filled}
use Rattle.buffers.specs.Rows.{ColumnsWritten}
use Rattle.buffers.proofs.Ranges.{length_tab, get_or_tab}
use Rattle.buffers.proofs.Lent.{length_filled, take_filled}
use Rattle.buffers.proofs.Rows.{columns_add}
use Rattle.solar_roll.specs.Vectors.{Vector}
use Rattle.solar_roll.specs.Plan.{Plan, rows_of, times_of, sun_at}

-- n times, from the time `from` on
pub record Block (from times n : ℕ) : Type 0 where
  pub more : 0 < n
  pub few : n ≤ 2048
  pub within : from + n ≤ times

pub block_of : (from times n : ℕ) → from < times → n ≡ min 2048 (times - from) → Block from times n
block_of from times n h e = record { more = omega arith; few = omega arith; within = omega arith }

-- the table after `sun_units`: its first n places hold the block's units, and its length stays
pub block_units : (p : Plan) (from n : ℕ) (old new : List Vector) → length old ≡ 2048 → n ≡ min 2048 (times_of p - from)
    → new ≡ filled (min (length old) (times_of p - from)) (λ t. sun_at p (from + t)) old
    → (new ≡ filled n (λ t. sun_at p (from + t)) old) × (n ≤ length new)
block_units p from n old new size e w =
    let m : min (length old) (times_of p - from) ≡ n = omega arith in
    let room : n ≤ length old = omega arith in
    let is : new ≡ filled n (λ t. sun_at p (from + t)) old = w ∙ ap (λ (k : ℕ). filled k (λ t. sun_at p (from + t)) old) m in
    (is, omega (arith, ap length is ∙ length_filled (λ t. sun_at p (from + t)) n old room))

-- those places alone
taken_units : (p : Plan) (from n : ℕ) (old new : List Vector) → new ≡ filled n (λ t. sun_at p (from + t)) old → take n new ≡ tab n (λ t. sun_at p (from + t))
taken_units p from n old new is = ap (take n) is ∙ take_filled (λ t. sun_at p (from + t)) n old

-- a block's columns, made of those units, are made of the times' own
module _ {A : Type 0} (rows times from n : ℕ) (f : ℕ → Vector → A) (sun : ℕ → Vector) (units : List Vector) (d : A) (old new : List A) where
  columns_block : units ≡ tab n (λ t. sun (from + t)) → ColumnsWritten rows times rows from (length units) (λ r j. f r (get_or units (j - from) [])) d old new
      → ColumnsWritten rows times rows from n (λ r j. f r (sun j)) d old new
  columns_block e c =
      let w : length units ≡ n = ap length e ∙ length_tab n (λ t. sun (from + t)) in
      record {
        same = c.same;
        inside = λ r j h a b. c.inside r j h a (omega (arith, w)) ∙ ap (f r) (unit j a b);
        before = c.before;
        beyond = c.beyond;
      }
    where
      unit : (j : ℕ) → from ≤ j → j < from + n → get_or units (j - from) [] ≡ sun j
      unit j a b =
          let i : from + (j - from) ≡ j = omega arith in
          ap (λ (u : List Vector). get_or u (j - from) []) e ∙ get_or_tab n (λ t. sun (from + t)) [] (j - from) (omega arith) ∙ ap sun i

-- the columns of a block, after those of the times before it: `units` is the table once it holds the block's units
module _ {A : Type 0} (p : Plan) (f : ℕ → Vector → A) (from n : ℕ) (table units : List Vector) (old m new : List A) where
  pub columns_next : length table ≡ 2048 → n ≡ min 2048 (times_of p - from) → units ≡ filled (min (length table) (times_of p - from)) (λ t. sun_at p (from + t)) table
      → ((d : A) → ColumnsWritten (rows_of p) (times_of p) (rows_of p) 0 from (λ r j. f r (sun_at p j)) d old m)
      → ((d : A) → ColumnsWritten (rows_of p) (times_of p) (rows_of p) from (length (take n units)) (λ r j. f r (get_or (take n units) (j - from) [])) d m new)
      → (d : A) → ColumnsWritten (rows_of p) (times_of p) (rows_of p) 0 (from + n) (λ r j. f r (sun_at p j)) d old new
  columns_next size e w before this d =
      columns_add (rows_of p) (times_of p) (λ r j. f r (sun_at p j)) d from n old m new (before d)
      (columns_block (rows_of p) (times_of p) from n f (sun_at p) (take n units) d m new (taken_units p from n table units (block_units p from n table units size e w).0) (this d))
