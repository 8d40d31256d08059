-- Laws of rows: cell numbers, then a list whose rows are written some columns at a time. Assumes nothing.
use mathlib.Core.Path.{◌≡◌, refl, sym, ap, ◌∙◌, subst}
use mathlib.Core.Logic.{◌⊎◌, inl, inr}
use mathlib.Core.Bool.{Bool, true, false}
use mathlib.Core.List.{List}
use Prim.Native.Nat.{ℕ, zero, suc, ◌+◌, ◌-◌, ◌*◌, ◌/◌, ◌%◌, ◌<◌, ◌≤◌}
use native.Mathlib.Nat.{suc-mul, mul-le-mul_right, mul-add-div_right, mul-add-mod_self_right, div-eq_of_lt, mod-eq_of_lt, div-add-mod', mod-lt, div-lt_iff_lt-mul, not-suc-le-zero, add-zero}
use native.Mathlib.Omega.{arith}
use lib.Dec.{eqb, ltb}
use lib.Arith.{lt_of_le-ne}
use lib.ListN.{length, get_or}
use lib.Seq.{ext_get_or}
use borrow.Author.Tests.{ltb-true, ltb-false, eqb-true, eqb-false}
use Rattle.buffers.specs.Ranges.{tab}
use Rattle.buffers.specs.Lent.{filled, put}
use Rattle.buffers.specs.Rows.{ColumnsWritten}
use Rattle.buffers.proofs.Ranges.{length_tab, get_or_tab}
use Rattle.buffers.proofs.Lent.{length_put, get_or_before, get_or_inside, get_or_after, length_filled, get_or_filled, get_or_filled_beyond}

-- ---- cell numbers: in rows of `times` cells, row i at time j is the cell i * times + j

-- where there is a cell there is a time
pub some_time : (rows times k : ℕ) → k < rows * times → 0 < times
some_time rows zero k l = absurd (omega (arith, l))
some_time rows (suc t) k l = omega arith

pub cell_row : (times i j : ℕ) → j < times → (i * times + j) / times ≡ i
cell_row times i j h =
    let p : 0 < times = omega arith in
    mul-add-div_right p i j ∙ ap (λ (q : ℕ). i + q) (div-eq_of_lt h) ∙ add-zero i

pub cell_time : (times i j : ℕ) → j < times → (i * times + j) % times ≡ j
cell_time times i j h = mul-add-mod_self_right i times j ∙ mod-eq_of_lt h

pub next_row : (times i : ℕ) → i * times + times ≡ (i + 1) * times
next_row times i = sym (ap (λ (n : ℕ). n * times) (one i) ∙ suc-mul i times)
  where
    one : (i : ℕ) → i + 1 ≡ suc i
    one i = omega arith

-- a cell of an earlier row comes before a later row
pub row_before : (times i j k : ℕ) → i < k → j < times → i * times + j < k * times
row_before times i j k h g = omega (arith, mul-le-mul_right times h, suc-mul i times)

pub cell_below : (rows times i j : ℕ) → i < rows → j < times → i * times + j < rows * times
cell_below rows times i j h g = row_before times i j rows h g

-- ---- columns

module _ {A : Type 0} (rows times from count : ℕ) (f : ℕ → ℕ → A) (d : A) where
  pub columns_none : (l : List A) → ColumnsWritten rows times 0 from count f d l l
  columns_none l = record { same = refl; inside = λ r j h a b. absurd (not-suc-le-zero h); before = λ r j h g. refl; beyond = λ k h. refl }

  -- the columns of one row more: put in at their place
  module _ (row : ℕ) (g : ℕ → A) (m : List A) (in_rows : row < rows) (in-times : from + count ≤ times) (room : rows * times ≤ length m) where
    abbrev start : ℕ
    start = row * times + from

    abbrev new : List A
    new = put start (tab count g) m

    width : length (tab count g) ≡ count
    width = length_tab count g

    fits : start + length (tab count g) ≤ length m
    fits = omega (arith, width, mul-le-mul_right times in_rows, suc-mul row times)

    low : (k : ℕ) → k < start → get_or new k d ≡ get_or m k d
    low k h = get_or_before start (tab count g) m d fits k h

    high : (k : ℕ) → start + count ≤ k → get_or new k d ≡ get_or m k d
    high k h = get_or_after start (tab count g) m d fits k (omega (arith, width))

    here : (j : ℕ) → from ≤ j → j < from + count → get_or new (row * times + j) d ≡ g (j - from)
    here j a b =
        let e : row * times + j ≡ start + (j - from) = omega arith in
        ap (λ (k : ℕ). get_or new k d) e
        ∙ get_or_inside start (tab count g) m d fits (j - from) (omega (arith, width))
        ∙ get_or_tab count g d (j - from) (omega arith)

    -- a cell of another row
    other : (r j : ℕ) → j < times → (r < row) ⊎ (row < r) → get_or new (r * times + j) d ≡ get_or m (r * times + j) d
    other r j h (inl l) = low (r * times + j) (omega (arith, row_before times r j row l h))
    other r j h (inr l) = high (r * times + j) (omega (arith, mul-le-mul_right times l, suc-mul row times))

    pub columns_row : (old : List A) → ((t : ℕ) → t < count → g t ≡ f row (from + t)) → ColumnsWritten rows times row from count f d old m →
        ColumnsWritten rows times (row + 1) from count f d old new
    columns_row old e c = record {
      same = length_put start (tab count g) m fits ∙ c.same;
      inside = λ r j h a b. inside r j (eqb r row) refl h a b;
      before = λ r j h b. before r j (ltb r row) refl (ltb row r) refl h b;
      beyond = λ k h. high k (omega (arith, mul-le-mul_right times in_rows, suc-mul row times)) ∙ c.beyond k h;
    }
      where
        inside : (r j : ℕ) (q : Bool) → eqb r row ≡ q → r < row + 1 → from ≤ j → j < from + count → get_or new (r * times + j) d ≡ f r j
        inside r j true q h a b =
            let i : from + (j - from) ≡ j = omega arith in
            subst (λ (k : ℕ). get_or new (k * times + j) d ≡ f k j) (sym (eqb-true r row q))
            (here j a b ∙ e (j - from) (omega arith) ∙ ap (f row) i)
        inside r j false q h a b =
            let l : r < row = lt_of_le-ne (omega arith) (eqb-false r row q) in
            other r j (omega arith) (inl l) ∙ c.inside r j l a b

        before : (r j : ℕ) (p : Bool) → ltb r row ≡ p → (q : Bool) → ltb row r ≡ q → r < rows → j < from → get_or new (r * times + j) d ≡ get_or old (r * times + j) d
        before r j true p q w h b = other r j (omega arith) (inl (ltb-true r row p)) ∙ c.before r j h b
        before r j false p true w h b = other r j (omega arith) (inr (ltb-true row r w)) ∙ c.before r j h b
        before r j false p false w h b =
            let i : row ≡ r = omega (arith, ltb-false r row p, ltb-false row r w) in
            low (r * times + j) (omega (arith, ap (λ (k : ℕ). k * times) i)) ∙ c.before r j h b

  pub columns_ext : (done : ℕ) (g : ℕ → ℕ → A) (old new : List A) → ((r j : ℕ) → r < done → from ≤ j → j < from + count → f r j ≡ g r j) →
      ColumnsWritten rows times done from count f d old new → ColumnsWritten rows times done from count g d old new
  columns_ext done g old new e c = record { same = c.same; inside = λ r j h a b. c.inside r j h a b ∙ e r j h a b; before = c.before; beyond = c.beyond }

module _ {A : Type 0} (rows times : ℕ) (f : ℕ → ℕ → A) (d : A) where
  -- no columns yet
  pub columns_zero : (done : ℕ) (l : List A) → ColumnsWritten rows times done 0 0 f d l l
  columns_zero done l = record { same = refl; inside = λ r j h a b. absurd (not-suc-le-zero b); before = λ r j h g. refl; beyond = λ k h. refl }

  -- columns, and the columns directly after them
  pub columns_add : (from count : ℕ) (old m new : List A) → ColumnsWritten rows times rows 0 from f d old m → ColumnsWritten rows times rows from count f d m new →
      ColumnsWritten rows times rows 0 (from + count) f d old new
  columns_add from count old m new c e = record {
    same = e.same ∙ c.same;
    inside = λ r j h a b. inside r j (ltb j from) refl h b;
    before = λ r j h g. absurd (not-suc-le-zero g);
    beyond = λ k h. e.beyond k h ∙ c.beyond k h;
  }
    where
      inside : (r j : ℕ) (q : Bool) → ltb j from ≡ q → r < rows → j < 0 + (from + count) → get_or new (r * times + j) d ≡ f r j
      inside r j true q h b = e.before r j h (ltb-true j from q) ∙ c.inside r j h (omega arith) (omega (arith, ltb-true j from q))
      inside r j false q h b = e.inside r j h (ltb-false j from q) (omega arith)

  -- every column is written
  pub columns_all : (old new : List A) → rows * times ≤ length old → ColumnsWritten rows times rows 0 times f d old new →
      new ≡ filled (rows * times) (λ k. f (k / times) (k % times)) old
  columns_all old new h c =
      let F : ℕ → A = λ k. f (k / times) (k % times) in
      ext_get_or d new (filled (rows * times) F old) (c.same ∙ sym (length_filled F (rows * times) old h)) (λ k l. at k (ltb k (rows * times)) refl)
    where
      F : ℕ → A
      F k = f (k / times) (k % times)

      written : (k : ℕ) → k < rows * times → get_or new k d ≡ f (k / times) (k % times)
      written k l =
          let p : 0 < times = some_time rows times k l in
          let q : k / times * times + k % times ≡ k = div-add-mod' k times in
          ap (λ (i : ℕ). get_or new i d) (sym q) ∙ c.inside (k / times) (k % times) ((div-lt_iff_lt-mul p).1 l) (omega arith) (omega (arith, mod-lt k p))

      at : (k : ℕ) (b : Bool) → ltb k (rows * times) ≡ b → get_or new k d ≡ get_or (filled (rows * times) F old) k d
      at k true e = written k (ltb-true _ _ e) ∙ sym (get_or_filled F (rows * times) old d k (ltb-true _ _ e))
      at k false e = c.beyond k (ltb-false _ _ e) ∙ sym (get_or_filled_beyond F (rows * times) old d k (ltb-false _ _ e))
