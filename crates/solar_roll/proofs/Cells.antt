-- Laws of one cell: the answer from what rows and panels share; an answer that is not refused, and the roll of one At a roll; tests of a list, as the library
-- has them; a list of which the first places are filled; a triple past the end. Assumes nothing.
use mathlib.Core.Path.{◌≡◌, refl, sym, ap, ◌∙◌}
use mathlib.Core.Bool.{Bool, true, false, cond, not, ◌||◌, ◌&&◌, true≢false}
use mathlib.Core.List.{List, [], ◌∷◌, ◌++◌, append-nil}
use Prim.Native.Nat.{ℕ, zero, suc, ◌+◌, ◌*◌, ◌≤◌}
use native.Mathlib.Omega.{arith}
use Rattle.std.proofs.Math.Bool.{or-false}
use Rattle.std.proofs.Math.Nat.{add-zero, zero-add}
use lib.ListN.{length, take, drop, drop_of_length-le, get_or-eq_default}
use lib.Seq.{length-take-le}
use lib.Ieee.{Float, nan, binary64, of_bits}
use Rattle.std.specs.List.{list_any, list_all, range_with_len}
use Rattle.buffers.specs.Ranges.{any, any_below, tab}
use Rattle.buffers.specs.Lent.{filled}
use Rattle.buffers.specs.Refusal.{accepted}
use Rattle.buffers.proofs.Ranges.{any_step}
use Rattle.solar_roll.specs.Vectors.{Vector, vector}
use Rattle.solar_roll.specs.Roll.{Axes, body_axes, roll_deg_in, panel_angle, panel_of, roll_is_unconstrained, solar_optimal_roll_deg}
use Rattle.solar_roll.specs.Cell.{optimal_roll, roll_in, cell_reply}
use Rattle.solar_roll.specs.Plan.{Plan, triple, direction_of, row_panel, row_config, sun_at, cell_of}
use Rattle.solar_roll.specs.declared.roll.Panel.{Panel}
use Rattle.solar_roll.specs.declared.cell.CellRoll.{CellRoll}
use Rattle.solar_roll.specs.declared.cell.CellRoll.TheVariants.{Free, At, Refused}

-- what a row and a panel share makes the same optimal roll, and the same answer
pub optimal_shared : (target sun normal : Vector) → roll_deg_in (body_axes target) sun (panel_angle normal) ≡ solar_optimal_roll_deg target sun normal
unfolding roll_deg_in body_axes solar_optimal_roll_deg
optimal_shared target sun normal = refl

pub roll_shared : (target sun normal : Vector) → roll_in (body_axes target) sun (panel_of normal) ≡ optimal_roll target sun normal
unfolding roll_in roll_deg_in optimal_roll body_axes panel_of roll_is_unconstrained solar_optimal_roll_deg
roll_shared target sun normal = refl

-- ---- the three kinds of answer

is_at : CellRoll → Bool
is_at Free = false
is_at (At roll) = true
is_at (Refused k) = false

-- the roll of an answer At a roll, NaN of others
roll_of : CellRoll → Float
roll_of Free = nan
roll_of (At roll) = roll
roll_of (Refused k) = nan

pub free_not_at : (roll : Float) → Free ≡ At roll → ⊥
unfolding is_at
free_not_at roll e = true≢false (sym (ap is_at e))

pub refused_not_at : (k : ℕ) (roll : Float) → Refused k ≡ At roll → ⊥
unfolding is_at
refused_not_at k roll e = true≢false (sym (ap is_at e))

-- an answer that is not refused
pub answered : (target sun normal : Vector) → cell_reply (optimal_roll target sun normal) ≡ accepted (optimal_roll target sun normal)
unfolding optimal_roll cell_reply
answered target sun normal = go (roll_is_unconstrained target sun normal)
  where
    go : (b : Bool) → cell_reply (cond b Free (At (solar_optimal_roll_deg target sun normal))) ≡ accepted (cond b Free (At (solar_optimal_roll_deg target sun normal)))
    go true = refl
    go false = refl

-- of an answer At a roll, that roll is the optimal one
pub at_optimal : (target sun normal : Vector) (roll : Float) → optimal_roll target sun normal ≡ At roll → solar_optimal_roll_deg target sun normal ≡ roll
unfolding optimal_roll roll_of
at_optimal target sun normal roll = go (roll_is_unconstrained target sun normal)
  where
    go : (b : Bool) → cond b Free (At (solar_optimal_roll_deg target sun normal)) ≡ At roll → solar_optimal_roll_deg target sun normal ≡ roll
    go true e = absurd (free_not_at roll e)
    go false e = ap roll_of e

-- ---- whether an element of a list has a property, as the library has it

pub any_listed : {A : Type 0} (p : A → Bool) (xs : List A) → list_any p xs ≡ any p xs
unfolding any
any_listed p [] = refl
any_listed p (x ∷ xs) = ap (λ b. p x || b) (any_listed p xs)

or_step : (a b c : Bool) → (a || not (not b && c)) ≡ ((a || b) || not c)
or_step true b c = refl
or_step false true c = refl
or_step false false c = refl

-- no number of a range has the property exactly where each lacks it
all_from : (q : ℕ → Bool) (a n : ℕ) → (any_below a q || not (list_all (λ i. not (q i)) (range_with_len a n))) ≡ any_below (a + n) q
unfolding any_below
all_from q a zero = or-false (any_below a q) ∙ ap (λ k. any_below k q) (sym (add-zero a))
all_from q a (suc n) =
    let e : a + 1 + n ≡ a + suc n = omega arith in
    let rest = not (list_all (λ i. not (q i)) (range_with_len (a + 1) n)) in
    or_step (any_below a q) (q a) _ ∙ ap (λ b. b || rest) (sym (any_step a q)) ∙ all_from q (a + 1) n ∙ ap (λ k. any_below k q) e

pub all_lack : (q : ℕ → Bool) (n : ℕ) → not (list_all (λ i. not (q i)) (range_with_len 0 n)) ≡ any_below n q
unfolding any_below
all_lack q n = all_from q 0 n ∙ ap (λ k. any_below k q) (zero-add n)

-- ---- a list of which the first places are lent, and filled

module _ {A : Type 0} (f : ℕ → A) where
  pub filled_whole : (n : ℕ) (l : List A) → length l ≡ n → filled n f l ≡ tab n f
  unfolding filled
  filled_whole n l e =
      let h : length l ≤ n = omega arith in
      ap (λ (t : List A). tab n f ++ t) (drop_of_length-le l h) ∙ append-nil (tab n f)

  pub filled_front : (n : ℕ) (l : List A) → n ≤ length l → filled n f (take n l) ++ drop n l ≡ filled n f l
  unfolding filled
  filled_front n l h = ap (λ (t : List A). t ++ drop n l) (filled_whole n (take n l) (length-take-le n l h))

-- the code's NaN
pub nan_bits : of_bits binary64 9221120237041090560 ≡ nan
unfolding of_bits
nan_bits = refl

-- past the end a triple is NaN
pub triple_past : (xs : List Float) (i : ℕ) → length xs ≤ i → vector nan nan nan ≡ triple xs i
unfolding triple
triple_past xs i h =
    let a : length xs ≤ 3 * i = omega arith in
    let b : length xs ≤ 3 * i + 1 = omega arith in
    let c : length xs ≤ 3 * i + 2 = omega arith in
    simp (get_or-eq_default xs nan a, get_or-eq_default xs nan b, get_or-eq_default xs nan c)

-- every row has the same panel, so it may be worked out once for all
pub one_panel : (panels : List Float) (q r : ℕ) → row_panel panels q ≡ row_panel panels r
unfolding row_panel
one_panel panels q r = refl

-- ---- what a row (its axes and its panel) and a time (the Sun's unit) share makes the cells of a plan

module _ (p : Plan) (r j : ℕ) (axes : Axes) (unit : Vector) (panel : Panel)
    (row : axes ≡ body_axes (direction_of p r)) (time : unit ≡ sun_at p j) (panel-is : panel ≡ panel_of (row_panel p.panels r)) where
  pub cell_shared : roll_in axes unit panel ≡ cell_of p r j
  unfolding cell_of row_config
  cell_shared = simp (row, time, panel-is, roll_shared)
