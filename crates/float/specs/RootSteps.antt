-- The three steps of squareRoot, in the order in which IEEE 754's text has it worked out: special operands (5.4.1); the intermediate result (5.1), as the floor of
-- the root of a scaled significand and whether it is exact; rounding (4.3.1). The functions of src/root.rt cite them; `sqrt_of` (Root) does not rest on them. That
-- they give it is the theorem `root_from_steps` (statement: `FromSteps`). Definitions only. Assumes nothing.
use Rattle.std.specs.Prelude.{◌≡◌, Option, Some, None, ℕ, zero, suc, ◌+◌, ◌-◌, ◌*◌, ◌/◌, ◌%◌, ◌^◌, ◌<◌, ◌≤◌, Bool, true, false, cond, ◌==◌, ◌≢◌, to_bits, Float}
use Prim.Native.Nat.{Ordering}
use Rattle.std.specs.Float.{nan, inf, fin, binary64}
use Rattle.std.specs.Float.Ieee.{size, nearest, units}
use Rattle.float.specs.declared.root.Scaled.{Scaled}
use Rattle.float.specs.declared.root.Floor.{Floor}

-- ---- step 1

-- The special operands with their answers: of a NaN, of a negative number and of -infinity NaN; of -0, +0 and +infinity itself. What is left is finite and
-- above 0.
unfoldable pub operand_of : Float → Option Float
operand_of nan = Some nan
operand_of (inf true) = Some nan
operand_of (inf false) = Some (inf false)
operand_of (fin s zero e) = Some (fin s zero e)
operand_of (fin true (suc m) e) = Some nan
operand_of (fin false (suc m) e) = None

-- ---- scaling

-- The magnitude of the bit pattern b, which has the sign clear and is no infinity and no NaN, in units of the smallest value, 2 ^ -1074.
abbrev pub magnitude : ℕ → ℕ
magnitude b = cond (b / 2 ^ 52 == 0) b ((2 ^ 52 + b % 2 ^ 52) * 2 ^ (b / 2 ^ 52 - 1))

-- m * 2 ^ e as significand * 4 ^ half.
abbrev pub paired_of : ℕ → ℕ → Scaled
paired_of m e = record { significand = m * 2 ^ (e % 2); half = e / 2 }

-- a as significand * 4 ^ half, with 53 or 54 digits in the significand.
abbrev pub scaled_from : ℕ → Scaled
scaled_from a = record { significand = a / 4 ^ ((size a - 53) / 2); half = (size a - 53) / 2 }

-- The root of the pattern b's number, in units of the smallest value, is that of `magnitude b * 2 ^ 1074`.
abbrev pub scaled_of : ℕ → Scaled
scaled_of b = scaled_from (magnitude b * 2 ^ 1074)

-- ---- step 2

-- f has the largest whole number whose square does not pass n, and whether it meets n. That the two inequalities have one solution, and that it is the largest,
-- is the theorem `largest_root`.
abbrev pub LargestRoot : ℕ → Floor → Type 0
LargestRoot n f = (f.root * f.root ≤ n) × (n < (f.root + 1) * (f.root + 1)) × (f.exact ≡ (f.root * f.root == n))

-- ---- step 3

-- How a root compares with q + 1/2, from h, the last digit of r = 2 * q + h, the whole part of twice the root, and whether r is twice the root exactly.
abbrev pub halfway : ℕ → Bool → Ordering
halfway zero exact = Ordering.lt
halfway (suc h) exact = cond exact Ordering.eq Ordering.gt

-- The whole number nearest to a root, ties to even, from f: twice the root is f's number or, where that is not exact, between it and the next.
abbrev pub rounded_of : Floor → ℕ
rounded_of f = nearest (f.root / 2) (halfway (f.root % 2) f.exact)

-- ---- the steps together

-- r is what the steps give after step 1's o: what it answered, or step 3's number of what step 2 finds of the scaled significand, that is of `significand * 2 ^ 54`.
-- Step 2's number is in units of 2 ^ (half - 27) smallest values, step 3's in units of 2 ^ (half - 26); half is at least 511.
abbrev pub FromOperand : Option Float → Scaled → Float → Type 0
FromOperand (Some a) s r = r ≡ a
FromOperand None s r = (f : Floor) → LargestRoot (s.significand * 2 ^ 54) f → r ≡ units binary64 false (rounded_of f) (s.half - 26)

-- r is what the steps give for x.
abbrev pub FromSteps : Float → Float → Type 0
FromSteps x r = FromOperand (operand_of x) (scaled_of (to_bits binary64 x)) r

-- ---- a guess

-- What trying q, a guess of step 3's number, gives: what step 2 finds of n where step 3 makes q of it, else none.
abbrev pub Tried : ℕ → ℕ → Option Floor → Type 0
Tried n q (Some f) = LargestRoot n f × (rounded_of f ≡ q)
Tried n q None = (f : Floor) → LargestRoot n f → rounded_of f ≢ q
