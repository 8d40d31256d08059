-- Vectors of three f64, as `[f64; 3]` holds them: the list of their components. The operations of solar_roll.rs, each step rounded once, in its
-- order; and flat lists of triples. Definitions only. Assumes nothing.
use Rattle.std.specs.Prelude.{cond, List, [], ◌∷◌, ℕ, ◌+◌, ◌*◌, ◌/◌, length, get_or, Float, Option, None, Some}
use Rattle.std.specs.Float.{nan, binary64}
use Rattle.std.specs.Float.Ieee.{le, of_bits}
use Rattle.float.specs.Root.{sqrt_of}
use Rattle.float.specs.Arithmetic.{◌⊕◌, ◌⊖◌, ◌⊗◌, ◌⊘◌}

-- three components, by x, y and z; a list that is shorter reads as NaN past its end
abbrev pub Vector : Type 0
Vector = List Float

abbrev pub x : Vector → Float
x v = get_or v 0 nan

abbrev pub y : Vector → Float
y v = get_or v 1 nan

abbrev pub z : Vector → Float
z v = get_or v 2 nan

-- the vector of three components
abbrev pub vector : Float → Float → Float → Vector
vector a b c = a ∷ b ∷ c ∷ []

-- 1e-12
abbrev pub NEAR_ZERO : Float
NEAR_ZERO = of_bits binary64 0x3d71_9799_812d_ea11

-- a·b, summed from x to z
unfoldable pub dot3 : Vector → Vector → Float
dot3 a b = x a ⊗ x b ⊕ y a ⊗ y b ⊕ z a ⊗ z b

-- the norm: the root of v·v
unfoldable pub norm3 : Vector → Float
unfolding dot3
norm3 v = sqrt_of (dot3 v v)

-- a × b
unfoldable pub cross3 : Vector → Vector → Vector
cross3 a b = vector (y a ⊗ z b ⊖ z a ⊗ y b) (z a ⊗ x b ⊖ x a ⊗ z b) (x a ⊗ y b ⊖ y a ⊗ x b)

-- v / n, component by component
unfoldable pub over3 : Vector → Float → Vector
over3 v n = vector (x v ⊘ n) (y v ⊘ n) (z v ⊘ n)

-- v over its norm, or nothing where the norm is at most 1e-12
unfoldable pub normalize3 : Vector → Option Vector
normalize3 v = cond (le (norm3 v) NEAR_ZERO) None (Some (over3 v (norm3 v)))

-- what was normalized, or the other vector where there is nothing
unfoldable pub unwrap_or : Option Vector → Vector → Vector
unwrap_or None other = other
unwrap_or (Some v) other = v

-- ---- flat lists of triples: x, y and z of each vector, one after the other

-- how many triples a flat list holds
abbrev pub count : List Float → ℕ
count xs = length xs / 3

-- the i-th triple of a flat list, NaN past the end
unfoldable pub triple : List Float → ℕ → Vector
triple xs i = vector (get_or xs (3 * i) nan) (get_or xs (3 * i + 1) nan) (get_or xs (3 * i + 2) nan)
