-- Laws of a pattern over and over: how many numbers there are, which, that each passes a test that the pattern's pass, and a triple that is repeated. Assumes
-- nothing.
use mathlib.Core.Path.{◌≡◌, refl, ap, ◌∙◌}
use mathlib.Core.Bool.{Bool, false}
use mathlib.Core.List.{List, [], ◌∷◌}
use Prim.Native.Nat.{ℕ, ◌+◌, ◌*◌, ◌%◌, ◌<◌}
use native.Mathlib.Nat.{mod-lt}
use native.Mathlib.Omega.{arith}
use lib.ListN.{length, get_or}
use lib.Ieee.{Float, nan}
use Rattle.buffers.specs.Ranges.{any}
use Rattle.buffers.proofs.Ranges.{length_tab, get_or_tab, any_get_or, any_tab}
use Rattle.solar_roll.specs.Vectors.{vector}
use Rattle.solar_roll.specs.Plan.{triple}
use Rattle.cost.specs.Cost.{repeated}

pub length_repeated : (places : ℕ) (pattern : List Float) → length (repeated places pattern) ≡ places
unfolding repeated
length_repeated places pattern = length_tab places _

pub get_or_repeated : (places : ℕ) (pattern : List Float) (k : ℕ) → k < places → get_or (repeated places pattern) k nan ≡ get_or pattern (k % length pattern) nan
unfolding repeated
get_or_repeated places pattern k h = get_or_tab places _ nan k h

pub any_repeated : (p : Float → Bool) (places : ℕ) (pattern : List Float) → 0 < length pattern → any p pattern ≡ false → any p (repeated places pattern) ≡ false
unfolding repeated
any_repeated p places pattern h e = any_tab p places _ (λ k l. any_get_or p pattern nan (k % length pattern) e (mod-lt k h))

-- one number over and over
pub one_repeated : (places : ℕ) (a : Float) (k : ℕ) → k < places → get_or (repeated places (a ∷ [])) k nan ≡ a
one_repeated places a k h =
    let e : k % 1 ≡ 0 = omega arith in
    get_or_repeated places (a ∷ []) k h ∙ ap (λ (j : ℕ). get_or (a ∷ []) j nan) e

-- a triple over and over: each is the triple
pub triple_repeated : (count : ℕ) (a b c : Float) (i : ℕ) → i < count → triple (repeated (3 * count) (vector a b c)) i ≡ vector a b c
unfolding triple
triple_repeated count a b c i h =
    let x : 3 * i % 3 ≡ 0 = omega arith in
    let y : (3 * i + 1) % 3 ≡ 1 = omega arith in
    let z : (3 * i + 2) % 3 ≡ 2 = omega arith in
    let at : (k j : ℕ) → k < 3 * count → k % 3 ≡ j → get_or (repeated (3 * count) (vector a b c)) k nan ≡ get_or (vector a b c) j nan =
    λ k j l e. get_or_repeated (3 * count) (vector a b c) k l ∙ ap (λ (m : ℕ). get_or (vector a b c) m nan) e in
    rw (at (3 * i) 0 (omega arith) x, at (3 * i + 1) 1 (omega arith) y, at (3 * i + 2) 2 (omega arith) z) refl
