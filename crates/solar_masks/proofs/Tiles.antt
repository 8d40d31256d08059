-- A row written tile by tile: each tile is handed its part of the Sun's units and the places from its first on. Assumes nothing.
use mathlib.Core.Path.{◌≡◌, sym, ap, ◌∙◌}
use mathlib.Core.List.{List, ◌++◌}
use Prim.Native.Nat.{ℕ, ◌+◌, ◌-◌, ◌<◌, ◌≤◌}
use native.Mathlib.Omega.{arith}
use lib.ListN.{length, get_or, take, drop, length-drop}
use lib.Seq.{get_or-take, get_or-drop, length-take-le}
use Rattle.buffers.specs.Ranges.{tab}
use Rattle.buffers.specs.Lent.{filled, put}
use Rattle.buffers.proofs.Ranges.{tab_ext}
use Rattle.buffers.proofs.Lent.{filled_part, filled_put}

module _ {B : Type 0} (units : List B) (from w : ℕ) where
  -- the units of a tile
  abbrev pub tile : List B
  tile = take (from + w - from) (drop from units)

  pub length_tile : from + w ≤ length units → length tile ≡ w
  length_tile h = length-take-le (from + w - from) (drop from units) (omega (arith, length-drop from units)) ∙ omega arith

  -- a tile's values are written after those before it
  pub tile_next : {A : Type 0} (f : B → A) (d : B) (old m part : List A) → m ≡ filled from (λ j. f (get_or units j d)) old → from + w ≤ length old
      → part ≡ filled w (λ k. f (get_or tile k d)) (take (length m - from) (drop from m))
      → take from m ++ (part ++ drop (length m - from) (drop from m)) ≡ filled (from + w) (λ j. f (get_or units j d)) old
  tile_next {A = A} f d old m part e h p =
      let G : ℕ → A = λ k. f (get_or tile k d) in
      let F : ℕ → A = λ j. f (get_or units j d) in
      let v : (k : ℕ) → k < w → G k ≡ F (from + k) = λ k l. ap f (get_or-take (from + w - from) (drop from units) k d (omega arith) ∙ get_or-drop from units k d) in
      filled_part G from w m part p
      ∙ ap (put from (tab w G)) e
      ∙ filled_put F from w (tab w G) old (tab_ext w G (λ k. F (from + k)) v) h

-- the same of a tile that ends at the place `to`
module _ {A B : Type 0} (units : List B) (from to : ℕ) (f : B → A) (d : B) (old m part : List A) where
  pub tile_to : from ≤ to → to ≤ length units → length units ≤ length old → m ≡ filled from (λ j. f (get_or units j d)) old
      → part ≡ filled (length (take (to - from) (drop from units))) (λ k. f (get_or (take (to - from) (drop from units)) k d)) (take (length m - from) (drop from m))
      → take from m ++ (part ++ drop (length m - from) (drop from m)) ≡ filled to (λ j. f (get_or units j d)) old
  tile_to up within room e p =
      let w : ℕ = to - from in
      let i : from + w ≡ to = omega arith in
      let h : from + w ≤ length old = omega arith in
      let n : length (tile units from w) ≡ w = length_tile units from w (omega arith) in
      let F : ℕ → A = λ j. f (get_or units j d) in
      let G : List B → ℕ → List A = λ t k. filled k (λ j. f (get_or t j d)) (take (length m - from) (drop from m)) in
      let q : part ≡ G (tile units from w) (length (tile units from w)) = p ∙ ap (λ (k : ℕ). G (take (k - from) (drop from units)) (length (take (k - from) (drop from units)))) (sym i) in
      tile_next units from w f d old m part e h (q ∙ ap (G (tile units from w)) n) ∙ ap (λ (k : ℕ). filled k F old) i
