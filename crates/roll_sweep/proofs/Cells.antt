-- A plan's cells, from what their rows and their times share. Assumes nothing.
use mathlib.Core.Path.{◌≡◌, sym, ap, ap₂, ◌∙◌}
use mathlib.Core.Bool.{Bool}
use mathlib.Core.List.{List, []}
use Rattle.std.specs.Prelude.{Option, None, Some}
use Prim.Native.Nat.{ℕ, ◌+◌, ◌*◌, ◌/◌, ◌%◌, ◌≤◌, ◌<◌}
use native.Mathlib.Nat.{mod-lt, div-add-mod'}
use native.Mathlib.Omega.{arith}
use lib.ListN.{length, get_or, take, drop, length-drop}
use lib.Seq.{get_or-take, get_or-drop, length-take-le}
use lib.Ieee.{Float, nan}
use Rattle.buffers.specs.Ranges.{tab}
use Rattle.buffers.proofs.Ranges.{length_tab, get_or_tab}
use Rattle.buffers.proofs.Rows.{cell_row, cell_time}
use Rattle.solar_roll.specs.Vectors.{Vector}
use Rattle.solar_roll.specs.Roll.{body_axes, panel_of}
use Rattle.solar_roll.specs.Cell.{roll_in, violates, in_force}
use Rattle.solar_roll.specs.Plan.{Plan, times_of, row_direction, row_config, sun_at, cell_of, violates_at}
use Rattle.solar_roll.specs.declared.plan.SolarRollConfig.{SolarRollConfig}
use Rattle.solar_roll.proofs.Cells.{roll_shared}
use Rattle.roll_sweep.specs.Chunk.{violates_by, sample_roll, swept_by}
use Rattle.roll_sweep.proofs.SweptCells.{swept_ext}

-- an entry of a table that stands in a list's first places
pub entry : {A : Type 0} (w : ℕ) (f : ℕ → A) (l : List A) (d : A) (k : ℕ) → take w l ≡ tab w f → k < w → get_or l k d ≡ f k
entry w f l d k e h = sym (get_or-take w l k d h) ∙ ap (λ (t : List _). get_or t k d) e ∙ get_or_tab w f d k h

-- a cell of a plan, where the table has the Sun's unit at its time
pub cell_violates : (p : Plan) (rolls : List Float) (units : List Vector) (i k : ℕ) → get_or units (i % length units) [] ≡ sun_at p (i % times_of p)
    → violates_by p.targets (times_of p) units p.tolerances p.configured p.panels i (sample_roll rolls p.configured k)
    ≡ violates_at p (i / times_of p) (i % times_of p) (get_or rolls k nan)
unfolding violates_by violates_at cell_of
cell_violates p rolls units i k e = rw (e, roll_shared)

-- by a table of the Sun's units of all times
pub unit_of_time : (p : Plan) (units : List Vector) (i : ℕ) → 0 < times_of p → units ≡ tab (times_of p) (sun_at p) → get_or units (i % length units) [] ≡ sun_at p (i % times_of p)
unit_of_time p units i some e =
    let times : ℕ = times_of p in
    let size : length units ≡ times = ap length e ∙ length_tab times (sun_at p) in
    ap₂ (λ (l : List Vector) (n : ℕ). get_or l (i % n) []) e size ∙ get_or_tab times (sun_at p) [] (i % times) (mod-lt i some)

-- by a table of the Sun's units of chunk c's first w cells
pub unit_of_cell : (p : Plan) (units : List Vector) (c w k : ℕ) → w ≤ 64 → length units ≡ 64 → take w units ≡ tab w (λ j. sun_at p ((64 * c + j) % times_of p)) → k < w
    → get_or units ((64 * c + k) % length units) [] ≡ sun_at p ((64 * c + k) % times_of p)
unit_of_cell p units c w k few size e h =
    let place : (64 * c + k) % length units ≡ k = ap (λ (n : ℕ). (64 * c + k) % n) size ∙ omega arith in
    ap (λ (n : ℕ). get_or units n []) place ∙ entry w (λ j. sun_at p ((64 * c + j) % times_of p)) units [] k e h

-- m cells, from the k-th of those from number first on, that lie in one row, and their Sun's units one after the other in the table
pub row_swept : (targets tolerances : List Float) (configured : Option Float) (panels rolls : List Float) (units : List Vector) (times first k m w : ℕ) → w ≡ m
    → (first + k) % times + m ≤ times → (first + k) % length units + m ≤ length units
    → let r : ℕ = (first + k) / times in
    let config : SolarRollConfig = row_config tolerances configured panels r in
    let part : List Vector = take w (drop ((first + k) % length units) units) in
    swept_by (length part) (length rolls) (λ j s. violates (roll_in (body_axes (row_direction targets r)) (get_or part j []) (panel_of config.panel_normal)) (get_or rolls s nan) config.tolerance_deg)
    ≡ swept_by m (length rolls) (λ j s. violates_by targets times units tolerances configured panels (first + (k + j)) (get_or rolls s nan))
unfolding violates_by
row_swept targets tolerances configured panels rolls units times first k m w e a b =
    let L : ℕ = length units in
    let i : ℕ = first + k in
    let start : ℕ = i % L in
    let part : List Vector = take w (drop start units) in
    let config : ℕ → SolarRollConfig = row_config tolerances configured panels in
    let at : ℕ → Vector → ℕ → Bool = λ r unit s. violates (roll_in (body_axes (row_direction targets r)) unit (panel_of (config r).panel_normal)) (get_or rolls s nan) (config r).tolerance_deg in
    let size : length part ≡ m = length-take-le w (drop start units) (omega (arith, length-drop start units)) ∙ e in
    ap (λ (n : ℕ). swept_by n (length rolls) (λ j. at (i / times) (get_or part j []))) size
    ∙ swept_ext m (length rolls) (λ j. at (i / times) (get_or part j [])) (λ j. at ((first + (k + j)) / times) (get_or units ((first + (k + j)) % L) []))
    (λ j s h g.
    let in_row : first + (k + j) ≡ i / times * times + (i % times + j) = omega (arith, div-add-mod' i times) in
    let row : (first + (k + j)) / times ≡ i / times = ap (λ (n : ℕ). n / times) in_row ∙ cell_row times (i / times) (i % times + j) (omega arith) in
    let in_table : first + (k + j) ≡ i / L * L + (start + j) = omega (arith, div-add-mod' i L) in
    let place : (first + (k + j)) % L ≡ start + j = ap (λ (n : ℕ). n % L) in_table ∙ cell_time L (i / L) (start + j) (omega arith) in
    let unit : get_or part j [] ≡ get_or units (start + j) [] = get_or-take w (drop start units) j [] (omega arith) ∙ get_or-drop start units j [] in
    ap₂ (λ (r : ℕ) (x : Vector). at r x s) (sym row) (unit ∙ ap (λ (n : ℕ). get_or units n []) (sym place)))

-- a configured roll stands for every sample; without one a sample is in force itself
pub configured_same : (configured : Option Float) (c : Float) (rolls : List Float) (k : ℕ) → configured ≡ Some c → sample_roll rolls configured k ≡ c
unfolding in_force
configured_same configured c rolls k e = rw e

pub unconfigured : (configured : Option Float) (rolls : List Float) (k : ℕ) → configured ≡ None → sample_roll rolls configured k ≡ get_or rolls k nan
unfolding in_force
unconfigured configured rolls k e = rw e
