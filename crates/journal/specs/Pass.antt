-- What the pass over a journal answers and leaves in its tables, and what is known once a plan has passed: for the contracts of private functions. When a
-- journal is right is said in `Right`. Definitions only. Assumes nothing.
use Rattle.std.specs.Prelude.{◌≡◌, Bool, true, false, List, ℕ, ◌≤◌, ◌<◌, ltb, length, get_or, replicate, Option, Some, None}
use Rattle.solar_roll.specs.Plan.{most_cells, most_samples}
use Rattle.roll_sweep.specs.Sweep.{Sweep, cells}
use Rattle.journal.specs.Lines.{header_length, has_chunk, held_mask}
use Rattle.journal.specs.Right.{whole_lines, torn}
use Rattle.journal.specs.Calls.{wrong}
use Rattle.journal.specs.declared.plan.PassedPlan.{PassedPlan}

-- the answer: the sum of probes of a journal that is right
abbrev pub checked_of : Bool → ℕ → Option ℕ
checked_of true p = Some p
checked_of false p = None

-- how many chunks a plan can have, so how long the tables are: 1,048,576 cells make 16,384
abbrev pub most_chunks : ℕ
most_chunks = 16384

-- the flags after l lines, for each chunk: whether one of them is its
pub record Flags (b : List ℕ) (l : ℕ) (seen : List Bool) : Type 0 where
  pub count : length seen ≡ most_chunks
  pub chunk : (c : ℕ) → c < most_chunks → get_or seen c false ≡ has_chunk b l c

-- and with them the mask that the lines hold for each chunk
pub record Tables (b : List ℕ) (l : ℕ) (seen : List Bool) (masks : List ℕ) : Type 0 where
  pub flags : Flags b l seen
  pub words : length masks ≡ most_chunks
  pub mask : (c : ℕ) → c < most_chunks → get_or masks c 0 ≡ held_mask b l c

-- the tables before a line was read
pub record Blank (seen : List Bool) (masks : List ℕ) : Type 0 where
  pub no_flag : seen ≡ replicate most_chunks false
  pub no_mask : masks ≡ replicate most_chunks 0

-- the sizes of a plan that has passed
pub record Sizes (p : PassedPlan) : Type 0 where
  pub header : length p.header ≡ header_length
  pub few : p.cells ≤ most_cells
  pub most : p.samples ≤ most_samples

-- and of a journal b of which u bytes are used
pub record Bounded (p : PassedPlan) (b : List ℕ) (u : ℕ) : Type 0 where
  pub sizes : Sizes p
  pub used : u ≤ length b

-- the sweep s of a plan that has passed, for a journal of `room` bytes of which u are used
pub record Passed (s : Sweep) (p : PassedPlan) (room u : ℕ) : Type 0 where
  pub plan : s.refusal (ltb room u) ≡ 0
  pub all : cells s ≡ p.cells
  pub samples : s.samples ≡ p.samples
  pub header : s.header ≡ p.header
  pub sizes : Sizes p
  pub one : 1 ≤ p.samples
  pub used : u ≤ room

-- a journal to which lines may be appended: of work's refusals all but 9, 10 and 7 have passed, and the tables are its lines'
pub record Ready (s : Sweep) (b : List ℕ) (u : ℕ) (seen : List Bool) (masks : List ℕ) : Type 0 where
  pub plan : s.refusal (ltb (length b) u) ≡ 0
  pub one : 1 ≤ s.samples
  pub most : s.samples ≤ most_samples
  pub right : wrong s b u ≡ false
  pub whole : torn u ≡ false
  pub tables : Tables b (whole_lines u) seen masks
