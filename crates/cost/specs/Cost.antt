-- Document 02's request Four: what a plan of a size costs, and a plan of that size that costs most, and one that costs least. A size is the number of targets, of times, and n,
-- the number of rolls; the plans that are written are swept over even ones. Definitions only. Assumes nothing.
use Rattle.std.specs.Prelude.{Bool, ◌||◌, List, [], ◌∷◌, ℕ, ◌+◌, ◌*◌, ◌%◌, ltb, length, get_or, Float, None, ◌≡◌}
use Rattle.std.specs.Float.{nan}
use Rattle.std.specs.Float.Ieee.{neg}
use Rattle.buffers.specs.Ranges.{tab}
use Rattle.buffers.specs.Lent.{over}
use Rattle.buffers.specs.Refusal.{first, carried, Reply, reply, unless_refused}
use Rattle.float.specs.Arithmetic.{zero·0, one, half_turn}
use Rattle.solar_roll.specs.Vectors.{vector}
use Rattle.solar_roll.specs.Plan.{Plan, plan_of, too_many, samples_refusal}
use Rattle.roll_sweep.specs.Sweep.{chunks}
use Rattle.journal.specs.Lines.{header_length, line_length}
use Rattle.cost.specs.declared.PlanLists.{PlanLists as LentLists}

-- ---- the cost

-- "the journal's exact length, 107 + 33 times the chunks": the header, and a line a chunk
unfoldable pub journal_length : ℕ → ℕ → ℕ
journal_length targets times = header_length + line_length * chunks (targets * times)

-- "the fewest and most probes, cells and n times cells"
abbrev pub fewest_probes : ℕ → ℕ → ℕ
fewest_probes targets times = targets * times

abbrev pub most_probes : ℕ → ℕ → ℕ → ℕ
most_probes targets times n = n * (targets * times)

-- what is refused of a size, 0 for none: 2, 3, and 7 where a lent list is short
unfoldable pub size_refusal : ℕ → ℕ → ℕ → Bool → ℕ
size_refusal targets times n short =
    first ((too_many targets times, 2)
    ∷ carried (samples_refusal n)
    ∷ (short, 7)
    ∷ [])

-- of the call: its refusal, where `room` is the length of the lent list; its answer; and what is left in that list, the length, the fewest probes and the most
unfoldable pub cost_refusal : ℕ → ℕ → ℕ → ℕ → ℕ
cost_refusal targets times n room = size_refusal targets times n (ltb room 3)

unfoldable pub cost_reply : ℕ → ℕ → ℕ → ℕ → Reply ℕ
cost_reply targets times n room = reply (cost_refusal targets times n room) 0

unfoldable pub cost_after : ℕ → ℕ → ℕ → List ℕ → List ℕ
cost_after targets times n out =
    let numbers : List ℕ = journal_length targets times ∷ fewest_probes targets times ∷ most_probes targets times n ∷ [] in
    unless_refused (cost_refusal targets times n (length out)) (over numbers out) out

-- ---- the two plans

-- the numbers of a pattern over and over, so many in all
unfoldable pub repeated : ℕ → List Float → List Float
repeated places pattern = tab places (λ k. get_or pattern (k % length pattern) nan)

-- "each target is [1,0,0], each Sun [0,1,0], each observer [0,0,0], the panel [0,1,0], and no roll is configured", every tolerance the same
unfoldable pub plan_of_size : ℕ → ℕ → Float → Plan
plan_of_size targets times tolerance =
    plan_of
    (repeated (3 * targets) (vector one zero·0 zero·0))
    (repeated (3 * times) (vector zero·0 one zero·0))
    (repeated (3 * times) (vector zero·0 zero·0 zero·0))
    (repeated targets (tolerance ∷ []))
    None
    (repeated 3 (vector zero·0 one zero·0))

-- "Every tolerance is -1 in the first and 180 in the second"
abbrev pub costliest_tolerance : Float
costliest_tolerance = neg one

abbrev pub cheapest_tolerance : Float
cheapest_tolerance = half_turn

abbrev pub costliest_plan : ℕ → ℕ → Plan
costliest_plan targets times = plan_of_size targets times costliest_tolerance

abbrev pub cheapest_plan : ℕ → ℕ → Plan
cheapest_plan targets times = plan_of_size targets times cheapest_tolerance

-- ---- the calls that write them

-- the lists that a plan is written into, in the order in which a call is lent them
pub record PlanLists : Type 0 where
  pub targets : List Float
  pub suns : List Float
  pub observers : List Float
  pub tolerances : List Float
  pub panel : List Float

abbrev pub plan_lists : List Float → List Float → List Float → List Float → List Float → PlanLists
plan_lists targets suns observers tolerances panel =
    record { targets = targets; suns = suns; observers = observers; tolerances = tolerances; panel = panel }

-- what the struct holds that a call is lent; and that it borrows the same lists after a call as before
abbrev pub lent : LentLists → PlanLists
lent l = plan_lists l.targets.now l.suns.now l.observers.now l.tolerances.now l.panel.now

abbrev pub same_lists : LentLists → LentLists → Type 0
same_lists a b =
    (b.targets.ghost_name ≡ a.targets.ghost_name)
    × (b.suns.ghost_name ≡ a.suns.ghost_name)
    × (b.observers.ghost_name ≡ a.observers.ghost_name)
    × (b.tolerances.ghost_name ≡ a.tolerances.ghost_name)
    × (b.panel.ghost_name ≡ a.panel.ghost_name)

-- each of the plan's lists over the first places of a lent one; the places beyond stay
unfoldable pub plan_over : Plan → PlanLists → PlanLists
plan_over p l =
    plan_lists (over p.targets l.targets) (over p.suns l.suns) (over p.observers l.observers) (over p.tolerances l.tolerances) (over p.panels l.panel)

-- 7, of the lent lists' lengths in that order
unfoldable pub plan_short : ℕ → ℕ → ℕ → ℕ → ℕ → ℕ → ℕ → Bool
plan_short targets times directions suns observers tolerances panel =
    ltb directions (3 * targets) || (ltb suns (3 * times) || (ltb observers (3 * times) || (ltb tolerances targets || ltb panel 3)))

-- what such a call refuses, its answer, and what is left in the lists
unfoldable pub writing_refusal : ℕ → ℕ → ℕ → PlanLists → ℕ
writing_refusal targets times n l =
    size_refusal targets times n (plan_short targets times (length l.targets) (length l.suns) (length l.observers) (length l.tolerances) (length l.panel))

unfoldable pub writing_reply : ℕ → ℕ → ℕ → PlanLists → Reply ℕ
writing_reply targets times n l = reply (writing_refusal targets times n l) 0

unfoldable pub plan_written : ℕ → ℕ → ℕ → Float → PlanLists → PlanLists
plan_written targets times n tolerance l = unless_refused (writing_refusal targets times n l) (plan_over (plan_of_size targets times tolerance) l) l
