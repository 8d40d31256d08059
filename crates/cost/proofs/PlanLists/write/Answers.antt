-- `PlanLists::write` meets its contract: each list is a pattern over and over. Assumes nothing.
use lib.Dec.{lit<}
use Rattle.cost.specs.Cost.{plan_of_size, plan_lists, plan_over}
use Rattle.cost.proofs.Facts.{rooms}
use Rattle.cost.proofs.PlanLists.write.Goals as goal

pub write_repeated-requires : goal.write_repeated-requires
write_repeated-requires c = (lit< tt, (rooms _ _ _ _ _ _ _ c.requires.2).directions_room)

pub write_repeated-requires-2 : goal.write_repeated-requires-2
write_repeated-requires-2 c = (lit< tt, (rooms _ _ _ _ _ _ _ c.requires.2).suns_room)

pub write_repeated-requires-3 : goal.write_repeated-requires-3
write_repeated-requires-3 c = (lit< tt, (rooms _ _ _ _ _ _ _ c.requires.2).observers_room)

pub write_repeated-requires-4 : goal.write_repeated-requires-4
write_repeated-requires-4 c = (lit< tt, (rooms _ _ _ _ _ _ _ c.requires.2).tolerances_room)

pub write_repeated-requires-5 : goal.write_repeated-requires-5
write_repeated-requires-5 c = (lit< tt, (rooms _ _ _ _ _ _ _ c.requires.2).panel_room)

pub returns-clause-value : goal.returns-clause-value
unfolding plan_of_size plan_over
returns-clause-value c = (λ i. plan_lists
    (c.write_repeated.ensures i)
    (c.write_repeated-2.ensures i)
    (c.write_repeated-3.ensures i)
    (c.write_repeated-4.ensures i)
    (c.write_repeated-5.ensures i))
