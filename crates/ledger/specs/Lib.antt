-- Section 4: the machine of begin, work, cut, recover and collect, the ledger that it is compared with, demand 3 with its windows, a sweep that
-- was split, and work over a range.
pub mod Machine
pub mod Ledger
pub mod Windows
pub mod Demand3
pub mod Split
pub mod Range
