-- Demand 3 and what it rests on. Demand3 has the theorem, Foretold the lengths and counts of document 02's request Four, Examples document 01's starred examples,
-- Journal its journal.
pub mod PlanSweep
pub mod Chunks
pub mod Written
pub mod Known
pub mod Simulation
pub mod Range
pub mod Theorem
pub mod Split
pub mod Windows
pub mod Demand3
pub mod Foretold
pub mod Examples
pub mod Journal
