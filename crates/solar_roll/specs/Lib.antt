-- The definitions that the contracts of `solar_roll` cite: section 2 of document 01, the plan and its refusals; and section 2's sentences as one record.
pub mod Vectors
pub mod Roll
pub mod Cell
pub mod Plan
pub mod Section2
