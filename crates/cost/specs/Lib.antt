-- The definitions that the contracts of `cost` cite: document 02's request Four.
pub mod Cost
pub mod Foretold
