-- The laws of specs/, as loops and callers ask for them.
pub mod Tests
pub mod Ranges
pub mod Distinct
pub mod Lent
pub mod Refusals
pub mod Rows
