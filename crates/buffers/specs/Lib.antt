-- The words that every specification above this crate uses, each said once.
pub mod Ranges
pub mod Lent
pub mod Refusal
pub mod Rows
