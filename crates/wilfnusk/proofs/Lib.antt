-- What C reads (Accepted; by computation Examples).
pub mod Accepted
pub mod Examples
