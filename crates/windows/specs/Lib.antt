-- Section 5 of document 01: windows of a row. Runs, Windows, Refusal, Expand, Calls and Seconds are what the public contracts cite; Maximal is what
-- the theorems say of them; Steps is what the private functions say to one another.
pub mod Runs
pub mod Maximal
pub mod Windows
pub mod Refusal
pub mod Expand
pub mod Calls
pub mod Seconds
pub mod Steps
