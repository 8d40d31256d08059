-- Section 4: the journal's text, when a journal is right, and what begin, work, work over a range, recover and
-- collect answer and leave, over even steps or a lent table (document 02, Five); and plans of one tolerance (Two).
pub mod Hex
pub mod Lines
pub mod Right
pub mod Calls
pub mod Range
pub mod Pass
pub mod Header
pub mod Plan
pub mod Tolerances
