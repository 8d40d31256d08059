-- Section 3: the sweep over rolls, and its chunks; and a lent table of rolls (document 02, Five).
pub mod Sweep
pub mod Rolls
pub mod Chunk
