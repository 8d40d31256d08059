-- The laws of specs/, as loops and callers ask for them.
pub mod Words
pub mod Tried
pub mod Chunks
pub mod Rows
pub mod Even
pub mod SweptCells
pub mod Cells
pub mod ChunkFacts
pub mod Tables
pub mod EvenTable
