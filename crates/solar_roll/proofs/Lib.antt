-- Laws of specs/: what is known of an accepted plan (PlanFacts), a cell from its shared parts (Cells), the values of the constants (Constants), the
-- sentences of section 2 (Section2), from the range of the difference (Difference) and of the folded roll (Folding) and the optimal roll's size (Finite);
-- and folds, cells and directions by computation (Examples).
pub mod PlanFacts
pub mod Cells
pub mod Constants
pub mod Difference
pub mod Folding
pub mod Finite
pub mod Section2
pub mod Examples
