-- The definitions that the contracts of `solar_masks` cite: masks, one row, the field of regard (sections 2, 5 and 6 of document 01). Tolerances: that each
-- row uses its own (document 02, Two).
pub mod Mask
pub mod Row
pub mod Field
pub mod Tolerances
