-- Laws of specs/; and masks, rows, fields of regard and named values by computation (Examples).
pub mod Blocks
pub mod Calls
pub mod Examples
pub mod NamedValues
pub mod Shared
pub mod Tiles
pub mod Tolerances
