-- Laws of the journal's text, of its lines, of the pass over them, of equal tolerances, and of tables of rolls; and digits, lines and right journals by computation (Examples).
pub mod Text
pub mod Write
pub mod Possible
pub mod Scan
pub mod Cells
pub mod Chains
pub mod Written
pub mod Appended
pub mod Along
pub mod Planned
pub mod Tolerances
pub mod EvenTable
pub mod Examples
