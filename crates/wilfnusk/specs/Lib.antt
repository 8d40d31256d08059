-- What the C names' contracts cite beside the definitions of the calls themselves.
pub mod Answers
pub mod Plans
