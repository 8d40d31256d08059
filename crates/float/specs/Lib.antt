-- The definitions that the contracts of `float` cite: section 1 of document 01, what nearest means, the steps of the root's code, and document 02's sine and cosine.
pub mod Root
pub mod RootSteps
pub mod Nearest
pub mod Arithmetic
pub mod Series
pub mod Arctangent
pub mod Trigonometry
