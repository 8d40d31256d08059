-- Laws of section 1's arithmetic, and of document 02's sine and cosine.
-- For callers: Nearest (what the root is), Steps (the root as three steps), Bounds and Angle (sizes), Sign, Order (of any floats), Overflow (when a subtraction is finite), Remainder (by 360), Held (values that a format holds), Exact (sums of whole numbers), Dyadic (rounding beside a number of the format), Grid (`le_or_lt` of whole numbers), Examples.
-- For the root's own proofs: the rest of Grid, Guessed, Isqrt, Patterns, Rooted, Scaling. For the remainder's: Modulo. For the series: Coefficients. For the lists of angles: Blocks. For those of sine and cosine: Quadrants (the cases of q). What sine and cosine are as numbers is in catalogue: SineCosine.
pub mod Angle
pub mod Bounds
pub mod Dyadic
pub mod Examples
pub mod Exact
pub mod Grid
pub mod Held
pub mod Nearest
pub mod Order
pub mod Overflow
pub mod Remainder
pub mod Sign
pub mod Steps
mod Blocks
mod Coefficients
mod Guessed
mod Isqrt
mod Modulo
mod Patterns
mod Quadrants
mod Rooted
mod Scaling
