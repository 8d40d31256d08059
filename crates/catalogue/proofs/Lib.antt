-- For a reader: that accepted positions give directions (Directions), that sine and cosine lie on the circle (SineCosine), and vectors by computation (Examples).
-- The rest: what is known of an accepted call (Facts), the numbers that its loop stores (Numbers), what products and sums of floats are off by (Near, Rounding), both
-- series (Alternating, by Horner's rule; Polynomial; Circle), the vector of two angles (UnitVector).
pub mod Directions
pub mod Examples
pub mod Facts
pub mod Numbers
pub mod SineCosine
pub mod UnitVector
mod Alternating
mod Circle
mod Near
mod Polynomial
mod Rounding
