pub mod Divisors
pub mod Fractions
pub mod Reading
pub mod Laws
