pub mod Divisors
pub mod Fractions
pub mod Decimals
pub mod Lowest
pub mod Reading
pub mod Spellings
pub mod Counts
pub mod Values
mod Zero
