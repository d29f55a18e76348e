pub mod Failing
pub mod Fronts
pub mod Places
