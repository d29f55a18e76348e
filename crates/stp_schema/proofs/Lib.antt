pub mod Equations
pub mod Below
