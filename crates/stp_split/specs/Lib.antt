pub mod Cases
pub mod Judged
pub mod Known
pub mod Laws
