pub mod Codes
pub mod First
pub mod Read
pub mod Phases
pub mod Laws
pub mod Gathering
