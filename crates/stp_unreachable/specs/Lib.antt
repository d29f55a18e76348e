pub mod PlansOf
pub mod Premises
