pub mod Rewritten
pub mod Fitting
pub mod Dated
pub mod Validity
pub mod Numbering
