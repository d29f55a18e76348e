pub mod Judging
pub mod Going
pub mod Slices
pub mod Numbering
pub mod Tabling
