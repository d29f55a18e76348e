pub mod Rows
pub mod Known
pub mod Formula
pub mod Expression
pub mod Schemas
pub mod Timed
pub mod Views
