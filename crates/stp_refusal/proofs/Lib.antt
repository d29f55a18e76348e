pub mod Reading
mod Least
pub mod Gathering
pub mod Saying
