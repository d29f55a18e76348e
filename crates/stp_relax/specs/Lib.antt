pub mod Literals
pub mod Judged
pub mod Taken
pub mod Seen
pub mod Reached
pub mod Watched
pub mod Unreachable
