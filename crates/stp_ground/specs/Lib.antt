pub mod Problems
pub mod Marks
pub mod Typing
pub mod Worlds
pub mod Chosen
pub mod Views
pub mod Ground
