pub mod Trees
pub mod Rests
pub mod Queues
pub mod Expansions
pub mod Answers
