pub mod Settled
pub mod Instances
pub mod Views
pub mod Counts
pub mod KeptTasks
pub mod Answers
