pub mod Happenings
pub mod RewrittenTasks
pub mod Counts
pub mod Refusals
pub mod Views
pub mod Ends
pub mod Rows
pub mod Rewriters
