pub mod SettledValues
pub mod FoldedValues
pub mod ByNext
pub mod CutCounts
pub mod NumberedInstances
pub mod TaskTimes
pub mod MadeTasks
