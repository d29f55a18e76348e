mod Going
mod Choices
mod Sections
mod ProblemSections
pub mod Steps
mod TypedLists
