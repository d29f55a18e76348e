pub mod Scopes
pub mod Found
pub mod TypedTerms
pub mod Then
pub mod ReadingConditions
pub mod TypedConditions
mod ReadingTimedConditions
mod TypedTimedConditions
