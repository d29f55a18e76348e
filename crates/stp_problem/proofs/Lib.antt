pub mod Counts
pub mod Leading
pub mod Left
pub mod Moving
pub mod Cuts
pub mod Members
pub mod AllBindings
pub mod First
pub mod Values
pub mod Valued
pub mod Named
pub mod Called
pub mod Going
pub mod Typed
pub mod Once
pub mod TypedEvents
pub mod Latest
pub mod Putting
pub mod Orders
pub mod Sorted
pub mod AllTimes
pub mod Lawful
mod Phases
mod TooLarge
mod TypedObjects
mod Accepting
mod Constants
pub mod Reading
