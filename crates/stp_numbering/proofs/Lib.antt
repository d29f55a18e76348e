pub mod RenamedStates
pub mod Renaming
pub mod RenamedBoxes
