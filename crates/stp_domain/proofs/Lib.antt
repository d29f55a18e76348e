mod Lists
mod Phases
mod Found
mod Placing
mod Members
mod Typed
mod Constants
