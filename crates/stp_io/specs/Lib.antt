pub mod Calls
pub mod Named
pub mod Sink
pub mod Steady
pub mod Store
