pub mod Footprints
pub mod Expanded
pub mod Laws
pub mod Views
