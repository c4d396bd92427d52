pub mod Layout
pub mod Store
pub mod Search
pub mod Request
pub mod WellFormed
pub mod Claims
pub mod Slots
