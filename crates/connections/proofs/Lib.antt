pub mod TrackLaws
pub mod RunLaws
pub mod SideLaws
pub mod Theorems
pub mod Examples
