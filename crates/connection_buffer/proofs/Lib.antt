pub mod BufferLaws
pub mod LengthLaws
pub mod TellLaws
pub mod FitLaws
pub mod Theorems
