pub mod TellLaws
pub mod Theorems
