pub mod CountLaws
pub mod Theorems
