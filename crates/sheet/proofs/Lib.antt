pub mod InputLaws
pub mod RowLaws
pub mod StreamLaws
pub mod Theorems
