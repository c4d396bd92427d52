pub mod LinearLaws
pub mod JoinedLaws
pub mod ChoiceLaws
pub mod InsideLaws
pub mod Theorems
