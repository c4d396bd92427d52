pub mod ConvertLaws
pub mod DoneLaws
pub mod RefusedLaws
pub mod Theorems
