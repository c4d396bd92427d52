pub mod HeaderLaws
pub mod WriteLaws
pub mod TestLaws
pub mod UnitLaws
pub mod BuiltLaws
pub mod Theorems
