pub mod DigitLaws
pub mod HexLaws
pub mod WordLaws
pub mod OrderLaws
pub mod Theorems
