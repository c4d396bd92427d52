pub mod BoolLaws
pub mod PartLaws
pub mod NumberLaws
pub mod SpliceLaws
pub mod WordLaws
