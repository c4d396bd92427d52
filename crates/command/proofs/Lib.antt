pub mod ReadLaws
pub mod WorkLaws
