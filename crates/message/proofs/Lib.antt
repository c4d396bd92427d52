pub mod BodyLaws
pub mod ReadableLaws
pub mod WrittenLaws
pub mod Examples
