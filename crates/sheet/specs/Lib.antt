pub mod Input
pub mod Row
pub mod Report
pub mod Claims
