pub mod Table
pub mod Steps
pub mod Parts
pub mod Claims
