pub mod Sessions
pub mod Rules
pub mod Parts
pub mod Claims
