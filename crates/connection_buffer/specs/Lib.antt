pub mod ConnectionBuffer
pub mod Claims
