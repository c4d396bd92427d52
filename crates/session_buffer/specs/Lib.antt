pub mod SessionBuffer
pub mod Claims
