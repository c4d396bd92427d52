pub mod Header
pub mod Body
pub mod Written
pub mod Claims
