pub mod Convert
pub mod Claims
