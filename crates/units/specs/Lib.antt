pub mod Units
pub mod Claims
