pub mod Units
pub mod Lent
pub mod Connections
pub mod Bench
