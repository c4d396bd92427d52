pub mod Digits
pub mod Words
pub mod Fields
pub mod Connections
pub mod Orders
pub mod Claims
