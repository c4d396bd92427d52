pub mod Bits
pub mod Tables
pub mod Des
pub mod Words
pub mod Claims
