pub mod Mac
pub mod Keys
pub mod Unit
pub mod Claims
