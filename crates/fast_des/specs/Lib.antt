pub mod Networks
pub mod Joined
pub mod Inside
pub mod Claims
