pub mod Edit
pub mod Worked
