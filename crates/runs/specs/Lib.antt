pub mod Calls
pub mod Alike
pub mod Tally
pub mod Secrecy
pub mod Sound
pub mod CodeRuns
pub mod Starred
pub mod Conversion
