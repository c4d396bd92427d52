pub mod Conversion
