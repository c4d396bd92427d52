pub mod BenchLaws
