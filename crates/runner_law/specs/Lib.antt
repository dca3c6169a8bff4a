pub mod RunnerLaw
