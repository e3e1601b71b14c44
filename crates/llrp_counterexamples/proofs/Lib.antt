pub mod Counterexamples
