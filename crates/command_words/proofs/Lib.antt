pub mod PhaseWordLemmas
