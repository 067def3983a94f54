pub mod OptionsLemmas
