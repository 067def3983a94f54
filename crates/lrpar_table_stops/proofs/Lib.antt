pub mod MetLemmas
pub mod StopLemmas
pub mod RunLemmas
