pub mod KernelLemmas
