pub mod ErrorsStop
