pub mod Stepping
pub mod Tracing
pub mod Walking
pub mod Answering
pub mod Finding
