pub mod Lines
pub mod Threads
pub mod Tracing
pub mod Transcripts
pub mod Verdicts
