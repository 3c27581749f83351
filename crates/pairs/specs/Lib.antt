pub mod Answers
pub mod Asking
pub mod Meetings
pub mod Writing
