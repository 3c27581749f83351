pub mod Threads
pub mod Worked
