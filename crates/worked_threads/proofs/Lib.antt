pub mod Entries
pub mod Pairs
pub mod Summing
pub mod Tests
pub mod Worked
