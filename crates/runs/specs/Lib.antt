pub mod Calls
pub mod Obeying
pub mod Rules
pub mod Running
pub mod Scripts
