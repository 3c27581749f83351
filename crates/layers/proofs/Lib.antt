pub mod EachOnce
pub mod Renaming
pub mod Setting
