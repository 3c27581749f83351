pub mod NamesFaults
pub mod Naming
pub mod Numbers
pub mod Renaming
pub mod RenamingLaws
