pub mod CNumbers
