pub mod LineLaws
pub mod TaskLaws
pub mod TextLaws
pub mod TraceLaws
pub mod VerdictLaws
