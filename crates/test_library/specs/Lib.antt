pub mod Few
pub mod FewLaws
pub mod Script
