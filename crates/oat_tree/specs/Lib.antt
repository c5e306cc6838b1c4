pub mod Levels
pub mod Rules
pub mod Scopes
pub mod Seen
pub mod Sizes
pub mod Syntax
