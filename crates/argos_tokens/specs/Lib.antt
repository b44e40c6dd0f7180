pub mod Lexing
pub mod TokenViews
pub mod Tokens
