pub mod Refusal
pub mod Word
pub mod Number
pub mod Plain
pub mod Literal
pub mod HexLiteral
pub mod Many
pub mod Decimal
pub mod WordLaws
pub mod ChoiceLaws
mod NumberTexts
pub mod NumberLaws
mod LiteralTexts
pub mod LiteralLaws
mod HexTexts
mod HexFits
pub mod HexLaws
pub mod ManyLaws
