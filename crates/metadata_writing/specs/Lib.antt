pub mod Printing
pub mod AgainLaws
pub mod PlainLaws
pub mod TextLaws
pub mod PremiseLaws
