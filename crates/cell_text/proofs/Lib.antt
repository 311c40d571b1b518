pub mod PutLemmas
pub mod TextLemmas
pub mod DigitLemmas
