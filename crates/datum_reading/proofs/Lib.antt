mod BranchSteps
mod ItemSteps
mod BlockSteps
mod Passing
mod SpelledNumber
mod SpelledBytes
mod SpelledItems
mod SpelledBlock
mod SpelledList
mod SpelledParts
pub mod SpelledDatum
mod DatumLaws
pub mod Compacting
mod KnownLemmas
