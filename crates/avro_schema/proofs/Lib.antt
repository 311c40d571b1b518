pub mod SeenLaws
pub mod ItemLaws
pub mod TextLaws
mod Puts
mod TakenLaws
mod IdLaws
mod WrittenParts
mod Known
mod KnownLeaves
mod KnownNamed
mod KnownArrays
mod KnownMaps
mod KnownUnions
mod KnownFields
mod KnownRecords
mod PrintedAgain
pub mod Steps
pub mod MemberLaws
pub mod PrimitiveLaws
pub mod PartLaws
pub mod MeansPart
pub mod Found
pub mod FoundBranches
pub mod FoundFields
pub mod FoundObject
pub mod MeansFound
pub mod Only
pub mod OnlyBranches
pub mod OnlyFields
pub mod OnlyObject
pub mod MeansOnly
pub mod TextMeaning
pub mod MeansText
