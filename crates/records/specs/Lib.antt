pub mod Record
pub mod MeansLaws
