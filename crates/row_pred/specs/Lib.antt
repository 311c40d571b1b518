pub mod Refusal
pub mod Cell
pub mod Cells
pub mod CellLaws
pub mod CellsLaws
pub mod FitLaws
