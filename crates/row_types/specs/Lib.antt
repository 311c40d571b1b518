pub mod KindWord
pub mod CellRef
pub mod RowMap
pub mod Columns
pub mod Fits
pub mod ColumnsLaws
pub mod KindWordLaws
pub mod FitsLaws
