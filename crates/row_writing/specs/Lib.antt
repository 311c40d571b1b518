pub mod Writing
pub mod RowBytes
pub mod Written
