mod FaultLemmas
mod ColumnsLemmas
mod RowMapLemmas
