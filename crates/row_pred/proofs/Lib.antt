mod CellLemmas
mod CellsLemmas
