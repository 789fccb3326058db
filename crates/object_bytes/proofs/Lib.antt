mod HeaderLemmas
mod LoopLemmas
mod NumberLemmas
mod ObjectLemmas
mod ProgramLemmas
mod RecordLemmas
mod RowsBytes
