mod AddressLemmas
mod CutLemmas
mod FieldLemmas
mod FileLemmas
mod LineLemmas
mod RowLemmas
mod RelativeLemmas
