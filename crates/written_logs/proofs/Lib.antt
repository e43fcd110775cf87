mod ConvertLemmas
mod LawLemmas
mod RowLemmas
mod FormLemmas
mod TextLemmas
mod WriteLemmas
