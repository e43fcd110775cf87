mod CellLemmas
mod ShellLemmas
