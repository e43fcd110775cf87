mod CursorLemmas
mod WriteLemmas
