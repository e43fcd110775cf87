mod LabelLemmas
mod PlaceLemmas
