mod PassingLemmas
