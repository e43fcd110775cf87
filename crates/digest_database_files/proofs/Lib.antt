mod OpenerLemmas
