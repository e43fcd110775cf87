mod CallLemmas
mod DatabaseLemmas
mod OpenerLemmas
