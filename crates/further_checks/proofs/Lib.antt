mod FurtherLemmas
