mod RankLemmas
