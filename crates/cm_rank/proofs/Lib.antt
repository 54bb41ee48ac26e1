mod RankLemmas
mod WordLemmas
