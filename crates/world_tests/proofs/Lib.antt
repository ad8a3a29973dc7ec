mod PlayingLemmas
