mod BitLemmas
