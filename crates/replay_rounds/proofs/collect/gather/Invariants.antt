use Rattle.std.proofs.Common.{◌≡◌, map}
use Rattle.replay_rounds.proofs.collect.gather.Given as goal

abbrev pub invariant-loop-round : goal.invariant-loop-round
invariant-loop-round l = record {
  answers : l.answers.items ≡ l.initial.answers.items;
  batches : l.batches.items ≡ map (λ part. part.batch) l.yielded;
  departures : map (λ v. v.items) l.departures.items ≡ map (λ part. part.departures) l.yielded;
}
