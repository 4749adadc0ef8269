use Rattle.std.proofs.Common.{◌≡◌, ◌==◌, ℕ, cond}
use Rattle.greedy_rules.specs.Senders.{is_sender, HasSenderWords}
use Rattle.greedy_rules.proofs.SenderLemmas.{noted_below}
use Rattle.greedy_rules.proofs.senders.Senders.note.Given as goal

abbrev pub invariant-loop-src : goal.invariant-loop-src
invariant-loop-src l = record {
  words : (slots endpoints : ℕ) → HasSenderWords slots endpoints l.fn.self → HasSenderWords slots endpoints l.self;
  noted : (at other : ℕ) → is_sender l.self at other ≡ cond (at == l.slot) (noted_below l.row l.src other) (is_sender l.fn.self at other);
}
