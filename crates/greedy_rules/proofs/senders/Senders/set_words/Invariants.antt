use Rattle.std.proofs.Common.{◌≡◌, ◌/◌, ◌==◌, ◌&&◌, ℕ, cond}
use Rattle.std.specs.Prelude.{nat_lt}
use Rattle.list_facts.specs.Bits.{names_place}
use Rattle.greedy_rules.specs.Senders.{is_sender, HasSenderWords}
use Rattle.greedy_rules.proofs.senders.Senders.set_words.Given as goal

abbrev pub invariant-loop-word : goal.invariant-loop-word
invariant-loop-word l = record {
  each : l.self.each ≡ l.fn.self.each;
  words : (slots endpoints : ℕ) → HasSenderWords slots endpoints l.fn.self → HasSenderWords slots endpoints l.self;
  set : (at src : ℕ) → is_sender l.self at src ≡ cond ((at == l.slot) && nat_lt (src / 64) l.word) (names_place l.words src) (is_sender l.fn.self at src);
}
