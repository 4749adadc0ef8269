use Rattle.std.proofs.Common.{sym, inl, inr}
use Rattle.window_allocation.proofs.end_words.EndWords.add.Goals as goal

pub returns-clause-ahead : goal.returns-clause-ahead
returns-clause-ahead c = λ b all ahead was goes earliest. record {
  sources = λ src at is. elim (c.add_slots.ensures.named src at is) [
    | inl named ↦ was.sources src at named
    | inr new ↦ (c.args.flow, sym new.0, earliest at new.1, goes)
  ];
  destinations = λ dst at is. elim (c.add_slots-2.ensures.named dst at is) [
    | inl named ↦ was.destinations dst at named
    | inr new ↦ (c.args.flow, sym new.0, earliest at new.1, goes)
  ];
}
