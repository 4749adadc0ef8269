use Rattle.std.proofs.Common.{◌≡◌, ◌==◌, ◌&&◌, ◌/◌, ◌%◌, ℕ, Bool, true, cond, get_or, sym, ap, ◌∙◌}
use Rattle.std.specs.Int.{bit_at}
use Rattle.std.proofs.lemmas.Bool.{eqb-true}
use Rattle.list_facts.specs.Bits.{names_place}
use Rattle.greedy_rules.specs.Senders.{is_sender}
use Rattle.greedy_rules.proofs.SenderLemmas.{word_more}
use Rattle.greedy_rules.proofs.senders.Senders.set_words.Goals as goal

pub loop-word-preserved : goal.loop-word-preserved
loop-word-preserved c =
    let was = c.loop-word.invariant in
    let words = c.args.words.now in
    let word : ℕ = c.loop-word.word in
    record {
      each = (c.set_word.ensures.words (c.requires.slot).0 (c.requires.slot).1 (was.words (c.requires.slot).0 (c.requires.slot).1 (c.requires.slot).2)).each ∙ sym (c.requires.slot).2.each;
      words = λ slots endpoints are. c.set_word.ensures.words slots endpoints (was.words slots endpoints are);
      set = λ at src.
          let here : Bool = at == c.args.slot in
          let now : Bool = bit_at c.word_at.result (src % 64) == 1 in
          let is : ((src / 64) == word) ≡ true → now ≡ names_place words src = λ same.
          ap (λ (n : ℕ). bit_at n (src % 64) == 1) (c.word_at.ensures ∙ ap (λ (n : ℕ). get_or words n 0) (sym (eqb-true (src / 64) word same))) in
          c.set_word.ensures.set at src
          ∙ (ap (λ (b : Bool). cond (here && (src / 64 == word)) now b) (was.set at src)
          ∙ word_more here (names_place words src) (is_sender c.args.self.now at src) now (src / 64) word is);
    }
