use Rattle.std.proofs.Common.{◌==◌, ◌&&◌, ◌||◌, Bool, sym, ap, subst, ◌∙◌, arith}
use Rattle.greedy_rules.specs.declared.senders.Senders.{Senders}
use Rattle.greedy_rules.specs.Senders.{is_sender, HasSenderWords}
use Rattle.greedy_rules.proofs.SenderLemmas.{sender_noted, idle_passed}
use Rattle.greedy_rules.proofs.senders.Senders.note.Goals as goal
use Rattle.greedy_rules.proofs.senders.Senders.note.Goals.{then-is_some, else-is_some}

pub set-requires : goal.set-requires
set-requires c = (c.requires.0, c.requires.1, c.loop-src.invariant.words c.requires.0 c.requires.1 c.requires.2, c.requires.3, omega (arith, c.loop-src-test.true, c.requires.4))

pub loop-src-preserved : goal.loop-src-preserved
loop-src-preserved c =
    let row = c.args.row.now in
    let was = c.loop-src.invariant in
    let src = c.loop-src.src in
    elim c.if-is_some.branch [
      | then-is_some w ↦ record {
        words = λ slots endpoints are. subst (HasSenderWords slots endpoints) (sym w.self-is) (w.set.ensures.words slots endpoints (was.words slots endpoints are));
        noted = λ at other.
            ap (λ (s : Senders). is_sender s at other) w.self-is
            ∙ (w.set.ensures.set at other
            ∙ (ap (λ (b : Bool). b || ((at == c.args.slot) && (other == src))) (was.noted at other)
            ∙ sender_noted row (at == c.args.slot) (is_sender c.args.self.now at other) src other (sym c.is_some.ensures ∙ w.if-is_some.true)));
      }
      | else-is_some w ↦ record {
        words = λ slots endpoints are. subst (HasSenderWords slots endpoints) (sym w.self-is) (was.words slots endpoints are);
        noted = λ at other.
            ap (λ (s : Senders). is_sender s at other) w.self-is
            ∙ (was.noted at other ∙ idle_passed row (at == c.args.slot) (is_sender c.args.self.now at other) src other (sym c.is_some.ensures ∙ w.if-is_some.false));
      }
    ]
