-- One content a number.
use Rattle.std.proofs.Common.{◌≡◌, ℕ, List, [], ◌∷◌, Some, sym, ◌∙◌, ap, inl, inr}
use Rattle.ack_window.specs.Ends.{Numbered, content_of}
use Rattle.fcp_framing.specs.declared.packet.Demand.{Demand}
use Rattle.endpoint_history.specs.Packets.{DownPacket, Requests}
use Rattle.endpoint_history.specs.Agent.{AgentHistory, until}
use Rattle.endpoint_history.specs.Agent as agent
use Rattle.endpoint_history.specs.Lane.{LaneHistory, MakesDown, TakesUp, Records, epoch_of, numbers}
use Rattle.endpoint_history.specs.Steps.{WasMadeUp, WasMadeDown}
use Rattle.endpoint_history.specs.NumberLaws.{OneContentANumber}
use Rattle.endpoint_history.specs.Windows.{Windows}
use Rattle.endpoint_history.proofs.AgentEnd.{made-is_of}
use Rattle.endpoint_history.proofs.LaneEnd.{made-was_made, packet_down-is}

pub some-same : {T : Type 0} (x y : T) → Some x ≡ Some y → x ≡ y
some-same x y same = cc

up-content : (w : Windows) (endpoints g : ℕ) (history : AgentHistory) (one other : Numbered (List Demand)) → WasMadeUp endpoints g history (Requests one) → WasMadeUp endpoints g history (Requests other) →
    one.epoch ≡ other.epoch → one.seq ≡ other.seq → (one.version ≡ other.version) × (one.content ≡ other.content)
up-content w endpoints g history one other made_one made_other epoch number =
    let a = made-is_of w endpoints g history (Requests one) made_one in
    let b = made-is_of w endpoints g history (Requests other) made_other in (
      a.1 ∙ ap (λ e. agent.version_of (until e history)) epoch ∙ sym b.1,
      some-same one.content other.content
          (sym a.2.content
          ∙ ap (λ e. content_of (agent.numbers endpoints g (until e history)) one.seq) epoch
          ∙ ap (λ n. content_of (agent.numbers endpoints g (until other.epoch history)) n) number
          ∙ b.2.content),
    )

-- of the lane's present epoch
present-content : (w : Windows) (g : ℕ) (history : LaneHistory) (one other : DownPacket) → WasMadeDown g history one → WasMadeDown g history other → one.epoch ≡ epoch_of history →
    one.epoch ≡ other.epoch → one.seq ≡ other.seq → (one.version ≡ other.version) × (one.content ≡ other.content)
present-content w g history one other made_one made_other here epoch number =
    let a = (made-was_made w g history one made_one).of_end here in
    let b = (made-was_made w g history other made_other).of_end (sym epoch ∙ here) in
    (a.1 ∙ sym b.1, some-same one.content other.content (sym a.2.content ∙ ap (λ n. content_of (numbers g history) n) number ∙ b.2.content))

down-content : (w : Windows) (g : ℕ) (history : LaneHistory) (one other : DownPacket) → WasMadeDown g history one → WasMadeDown g history other →
    one.epoch ≡ other.epoch → one.seq ≡ other.seq → (one.version ≡ other.version) × (one.content ≡ other.content)
down-content w g [] one other made_one made_other epoch number = absurd made_one
down-content w g (Records round ∷ history) one other made_one made_other epoch number = down-content w g history one other made_one made_other epoch number
down-content w g (TakesUp round up ∷ history) one other made_one made_other epoch number = down-content w g history one other made_one made_other epoch number
down-content w g (MakesDown round told ∷ history) one other made_one made_other epoch number =
    elim made_one [
      | inl now ↦
          let is = ap (λ (p : DownPacket). p.epoch) (sym (packet_down-is g history round told one now).1) in
          present-content w g (MakesDown round told ∷ history) one other (inl now) made_other is epoch number
      | inr before_one ↦
          elim made_other [
            | inl now ↦
                let is = ap (λ (p : DownPacket). p.epoch) (sym (packet_down-is g history round told other now).1) in
                present-content w g (MakesDown round told ∷ history) one other (inr before_one) (inl now) (epoch ∙ is) epoch number
            | inr before_other ↦ down-content w g history one other before_one before_other epoch number
          ]
    ]

pub one_content_a_number : (w : Windows) → OneContentANumber
one_content_a_number w = record {
  up = λ endpoints g history one other made_one made_other epoch number. up-content w endpoints g history one other made_one made_other epoch number;
  down = λ g history one other made_one made_other epoch number. down-content w g history one other made_one made_other epoch number;
}
