-- An acknowledged number was taken once, and what is sent was taken.
use Rattle.std.proofs.Common.{◌≡◌, ℕ, ◌+◌, ◌-◌, ◌*◌, Bool, ◌&&◌, cond, nat_lt, ◌==◌, List, [], ◌∷◌, Some, sym, ◌∙◌, ap, subst, refl, inl, inr}
use Rattle.std.specs.Prelude.{count_by, filter}
use Rattle.std.specs.List.{flat_map}
use Rattle.std.proofs.lemmas.Bool.{cases_eq, cases_Bool, eq-eqb, ne_eqb}
use Rattle.list_facts.specs.Order.{insert_by, sort_by}
use Rattle.ack_window.specs.Arrivals.{receive_verdict, is_fresh, is_number_taken}
use Rattle.ack_window.specs.Ends.{content_of}
use Rattle.ack_window.specs.Versions.{reorder_of}
use Rattle.endpoint_history.specs.Agent as agent
use Rattle.endpoint_history.specs.Agent.{AgentEvent, AgentHistory, Boots, Asks, TakesDown, MakesUp, SendsDue, TakenDown, until, is_in_time, ever_taken}
use Rattle.endpoint_history.specs.Sending as sending
use Rattle.endpoint_history.specs.Sending.{Slot, slots_of_telling, sent_of, due, ever_sent}
use Rattle.endpoint_history.specs.Lane as lane
use Rattle.endpoint_history.specs.Lane.{LaneEvent, LaneHistory, MakesDown, TakesUp, Records}
use Rattle.endpoint_history.specs.Steps.{agent_of, lane_of}
use Rattle.endpoint_history.specs.Tellings.{Among}
use Rattle.endpoint_history.specs.NumberLaws.{AcknowledgedIsTakenOnce}
use Rattle.endpoint_history.specs.AgentLaws.{SentWasTaken}
use Rattle.endpoint_history.specs.Windows.{Windows}
use Rattle.endpoint_history.proofs.AgentEnd.{current-parts, takes-current}
use Rattle.endpoint_history.proofs.LaneEnd.{made-was_made}
use Rattle.endpoint_history.proofs.BothEnds.{ends_agree}
use Rattle.endpoint_history.proofs.Slots.{fresh_is, takes-fresh}
use Rattle.endpoint_history.proofs.NeverTaken.{ever_taken-made}
use Rattle.endpoint_history.proofs.Sending.{count_by-cons, sent_now-is}
use Rattle.endpoint_history.proofs.Members.{among-append}

-- ---- each number is taken at most once in a boot

abbrev pub with_number : ℕ → TakenDown → Bool
with_number number t = t.packet.seq == number

pub taken-once : (w : Windows) (history : AgentHistory) (number : ℕ) → count_by (with_number number) (agent.taken history) ≡ cond (is_number_taken (reorder_of (agent.version_of history)) (agent.arrived history) number) 1 0
taken-once w [] number = refl
taken-once w (Boots version ∷ history) number = refl
taken-once w (Asks dst slots ∷ history) number = taken-once w history number
taken-once w (MakesUp ∷ history) number = taken-once w history number
taken-once w (SendsDue round ∷ history) number = taken-once w history number
taken-once w (TakesDown round packet ∷ history) number =
    let v = agent.version_of history in
    let before = taken-once w history number in
    elim (cases_Bool (agent.is_current history packet)) [
      | inr other ↦ rw (other, takes-current history packet other) before
      | inl current ↦
          elim (cases_Bool (is_fresh (receive_verdict (reorder_of v) (agent.arrived history) packet.seq))) [
            | inr stale ↦
                rw (current, takes-fresh history packet current ∙ stale)
                (before ∙ ap (λ b. cond b 1 0) (sym (w.once.stale (reorder_of v) packet.seq (agent.arrived history) number stale)))
            | inl fresh ↦
                let is = fresh_is (receive_verdict (reorder_of v) (agent.arrived history) packet.seq) fresh in
                let push = count_by-cons (with_number number) (record { round = round; packet = packet }) (agent.taken history) in
                let so_far = count_by (with_number number) (agent.taken history) in
                let now = is_number_taken (reorder_of v) (packet.seq ∷ agent.arrived history) number in
                let more : cond (packet.seq == number) (1 + so_far) so_far ≡ cond now 1 0 =
                elim (cases_eq packet.seq number) [
                  | inl same ↦
                      let none : so_far ≡ 0 = before ∙ ap (λ b. cond b 1 0) (ap (λ n. is_number_taken (reorder_of v) (agent.arrived history) n) (sym same) ∙ w.once.first (reorder_of v) (agent.arrived history) packet.seq is) in
                      let one : cond now 1 0 ≡ 1 = ap (λ b. cond b 1 0) (sym (ap (λ n. is_number_taken (reorder_of v) (packet.seq ∷ agent.arrived history) n) same) ∙ w.once.fresh (reorder_of v) (agent.arrived history) packet.seq is) in
                      let first : cond (packet.seq == number) (1 + so_far) so_far ≡ 1 + so_far = ap (λ b. cond b (1 + so_far) so_far) (eq-eqb packet.seq number same) in
                      first ∙ ap (λ n. 1 + n) none ∙ sym one
                  | inr differs ↦
                      let rest : cond now 1 0 ≡ cond (is_number_taken (reorder_of v) (agent.arrived history) number) 1 0 = ap (λ b. cond b 1 0) (w.once.other (reorder_of v) packet.seq (agent.arrived history) number differs) in
                      let first : cond (packet.seq == number) (1 + so_far) so_far ≡ so_far = ap (λ b. cond b (1 + so_far) so_far) (ne_eqb packet.seq number differs) in
                      first ∙ before ∙ sym rest
                ] in
                rw (current, takes-fresh history packet current ∙ fresh) (push ∙ more)
          ]
    ]

-- ---- the packets of a boot are among all

taken-ever : (history : AgentHistory) (t : TakenDown) → Among t (agent.taken history) → Among t (ever_taken history)
taken-ever [] t among = absurd among
taken-ever (Boots version ∷ history) t among = absurd among
taken-ever (Asks dst slots ∷ history) t among = taken-ever history t among
taken-ever (MakesUp ∷ history) t among = taken-ever history t among
taken-ever (SendsDue round ∷ history) t among = taken-ever history t among
taken-ever (TakesDown round packet ∷ history) t among =
    elim (cases_Bool (agent.takes history packet)) [
      | inr left ↦ rw left (taken-ever history t (rw left at among))
      | inl takes ↦ rw takes (elim (rw takes at among) [ inl here ↦ inl here | inr there ↦ inr (taken-ever history t there) ])
    ]

ever-grows : (event : AgentEvent) (history : AgentHistory) (t : TakenDown) → Among t (ever_taken history) → Among t (ever_taken (event ∷ history))
ever-grows (Boots version) history t among = among
ever-grows (Asks dst slots) history t among = among
ever-grows MakesUp history t among = among
ever-grows (SendsDue round) history t among = among
ever-grows (TakesDown round packet) history t among =
    elim (cases_Bool (agent.takes history packet)) [ inr left ↦ rw left among | inl takes ↦ rw takes (inr among) ]

ever-until : (epoch : ℕ) (history : AgentHistory) (t : TakenDown) → Among t (ever_taken (until epoch history)) → Among t (ever_taken history)
ever-until epoch [] t among = among
ever-until epoch (event ∷ history) t among =
    elim (cases_Bool (agent.epoch_of (event ∷ history) == epoch)) [
      | inl here ↦ rw here at among
      | inr before ↦ ever-grows event history t (ever-until epoch history t (rw before at among))
    ]

-- and of the epoch of its boot
pub taken-epoch : (history : AgentHistory) (t : TakenDown) → Among t (agent.taken history) → t.packet.epoch ≡ agent.epoch_of history
taken-epoch [] t among = absurd among
taken-epoch (Boots version ∷ history) t among = absurd among
taken-epoch (Asks dst slots ∷ history) t among = taken-epoch history t among
taken-epoch (MakesUp ∷ history) t among = taken-epoch history t among
taken-epoch (SendsDue round ∷ history) t among = taken-epoch history t among
taken-epoch (TakesDown round packet ∷ history) t among =
    elim (cases_Bool (agent.is_current history packet)) [
      | inr other ↦ taken-epoch history t (rw (takes-current history packet other) at among)
      | inl current ↦
          elim (cases_Bool (agent.takes history packet)) [
            | inr left ↦ taken-epoch history t (rw left at among)
            | inl takes ↦
                elim (rw takes at among) [
                  | inl same ↦ ap (λ (x : TakenDown). x.packet.epoch) (sym same) ∙ (current-parts history packet current).0
                  | inr there ↦ taken-epoch history t there
                ]
          ]
    ]

until-epoch : (epoch : ℕ) (history : AgentHistory) (t : TakenDown) → Among t (agent.taken (until epoch history)) → agent.epoch_of (until epoch history) ≡ epoch
until-epoch epoch [] t among = absurd among
until-epoch epoch (event ∷ history) t among =
    elim (cases_eq (agent.epoch_of (event ∷ history)) epoch) [
      | inl here ↦ rw (eq-eqb (agent.epoch_of (event ∷ history)) epoch here) here
      | inr before ↦ rw (ne_eqb (agent.epoch_of (event ∷ history)) epoch before) (until-epoch epoch history t (rw (ne_eqb (agent.epoch_of (event ∷ history)) epoch before) at among))
    ]

pub acknowledged_is_taken_once : (w : Windows) → AcknowledgedIsTakenOnce
acknowledged_is_taken_once w endpoints g steps arrives number counted shown =
    let history = agent_of steps in
    let epoch = lane.epoch_of (lane_of steps) in
    let boot = until epoch history in
    let j = ends_agree w endpoints g steps arrives in
    let taken = j.down.shown number counted shown in (
      taken-once w boot number ∙ ap (λ v. cond (is_number_taken (reorder_of v) (agent.arrived boot) number) 1 0) (sym j.version) ∙ ap (λ b. cond b 1 0) taken,
      λ t among same.
          let of_epoch = taken-epoch boot t among ∙ until-epoch epoch history t among in
          let made = ever_taken-made endpoints g steps t arrives (ever-until epoch history t (taken-ever boot t among)) in
          let is = (made-was_made w g (lane_of steps) t.packet made).of_end of_epoch in
          subst (λ (n : ℕ). content_of (lane.numbers g (lane_of steps)) n ≡ Some t.packet.content) same is.2.content,
    )

-- ---- what is sent was taken

among-sent_of : (left : ℕ → ℕ) (slots : List Slot) (s : Slot) → Among s (sent_of left slots) → Among s slots
among-sent_of left [] s among = among
among-sent_of left (x ∷ slots) s among =
    elim (cases_Bool (nat_lt 0 (left x.dst))) [
      | inl sent ↦ elim (rw sent at among) [ inl here ↦ inl here | inr there ↦ inr (among-sent_of (λ d. left d - cond (d == x.dst) 1 0) slots s there) ]
      | inr passed ↦ inr (among-sent_of left slots s (rw passed at among))
    ]

among-insert_by : (x : Slot) (slots : List Slot) (s : Slot) → Among s (insert_by (λ y. y.slot) x slots) → Among s (x ∷ slots)
among-insert_by x [] s among = among
among-insert_by x (y ∷ slots) s among =
    elim (cases_Bool (nat_lt y.slot x.slot)) [
      | inl below ↦ elim (rw below at among) [
        | inl here ↦ inr (inl here)
        | inr there ↦ elim (among-insert_by x slots s there) [ inl it ↦ inl it | inr rest ↦ inr (inr rest) ]
      ]
      | inr above ↦ rw above at among
    ]

among-sort_by : (slots : List Slot) (s : Slot) → Among s (sort_by (λ y. y.slot) slots) → Among s slots
among-sort_by [] s among = among
among-sort_by (x ∷ slots) s among = elim (among-insert_by x (sort_by (λ y. y.slot) slots) s among) [ inl here ↦ inl here | inr there ↦ inr (among-sort_by slots s there) ]

among-due : (b : ℕ) (test : TakenDown → Bool) (ts : List TakenDown) (s : Slot) → Among s (flat_map (λ (t : TakenDown). slots_of_telling b t.packet.content) (filter test ts)) →
    (t : TakenDown) × Among t ts × Among s (slots_of_telling b t.packet.content)
among-due b test [] s among = absurd among
among-due b test (t ∷ ts) s among =
    elim (cases_Bool (test t)) [
      | inr fails ↦ let it = among-due b test ts s (rw fails at among) in (it.0, inr it.1, it.2)
      | inl holds ↦
          elim (among-append s (slots_of_telling b t.packet.content) (flat_map (λ (x : TakenDown). slots_of_telling b x.packet.content) (filter test ts)) (rw holds at among)) [
            | inl here ↦ (t, inl refl, here)
            | inr there ↦ let it = among-due b test ts s there in (it.0, inr it.1, it.2)
          ]
    ]

pub sent_was_taken : SentWasTaken
sent_was_taken b g [] s among = absurd among
sent_was_taken b g (Boots version ∷ history) s among = sent_was_taken b g history s among
sent_was_taken b g (Asks dst slots ∷ history) s among = sent_was_taken b g history s among
sent_was_taken b g (MakesUp ∷ history) s among = sent_was_taken b g history s among
sent_was_taken b g (TakesDown round packet ∷ history) s among =
    let it = sent_was_taken b g history s among in
    (it.0, ever-grows (TakesDown round packet) history it.0 it.1, it.2)
sent_was_taken b g (SendsDue round ∷ history) s among =
    elim (among-append s (ever_sent b g history) (sending.sent_in b g history round) among) [
      | inl before ↦ sent_was_taken b g history s before
      | inr now ↦
          let walked = subst (λ (xs : List Slot). Among s xs) (sent_now-is b g history (λ d. sending.sends b g history d) round) now in
          let was_due = among-sort_by _ s (among-sent_of (λ dst. agent.asked history dst - sending.sends b g history dst) (due b g history round) s walked) in
          let it = among-due b (λ t. is_in_time g t && round == t.packet.content.batch + 2 * g + 2) (agent.taken history) s was_due in
          (it.0, taken-ever history it.0 it.1, it.2)
    ]
