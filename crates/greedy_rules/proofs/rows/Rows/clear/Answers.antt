use Rattle.std.proofs.Common.{◌≡◌, ◌<◌, ◌-◌, ◌==◌, ℕ, List, [], Bool, Some, cond, false, length, length-set, set, replicate, sym, ap, ◌∙◌, subst, arith}
use Rattle.std.specs.Prelude.{is_some, vec_len}
use Rattle.std.proofs.lemmas.List.{length-map}
use Rattle.greedy_rules.specs.declared.flows.Flow.{Flow}
use Rattle.greedy_rules.specs.declared.rows.Rows.{Rows}
use Rattle.greedy_rules.specs.declared.senders.Senders.{Senders}
use Rattle.greedy_rules.specs.Schedule.{slot_in}
use Rattle.greedy_rules.specs.SlotTable.{flows_at, place_at, destination_of, slots_of_rows}
use Rattle.greedy_rules.specs.Senders.{is_sender, HasSenderWords, TellSenders}
use Rattle.greedy_rules.proofs.SenderLemmas.{senders_of_set}
use Rattle.greedy_rules.proofs.TableLemmas.{placed_below, none_given}
use Rattle.greedy_rules.proofs.rows.Rows.clear.Goals as goal

-- who has a row is one of the slots
is_slot : (rows : Rows) (slot row : ℕ) → place_at rows.places.items slot ≡ Some row → slot < length (slots_of_rows rows)
is_slot rows slot row is = omega (arith, placed_below rows.places.items slot row is, length-map rows.places.items (flows_at rows.endpoints rows.cells.items))

-- where a slot is emptied and its senders are cleared, the words tell of each slot
told : (rows now : Rows) (senders new : Senders) (slot : ℕ) → slot < length (slots_of_rows rows) → slots_of_rows now ≡ set (slots_of_rows rows) slot [] → now.endpoints ≡ rows.endpoints
    → TellSenders rows.endpoints (slots_of_rows rows) senders → ((slots endpoints : ℕ) → HasSenderWords slots endpoints senders → HasSenderWords slots endpoints new)
    → ((at src : ℕ) → is_sender new at src ≡ cond (at == slot) false (is_sender senders at src)) → TellSenders now.endpoints (slots_of_rows now) new
told rows now senders new slot below slots endpoints tells words cleared =
    let were : List (List Flow) = slots_of_rows rows in
    let count : length (slots_of_rows now) ≡ length were = ap length slots ∙ length-set were slot [] in
    record {
      words = subst (λ (n : ℕ). HasSenderWords n now.endpoints new) (sym count)
          (subst (λ (n : ℕ). HasSenderWords (length were) n new) (sym endpoints) (words (length were) rows.endpoints tells.words));
      tell = λ at src inside.
          cleared at src
          ∙ (ap (λ (b : Bool). cond (at == slot) false b) (tells.tell at src (subst (λ (n : ℕ). at < n) count inside))
          ∙ sym (ap (λ (xs : List (List Flow)). is_some (destination_of (slot_in xs at) src)) slots ∙ senders_of_set were slot [] at src below));
    }

pub loop-slot-preserved : goal.loop-slot-preserved
loop-slot-preserved c =
    let rows = c.loop-slot.self in
    let was = c.loop-slot.invariant in
    let slot = c.in-Some.slot in
    let freed = c.free_row.ensures in
    record {
      table = freed.table;
      senders = told rows c.free_row.new.self c.loop-slot.senders c.clear.new.self slot (is_slot rows slot (vec_len rows.owners - 1) c.in-Some.ensures) freed.slots freed.endpoints was.senders c.clear.ensures.words c.clear.ensures.cleared;
      count = freed.count ∙ was.count;
      endpoints = freed.endpoints ∙ was.endpoints;
    }

pub returns-clause-slots : goal.returns-clause-slots
returns-clause-slots c =
    let rows = c.loop-slot.self in
    let was = c.loop-slot.invariant in
    let none : vec_len rows.owners ≡ 0 = c.in_default.ensures in
    none_given rows.endpoints rows.cells.items rows.places.items rows.owners.items was.table.rows_are (omega (arith, none, rows.owners.ok.0))
    ∙ ap (λ (n : ℕ). replicate n []) (omega (arith, was.count, rows.places.ok.0))
