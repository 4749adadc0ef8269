use Rattle.std.proofs.Common.{◌≡◌, ◌<◌, ◌≤◌, ◌+◌, ◌-◌, ℕ, List, [], length, take, drop, sym, ap, ◌∙◌, arith}
use Rattle.std.proofs.lemmas.List.{get_or-drop, length-drop}
use Rattle.greedy_rules.specs.declared.flows.Flow.{Flow}
use Rattle.greedy_rules.specs.Schedule.{slot_in}
use Rattle.clos_topology.specs.Links.{CoreOf}
use Rattle.clos_topology.specs.NetSlots.{SlotCores}
use Rattle.path_workers.specs.CoreTable.{core_of}
use Rattle.window_engine.specs.Scheduled.{cores_from}
use Rattle.run_lines.specs.Text.{text_of, slots_lines}
use Rattle.text_output.proofs.OutputLemmas.{Passes-after, Passes-broken}
use Rattle.text_output.proofs.SlotTexts.{slots_step, slots_whole}
use Rattle.run_lines.proofs.lines.put_slots.Goals as goal

pub overflow_add-place-end : goal.overflow_add-place-end
overflow_add-place-end g c = omega (arith, c.requires.places)

pub returns-in_err-put_slot : goal.returns-in_err-put_slot
returns-in_err-put_slot g c =
    let from : ℕ = c.args.from in
    let slots : List (List Flow) = drop from c.args.table.now.slots in
    let base : ℕ = c.args.base in
    let place : ℕ = c.loop-place.place in
    let at : ℕ = place - from in
    let cores : SlotCores = cores_from base c.args.cores.now in
    let own : CoreOf = core_of c.args.cores.now place in
    let below : at < c.args.count = omega arith in
    let within : c.args.count ≤ length slots = omega (arith, length-drop from c.args.table.now.slots, c.requires.count) in
    let is : from + at ≡ place = omega arith in
    let slot : slot_in c.args.table.now.slots place ≡ slot_in slots at = ap (slot_in c.args.table.now.slots) (sym is) ∙ sym (get_or-drop from c.args.table.now.slots at []) in
    let number : base + c.from.result ≡ base + from + at = omega (arith, c.from.ensures) in
    let back : place ≡ base + from + at - base = omega arith in
    let named : own ≡ cores (base + from + at) = ap (core_of c.args.cores.now) back in
    Passes-broken _ c.loop-place.invariant c.in_err-put_slot.ensures c.from_residual.ensures.1 (slots_whole cores (base + from) (base + c.from.result) c.args.count slots at (slot_in c.args.table.now.slots place) own below within slot number named)

pub loop-place-preserved : goal.loop-place-preserved
loop-place-preserved g c =
    let from : ℕ = c.args.from in
    let slots : List (List Flow) = drop from c.args.table.now.slots in
    let base : ℕ = c.args.base in
    let place : ℕ = c.loop-place.place in
    let at : ℕ = place - from in
    let cores : SlotCores = cores_from base c.args.cores.now in
    let own : CoreOf = core_of c.args.cores.now place in
    let within : at < length slots = omega (arith, length-drop from c.args.table.now.slots, c.requires.count) in
    let is : from + at ≡ place = omega arith in
    let slot : slot_in c.args.table.now.slots place ≡ slot_in slots at = ap (slot_in c.args.table.now.slots) (sym is) ∙ sym (get_or-drop from c.args.table.now.slots at []) in
    let number : base + c.from.result ≡ base + from + at = omega (arith, c.from.ensures) in
    let back : place ≡ base + from + at - base = omega arith in
    let named : own ≡ cores (base + from + at) = ap (core_of c.args.cores.now) back in
    let next : place + 1 - from ≡ at + 1 = omega arith in
    Passes-after c.loop-place.invariant c.in_ok-put_slot.ensures (ap (λ (n : ℕ). text_of (slots_lines cores (base + from) (take n slots))) next
    ∙ slots_step cores (base + from) (base + c.from.result) slots at (slot_in c.args.table.now.slots place) own within slot number named)
