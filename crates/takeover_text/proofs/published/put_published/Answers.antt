use Rattle.std.proofs.Common.{◌≡◌, ◌+◌, ◌*◌, ℕ, List, ◌∷◌, ◌++◌, length, map, refl, sym, ap, ◌∙◌}
use Rattle.std.proofs.lemmas.List.{append_assoc}
use Rattle.std.proofs.lemmas.List.Concat.{flat_map-append}
use Rattle.greedy_rules.specs.Schedule.{first_slot}
use Rattle.report_text.specs.declared.line.Line.{Line}
use Rattle.report_text.specs.declared.line.Line.TheVariants as line
use Rattle.text_output.specs.Text.{line_text, text_of, entry_line, slots_lines}
use Rattle.text_output.proofs.OutputLemmas.{Passes-after, Passes-stopped, Passes-broken}
use Rattle.takeover_text.specs.Lines.{no_cores}
use Rattle.takeover_text.proofs.published.put_published.Goals as goal

three_parts : (l : Line) (xs ys : List Line) → text_of (l ∷ (xs ++ ys)) ≡ line_text l ++ (text_of xs ++ text_of ys)
three_parts l xs ys = ap (λ (t : List ℕ). line_text l ++ t) (flat_map-append line_text xs ys)

pub returns-in_err-put_line : goal.returns-in_err-put_line
returns-in_err-put_line g c =
    let slots = c.args.slots.now.slots in
    let entries : List Line = map (entry_line c.args.number) c.args.batch.now.entries in
    let of_slots : List Line = slots_lines no_cores (first_slot (length slots) c.args.number) slots in
    Passes-stopped _ c.in_err-put_line.ensures c.from_residual.ensures.1 (three_parts (line.Published c.args.node c.args.number) entries of_slots)

pub returns-in_err-put_entries : goal.returns-in_err-put_entries
returns-in_err-put_entries g c =
    let slots = c.args.slots.now.slots in
    let entries : List Line = map (entry_line c.args.number) c.args.batch.now.entries in
    let of_slots : List Line = slots_lines no_cores (first_slot (length slots) c.args.number) slots in
    let published : Line = line.Published c.args.node c.args.number in
    Passes-broken _ c.in_ok-put_line.ensures c.in_err-put_entries.ensures c.from_residual-in_err-put_entries.ensures.1
    (three_parts published entries of_slots ∙ sym (append_assoc (line_text published) (text_of entries) (text_of of_slots)))

pub returns : goal.returns
returns g c =
    let slots = c.args.slots.now.slots in
    let number : ℕ = c.args.number in
    let entries : List Line = map (entry_line number) c.args.batch.now.entries in
    let count : c.from.result ≡ length slots = c.from.ensures ∙ c.slots.ensures.count in
    let told : ℕ → List ℕ = λ n. text_of (slots_lines no_cores (number * n + 1) slots) in
    Passes-after c.in_ok-put_line.ensures (Passes-after c.in_ok-put_entries.ensures c.put_slots.ensures refl)
    (three_parts (line.Published c.args.node number) entries (slots_lines no_cores (first_slot (length slots) number) slots)
    ∙ ap (λ (n : ℕ). line_text (line.Published c.args.node number) ++ (text_of entries ++ told n)) (sym count))
