-- The text of a slot, place by place of its row.
use Rattle.std.proofs.Common.{◌≡◌, ◌<◌, ◌≤◌, ◌+◌, ◌-◌, ◌*◌, ℕ, List, [], ◌∷◌, ◌++◌, length, get_or, map, take, drop, replicate, min, Option, Some, None, refl, sym, ap, ◌∙◌, arith, inl, inr}
use Rattle.std.proofs.Math.Seq.{take-length}
use Rattle.std.proofs.lemmas.Bool.{cases_lt}
use Rattle.std.proofs.lemmas.List.{map-append, take_more, take_all, take-append-drop, length-take-le, length-drop}
use Rattle.std.proofs.lemmas.List.Concat.{flat_map-append}
use Rattle.list_facts.specs.Bits.{TellsHeld}
use Rattle.list_facts.proofs.Bits.{kept, kept_whole, kept_none}
use Rattle.list_facts.proofs.Lists.{take_on}
use Rattle.greedy_rules.specs.declared.flows.Flow.{Flow}
use Rattle.greedy_rules.specs.SlotTable.{flows_from}
use Rattle.greedy_rules.proofs.RowLemmas.{flows_from-append, flows_from-replicate}
use Rattle.report_text.specs.declared.line.Line.{Line}
use Rattle.edge_colouring.specs.Cores.{core_in}
use Rattle.report_text.specs.SlotLines.{row_text}
use Rattle.text_output.specs.Text.{line_text, text_of, slot_line}
use Rattle.text_output.specs.Text.{flow_list}

flows_from-one : (src : ℕ) (cell : Option ℕ) → flows_from src (cell ∷ []) ≡ flow_list src cell
flows_from-one src None = refl
flows_from-one src (Some dst) = refl

-- one place more of a row whose first place is that of the source `from`
pub row_more : (line : Flow → Line) (from : ℕ) (row : List (Option ℕ)) (at : ℕ) (d : Option ℕ) → at < length row
    → text_of (map line (flows_from from (take (at + 1) row))) ≡ text_of (map line (flows_from from (take at row))) ++ text_of (map line (flow_list (from + at) (get_or row at d)))
row_more line from row at d below =
    let front : List Flow = flows_from from (take at row) in
    let cell : Option ℕ = get_or row at d in
    let here : from + length (take at row) ≡ from + at = omega (arith, length-take-le at row (omega arith)) in
    let last : flows_from (from + length (take at row)) (cell ∷ []) ≡ flow_list (from + at) cell = ap (λ (n : ℕ). flows_from n (cell ∷ [])) here ∙ flows_from-one (from + at) cell in
    ap (λ (cells : List (Option ℕ)). text_of (map line (flows_from from cells))) (take_more row at d below)
    ∙ (ap (λ (fs : List Flow). text_of (map line fs)) (flows_from-append from (take at row) (cell ∷ []) ∙ ap (λ (fs : List Flow). front ++ fs) last)
    ∙ (ap text_of (map-append line front (flow_list (from + at) cell)) ∙ flat_map-append line_text (map line front) (map line (flow_list (from + at) cell))))

-- the text of a row, and of what comes behind it
pub row_parts : (line : Flow → Line) (from : ℕ) (row front rest : List (Option ℕ)) → row ≡ front ++ rest
    → text_of (map line (flows_from from row)) ≡ text_of (map line (flows_from from front)) ++ text_of (map line (flows_from (from + length front) rest))
row_parts line from row front rest is =
    let first : List Flow = flows_from from front in
    let behind : List Flow = flows_from (from + length front) rest in
    ap (λ (cells : List (Option ℕ)). text_of (map line (flows_from from cells))) is
    ∙ (ap (λ (fs : List Flow). text_of (map line fs)) (flows_from-append from front rest)
    ∙ (ap text_of (map-append line first behind) ∙ flat_map-append line_text (map line first) (map line behind)))

-- the whole text of a row, from a place on
pub row_whole : (line : Flow → Line) (from : ℕ) (row : List (Option ℕ)) (at : ℕ) (d : Option ℕ) → at < length row
    → text_of (map line (flows_from from row))
    ≡ (text_of (map line (flows_from from (take at row))) ++ text_of (map line (flow_list (from + at) (get_or row at d)))) ++ text_of (map line (flows_from (from + length (take (at + 1) row)) (drop (at + 1) row)))
row_whole line from row at d below =
    let rest : List Flow = flows_from (from + length (take (at + 1) row)) (drop (at + 1) row) in
    row_parts line from row (take (at + 1) row) (drop (at + 1) row) (sym (take-append-drop (at + 1) row))
    ∙ ap (λ (t : List ℕ). t ++ text_of (map line rest)) (row_more line from row at d below)

-- the same as it is spelled at once
pub packets_text : (number : ℕ) (cores : List (Option ℕ)) (from : ℕ) (row : List (Option ℕ)) → row_text number cores from row ≡ text_of (map (slot_line number (core_in cores)) (flows_from from row))
packets_text number cores from [] = refl
packets_text number cores from (None ∷ row) = packets_text number cores (from + 1) row
packets_text number cores from (Some dst ∷ row) =
    ap (λ (t : List ℕ). line_text (slot_line number (core_in cores) (record { src = from; dst = dst })) ++ t) (packets_text number cores (from + 1) row)

-- a row of whose sources none has a bit has no text
pub text-of_no_senders : (line : Flow → Line) (from senders : ℕ) (row : List (Option ℕ)) → TellsHeld row senders → senders ≡ 0 → text_of (map line (flows_from from row)) ≡ []
text-of_no_senders line from senders row tells none =
    let idle : row ≡ replicate (length row) None = sym (kept_whole senders row tells) ∙ (ap (λ (word : ℕ). kept word row) none ∙ kept_none row) in
    ap (λ (cells : List (Option ℕ)). text_of (map line (flows_from from cells))) idle ∙ ap (λ (fs : List Flow). text_of (map line fs)) (flows_from-replicate from (length row))

-- ---- a row by the places of the words of its senders, 64 each

-- the places of a word come behind those of the words before it
front_of_words : (row : List (Option ℕ)) (word : ℕ) → take ((word + 1) * 64) row ≡ take (word * 64) row ++ take 64 (drop (word * 64) row)
front_of_words row word =
    let next : (word + 1) * 64 ≡ word * 64 + 64 = omega arith in
    ap (λ (n : ℕ). take n row) next ∙ take_on (word * 64) 64 row

-- the text of one word more
pub word_more : (line : Flow → Line) (row cells : List (Option ℕ)) (word : ℕ) → word * 64 ≤ length row → cells ≡ take 64 (drop (word * 64) row)
    → text_of (map line (flows_from 0 (take ((word + 1) * 64) row))) ≡ text_of (map line (flows_from 0 (take (word * 64) row))) ++ text_of (map line (flows_from (word * 64) cells))
word_more line row cells word within are =
    let front : List (Option ℕ) = take (word * 64) row in
    let behind : 0 + length front ≡ word * 64 = omega (arith, length-take-le (word * 64) row within) in
    row_parts line 0 (take ((word + 1) * 64) row) front cells (front_of_words row word ∙ ap (λ (xs : List (Option ℕ)). front ++ xs) (sym are))
    ∙ ap (λ (n : ℕ). text_of (map line (flows_from 0 front)) ++ text_of (map line (flows_from n cells))) behind

-- the whole text of a row, from a word on
pub word_whole : (line : Flow → Line) (row cells : List (Option ℕ)) (word : ℕ) → word * 64 ≤ length row → cells ≡ take 64 (drop (word * 64) row)
    → text_of (map line (flows_from 0 row))
    ≡ (text_of (map line (flows_from 0 (take (word * 64) row))) ++ text_of (map line (flows_from (word * 64) cells)))
    ++ text_of (map line (flows_from (0 + length (take ((word + 1) * 64) row)) (drop ((word + 1) * 64) row)))
word_whole line row cells word within are =
    let rest : List Flow = flows_from (0 + length (take ((word + 1) * 64) row)) (drop ((word + 1) * 64) row) in
    row_parts line 0 row (take ((word + 1) * 64) row) (drop ((word + 1) * 64) row) (sym (take-append-drop ((word + 1) * 64) row))
    ∙ ap (λ (t : List ℕ). t ++ text_of (map line rest)) (word_more line row cells word within are)
