-- The text of slots, one after the other.
use Rattle.std.proofs.Common.{◌≡◌, ◌<◌, ◌≤◌, ◌+◌, ℕ, suc, List, [], ◌∷◌, ◌++◌, length, get_or, map, take, drop, sym, ap, ◌∙◌, arith}
use Rattle.std.proofs.lemmas.List.{append_assoc, append-nil, take_more, take-append-drop, length-take, take-take}
use Rattle.std.proofs.lemmas.List.Concat.{flat_map-append}
use Rattle.greedy_rules.specs.declared.flows.Flow.{Flow}
use Rattle.greedy_rules.specs.Schedule.{slot_in}
use Rattle.clos_topology.specs.Links.{CoreOf}
use Rattle.report_text.specs.declared.line.Line.{Line}
use Rattle.text_output.specs.Text.{slot_line, slots_lines, line_text, text_of}

slots_lines-append : (cores : ℕ → CoreOf) (number : ℕ) (xs ys : List (List Flow)) → slots_lines cores number (xs ++ ys) ≡ slots_lines cores number xs ++ slots_lines cores (number + length xs) ys
slots_lines-append cores number [] ys = ap (λ (n : ℕ). slots_lines cores n ys) (omega arith)
slots_lines-append cores number (x ∷ xs) ys =
    let on : number + 1 + length xs ≡ number + suc (length xs) = omega arith in
    ap (λ (ls : List Line). map (slot_line number (cores number)) x ++ ls) (slots_lines-append cores (number + 1) xs ys ∙ ap (λ (n : ℕ). slots_lines cores (number + 1) xs ++ slots_lines cores n ys) on)
    ∙ sym (append_assoc (map (slot_line number (cores number)) x) (slots_lines cores (number + 1) xs) (slots_lines cores (number + suc (length xs)) ys))

-- one slot more of the slots
pub slots_more : (cores : ℕ → CoreOf) (first : ℕ) (slots : List (List Flow)) (place : ℕ) → place < length slots
    → text_of (slots_lines cores first (take (place + 1) slots)) ≡ text_of (slots_lines cores first (take place slots)) ++ text_of (map (slot_line (first + place) (cores (first + place))) (get_or slots place []))
slots_more cores first slots place within =
    let slot : List Flow = get_or slots place [] in
    let at : first + length (take place slots) ≡ first + place = omega (arith, length-take place slots) in
    ap (λ (xs : List (List Flow)). text_of (slots_lines cores first xs)) (take_more slots place [] within)
    ∙ (ap text_of (slots_lines-append cores first (take place slots) (slot ∷ []))
    ∙ (flat_map-append line_text (slots_lines cores first (take place slots)) (slots_lines cores (first + length (take place slots)) (slot ∷ []))
    ∙ ap (λ (t : List ℕ). text_of (slots_lines cores first (take place slots)) ++ t)
    (ap (λ (n : ℕ). text_of (slots_lines cores n (slot ∷ []))) at ∙ ap text_of (append-nil (map (slot_line (first + place) (cores (first + place))) slot)))))

pub slots_rest : (cores : ℕ → CoreOf) (first : ℕ) (slots : List (List Flow)) (place : ℕ)
    → text_of (slots_lines cores first slots) ≡ text_of (slots_lines cores first (take place slots)) ++ text_of (slots_lines cores (first + length (take place slots)) (drop place slots))
slots_rest cores first slots place =
    ap (λ (xs : List (List Flow)). text_of (slots_lines cores first xs)) (sym (take-append-drop place slots))
    ∙ (ap text_of (slots_lines-append cores first (take place slots) (drop place slots))
    ∙ flat_map-append line_text (slots_lines cores first (take place slots)) (slots_lines cores (first + length (take place slots)) (drop place slots)))

-- the slot at a place, by its number and with its cores, after the slots before it
pub slots_step : (cores : ℕ → CoreOf) (first number : ℕ) (slots : List (List Flow)) (place : ℕ) (slot : List Flow) (core_of : CoreOf) → place < length slots → slot ≡ slot_in slots place → number ≡ first + place → core_of ≡ cores (first + place)
    → text_of (slots_lines cores first (take (place + 1) slots)) ≡ text_of (slots_lines cores first (take place slots)) ++ text_of (map (slot_line number core_of) slot)
slots_step cores first number slots place slot core_of within is counts named =
    let before : List ℕ = text_of (slots_lines cores first (take place slots)) in
    slots_more cores first slots place within
    ∙ (ap (λ (n : ℕ). before ++ text_of (map (slot_line n (cores (first + place))) (get_or slots place []))) (sym counts)
    ∙ (ap (λ (c : CoreOf). before ++ text_of (map (slot_line number c) (get_or slots place []))) (sym named)
    ∙ ap (λ (x : List Flow). before ++ text_of (map (slot_line number core_of) x)) (sym is)))

pub slots_whole : (cores : ℕ → CoreOf) (first number count : ℕ) (slots : List (List Flow)) (place : ℕ) (slot : List Flow) (core_of : CoreOf) → place < count → count ≤ length slots → slot ≡ slot_in slots place → number ≡ first + place → core_of ≡ cores (first + place)
    → text_of (slots_lines cores first (take count slots))
    ≡ (text_of (slots_lines cores first (take place slots)) ++ text_of (map (slot_line number core_of) slot))
    ++ text_of (slots_lines cores (first + length (take (place + 1) (take count slots))) (drop (place + 1) (take count slots)))
slots_whole cores first number count slots place slot core_of more within is counts named =
    let rest : List ℕ = text_of (slots_lines cores (first + length (take (place + 1) (take count slots))) (drop (place + 1) (take count slots))) in
    slots_rest cores first (take count slots) (place + 1)
    ∙ ap (λ (t : List ℕ). t ++ rest)
    (ap (λ (xs : List (List Flow)). text_of (slots_lines cores first xs)) (take-take (place + 1) count slots (omega arith))
    ∙ slots_step cores first number slots place slot core_of (omega arith) is counts named)
