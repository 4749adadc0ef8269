-- One walk over the lines of an allocation, and the tests that it stands for.
use Rattle.std.proofs.Common.{◌≡◌, ℕ, ◌+◌, ◌<◌, ◌≤◌, Bool, true, false, not, leb, eqb, ◌&&◌, ◌||◌, List, [], ◌∷◌, map, None, refl, ap, ◌∙◌}
use Rattle.std.specs.List.{find, list_any}
use Rattle.std.proofs.lemmas.Bool.{lt-leb, le-ltb, or_parts, and_parts}
use Rattle.fcp_framing.specs.declared.packet.Told.{Told}
use Rattle.fcp_framing.specs.declared.refusal.FrameRefused.TheVariants.{Endpoint, Count, Order, SelfFlow, TooMuch}
use Rattle.fcp_framing.specs.Fields.{endpoint_in, allocation_count, told_slots_in}
use Rattle.fcp_framing.specs.Refusals.{is_rising, is_no_core, line_is_at_fault, lines_are_sound, refuses_allocation}
use Rattle.fcp_framing.proofs.Rising.{rises_from, rises_from-none}

-- the offsets rise strictly, the first of them from `least` on, and no line is at fault
abbrev pub sound_from : ℕ → ℕ → ℕ → ℕ → List Told → Bool
sound_from endpoints endpoint slots least [] = true
sound_from endpoints endpoint slots least (told ∷ rest) =
    (leb least told.offset && not (line_is_at_fault endpoints endpoint slots told)) && sound_from endpoints endpoint slots (told.offset + 1) rest

both_tests : (order fault : Bool) (rest more : Bool) → ((order && not fault) && (rest && not more)) ≡ ((order && rest) && not (fault || more))
both_tests true true true more = refl
both_tests true true false more = refl
both_tests true false rest more = refl
both_tests false fault rest more = refl

sound_from-parts : (endpoints endpoint slots least : ℕ) (lines : List Told) → sound_from endpoints endpoint slots least lines
    ≡ (rises_from least (map (λ (told : Told). told.offset) lines) && not (list_any (line_is_at_fault endpoints endpoint slots) lines))
sound_from-parts endpoints endpoint slots least [] = refl
sound_from-parts endpoints endpoint slots least (told ∷ rest) =
    let fault = line_is_at_fault endpoints endpoint slots in
    ap (λ (b : Bool). (leb least told.offset && not (fault told)) && b) (sound_from-parts endpoints endpoint slots (told.offset + 1) rest)
    ∙ both_tests (leb least told.offset) (fault told) (rises_from (told.offset + 1) (map (λ (t : Told). t.offset) rest)) (list_any fault rest)

-- a walk that keeps the least offset that may come tests the whole
pub sound_from-none : (endpoints endpoint slots : ℕ) (lines : List Told) → sound_from endpoints endpoint slots 0 lines ≡ lines_are_sound endpoints endpoint slots lines
unfolding lines_are_sound
sound_from-none endpoints endpoint slots lines =
    sound_from-parts endpoints endpoint slots 0 lines
    ∙ ap (λ (b : Bool). b && not (list_any (line_is_at_fault endpoints endpoint slots) lines)) (rises_from-none (map (λ (told : Told). told.offset) lines))

-- ---- what the walk shows

any_of_fewer : {X : Type 0} (p q : X → Bool) → ((x : X) → q x ≡ false → p x ≡ false) → (xs : List X) → list_any q xs ≡ false → list_any p xs ≡ false
any_of_fewer p q fewer [] none = refl
any_of_fewer p q fewer (x ∷ xs) none =
    let parts = or_parts (q x) (list_any q xs) none in
    rw (fewer x parts.0, any_of_fewer p q fewer xs parts.1) refl

not_false : (b : Bool) → not b ≡ true → b ≡ false
not_false true e = absurd cc
not_false false e = refl

-- sound lines to an endpoint that is there, of which there are at most 64, are refused for nothing
pub sound_lines_pass : (endpoints slots : ℕ) (bytes : List ℕ) → endpoint_in bytes < endpoints → allocation_count bytes ≤ 64 → lines_are_sound endpoints (endpoint_in bytes) slots (told_slots_in bytes) ≡ true
    → find (refuses_allocation endpoints slots bytes) (Endpoint ∷ Count ∷ Order ∷ SelfFlow ∷ TooMuch ∷ []) ≡ None
unfolding lines_are_sound
sound_lines_pass endpoints slots bytes here few sound =
    let lines = told_slots_in bytes in
    let endpoint = endpoint_in bytes in
    let fault = line_is_at_fault endpoints endpoint slots in
    let parts = and_parts (is_rising (map (λ (told : Told). told.offset) lines)) (not (list_any fault lines)) sound in
    let none : list_any fault lines ≡ false = not_false (list_any fault lines) parts.1 in
    let there : list_any (λ (told : Told). leb endpoints told.dst) lines ≡ false =
    any_of_fewer (λ (told : Told). leb endpoints told.dst) fault (λ told fine. (or_parts _ _ fine).0) lines none in
    let others : list_any (λ (told : Told). eqb told.dst endpoint) lines ≡ false =
    any_of_fewer (λ (told : Told). eqb told.dst endpoint) fault (λ told fine. (or_parts _ _ (or_parts _ _ fine).1).0) lines none in
    let limits : list_any (λ (told : Told). leb slots told.offset || is_no_core told.core) lines ≡ false =
    any_of_fewer (λ (told : Told). leb slots told.offset || is_no_core told.core) fault (λ told fine. (or_parts _ _ (or_parts _ _ fine).1).1) lines none in
    rw (lt-leb endpoints endpoint here, there, le-ltb 64 (allocation_count bytes) few, parts.0, others, limits) refl
