-- What is told of an endpoint's packets: the offsets rise, and each told slot has what its packet and its offset give it.
use Rattle.std.proofs.Common.{◌≡◌, ◌≢◌, ◌<◌, ◌≤◌, ◌+◌, ◌==◌, ℕ, zero, suc, List, [], ◌∷◌, ◌++◌, length, get_or, map, find, Option, Some, None, IfSome, All, Contains, refl, sym, ap, ◌∙◌, subst, arith, inl, inr}
use Rattle.std.specs.Option.{option_map, unwrap_or}
use Rattle.std.specs.List.{range_with_len, cons_option}
use Rattle.std.specs.List.Sorted.{IsStrictlyIncreasing}
use Rattle.std.proofs.lemmas.List.Elements.{All-nil, All-cons, All-map, All-head, All-tail, Contains-append_left, Contains-append_right, Contains-push}
use Rattle.std.proofs.lemmas.List.{length-map, get_or-map}
use Rattle.std.proofs.lemmas.List.FromFn.{length-map-range_with_len, get_or-map-range_with_len, map-range_with_len_more}
use Rattle.std.proofs.lemmas.Bool.{cond_both, eqb-true, cond-true, cond-false, cases_eq, eq-eqb, ne_eqb}
use Rattle.fcp_framing.specs.declared.packet.Told.{Told}
use Rattle.fcp_framing.specs.Spelling.{IsCore}
use Rattle.slot_publisher.specs.Window.{RoutedFlow}
use Rattle.slot_publisher.specs.Told.{packet_sent, told_as, told_from, IsToldOf}
use Rattle.slot_publisher.specs.Places.{Hop, packet_by, told_of_offsets, hop_in, core_named, IsToldList}
use Rattle.slot_publisher.proofs.PacketLemmas.{IsHop}

pub if_some : {X : Type 0} (P : X → Type 0) (o : Option X) → ((x : X) → P x) → IfSome o P
if_some P None all = tt
if_some P (Some x) all = all x

abbrev Each : (Told → Type 0) → ℕ → List (Option RoutedFlow) → Type 0
Each P offset packets = (k : ℕ) → k < length packets → IfSome (get_or packets k None) (λ packet. P (told_as (offset + k) packet))

Each-tail : (P : Told → Type 0) (offset : ℕ) (packet : Option RoutedFlow) (packets : List (Option RoutedFlow)) → Each P offset (packet ∷ packets) → Each P (offset + 1) packets
Each-tail P offset packet packets each k below =
    let next : offset + suc k ≡ (offset + 1) + k = omega arith in
    subst (λ (n : ℕ). IfSome (get_or packets k None) (λ p. P (told_as n p))) next (each (suc k) (omega arith))

-- what holds of each packet, as it is told, holds of each told slot
pub told_each : (P : Told → Type 0) (offset : ℕ) (packets : List (Option RoutedFlow)) → ((k : ℕ) → k < length packets → IfSome (get_or packets k None) (λ packet. P (told_as (offset + k) packet)))
    → All P (told_from offset packets)
told_each P offset [] each = All-nil P
told_each P offset (None ∷ packets) each = told_each P (offset + 1) packets (Each-tail P offset None packets each)
told_each P offset (Some packet ∷ packets) each =
    let first : offset + 0 ≡ offset = omega arith in
    All-cons P (told_as offset packet) (told_from (offset + 1) packets) (subst (λ (n : ℕ). P (told_as n packet)) first (each 0 (omega arith)))
    (told_each P (offset + 1) packets (Each-tail P offset (Some packet) packets each))

increasing-cons : (x : ℕ) (xs : List ℕ) → All (λ y. x < y) xs → IsStrictlyIncreasing xs → IsStrictlyIncreasing (x ∷ xs)
increasing-cons x xs above rises zero below = above 0 0 (omega arith)
increasing-cons x xs above rises (suc k) below = let next : suc k + 1 ≡ suc (k + 1) = omega arith in rw next (rises k (omega arith))

pub told-rising : (offset : ℕ) (packets : List (Option RoutedFlow)) → IsStrictlyIncreasing (map (λ (told : Told). told.offset) (told_from offset packets))
told-rising offset [] = λ k below. absurd (omega arith)
told-rising offset (None ∷ packets) = told-rising (offset + 1) packets
told-rising offset (Some packet ∷ packets) =
    let later : List Told = told_from (offset + 1) packets in
    increasing-cons offset (map (λ (told : Told). told.offset) later)
    (All-map (λ n. offset < n) (λ (told : Told). told.offset) later
    (told_each (λ told. offset < told.offset) (offset + 1) packets (λ k below. if_some (λ _. offset < (offset + 1) + k) (get_or packets k None) (λ _. omega arith))))
    (told-rising (offset + 1) packets)

abbrev GoesOut : List RoutedFlow → Type 0
GoesOut slot = All (λ packet. packet.flow.src ≢ packet.flow.dst) slot

sent_out : (endpoint : ℕ) (slot : List RoutedFlow) → GoesOut slot → IfSome (packet_sent endpoint slot) (λ packet. packet.flow.dst ≢ endpoint)
sent_out endpoint [] out = tt
sent_out endpoint (packet ∷ slot) out = cond_both (packet.flow.src == endpoint) (Some packet) (packet_sent endpoint slot) (λ (p : Option RoutedFlow). IfSome p (λ packet. packet.flow.dst ≢ endpoint))
    (λ here same.
    let source : packet.flow.src ≡ endpoint = eqb-true packet.flow.src endpoint here in
    All-head (λ p. p.flow.src ≢ p.flow.dst) packet slot out (source ∙ sym same))
    (λ _. sent_out endpoint slot (All-tail (λ p. p.flow.src ≢ p.flow.dst) packet slot out))

-- where no packet goes to its own source, no told slot does
pub told_others : (endpoint : ℕ) (slots : List (List RoutedFlow)) → All GoesOut slots → All (λ told. told.dst ≢ endpoint) (told_from 0 (map (packet_sent endpoint) slots))
told_others endpoint slots out = told_each (λ told. told.dst ≢ endpoint) 0 (map (packet_sent endpoint) slots) (λ k below.
    let inside : k < length slots = omega (arith, length-map slots (packet_sent endpoint)) in
    subst (λ (p : Option RoutedFlow). IfSome p (λ packet. packet.flow.dst ≢ endpoint)) (sym (get_or-map (packet_sent endpoint) slots k [] None inside)) (sent_out endpoint (get_or slots k []) (out k [] inside)))

-- ---- told are exactly the endpoint's packets

as_told : (n : ℕ) (o : Option RoutedFlow) → IfSome o (λ packet. option_map (told_as n) o ≡ Some (told_as n packet))
as_told n None = tt
as_told n (Some packet) = refl

pub told_only : (endpoint : ℕ) (slots : List (List RoutedFlow)) → All (IsToldOf slots endpoint) (told_from 0 (map (packet_sent endpoint) slots))
told_only endpoint slots = told_each (IsToldOf slots endpoint) 0 (map (packet_sent endpoint) slots) (λ k below.
    let inside : k < length slots = omega (arith, length-map slots (packet_sent endpoint)) in
    let first : k ≡ 0 + k = omega arith in
    subst (λ (n : ℕ). IfSome (get_or (map (packet_sent endpoint) slots) k None) (λ packet. IsToldOf slots endpoint (told_as n packet))) first
    (subst (λ (p : Option RoutedFlow). IfSome p (λ packet. IsToldOf slots endpoint (told_as k packet))) (sym (get_or-map (packet_sent endpoint) slots k [] None inside))
    (as_told k (packet_sent endpoint (get_or slots k [])))))

told_at : (offset : ℕ) (packets : List (Option RoutedFlow)) (k : ℕ) (packet : RoutedFlow) → get_or packets k None ≡ Some packet → Contains (told_from offset packets) (told_as (offset + k) packet)
told_at offset [] k packet here = absurd (cc)
told_at offset (None ∷ packets) zero packet here = absurd (cc)
told_at offset (Some first ∷ packets) zero packet here =
    let start : offset + 0 ≡ offset = omega arith in
    let same : first ≡ packet = cc in
    let told : Told = told_as offset first in
    subst (λ (n : ℕ). Contains (told ∷ told_from (offset + 1) packets) (told_as n packet)) (sym start)
    (subst (λ (p : RoutedFlow). Contains (told ∷ told_from (offset + 1) packets) (told_as offset p)) same
    (Contains-append_left (told ∷ []) (told_from (offset + 1) packets) told (Contains-push [] told)))
told_at offset (None ∷ packets) (suc k) packet here =
    let next : (offset + 1) + k ≡ offset + suc k = omega arith in
    subst (λ (n : ℕ). Contains (told_from (offset + 1) packets) (told_as n packet)) next (told_at (offset + 1) packets k packet here)
told_at offset (Some first ∷ packets) (suc k) packet here =
    let next : (offset + 1) + k ≡ offset + suc k = omega arith in
    let told : Told = told_as offset first in
    subst (λ (n : ℕ). Contains (told ∷ told_from (offset + 1) packets) (told_as n packet)) next
    (Contains-append_right (told ∷ []) (told_from (offset + 1) packets) (told_as ((offset + 1) + k) packet) (told_at (offset + 1) packets k packet here))

packet_told : (n : ℕ) (o : Option RoutedFlow) (told : Told) → option_map (told_as n) o ≡ Some told → (packet : RoutedFlow) × (o ≡ Some packet) × (told_as n packet ≡ told)
packet_told n None told same = absurd (cc)
packet_told n (Some packet) told same = (packet, refl, cc)

pub told_all : (endpoint : ℕ) (slots : List (List RoutedFlow)) (told : Told) → told.offset < length slots → IsToldOf slots endpoint told → Contains (told_from 0 (map (packet_sent endpoint) slots)) told
told_all endpoint slots told inside is =
    let found = packet_told told.offset (packet_sent endpoint (get_or slots told.offset [])) told is in
    let first : 0 + told.offset ≡ told.offset = omega arith in
    subst (Contains (told_from 0 (map (packet_sent endpoint) slots))) found.2
    (subst (λ (n : ℕ). Contains (told_from 0 (map (packet_sent endpoint) slots)) (told_as n found.0)) first
    (told_at 0 (map (packet_sent endpoint) slots) told.offset found.0 (get_or-map (packet_sent endpoint) slots told.offset [] None inside ∙ found.1)))

-- ---- lists

-- what is told does not name the source
pub told_src : (src : ℕ) (hop_at : ℕ → Option Hop) (offset a n : ℕ)
    → told_from offset (map (λ k. option_map (packet_by src) (hop_at k)) (range_with_len a n)) ≡ told_from offset (map (λ k. option_map (packet_by 0) (hop_at k)) (range_with_len a n))
told_src src hop_at offset a zero = refl
told_src src hop_at offset a (suc n) = cell_told (hop_at a)
    (map (λ k. option_map (packet_by src) (hop_at k)) (range_with_len (a + 1) n)) (map (λ k. option_map (packet_by 0) (hop_at k)) (range_with_len (a + 1) n)) (told_src src hop_at (offset + 1) (a + 1) n)
  where
    cell_told : (cell : Option Hop) (packets others : List (Option RoutedFlow)) → told_from (offset + 1) packets ≡ told_from (offset + 1) others
        → told_from offset (option_map (packet_by src) cell ∷ packets) ≡ told_from offset (option_map (packet_by 0) cell ∷ others)
    cell_told None packets others same = same
    cell_told (Some hop) packets others same = ap (λ (told : List Told). told_as offset (packet_by 0 hop) ∷ told) same

pub told_from-append : (offset next : ℕ) (packets others : List (Option RoutedFlow)) → next ≡ offset + length packets → told_from offset (packets ++ others) ≡ told_from offset packets ++ told_from next others
told_from-append offset next [] others at = ap (λ (n : ℕ). told_from n others) (omega arith)
told_from-append offset next (None ∷ packets) others at = told_from-append (offset + 1) next packets others (omega arith)
told_from-append offset next (Some packet ∷ packets) others at = ap (λ (told : List Told). told_as offset packet ∷ told) (told_from-append (offset + 1) next packets others (omega arith))

told_after : (at from : ℕ) (cell : Option Hop) (packets : List (Option RoutedFlow)) → from ≢ at
    → find (λ (one : Told). one.offset == at) (told_from from (option_map (packet_by 0) cell ∷ packets)) ≡ find (λ (one : Told). one.offset == at) (told_from (from + 1) packets)
told_after at from None packets other = refl
told_after at from (Some hop) packets other =
    cond-false (from == at) (Some (told_as from (packet_by 0 hop))) (find (λ (one : Told). one.offset == at) (told_from (from + 1) packets)) (ne_eqb from at other)

told_here : (at : ℕ) (cell : Option Hop) (packets : List (Option RoutedFlow)) → find (λ (one : Told). one.offset == at) (told_from (at + 1) packets) ≡ None
    → find (λ (one : Told). one.offset == at) (told_from at (option_map (packet_by 0) cell ∷ packets)) ≡ option_map (λ hop. told_as at (packet_by 0 hop)) cell
told_here at None packets none = none
told_here at (Some hop) packets none = cond-true (at == at) (Some (told_as at (packet_by 0 hop))) (find (λ (one : Told). one.offset == at) (told_from (at + 1) packets)) (eq-eqb at at refl)

told_before : (at from n : ℕ) (hop_at : ℕ → Option Hop) → at < from → find (λ (one : Told). one.offset == at) (told_from from (map (λ k. option_map (packet_by 0) (hop_at k)) (range_with_len from n))) ≡ None
told_before at from zero hop_at below = refl
told_before at from (suc n) hop_at below =
    told_after at from (hop_at from) (map (λ k. option_map (packet_by 0) (hop_at k)) (range_with_len (from + 1) n)) (λ same. omega arith) ∙ told_before at (from + 1) n hop_at (omega arith)

told_found : (at from n : ℕ) (hop_at : ℕ → Option Hop) → from ≤ at → at < from + n
    → find (λ (one : Told). one.offset == at) (told_from from (map (λ k. option_map (packet_by 0) (hop_at k)) (range_with_len from n))) ≡ option_map (λ hop. told_as at (packet_by 0 hop)) (hop_at at)
told_found at from zero hop_at low high = absurd (omega arith)
told_found at from (suc n) hop_at low high =
    let later : ℕ → List (Option RoutedFlow) = λ a. map (λ k. option_map (packet_by 0) (hop_at k)) (range_with_len (a + 1) n) in
    elim (cases_eq from at) [
      | inl here ↦
          ap (λ (a : ℕ). find (λ (one : Told). one.offset == at) (told_from a (option_map (packet_by 0) (hop_at a) ∷ later a))) here
          ∙ told_here at (hop_at at) (later at) (told_before at (at + 1) n hop_at (omega arith))
      | inr other ↦ told_after at from (hop_at from) (later from) other ∙ told_found at (from + 1) n hop_at (omega arith) (omega arith)
    ]

core_back : (core : Option ℕ) → IfSome core (λ c. c < 64) → core_named (unwrap_or core 255) ≡ core
core_back None named = refl
core_back (Some core) named = cond-false (core == 255) None (Some core) (ne_eqb core 255 (λ same. omega arith))

core_told : (core : Option ℕ) → IfSome core (λ c. c < 64) → IsCore (unwrap_or core 255)
core_told None named = inr refl
core_told (Some core) named = inl named

hop_back : (endpoints at : ℕ) (cell : Option Hop) → IsHop endpoints cell
    → option_map (λ (one : Told). record { dst = one.dst; core = core_named one.core }) (option_map (λ hop. told_as at (packet_by 0 hop)) cell) ≡ cell
hop_back endpoints at None is = refl
hop_back endpoints at (Some hop) is = ap (λ (core : Option ℕ). Some (record { dst = hop.dst; core = core })) (core_back hop.core is.1)

-- a list says where its endpoint sends
pub hop_in-told : (endpoints : ℕ) (hop_at : ℕ → Option Hop) (b at : ℕ) → at < b → IsHop endpoints (hop_at at) → hop_in (told_of_offsets hop_at b) at ≡ hop_at at
hop_in-told endpoints hop_at b at below is =
    ap (option_map (λ (one : Told). record { dst = one.dst; core = core_named one.core })) (told_found at 0 b hop_at (omega arith) (omega arith)) ∙ hop_back endpoints at (hop_at at) is

pub map_range : {X : Type 0} (f g : ℕ → X) (a n : ℕ) → ((k : ℕ) → a ≤ k → k < a + n → f k ≡ g k) → map f (range_with_len a n) ≡ map g (range_with_len a n)
map_range f g a zero same = refl
map_range {X} f g a (suc n) same =
    ap (λ (x : X). x ∷ map f (range_with_len (a + 1) n)) (same a (omega arith) (omega arith))
    ∙ ap (λ (xs : List X). g a ∷ xs) (map_range f g (a + 1) n (λ k low high. same k (omega arith) (omega arith)))

named_told : (endpoints at : ℕ) (cell : Option Hop) → IsHop endpoints cell
    → IfSome (option_map (packet_by 0) cell) (λ packet. ((told_as at packet).dst < endpoints) × IsCore (told_as at packet).core)
named_told endpoints at None is = tt
named_told endpoints at (Some hop) is = (is.0, core_told hop.core is.1)

pub told_list : (endpoints : ℕ) (hop_at : ℕ → Option Hop) (b : ℕ) → ((offset : ℕ) → offset < b → IsHop endpoints (hop_at offset)) → IsToldList endpoints b (told_of_offsets hop_at b)
told_list endpoints hop_at b hops =
    let sent : ℕ → Option RoutedFlow = λ k. option_map (packet_by 0) (hop_at k) in
    let Names : Told → Type 0 = λ one. (one.dst < endpoints) × IsCore one.core in
    record {
      is = ap (told_from 0) (map_range sent (λ k. option_map (packet_by 0) (hop_in (told_of_offsets hop_at b) k)) 0 b (λ k low high.
          let below : k < b = omega arith in
          ap (option_map (packet_by 0)) (sym (hop_in-told endpoints hop_at b k below (hops k below)))));
      names = told_each Names 0 (map sent (range_with_len 0 b)) (λ k inside.
          let below : k < b = omega (arith, length-map-range_with_len sent 0 b) in
          subst (λ (p : Option RoutedFlow). IfSome p (λ packet. Names (told_as (0 + k) packet))) (sym (get_or-map-range_with_len sent 0 b k k None below (omega arith)))
          (named_told endpoints (0 + k) (hop_at k) (hops k below)));
    }

-- what is told of so many slots has offsets below their number
pub told_offsets : (b endpoint : ℕ) (slots : List (List RoutedFlow)) → length slots ≤ b → All (λ told. told.offset < b) (told_from 0 (map (packet_sent endpoint) slots))
told_offsets b endpoint slots size =
    told_each (λ told. told.offset < b) 0 (map (packet_sent endpoint) slots) (λ k below.
    if_some (λ _. 0 + k < b) (get_or (map (packet_sent endpoint) slots) k None) (λ _. omega (arith, length-map slots (packet_sent endpoint))))

-- what is told of one slot more
pub told_more : (hop_at : ℕ → Option Hop) (b next : ℕ) → next ≡ b + 1 → told_of_offsets hop_at next ≡ told_of_offsets hop_at b ++ told_from b (option_map (packet_by 0) (hop_at b) ∷ [])
told_more hop_at b next is =
    let sent : ℕ → Option RoutedFlow = λ k. option_map (packet_by 0) (hop_at k) in
    ap (told_of_offsets hop_at) is
    ∙ (ap (told_from 0) (map-range_with_len_more sent 0 b b (omega arith))
    ∙ told_from-append 0 b (map sent (range_with_len 0 b)) (sent b ∷ []) (omega (arith, length-map-range_with_len sent 0 b)))

pub slot_told : (offset byte : ℕ) (core dst : Option ℕ) → IfSome dst (λ _. byte ≡ unwrap_or core 255)
    → cons_option (option_map (λ (d : ℕ). record { offset = offset; core = byte; dst = d }) dst) [] ≡ told_from offset (option_map (packet_by 0) (option_map (λ d. record { dst = d; core = core }) dst) ∷ [])
slot_told offset byte core None is = refl
slot_told offset byte core (Some dst) is = ap (λ (c : ℕ). record { offset = offset; core = c; dst = dst } ∷ []) is
