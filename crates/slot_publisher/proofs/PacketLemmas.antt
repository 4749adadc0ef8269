-- The packets of a slot, and what each source sends in it.
use Rattle.std.proofs.Common.{◌≡◌, ◌≢◌, ◌<◌, ◌≤◌, ◌+◌, ℕ, zero, suc, List, [], ◌∷◌, ◌==◌, find, Option, Some, None, IfSome, All, length, refl, sym, ap, ◌∙◌, subst, arith, inl, inr}
use Rattle.std.specs.Option.{option_map, unwrap_or}
use Rattle.std.specs.List.{cons_option}
use Rattle.std.proofs.lemmas.Bool.{cond-true, cond-false, cases_eq, eq-eqb, ne_eqb}
use Rattle.std.proofs.lemmas.List.Elements.{All-nil, All-cons, All-head, All-tail, All-weaker}
use Rattle.greedy_rules.specs.declared.flows.Flow.{Flow}
use Rattle.greedy_rules.specs.SlotTable.{destination_of, IsSlotOf}
use Rattle.greedy_rules.specs.Schedule.{slot_in}
use Rattle.greedy_rules.proofs.SlotSources.{Rises, no_source}
use Rattle.path_workers.specs.CoreTable.{CoreSlots, core_of}
use Rattle.list_facts.proofs.Pairs.{AllPairs-head, AllPairs-tail}
use Rattle.slot_publisher.specs.Window.{RoutedFlow, with_cores, NamesCores}
use Rattle.slot_publisher.specs.Told.{packet_sent}
use Rattle.slot_publisher.specs.Places.{Hop, hop_of, packet_by, packets_by}

-- ---- the packet of a source

other_packet : (src endpoint : ℕ) (cell : Option Hop) (packets : List RoutedFlow) → src ≢ endpoint → packet_sent endpoint (cons_option (option_map (packet_by src) cell) packets) ≡ packet_sent endpoint packets
other_packet src endpoint None packets other = refl
other_packet src endpoint (Some hop) packets other = cond-false (src == endpoint) (Some (packet_by src hop)) (packet_sent endpoint packets) (ne_eqb src endpoint other)

this_packet : (src : ℕ) (cell : Option Hop) (packets : List RoutedFlow) → packet_sent src packets ≡ None → packet_sent src (cons_option (option_map (packet_by src) cell) packets) ≡ option_map (packet_by src) cell
this_packet src None packets none = none
this_packet src (Some hop) packets none = cond-true (src == src) (Some (packet_by src hop)) (packet_sent src packets) (eq-eqb src src refl)

packet_from-none : (cell : ℕ → Option Hop) (src n endpoint : ℕ) → endpoint < src → packet_sent endpoint (packets_by cell src n) ≡ None
packet_from-none cell src zero endpoint low = refl
packet_from-none cell src (suc n) endpoint low =
    other_packet src endpoint (cell src) (packets_by cell (src + 1) n) (λ same. omega arith) ∙ packet_from-none cell (src + 1) n endpoint (omega arith)

pub packet_from-at : (cell : ℕ → Option Hop) (src n endpoint : ℕ) → src ≤ endpoint → endpoint < src + n → packet_sent endpoint (packets_by cell src n) ≡ option_map (packet_by endpoint) (cell endpoint)
packet_from-at cell src zero endpoint low high = absurd (omega arith)
packet_from-at cell src (suc n) endpoint low high = elim (cases_eq src endpoint) [
  | inl here ↦
      ap (λ (s : ℕ). packet_sent s (packets_by cell src (suc n))) (sym here)
      ∙ (this_packet src (cell src) (packets_by cell (src + 1) n) (packet_from-none cell (src + 1) n src (omega arith))
      ∙ ap (λ (s : ℕ). option_map (packet_by s) (cell s)) here)
  | inr other ↦ other_packet src endpoint (cell src) (packets_by cell (src + 1) n) other ∙ packet_from-at cell (src + 1) n endpoint (omega arith) (omega arith)
]

-- ---- the packets of a slot are its flows

other_source : (source : ℕ) (flow : Flow) (slot : List Flow) → flow.src ≢ source → destination_of (flow ∷ slot) source ≡ destination_of slot source
other_source source flow slot other =
    ap (option_map (λ (f : Flow). f.dst)) (cond-false (flow.src == source) (Some flow) (find (λ f. f.src == source) slot) (ne_eqb _ _ other))

this_source : (source : ℕ) (flow : Flow) (slot : List Flow) → flow.src ≡ source → destination_of (flow ∷ slot) source ≡ Some flow.dst
this_source source flow slot same =
    ap (option_map (λ (f : Flow). f.dst)) (cond-true (flow.src == source) (Some flow) (find (λ f. f.src == source) slot) (eq-eqb _ _ same))

-- what each source sends gives the packets of a slot whose flows rise
pub packets_by-slot : (core_of_source : ℕ → Option ℕ) (slot : List Flow) (cell : ℕ → Option Hop) (src n : ℕ) → Rises slot → All (λ flow. src ≤ flow.src) slot → All (λ flow. flow.src < src + n) slot
    → ((source : ℕ) → src ≤ source → source < src + n → cell source ≡ hop_of core_of_source slot source) → packets_by cell src n ≡ with_cores core_of_source slot
packets_by-slot core_of_source [] cell src zero rises above below same = refl
packets_by-slot core_of_source (flow ∷ slot) cell src zero rises above below same =
    let low : src ≤ flow.src = All-head (λ f. src ≤ f.src) flow slot above in
    let high : flow.src < src + 0 = All-head (λ f. f.src < src + 0) flow slot below in
    absurd (omega arith)
packets_by-slot core_of_source [] cell src (suc n) rises above below same =
    let none : cell src ≡ None = same src (omega arith) (omega arith) in
    ap (λ (c : Option Hop). cons_option (option_map (packet_by src) c) (packets_by cell (src + 1) n)) none
    ∙ packets_by-slot core_of_source [] cell (src + 1) n rises (All-nil (λ flow. src + 1 ≤ flow.src)) (All-nil (λ flow. flow.src < (src + 1) + n)) (λ source low high. same source (omega arith) (omega arith))
packets_by-slot core_of_source (flow ∷ slot) cell src (suc n) rises above below same =
    let first : src ≤ flow.src = All-head (λ f. src ≤ f.src) flow slot above in
    let later : All (λ f. flow.src < f.src) slot = AllPairs-head (λ f g. f.src < g.src) flow slot rises in
    let hop_at : ℕ → ℕ → Hop = λ source dst. record { dst = dst; core = core_of_source source } in
    let hop : ℕ → Hop = hop_at src in
    elim (cases_eq flow.src src) [
      | inl here ↦
          let found : cell src ≡ Some (hop flow.dst) = same src (omega arith) (omega arith) ∙ ap (option_map hop) (this_source src flow slot here) in
          let rest : packets_by cell (src + 1) n ≡ with_cores core_of_source slot =
          packets_by-slot core_of_source slot cell (src + 1) n (AllPairs-tail (λ f g. f.src < g.src) flow slot rises)
          (All-weaker (λ f. flow.src < f.src) (λ f. src + 1 ≤ f.src) (λ f lt. omega arith) slot later)
          (All-weaker (λ f. f.src < src + suc n) (λ f. f.src < (src + 1) + n) (λ f lt. omega arith) slot (All-tail (λ f. f.src < src + suc n) flow slot below))
          (λ source low high.
          same source (omega arith) (omega arith)
          ∙ ap (option_map (hop_at source)) (other_source source flow slot (λ e. omega arith))) in
          ap (λ (c : Option Hop). cons_option (option_map (packet_by src) c) (packets_by cell (src + 1) n)) found
          ∙ (ap (λ (packets : List RoutedFlow). packet_by src (hop flow.dst) ∷ packets) rest
          ∙ ap (λ (s : ℕ). record { flow = record { src = s; dst = flow.dst }; core = core_of_source s } ∷ with_cores core_of_source slot) (sym here))
      | inr other ↦
          let all : All (λ f. src < f.src) (flow ∷ slot) =
          All-cons (λ f. src < f.src) flow slot (omega arith) (All-weaker (λ f. flow.src < f.src) (λ f. src < f.src) (λ f lt. omega arith) slot later) in
          let none : cell src ≡ None = same src (omega arith) (omega arith) ∙ ap (option_map hop) (no_source src (flow ∷ slot) all) in
          ap (λ (c : Option Hop). cons_option (option_map (packet_by src) c) (packets_by cell (src + 1) n)) none
          ∙ packets_by-slot core_of_source (flow ∷ slot) cell (src + 1) n rises
          (All-weaker (λ f. src < f.src) (λ f. src + 1 ≤ f.src) (λ f lt. omega arith) (flow ∷ slot) all)
          (All-weaker (λ f. f.src < src + suc n) (λ f. f.src < (src + 1) + n) (λ f lt. omega arith) (flow ∷ slot) below) (λ source low high. same source (omega arith) (omega arith))
    ]

-- ---- what is known of a flow of a slot is known of what its source sends

sent_flow : (P : Flow → Type 0) (slot : List Flow) (source dst : ℕ) → All P slot → destination_of slot source ≡ Some dst → (flow : Flow) × (flow.src ≡ source) × (flow.dst ≡ dst) × P flow
sent_flow P [] source dst all sent = absurd (cc)
sent_flow P (flow ∷ slot) source dst all sent = elim (cases_eq flow.src source) [
  | inl here ↦ let first : Some flow.dst ≡ Some dst = sym (this_source source flow slot here) ∙ sent in (flow, here, cc, All-head P flow slot all)
  | inr other ↦ sent_flow P slot source dst (All-tail P flow slot all) (sym (other_source source flow slot other) ∙ sent)
]

named_core : (slots : List (List Flow)) (cores : CoreSlots) (slot source dst : ℕ) → slot < length slots → NamesCores slots cores → destination_of (slot_in slots slot) source ≡ Some dst
    → IfSome (core_of cores slot source) (λ core. core < 64)
named_core slots cores slot source dst below named sent =
    let Named : ℕ → Type 0 = λ src. IfSome (core_of cores slot src) (λ core. core < 64) in
    let found = sent_flow (λ flow. Named flow.src) (slot_in slots slot) source dst (named slot below) sent in
    subst Named found.1 found.3

sent_in_range : (endpoints : ℕ) (slot : List Flow) (source dst : ℕ) → IsSlotOf endpoints slot → destination_of slot source ≡ Some dst → dst < endpoints
sent_in_range endpoints slot source dst is sent =
    let found = sent_flow (λ flow. (flow.src < endpoints) × (flow.dst < endpoints)) slot source dst is.in_range sent in
    omega (arith, found.2, found.3.1)

-- a destination is below the number of endpoints, and a core below 64
abbrev pub IsHop : ℕ → Option Hop → Type 0
IsHop endpoints cell = IfSome cell (λ hop. (hop.dst < endpoints) × IfSome hop.core (λ core. core < 64))

pub hop_is : (endpoints : ℕ) (slots : List (List Flow)) (cores : CoreSlots) (slot source : ℕ) → IsSlotOf endpoints (slot_in slots slot) → slot < length slots → NamesCores slots cores
    → IsHop endpoints (hop_of (core_of cores slot) (slot_in slots slot) source)
hop_is endpoints slots cores slot source is below named = sent_so (destination_of (slot_in slots slot) source) refl
  where
    sent_so : (dst : Option ℕ) → destination_of (slot_in slots slot) source ≡ dst → IsHop endpoints (option_map (λ d. record { dst = d; core = core_of cores slot source }) dst)
    sent_so None none = tt
    sent_so (Some dst) sent = (sent_in_range endpoints (slot_in slots slot) source dst is sent, named_core slots cores slot source dst below named sent)

-- the byte of a core that is named is its own, where the source sends
pub named_byte : (slots : List (List Flow)) (cores : CoreSlots) (slot source byte : ℕ) (dst : Option ℕ) → slot < length slots → NamesCores slots cores → dst ≡ destination_of (slot_in slots slot) source
    → (IfSome (core_of cores slot source) (λ core. core < 64) → byte ≡ unwrap_or (core_of cores slot source) 255) → IfSome dst (λ _. byte ≡ unwrap_or (core_of cores slot source) 255)
named_byte slots cores slot source byte None below named is byte_is = tt
named_byte slots cores slot source byte (Some dst) below named is byte_is = byte_is (named_core slots cores slot source dst below named (sym is))
