-- The run of a trace is one of a trace: what is asked for is bounded, and raw packets keep the rules of upward ones.
use Rattle.std.proofs.Common.{◌≡◌, ◌<◌, ◌≤◌, ◌+◌, ℕ, zero, suc, List, [], ◌∷◌, length, get_or, drop, Bool, true, Option, Some, None, All, refl, sym, ap, ◌∙◌, subst, inl, inr, arith}
use Rattle.std.specs.Prelude.{◌==◌, sum_by, filter, is_none, unwrap_or}
use Rattle.std.specs.List.{range_with_len}
use Rattle.std.proofs.lemmas.Bool.{eqb-true, and_parts}
use Rattle.std.proofs.lemmas.List.{drop_more, length-replicate}
use Rattle.std.proofs.lemmas.List.Elements.{All-nil, All-cons, All-head, All-tail, All-filter, All-map, filter_passes}
use Rattle.std.proofs.lemmas.List.FromFn.{get_or-range_with_len, length-range_with_len}
use Rattle.std.proofs.lemmas.List.Sums.{sum_by-cons}
use Rattle.fcp_framing.specs.Fields.{up_of}
use Rattle.fcp_framing.specs.Laws.{WereSpelledSo, AreBytes}
use Rattle.fcp_framing.specs.Refusals.{first_refusal, refuses_up}
use Rattle.fcp_framing.specs.Spelling.{IsUp, SpellsUp}
use Rattle.fcp_framing.specs.declared.packet.Up.{Up}
use Rattle.clos_topology.specs.Network.{endpoints_of}
use Rattle.clos_topology.specs.NetSlots.{SlotCores}
use Rattle.endpoint_history.specs.Packets.{UpPacket, up_packet, framed_up, AreFramedAlike}
use Rattle.lane_rounds.specs.Outside.{names}
use Rattle.lane_rounds.specs.Raw.{Raw}
use Rattle.trace_text.specs.Trace.{TraceContent, boots_at, raw_at, last_one}
use Rattle.trace_text.specs.Valid.{IsTrace, amount_for}
use Rattle.trace_run.specs.Agents.{booted_in}
use Rattle.trace_run.specs.Recorded.{asked_in}
use Rattle.trace_run.specs.Recorded as run
use Rattle.replay_rounds.specs.Setting.{rows_from, raw_rows, outside_of, setting_of}

-- ---- sums over the first of some

abbrev sum_below : (ℕ → ℕ) → ℕ → ℕ
sum_below f zero = 0
sum_below f (suc n) = sum_below f n + f n

fronts : {X : Type 0} (h : X → ℕ) (d : X) (f : ℕ → ℕ) (xs : List X) → ((i : ℕ) → i < length xs → h (get_or xs i d) ≡ f i) →
    (n : ℕ) → n ≤ length xs → sum_below f n + sum_by h (drop n xs) ≡ sum_by h xs
fronts h d f xs same zero within = omega arith
fronts h d f xs same (suc n) within =
    let before = fronts h d f xs same n (omega arith) in
    let next = ap (sum_by h) (drop_more xs n d (omega arith)) in
    let push = sum_by-cons h (get_or xs n d) (drop (n + 1) xs) in
    let here = same n (omega arith) in
    let on : sum_by h (drop (n + 1) xs) ≡ sum_by h (drop (suc n) xs) = (let e : n + 1 ≡ suc n = omega arith in ap (λ k. sum_by h (drop k xs)) e) in
    omega arith

-- the slots that a trace asks for
asked-is : (trace : TraceContent) (n src dst : ℕ) → asked_in (outside_of trace) n src dst ≡ sum_below (λ r. amount_for dst (get_or (get_or trace.asked r []) src [])) n
asked-is trace zero src dst = refl
asked-is trace (suc n) src dst = let before = asked-is trace n src dst in omega arith

pub asked-bounded : (trace : TraceContent) → IsTrace trace → (n src dst : ℕ) → n ≤ trace.rounds → asked_in (outside_of trace) n src dst ≤ 100000000
asked-bounded trace is n src dst within =
    let h : List (List (ℕ × ℕ)) → ℕ = λ round. amount_for dst (get_or round src []) in
    let all = fronts h [] (λ r. h (get_or trace.asked r [])) trace.asked (λ i below. refl) n (omega (arith, is.rounds)) in
    omega (arith, asked-is trace n src dst, all, is.bounded src dst)

-- and the boots in it
booted-is : (trace : TraceContent) (n endpoint : ℕ) → booted_in (outside_of trace) n endpoint ≡ sum_below (λ r. length (boots_at trace r endpoint)) n
booted-is trace zero endpoint = refl
booted-is trace (suc n) endpoint =
    let before = booted-is trace n endpoint in
    omega (arith, length-replicate (length (boots_at trace n endpoint)) (unwrap_or (last_one (boots_at trace n endpoint)) 1))

pub booted-bounded : (trace : TraceContent) → IsTrace trace → (n endpoint : ℕ) → n ≤ trace.rounds → booted_in (outside_of trace) n endpoint ≤ 67108864
booted-bounded trace is n endpoint within =
    let h : ℕ → ℕ = λ r. length (boots_at trace r endpoint) in
    let long = length-range_with_len 0 trace.rounds in
    let all = fronts h 0 h (range_with_len 0 trace.rounds) (λ i below. let on : 0 + i ≡ i = omega arith in ap h (get_or-range_with_len 0 trace.rounds i 0 (omega arith) ∙ on)) n (omega arith) in
    omega (arith, booted-is trace n endpoint, all, is.few_boots endpoint)

-- ---- raw packets

rows-bytes : (place : ℕ) (raw : List (List ℕ)) → All AreBytes raw → All (λ (r : Raw). AreBytes r.bytes) (rows_from place raw)
rows-bytes place [] are = All-nil (λ (r : Raw). AreBytes r.bytes)
rows-bytes place (bytes ∷ raw) are =
    All-cons (λ (r : Raw). AreBytes r.bytes) (record { place = place; bytes = bytes }) (rows_from (place + 1) raw) (All-head AreBytes bytes raw are)
    (rows-bytes (place + 1) raw (All-tail AreBytes bytes raw are))

rules_of : (endpoints : ℕ) (bytes : List ℕ) (up : Up) → SpellsUp endpoints bytes up → IsUp endpoints up
rules_of endpoints bytes up spells = elim spells [
  | inl reset ↦ inl reset.rules
  | inr request ↦ inr request.rules
]

none-is : {X : Type 0} (o : Option X) → is_none o ≡ true → o ≡ None
none-is None is = refl
none-is (Some x) is = absurd cc

-- what names an endpoint keeps the rules of a packet from it
named-up : WereSpelledSo → AreFramedAlike → (endpoint endpoints : ℕ) (bytes : List ℕ) → endpoints ≤ 256 → AreBytes bytes → names endpoint endpoints bytes ≡ true →
    IsUp endpoints (framed_up endpoint (up_packet (up_of bytes)))
unfolding names
named-up spelled alike endpoint endpoints bytes few are named =
    let both = and_parts (is_none (first_refusal (refuses_up endpoints bytes))) ((up_of bytes).src == endpoint) named in
    let accepted = none-is (first_refusal (refuses_up endpoints bytes)) both.0 in
    let own : (up_of bytes).src ≡ endpoint = eqb-true (up_of bytes).src endpoint both.1 in
    let rules = rules_of endpoints bytes (up_of bytes) (spelled.up endpoints bytes few are accepted) in
    subst (λ n. IsUp endpoints (framed_up n (up_packet (up_of bytes)))) own (subst (IsUp endpoints) (sym (alike.up_back endpoints (up_of bytes) rules)) rules)

raw-rules : WereSpelledSo → AreFramedAlike → (trace : TraceContent) → IsTrace trace → (round endpoint : ℕ) →
    All (λ packet. IsUp (endpoints_of trace.net) (framed_up endpoint packet)) ((outside_of trace).raw round endpoint)
raw-rules spelled alike trace is round endpoint =
    let endpoints : ℕ = endpoints_of trace.net in
    let rows : List Raw = raw_rows trace round in
    let test : Raw → Bool = λ r. names endpoint endpoints r.bytes in
    let bytes = All-filter test (λ (r : Raw). AreBytes r.bytes) rows (rows-bytes 0 (raw_at trace round) (is.bytes round)) in
    let passed = filter_passes test rows in
    All-map (λ (packet : UpPacket). IsUp endpoints (framed_up endpoint packet)) (λ (r : Raw). up_packet (up_of r.bytes)) (filter test rows)
    (λ i d below. named-up spelled alike endpoint endpoints (get_or (filter test rows) i d).bytes is.net.most_endpoints (bytes i d below) (passed i d below))

-- ---- the rules of a trace

pub is_trace_of_run : WereSpelledSo → AreFramedAlike → (trace : TraceContent) (b g : ℕ) (cores : SlotCores) → IsTrace trace → b ≤ 64 → 0 < g → run.KeepsTraceRules (setting_of trace b g cores) trace.rounds
is_trace_of_run spelled alike trace b g cores is batch window = record {
  batch = batch;
  window = window;
  length = is.few_rounds;
  apart = λ round endpoint. is.apart round endpoint;
  few = λ src dst. asked-bounded trace is trace.rounds src dst (omega arith);
  raw = λ round endpoint. raw-rules spelled alike trace is round endpoint;
}
