-- The tests on a request's bytes, and the rules of the request.
use Rattle.std.proofs.Common.{◌≡◌, ℕ, ◌+◌, ◌*◌, ◌<◌, ◌≤◌, true, false, not, ◌||◌, ltb, leb, eqb, List, ◌++◌, length, map, refl, ap, ◌∙◌, arith}
use Rattle.std.specs.Int.{w32}
use Rattle.std.specs.List.{list_any}
use Rattle.std.proofs.lemmas.Bool.{leb-false, lt-leb, ltb-false, le-ltb, eqb-false, ne_eqb, or_parts, not-false}
use Rattle.std.proofs.lemmas.List.{length-append}
use Rattle.std.proofs.lemmas.List.Folds.{list_any_none}
use Rattle.std.proofs.lemmas.List.Elements.{recursion_from_All}
use Rattle.fcp_framing.specs.declared.packet.Demand.{Demand}
use Rattle.fcp_framing.specs.declared.packet.Up.{Up}
use Rattle.fcp_framing.specs.Versions.{IsVersion}
use Rattle.fcp_framing.specs.Spelling.{IsRequest, FitsUp, request_bytes, SpellsRequest}
use Rattle.fcp_framing.specs.Fields.{version_in, kind_in, mask_in, demands_in, request_count, request_header, request_length, request_of}
use Rattle.fcp_framing.specs.Refusals.{is_rising, names_below_one, refuses_request}
use Rattle.fcp_framing.proofs.Rising.{increasing_from_rising, rising_from_increasing}
use Rattle.fcp_framing.proofs.BelowOne.{mask_rule, mask_test}
use Rattle.fcp_framing.proofs.Finding.{HoldsNone, HoldsBefore, behind, none_of_any, above_zero}
use Rattle.fcp_framing.proofs.Numbers.{AreBytes, field32, number_at-below}
use Rattle.fcp_framing.proofs.Widths.{mask_field, bits_from_width, within_128}
use Rattle.fcp_framing.proofs.Entries.{FitsDemand}
use Rattle.fcp_framing.proofs.Requests.{length-demands_in, request_written, FitsRequest, request_again, request_count_again, length-request_bytes}

pub request_fits : (bytes : List ℕ) → AreBytes bytes → FitsUp (request_of bytes)
request_fits bytes fits = record {
  epoch = number_at-below w32 field32 4 bytes fits;
  seq = number_at-below w32 field32 8 bytes fits;
  high = number_at-below w32 field32 12 bytes fits;
}

-- a request that no test refuses keeps every rule
pub request_rules : (endpoints : ℕ) (bytes : List ℕ) → endpoints ≤ 256 → AreBytes bytes → IsVersion (version_in bytes) → HoldsNone (refuses_request endpoints bytes) → IsRequest endpoints (request_of bytes)
request_rules endpoints bytes network fits version none =
    let width = bits_from_width (version_in bytes) (mask_in bytes) (number_at-below _ (mask_field (version_in bytes)) 16 bytes fits) in
    let demands = demands_in bytes in
    let endpoint = or_parts (leb endpoints (request_of bytes).src) (list_any (λ (demand : Demand). leb endpoints demand.dst) demands) none.endpoint in
    let count : request_count bytes < endpoints = leb-false _ _ none.count in
    record {
      network = network;
      version = version;
      kind = refl;
      source = leb-false _ _ endpoint.0;
      epoch = above_zero _ none.epoch;
      seq = above_zero _ none.seq;
      mask = mask_rule _ _ (within_128 (version_in bytes) (mask_in bytes) width) none.mask;
      width = width;
      count = omega (arith, length-demands_in bytes);
      destinations = λ k d within. leb-false _ _ (none_of_any (λ (demand : Demand). leb endpoints demand.dst) demands endpoint.1 k d within);
      rising = increasing_from_rising (map (λ (demand : Demand). demand.dst) demands) (not-false _ none.order);
      others = λ k d within. eqb-false _ _ (none_of_any (λ (demand : Demand). eqb demand.dst (request_of bytes).src) demands none.own k d within);
      totals = λ k d within. ltb-false _ _ (none_of_any (λ (demand : Demand). ltb 200000000 demand.total) demands none.much k d within);
    }

pub request_spelled : (endpoints : ℕ) (bytes : List ℕ) → endpoints ≤ 256 → AreBytes bytes → IsVersion (version_in bytes) → kind_in bytes ≡ 1 → HoldsNone (refuses_request endpoints bytes)
    → SpellsRequest endpoints bytes (request_of bytes)
request_spelled endpoints bytes network fits version kind none =
    let short = or_parts (ltb (length bytes) (request_header bytes)) (ltb (length bytes) (request_length bytes)) none.short in
    let long : request_length bytes ≤ length bytes = ltb-false _ _ short.1 in
    let ended : length bytes ≤ request_length bytes = ltb-false _ _ none.trailing in
    record {
      rules = request_rules endpoints bytes network fits version none;
      fits = request_fits bytes fits;
      text = request_written bytes fits (omega arith) kind;
    }

-- a request that keeps the rules fits its fields
pub request_fitting : (endpoints : ℕ) (up : Up) → IsRequest endpoints up → FitsUp up → FitsRequest up
request_fitting endpoints up rules fits =
    let network = rules.network in
    let few = rules.count in
    let here = rules.source in
    record {
      kind = rules.kind;
      src = omega arith;
      mask = rules.width;
      count = omega arith;
      demands = recursion_from_All FitsDemand up.demands.items (λ k d within.
          let there = rules.destinations k d within in
          let much = rules.totals k d within in
          record { dst = omega arith; total = omega arith });
      numbers = fits;
    }

-- the tests on the bytes of a request, whatever follows them
pub request_passes : (endpoints : ℕ) (up : Up) (more : List ℕ) → IsRequest endpoints up → FitsUp up → HoldsBefore (refuses_request endpoints (request_bytes up ++ more)) (length more)
request_passes endpoints up more rules fits =
    let bytes = request_bytes up ++ more in
    let fitting = request_fitting endpoints up rules fits in
    let again : request_of bytes ≡ up = request_again up more fitting in
    let count : request_count bytes ≡ length up.demands.items = request_count_again up more fitting.count in
    let len : length bytes ≡ request_header bytes + 6 * length up.demands.items + length more = omega (arith, length-append (request_bytes up) more, length-request_bytes up) in
    let few = rules.count in
    let epoch = rules.epoch in
    let seq = rules.seq in
    let source : leb endpoints up.src ≡ false = lt-leb _ _ rules.source in
    let destinations : list_any (λ (demand : Demand). leb endpoints demand.dst) up.demands.items ≡ false =
    list_any_none (λ (demand : Demand). leb endpoints demand.dst) up.demands.items (λ k d within. lt-leb _ _ (rules.destinations k d within)) in
    let rising : is_rising (map (λ (demand : Demand). demand.dst) up.demands.items) ≡ true = rising_from_increasing (map (λ (demand : Demand). demand.dst) up.demands.items) rules.rising in
    let others : list_any (λ (demand : Demand). eqb demand.dst up.src) up.demands.items ≡ false =
    list_any_none (λ (demand : Demand). eqb demand.dst up.src) up.demands.items (λ k d within. ne_eqb _ _ (rules.others k d within)) in
    let totals : list_any (λ (demand : Demand). ltb 200000000 demand.total) up.demands.items ≡ false =
    list_any_none (λ (demand : Demand). ltb 200000000 demand.total) up.demands.items (λ k d within. le-ltb _ _ (rules.totals k d within)) in
    let header_there : ltb (length bytes) (request_header bytes) ≡ false = le-ltb _ _ (omega arith) in
    let all_there : ltb (length bytes) (request_length bytes) ≡ false = le-ltb _ _ (omega arith) in
    record {
      short = rw (header_there, all_there) refl;
      version = refl;
      kind = refl;
      endpoint = ap (λ (u : Up). leb endpoints u.src || list_any (λ (demand : Demand). leb endpoints demand.dst) u.demands.items) again ∙ rw (source, destinations) refl;
      count = lt-leb _ _ (omega arith);
      order = ap (λ (u : Up). not (is_rising (map (λ (demand : Demand). demand.dst) u.demands.items))) again ∙ rw rising refl;
      own = ap (λ (u : Up). list_any (λ (demand : Demand). eqb demand.dst u.src) u.demands.items) again ∙ others;
      much = ap (λ (u : Up). list_any (λ (demand : Demand). ltb 200000000 demand.total) u.demands.items) again ∙ totals;
      mask = ap (λ (u : Up). names_below_one u.high u.mask) again ∙ mask_test up.high up.mask rules.mask;
      trailing = behind (request_length bytes) (length bytes) (length more) (omega arith);
      epoch = ap (λ (u : Up). eqb u.epoch 0) again ∙ ne_eqb _ _ (λ (e : up.epoch ≡ 0). omega arith);
      seq = ap (λ (u : Up). eqb u.seq 0) again ∙ ne_eqb _ _ (λ (e : up.seq ≡ 0). omega arith);
    }
