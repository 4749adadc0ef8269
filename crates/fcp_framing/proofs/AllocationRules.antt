-- The tests on an allocation's bytes, and the rules of the allocation.
use Rattle.std.proofs.Common.{◌≡◌, ℕ, zero, suc, ◌+◌, ◌*◌, ◌<◌, ◌≤◌, true, false, not, ◌||◌, ltb, leb, eqb, List, [], ◌∷◌, ◌++◌, length, map, drop, refl, ap, ◌∙◌, inl, inr, arith}
use Rattle.std.specs.Int.{w32}
use Rattle.std.specs.List.{list_any, All, AllByRecursion}
use Rattle.std.specs.Simd.{first_chunks}
use Rattle.std.proofs.lemmas.Bool.{leb-false, lt-leb, le-leb, ltb-false, le-ltb, eqb-false, ne_eqb, cases_lt, or_parts, or_from, not-false}
use Rattle.std.proofs.lemmas.List.{length-append}
use Rattle.std.proofs.lemmas.List.Folds.{list_any_none}
use Rattle.std.proofs.lemmas.List.Elements.{recursion_from_All, All-from_recursion}
use Rattle.fcp_framing.specs.declared.packet.Told.{Told}
use Rattle.fcp_framing.specs.declared.packet.Down.{Down}
use Rattle.fcp_framing.specs.Versions.{IsVersion}
use Rattle.fcp_framing.specs.Spelling.{IsCore, IsAllocation, FitsDown, down_bytes, SpellsDown}
use Rattle.fcp_framing.specs.Fields.{version_in, kind_in, endpoint_in, mask_in, told_in_bytes, told_slots_in, mask_end, allocation_count, allocation_header, allocation_length, down_of}
use Rattle.fcp_framing.specs.Refusals.{is_rising, is_no_core, names_below_one, refuses_allocation}
use Rattle.fcp_framing.proofs.Rising.{increasing_from_rising, rising_from_increasing}
use Rattle.fcp_framing.proofs.BelowOne.{mask_rule, mask_test}
use Rattle.fcp_framing.proofs.Finding.{HoldsNone, HoldsBefore, behind, none_of_any, above_zero}
use Rattle.fcp_framing.proofs.Numbers.{AreBytes, AreBytes-take, AreBytes-drop, field32, number_at-below}
use Rattle.fcp_framing.proofs.Widths.{mask_field, bits_from_width, within_128}
use Rattle.fcp_framing.proofs.Entries.{FitsTold}
use Rattle.fcp_framing.proofs.Allocations.{length-told_slots_in, allocation_written, FitsAllocation, allocation_again, allocation_count_again, length-down_bytes}

pub allocation_fits : (bytes : List ℕ) → AreBytes bytes → FitsDown (down_of bytes)
unfolding down_of
allocation_fits bytes fits = record {
  epoch = number_at-below w32 field32 4 bytes fits;
  seq = number_at-below w32 field32 8 bytes fits;
  high = number_at-below w32 field32 12 bytes fits;
  batch = number_at-below w32 field32 (mask_end bytes) bytes fits;
}

core_rule : (core : ℕ) → core < 256 → is_no_core core ≡ false → IsCore core
core_rule core fits test =
    elim (cases_lt core 64) [
      | inl switch ↦ inl switch
      | inr past ↦
          let from : leb 64 core ≡ true = le-leb 64 core past in
          let above : leb core 254 ≡ false = rw from at test in
          inr (let high = leb-false core 254 above in omega arith)
    ]

core_test : (core : ℕ) → IsCore core → is_no_core core ≡ false
core_test core (inl switch) = rw (lt-leb 64 core switch) refl
core_test core (inr none) = rw none refl

-- each core stands in a byte
told_slots_in-core : (bytes : List ℕ) → AreBytes bytes → All (λ (told : Told). told.core < 256) (told_slots_in bytes)
told_slots_in-core bytes fits = map_all (first_chunks 4 (allocation_count bytes) (drop (allocation_header bytes) bytes)) (chunks_fit (allocation_count bytes) (drop (allocation_header bytes) bytes) (AreBytes-drop (allocation_header bytes) bytes fits))
  where
    chunks_fit : (k : ℕ) (rest : List ℕ) → AreBytes rest → AllByRecursion AreBytes (first_chunks 4 k rest)
    chunks_fit zero rest below = tt
    chunks_fit (suc k) rest below = (AreBytes-take 4 rest below, chunks_fit k (drop 4 rest) (AreBytes-drop 4 rest below))

    map_all : (entries : List (List ℕ)) → AllByRecursion AreBytes entries → All (λ (told : Told). told.core < 256) (map told_in_bytes entries)
    map_all entries below = All-from_recursion (λ (told : Told). told.core < 256) (map told_in_bytes entries) (cores entries below)
      where
        cores : (entries : List (List ℕ)) → AllByRecursion AreBytes entries → AllByRecursion (λ (told : Told). told.core < 256) (map told_in_bytes entries)
        cores [] below = tt
        cores (entry ∷ entries) below = (below.0.below 1, cores entries below.1)

-- an allocation that no test refuses keeps every rule
allocation_rules : (endpoints slots : ℕ) (bytes : List ℕ) → endpoints ≤ 256 → AreBytes bytes → IsVersion (version_in bytes) → HoldsNone (refuses_allocation endpoints slots bytes) → IsAllocation endpoints slots (down_of bytes)
unfolding down_of
allocation_rules endpoints slots bytes network fits version none =
    let slots_told = told_slots_in bytes in
    let width = bits_from_width (version_in bytes) (mask_in bytes) (number_at-below _ (mask_field (version_in bytes)) 16 bytes fits) in
    let endpoint = or_parts (leb endpoints (endpoint_in bytes)) (list_any (λ (told : Told). leb endpoints told.dst) slots_told) none.endpoint in
    let count : allocation_count bytes ≤ 64 = ltb-false _ _ none.count in
    let limits = none_of_any (λ (told : Told). leb slots told.offset || is_no_core told.core) slots_told none.much in
    record {
      network = network;
      version = version;
      destination = leb-false _ _ endpoint.0;
      epoch = above_zero _ none.epoch;
      seq = above_zero _ none.seq;
      mask = mask_rule _ _ (within_128 (version_in bytes) (mask_in bytes) width) none.mask;
      width = width;
      count = omega (arith, length-told_slots_in bytes);
      destinations = λ k d within. leb-false _ _ (none_of_any (λ (told : Told). leb endpoints told.dst) slots_told endpoint.1 k d within);
      rising = increasing_from_rising (map (λ (told : Told). told.offset) slots_told) (not-false _ none.order);
      others = λ k d within. eqb-false _ _ (none_of_any (λ (told : Told). eqb told.dst (endpoint_in bytes)) slots_told none.own k d within);
      offsets = λ k d within. leb-false _ _ (or_parts _ _ (limits k d within)).0;
      cores = λ k d within. core_rule _ (told_slots_in-core bytes fits k d within) (or_parts _ _ (limits k d within)).1;
    }

pub allocation_spelled : (endpoints slots : ℕ) (bytes : List ℕ) → endpoints ≤ 256 → AreBytes bytes → IsVersion (version_in bytes) → kind_in bytes ≡ 3 → HoldsNone (refuses_allocation endpoints slots bytes)
    → SpellsDown endpoints slots bytes (down_of bytes)
allocation_spelled endpoints slots bytes network fits version kind none =
    let short = or_parts (ltb (length bytes) (allocation_header bytes)) (ltb (length bytes) (allocation_length bytes)) none.short in
    let long : allocation_length bytes ≤ length bytes = ltb-false _ _ short.1 in
    let ended : length bytes ≤ allocation_length bytes = ltb-false _ _ none.trailing in
    record {
      rules = allocation_rules endpoints slots bytes network fits version none;
      fits = allocation_fits bytes fits;
      text = allocation_written bytes fits (omega arith) kind;
    }

-- an allocation that keeps the rules fits its fields
pub allocation_fitting : (endpoints slots : ℕ) (down : Down) → IsAllocation endpoints slots down → FitsDown down → FitsAllocation down
allocation_fitting endpoints slots down rules fits =
    let network = rules.network in
    let few = rules.count in
    let here = rules.destination in
    record {
      dst = omega arith;
      mask = rules.width;
      count = omega arith;
      told = recursion_from_All FitsTold down.told.items (λ k d within. let there = rules.destinations k d within in omega arith);
      numbers = fits;
    }

-- the tests on the bytes of an allocation, whatever follows them
pub allocation_passes : (endpoints slots : ℕ) (down : Down) (more : List ℕ) → IsAllocation endpoints slots down → FitsDown down
    → HoldsBefore (refuses_allocation endpoints slots (down_bytes down ++ more)) (length more)
unfolding down_bytes down_of
allocation_passes endpoints slots down more rules fits =
    let bytes = down_bytes down ++ more in
    let fitting = allocation_fitting endpoints slots down rules fits in
    let again : down_of bytes ≡ down = allocation_again down more fitting in
    let count : allocation_count bytes ≡ length down.told.items = allocation_count_again down more fitting.count in
    let len : length bytes ≡ allocation_header bytes + 4 * length down.told.items + length more = omega (arith, length-append (down_bytes down) more, length-down_bytes down) in
    let few = rules.count in
    let epoch = rules.epoch in
    let seq = rules.seq in
    let destination : leb endpoints down.dst ≡ false = lt-leb _ _ rules.destination in
    let destinations : list_any (λ (told : Told). leb endpoints told.dst) down.told.items ≡ false =
    list_any_none (λ (told : Told). leb endpoints told.dst) down.told.items (λ k d within. lt-leb _ _ (rules.destinations k d within)) in
    let rising : is_rising (map (λ (told : Told). told.offset) down.told.items) ≡ true = rising_from_increasing (map (λ (told : Told). told.offset) down.told.items) rules.rising in
    let others : list_any (λ (told : Told). eqb told.dst down.dst) down.told.items ≡ false =
    list_any_none (λ (told : Told). eqb told.dst down.dst) down.told.items (λ k d within. ne_eqb _ _ (rules.others k d within)) in
    let limits : list_any (λ (told : Told). leb slots told.offset || is_no_core told.core) down.told.items ≡ false =
    list_any_none (λ (told : Told). leb slots told.offset || is_no_core told.core) down.told.items (λ k d within.
    or_from _ _ (lt-leb _ _ (rules.offsets k d within)) (core_test _ (rules.cores k d within))) in
    let header_there : ltb (length bytes) (allocation_header bytes) ≡ false = le-ltb _ _ (omega arith) in
    let all_there : ltb (length bytes) (allocation_length bytes) ≡ false = le-ltb _ _ (omega arith) in
    record {
      short = rw (header_there, all_there) refl;
      version = refl;
      kind = refl;
      endpoint = ap (λ (u : Down). leb endpoints u.dst || list_any (λ (told : Told). leb endpoints told.dst) u.told.items) again ∙ rw (destination, destinations) refl;
      count = le-ltb _ _ (omega arith);
      order = ap (λ (u : Down). not (is_rising (map (λ (told : Told). told.offset) u.told.items))) again ∙ rw rising refl;
      own = ap (λ (u : Down). list_any (λ (told : Told). eqb told.dst u.dst) u.told.items) again ∙ others;
      much = ap (λ (u : Down). list_any (λ (told : Told). leb slots told.offset || is_no_core told.core) u.told.items) again ∙ limits;
      mask = ap (λ (u : Down). names_below_one u.high u.mask) again ∙ mask_test down.high down.mask rules.mask;
      trailing = behind (allocation_length bytes) (length bytes) (length more) (omega arith);
      epoch = ap (λ (u : Down). eqb u.epoch 0) again ∙ ne_eqb _ _ (λ (e : down.epoch ≡ 0). omega arith);
      seq = ap (λ (u : Down). eqb u.seq 0) again ∙ ne_eqb _ _ (λ (e : down.seq ≡ 0). omega arith);
    }
