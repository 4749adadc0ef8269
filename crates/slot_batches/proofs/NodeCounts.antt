-- How many items are settled, and how many nodes a stage has for them.
use Rattle.std.proofs.Common.{◌≡◌, ◌<◌, ◌≤◌, ◌+◌, ◌-◌, ◌*◌, ◌⊎◌, ℕ, zero, suc, List, [], ◌∷◌, ◌++◌, length, take, min, map, filter, Bool, true, false, cond, nat_lt, ◌&&◌, ◌||◌, Some, None, refl, ap, ◌∙◌, subst, arith, inl, inr}
use Rattle.std.proofs.lemmas.Bool.{ltb-true}
use Rattle.std.proofs.lemmas.List.{length-append, length-map, length-drop, length-take}
use Rattle.std.proofs.lemmas.Nat.{mul-le}
use Rattle.list_facts.proofs.Lists.{filter-few}
use Rattle.greedy_rules.specs.declared.flows.Item.{Item}
use Rattle.greedy_rules.specs.declared.flows.Entry.{Entry}
use Rattle.greedy_rules.specs.Batches.{DemandBatch}
use Rattle.greedy_rules.specs.Limits.{is_barred}
use Rattle.greedy_rules.specs.Demands.{opened, after_batch, HasEachFlowOnce, AreBelow}
use Rattle.greedy_rules.proofs.Facts.{once-opened, few}
use Rattle.greedy_rules.proofs.NeedLemmas.{opening_item}
use Rattle.slot_batches.specs.Settled.{counts_as_fed, has_no_slot, next_list, settled}
use Rattle.slot_batches.specs.Pieces.{Part, piece_at, waiting_items, has_piece, next_piece}
use Rattle.slot_batches.specs.ArrayStands.{ArrayState, ArrayStands, MayBeFed, array_endpoints, array_first, array_size}
use Rattle.slot_batches.proofs.NextList.{length-after_slots, length-after_batch}
use Rattle.slot_batches.specs.Stands.{nodes_left}

pub settled-all : (batch : DemandBatch) (number b : ℕ) (fed : List Item) → length (settled batch number b fed true) ≡ length fed + length (opened batch.entries)
settled-all batch number b fed = length-after_slots (is_barred batch.limits) number b (after_batch batch.entries fed) ∙ length-after_batch batch.entries fed

pub settled-few : (batch : DemandBatch) (number b : ℕ) (fed : List Item) → length (settled batch number b fed false) ≤ length fed + length (opened batch.entries)
settled-few batch number b fed =
    omega (arith, filter-few (λ item. counts_as_fed batch.entries fed item.flow && has_no_slot number item) (next_list batch number b fed), settled-all batch number b fed)

-- more items are fed, and there are as many more nodes
pub more_nodes : (batch : DemandBatch) (fed front : List Item) (given nodes : ℕ) (stage : ArrayState) → ArrayStands batch fed false given stage → nodes ≡ nodes_left batch fed given
    → nodes + length front ≡ nodes_left batch (fed ++ front) given
more_nodes batch fed front given nodes stage stands is = elim (stands.more_wait refl) [
  | inl none ↦ omega (arith, none, is, length-append fed front)
  | inr many ↦ omega (arith, many, is, length-append fed front, ap length stands.list, settled-few batch (array_first stage) (array_size stage) fed)
]

-- one more item is fed, and there is one more node
pub one_more_node : (batch : DemandBatch) (fed front : List Item) (given nodes : ℕ) (stage : ArrayState) → ArrayStands batch fed false given stage → length front ≡ 1 → nodes ≡ nodes_left batch fed given
    → nodes + 1 ≡ nodes_left batch (fed ++ front) given
one_more_node batch fed front given nodes stage stands one is = elim (stands.more_wait refl) [
  | inl none ↦ omega (arith, none, is, one, length-append fed front)
  | inr many ↦ omega (arith, many, is, one, length-append fed front, ap length stands.list, settled-few batch (array_first stage) (array_size stage) fed)
]

-- each flow has one item
flows_short : (endpoints : ℕ) (list : List Item) → endpoints ≤ 256 → HasEachFlowOnce list → AreBelow endpoints list → length list ≤ 65536
flows_short endpoints list small once below = omega (arith, few endpoints list once below, mul-le endpoints endpoints 256 256 small small)

-- so a stage has few nodes
pub nodes_short : (batch : DemandBatch) (fed more : List Item) (given nodes : ℕ) (stage : ArrayState) → ArrayStands batch fed false given stage
    → MayBeFed batch.entries (array_endpoints stage) (array_first stage) (fed ++ more) → nodes ≡ nodes_left batch fed given → nodes + length more < 18446744073709551616
nodes_short batch fed more given nodes stage stands may is =
    let feeding = stands.feeding refl in
    let list = flows_short (array_endpoints stage) (fed ++ more) feeding.small may.once may.in_range in
    let open_ones = flows_short (array_endpoints stage) (opened batch.entries) feeding.small (once-opened batch.entries feeding.rising) feeding.opening in
    omega (arith, list, open_ones, is, length-append fed more)

-- a piece that comes is the one at its place
some_of : (is : Bool) (part next : Part) → cond is (Some part) None ≡ Some next → (is ≡ true) × (part ≡ next)
some_of true part next e = (refl, cc)
some_of false part next e = cc

-- the nodes are enough for the items of a piece, and as many are left as the stage has then
fits : (all n given items nodes : ℕ) → ((64 < n - 64 * given) × (n ≤ all)) ⊎ (n ≡ all) → items ≡ min 64 (n - 64 * given) → nodes ≡ all - 64 * given → (items ≤ nodes) × (nodes - items ≡ all - 64 * (given + 1))
fits all n given items nodes (inl many) items_are nodes_are = (omega (arith, many.0, many.1, items_are, nodes_are), omega (arith, many.0, many.1, items_are, nodes_are))
fits all n given items nodes (inr whole) items_are nodes_are = (omega (arith, whole, items_are, nodes_are), omega (arith, whole, items_are, nodes_are))

or_false : (is : Bool) → (is || false) ≡ true → is ≡ true
or_false true e = refl
or_false false e = e

-- either more than a piece waits, or all of the list is settled
enough : (batch : DemandBatch) (fed : List Item) (finished : Bool) (given first b : ℕ) → has_piece finished given (settled batch first b fed finished) ≡ true
    → ((64 < length (settled batch first b fed finished) - 64 * given) × (length (settled batch first b fed finished) ≤ length fed + length (opened batch.entries)))
    ⊎ (length (settled batch first b fed finished) ≡ length fed + length (opened batch.entries))
enough batch fed true given first b has = inr (settled-all batch first b fed)
enough batch fed false given first b has =
    let list : List Item = settled batch first b fed false in
    let many = ltb-true 64 (length (waiting_items given list)) (or_false (nat_lt 64 (length (waiting_items given list))) has) in
    inl (omega (arith, many, length-drop (64 * given) list), settled-few batch first b fed)

abbrev NodesFit : DemandBatch → List Item → ℕ → ℕ → Part → Type 0
NodesFit batch fed given nodes part = (length part.items ≤ nodes) × (nodes - length part.items ≡ nodes_left batch fed (given + 1))

pub piece_nodes : (batch : DemandBatch) (fed : List Item) (finished : Bool) (given number first b nodes : ℕ) (part : Part)
    → next_piece number finished given (settled batch first b fed finished) ≡ Some part → nodes ≡ nodes_left batch fed given → NodesFit batch fed given nodes part
piece_nodes batch fed finished given number first b nodes part comes nodes_are =
    let list : List Item = settled batch first b fed finished in
    let it = some_of (has_piece finished given list) (piece_at number list given) part comes in
    let rest : List Item = waiting_items given list in
    let long : length rest ≡ length list - 64 * given = length-drop (64 * given) list in
    let items : length (take 64 rest) ≡ min 64 (length list - 64 * given) = omega (arith, length-take 64 rest, long) in
    let all : ℕ = length fed + length (opened batch.entries) in
    subst (λ (p : Part). NodesFit batch fed given nodes p) it.1 (fits all (length list) given (length (take 64 rest)) nodes (enough batch fed finished given first b it.0) items nodes_are)

-- how many of a batch's entries open
length-one : (f : Entry → Item) (is : Bool) (entry : Entry) (entries : List Entry) → length (map f (cond is (entry ∷ entries) entries)) ≡ cond is 1 0 + length (map f entries)
length-one f true entry entries = omega arith
length-one f false entry entries = omega arith

pub opened_front : (n : ℕ) (batch : List Entry) → length (opened (take n batch)) ≤ length (opened batch)
opened_front zero batch = omega arith
opened_front (suc n) [] = omega arith
opened_front (suc n) (entry ∷ batch) =
    let less : length (opened (take (suc n) (entry ∷ batch))) ≡ cond entry.opens 1 0 + length (opened (take n batch)) = length-one opening_item entry.opens entry (filter (λ (e : Entry). e.opens) (take n batch)) in
    let all : length (opened (entry ∷ batch)) ≡ cond entry.opens 1 0 + length (opened batch) = length-one opening_item entry.opens entry (filter (λ (e : Entry). e.opens) batch) in
    omega (arith, less, all, opened_front n batch)

pub opened_few : (batch : List Entry) → length (opened batch) ≤ length batch
opened_few batch =
    let same : length (opened batch) ≡ length (filter (λ (e : Entry). e.opens) batch) = length-map (filter (λ (e : Entry). e.opens) batch) opening_item in
    omega (arith, same, filter-few (λ (e : Entry). e.opens) batch)

-- the nodes are enough for what waits, whether it is to be given yet or not
pub waiting_few : (batch : DemandBatch) (fed : List Item) (finished : Bool) (given nodes : ℕ) (stage : ArrayState) → ArrayStands batch fed finished given stage → nodes ≡ nodes_left batch fed given
    → length stage.fill.waiting - stage.given ≤ nodes
waiting_few batch fed true given nodes stage stands is =
    omega (arith, is, stands.given_is, ap length stands.list, settled-all batch (array_first stage) (array_size stage) fed)
waiting_few batch fed false given nodes stage stands is =
    omega (arith, is, stands.given_is, ap length stands.list, settled-few batch (array_first stage) (array_size stage) fed)
