use Rattle.std.proofs.Common.{◌≡◌, ◌<◌, ◌≤◌, ◌+◌, ◌-◌, ◌*◌, ◌^◌, ℕ, List, [], ◌∷◌, ◌++◌, length, All, sym, ap, ◌∙◌, subst, arith, length-drop}
use Rattle.std.proofs.Math.Nat.{mul-le-mul_right}
use Rattle.std.proofs.lemmas.List.{append-nil}
use Rattle.std.proofs.lemmas.List.Elements.{All-nil, All-cons, All-head, All-tail}
use Rattle.greedy_rules.specs.declared.flows.Item.{Item}
use Rattle.greedy_rules.specs.Batches.{DemandBatch}
use Rattle.greedy_rules.specs.Demands.{Demands, AreBelow, OpensNewFlows, opened}
use Rattle.greedy_rules.specs.Recorded.{Applies}
use Rattle.greedy_rules.proofs.OnceLemmas.{InRange}
use Rattle.slot_batches.specs.NextList.{IsListBefore}
use Rattle.slot_batches.specs.Stands.{MayBeFed, stage_endpoints, first_slot_of}
use Rattle.slot_batches.proofs.SetAside.{All-back}
use Rattle.schedule_audit.specs.Demanded.{Demanded}
use Rattle.schedule_audit.specs.contracts.demand.Demand.{the_view}
use Rattle.schedule_audit.proofs.demand.Demand.serve.Goals as goal

-- what is asked, of what is seen of the demand
abbrev Asked : DemandBatch → ℕ → Demanded → Type 0
Asked batch first d = Applies d.endpoints batch d.items × IsListBefore first d.items

first-part : (P : Item → Type 0) (xs ys : List Item) → All P (xs ++ ys) → All P xs
first-part P [] ys all = All-nil P
first-part P (x ∷ xs) ys all = All-cons P x xs (All-head P x (xs ++ ys) all) (first-part P xs ys (All-tail P x (xs ++ ys) all))

-- pairs of few endpoints are few
few-pairs : (n : ℕ) → n ≤ 256 → n * (n - 1) < 2 ^ 32
few-pairs n few = let most = mul-le-mul_right (n - 1) few in omega (arith, most, few)

pub begin-requires-clause-in_range : goal.begin-requires-clause-in_range
begin-requires-clause-in_range c =
    let d : Demanded = the_view c.self.inside in
    let asked : Asked c.args.batch.now c.args.first_slot d = subst (Asked c.args.batch.now c.args.first_slot) (sym c.self.view_is) (c.requires.applies, c.requires.before) in
    All-back (InRange d.endpoints) d.items (opened c.args.batch.now.entries) asked.0.below

pub serve_list-requires-clause-may : goal.serve_list-requires-clause-may
serve_list-requires-clause-may c =
    let d : Demanded = the_view c.self.inside in
    let batch = c.args.batch.now in
    let asked : Asked batch c.args.first_slot d = subst (Asked batch c.args.first_slot) (sym c.self.view_is) (c.requires.applies, c.requires.before) in
    let whole = append-nil d.items in
    let may : MayBeFed batch.entries d.endpoints c.args.first_slot d.items =
    c.lists_may_be_fed.ensures batch.entries d.endpoints c.args.first_slot d.items [] (subst (IsListBefore c.args.first_slot) (sym whole) asked.1)
    (subst (AreBelow d.endpoints) (sym whole) (first-part (InRange d.endpoints) d.items (opened batch.entries) asked.0.below)) (subst (OpensNewFlows batch.entries) (sym whole) asked.0.opens) in
    let work = c.begin.ensures.work in
    subst (MayBeFed batch.entries (stage_endpoints c.begin.new.self) (first_slot_of c.begin.new.self)) (sym c.items.ensures)
    (subst (λ (n : ℕ). MayBeFed batch.entries n (first_slot_of c.begin.new.self) d.items) (sym work.same_endpoints)
    (subst (λ (n : ℕ). MayBeFed batch.entries d.endpoints n d.items) (sym work.same_first) may))

pub serve_list-requires-clause-fits : goal.serve_list-requires-clause-fits
serve_list-requires-clause-fits c =
    let d : Demanded = the_view c.self.inside in
    let batch = c.args.batch.now in
    let asked : Asked batch c.args.first_slot d = subst (Asked batch c.args.first_slot) (sym c.self.view_is) (c.requires.applies, c.requires.before) in
    let (few, none, spare, room, left) = c.self.invariant in
    let pairs = few-pairs d.endpoints few in
    let opens = c.flows_fit_pairs.ensures d.endpoints batch.entries d.items asked.0.rises asked.0.opens asked.0.once asked.0.below asked.0.apart in
    let loose = c.begin.ensures.stands.nodes in
    let taken = ap length c.begin.ensures.spare in
    omega (arith, pairs, opens, loose, taken, spare, length-drop (length (opened c.args.batch.now.entries)) c.self.inside.spare)

pub invariant_of-self : goal.invariant_of-self
invariant_of-self c =
    let d : Demanded = the_view c.self.inside in
    let batch = c.args.batch.now in
    let asked : Asked batch c.args.first_slot d = subst (Asked batch c.args.first_slot) (sym c.self.view_is) (c.requires.applies, c.requires.before) in
    let (few, none, spare, room, left) = c.self.invariant in
    let same : stage_endpoints c.serve_list.new.self ≡ d.endpoints = c.serve_list.ensures.work.same_endpoints ∙ c.begin.ensures.work.same_endpoints in
    let opens = c.flows_fit_pairs.ensures d.endpoints batch.entries d.items asked.0.rises asked.0.opens asked.0.once asked.0.below asked.0.apart in
    let nodes = c.begin.ensures.stands.nodes in
    let taken = ap length c.begin.ensures.spare in
    let dropped = length-drop (length (opened batch.entries)) c.self.inside.spare in
    let cleared = c.clear.ensures.spare in
    let empty = ap length c.clear.ensures.empty in
    let Fits : ℕ → Type 0 = λ n. (n ≤ 256) × (c.serve_list.new.self.nodes ≡ 0) × (length c.serve_list.new.spare ≡ n * (n - 1)) × (n * (n - 1) ≤ length c.swap.new.x.items + c.swap.new.x.spare)
    × (n * (n - 1) ≤ length c.swap.new.y.items + c.swap.new.y.spare) in
    subst Fits (sym same) (
      few,
      c.serve_list.ensures.nodes,
      omega (arith, c.serve_list.ensures.spare, nodes, taken, dropped, spare, opens),
      subst (λ (l : Demands). d.endpoints * (d.endpoints - 1) ≤ length l.items + l.spare) (sym c.swap.ensures.x_after) (omega (arith, c.serve_list.ensures.left_room, cleared, left)),
      subst (λ (l : Demands). d.endpoints * (d.endpoints - 1) ≤ length l.items + l.spare) (sym c.swap.ensures.y_after) room,
    )
