use Rattle.std.proofs.Common.{◌≡◌, ◌∙◌, ◌<◌, ◌≤◌, ◌+◌, ◌*◌, ℕ, List, length, get_or, true, All, sym, ap, subst, arith}
use Rattle.greedy_rules.specs.declared.flows.Item.{Item}
use Rattle.greedy_rules.specs.Batches.{DemandBatch, entry_of}
use Rattle.greedy_rules.specs.Demands.{need_with}
use Rattle.slot_batches.specs.Pieces.{piece_count}
use Rattle.slot_batches.specs.Settled.{slots_filled, settled}
use Rattle.slot_batches.specs.Stands.{StageState, stage_endpoints, batch_size_of, first_slot_of, MayBeFed}
use Rattle.ring_core.specs.contracts.worker.Worker.{the_view}
use Rattle.ring_core.specs.States.{WorkerState}
use Rattle.ring_core.specs.Windows.{Window, batch_of, list_before_stage}
use Rattle.ring_core.specs.Wholes.{StartsStage}
use Rattle.ring_core.proofs.WindowLemmas.{few_items, batch_is}
use Rattle.ring_core.proofs.ServeLemmas.{inside, begun, may_be_fed, left_is, left_fits, nodes_are, taken_fits, sent_fits, starts_next}
use Rattle.ring_core.proofs.worker.Worker.serve_list.Goals as goal

-- what is asked of the worker, as its fields have it
abbrev Asked : List DemandBatch → List Item → ℕ → WorkerState → Type 0
Asked batches items spare w = ((window : Window) × StartsStage batches window w × (items ≡ list_before_stage window w.stage)) × (w.stage < length batches) × (w.endpoints * w.endpoints ≤ spare)

pub serve_list-requires-clause-begun : goal.serve_list-requires-clause-begun
serve_list-requires-clause-begun c =
    let w : WorkerState = the_view c.self.inside in
    let batches = c.args.batches.now in
    let asked : Asked batches c.args.items.now c.args.left.now.spare w = subst (Asked batches c.args.items.now c.args.left.now.spare) (sym c.self.view_is) (c.requires.starts, c.requires.going, c.requires.room) in
    let here = batch_is batches asked.0.0.batches w.stage c.index-batches-self.result asked.0.1.window.batches_are asked.1 c.index-batches-self.is in
    rw here (begun batches asked.0.0 w asked.0.1 asked.1 c.index_mut.result.now c.index_mut.ensures.value)

pub serve_list-requires-clause-may : goal.serve_list-requires-clause-may
serve_list-requires-clause-may c =
    let w : WorkerState = the_view c.self.inside in
    let batches = c.args.batches.now in
    let asked : Asked batches c.args.items.now c.args.left.now.spare w = subst (Asked batches c.args.items.now c.args.left.now.spare) (sym c.self.view_is) (c.requires.starts, c.requires.going, c.requires.room) in
    let here = batch_is batches asked.0.0.batches w.stage c.index-batches-self.result asked.0.1.window.batches_are asked.1 c.index-batches-self.is in
    let state : StageState = c.index_mut.result.now in
    rw here (subst (MayBeFed (batch_of asked.0.0 w.stage).entries (stage_endpoints state) (first_slot_of state)) (sym asked.0.2)
    (may_be_fed batches asked.0.0 w asked.0.1 asked.1 state c.index_mut.ensures.value c.every_batch_leaves_a_list.ensures.next c.lists_may_be_fed.ensures))

pub serve_list-requires-clause-needs : goal.serve_list-requires-clause-needs
serve_list-requires-clause-needs c =
    let w : WorkerState = the_view c.self.inside in
    let batches = c.args.batches.now in
    let asked : Asked batches c.args.items.now c.args.left.now.spare w = subst (Asked batches c.args.items.now c.args.left.now.spare) (sym c.self.view_is) (c.requires.starts, c.requires.going, c.requires.room) in
    let here = batch_is batches asked.0.0.batches w.stage c.index-batches-self.result asked.0.1.window.batches_are asked.1 c.index-batches-self.is in
    let Fit : DemandBatch → List Item → Type 0 = λ batch items. All (λ item. need_with (entry_of batch.entries item.flow) item.need < 4294967296) items in
    subst (λ (b : DemandBatch). Fit b c.args.items.now) (sym here)
    (subst (Fit (batch_of asked.0.0 w.stage)) (sym asked.0.2) (asked.0.1.window.may.applies w.stage (inside batches asked.0.0 w asked.0.1 asked.1)).needs)

pub serve_list-requires-clause-room : goal.serve_list-requires-clause-room
serve_list-requires-clause-room c =
    let w : WorkerState = the_view c.self.inside in
    let batches = c.args.batches.now in
    let asked : Asked batches c.args.items.now c.args.left.now.spare w = subst (Asked batches c.args.items.now c.args.left.now.spare) (sym c.self.view_is) (c.requires.starts, c.requires.going, c.requires.room) in
    let here = batch_is batches asked.0.0.batches w.stage c.index-batches-self.result asked.0.1.window.batches_are asked.1 c.index-batches-self.is in
    let state : StageState = c.index_mut.result.now in
    let fits = left_fits batches asked.0.0 w asked.0.1 asked.1 state c.index_mut.ensures.value c.every_batch_leaves_a_list.ensures.flows c.flows_fit_pairs.ensures in
    let same : settled c.index-batches-self.result (first_slot_of state) (batch_size_of state) c.args.items.now true ≡ settled (batch_of asked.0.0 w.stage) (first_slot_of state) (batch_size_of state) (list_before_stage asked.0.0 w.stage) true =
    λ i. settled (here i) (first_slot_of state) (batch_size_of state) (asked.0.2 i) true in
    omega (arith, ap length same, fits, asked.2)

-- the list that is handed over
left_here : (batches : List DemandBatch) (window : Window) (w : WorkerState) (starts : StartsStage batches window w) (below : w.stage < length batches) (state : StageState) (batch : DemandBatch) (items left : List Item)
    → state ≡ get_or w.stages w.place state → batch ≡ batch_of window w.stage → items ≡ list_before_stage window w.stage → left ≡ settled batch (first_slot_of state) (batch_size_of state) items true
    → left ≡ list_before_stage window (w.stage + 1)
left_here batches window w starts below state batch items left is batch_is items_are left_is' =
    left_is' ∙ ((λ i. settled (batch_is i) (first_slot_of state) (batch_size_of state) (items_are i) true) ∙ left_is batches window w starts below state is)

pub serve_list-requires-clause-fits : goal.serve_list-requires-clause-fits
serve_list-requires-clause-fits c =
    let w : WorkerState = the_view c.self.inside in
    let batches = c.args.batches.now in
    let asked : Asked batches c.args.items.now c.args.left.now.spare w = subst (Asked batches c.args.items.now c.args.left.now.spare) (sym c.self.view_is) (c.requires.starts, c.requires.going, c.requires.room) in
    let inside = inside batches asked.0.0 w asked.0.1 asked.1 in
    let few = few_items w.endpoints asked.0.0 asked.0.1.window.may c.every_batch_leaves_a_list.ensures.flows c.flows_fit_pairs.ensures (w.stage + 1) (omega (arith, inside)) in
    omega (arith, c.requires.fits, nodes_are batches asked.0.0 w asked.0.1 asked.1 c.index_mut.result.now c.index_mut.ensures.value, few)

pub returns-clause-spare : goal.returns-clause-spare
returns-clause-spare c =
    let w : WorkerState = the_view c.self.inside in
    let batches = c.args.batches.now in
    let asked : Asked batches c.args.items.now c.args.left.now.spare w = subst (Asked batches c.args.items.now c.args.left.now.spare) (sym c.self.view_is) (c.requires.starts, c.requires.going, c.requires.room) in
    let here = batch_is batches asked.0.0.batches w.stage c.index-batches-self.result asked.0.1.window.batches_are asked.1 c.index-batches-self.is in
    let left = left_here batches asked.0.0 w asked.0.1 asked.1 c.index_mut.result.now c.index-batches-self.result c.args.items.now c.serve_list.new.left.items c.index_mut.ensures.value here asked.0.2 c.serve_list.ensures.left in
    omega (arith, c.serve_list.ensures.spare, nodes_are batches asked.0.0 w asked.0.1 asked.1 c.index_mut.result.now c.index_mut.ensures.value, ap length left, ap length asked.0.2)

pub count_pieces-requires : goal.count_pieces-requires
count_pieces-requires c =
    let w : WorkerState = the_view c.self.inside in
    let batches = c.args.batches.now in
    let asked : Asked batches c.args.items.now c.args.left.now.spare w = subst (Asked batches c.args.items.now c.args.left.now.spare) (sym c.self.view_is) (c.requires.starts, c.requires.going, c.requires.room) in
    let inside = inside batches asked.0.0 w asked.0.1 asked.1 in
    omega (arith, ap length asked.0.2, few_items w.endpoints asked.0.0 asked.0.1.window.may c.every_batch_leaves_a_list.ensures.flows c.flows_fit_pairs.ensures w.stage (omega (arith, inside)))

pub overflow_add-self : goal.overflow_add-self
overflow_add-self c =
    let w : WorkerState = the_view c.self.inside in
    let batches = c.args.batches.now in
    let asked : Asked batches c.args.items.now c.args.left.now.spare w = subst (Asked batches c.args.items.now c.args.left.now.spare) (sym c.self.view_is) (c.requires.starts, c.requires.going, c.requires.room) in
    let fits = taken_fits batches asked.0.0 w asked.0.1 asked.1 c.every_batch_leaves_a_list.ensures.flows c.flows_fit_pairs.ensures in
    omega (arith, fits, c.count_pieces.ensures, ap piece_count asked.0.2)

pub count_pieces-requires-2 : goal.count_pieces-requires-2
count_pieces-requires-2 c =
    let w : WorkerState = the_view c.self.inside in
    let batches = c.args.batches.now in
    let asked : Asked batches c.args.items.now c.args.left.now.spare w = subst (Asked batches c.args.items.now c.args.left.now.spare) (sym c.self.view_is) (c.requires.starts, c.requires.going, c.requires.room) in
    let here = batch_is batches asked.0.0.batches w.stage c.index-batches-self.result asked.0.1.window.batches_are asked.1 c.index-batches-self.is in
    let left = left_here batches asked.0.0 w asked.0.1 asked.1 c.index_mut.result.now c.index-batches-self.result c.args.items.now c.serve_list.new.left.items c.index_mut.ensures.value here asked.0.2 c.serve_list.ensures.left in
    let inside = inside batches asked.0.0 w asked.0.1 asked.1 in
    omega (arith, ap length c.items.ensures, ap length left, few_items w.endpoints asked.0.0 asked.0.1.window.may c.every_batch_leaves_a_list.ensures.flows c.flows_fit_pairs.ensures (w.stage + 1) (omega (arith, inside)))

pub overflow_add-self-2 : goal.overflow_add-self-2
overflow_add-self-2 c =
    let w : WorkerState = the_view c.self.inside in
    let batches = c.args.batches.now in
    let asked : Asked batches c.args.items.now c.args.left.now.spare w = subst (Asked batches c.args.items.now c.args.left.now.spare) (sym c.self.view_is) (c.requires.starts, c.requires.going, c.requires.room) in
    let here = batch_is batches asked.0.0.batches w.stage c.index-batches-self.result asked.0.1.window.batches_are asked.1 c.index-batches-self.is in
    let left = left_here batches asked.0.0 w asked.0.1 asked.1 c.index_mut.result.now c.index-batches-self.result c.args.items.now c.serve_list.new.left.items c.index_mut.ensures.value here asked.0.2 c.serve_list.ensures.left in
    let fits = sent_fits batches asked.0.0 w asked.0.1 asked.1 c.every_batch_leaves_a_list.ensures.flows c.flows_fit_pairs.ensures in
    omega (arith, fits, c.count_pieces-2.ensures, ap piece_count (c.items.ensures ∙ left))

pub returns-clause-starts : goal.returns-clause-starts
returns-clause-starts c =
    rw (← c.self.view_is) (λ window starts is.
    let w : WorkerState = the_view c.self.inside in
    let batches = c.args.batches.now in
    let below : w.stage < length batches = subst (λ (v : WorkerState). v.stage < length batches) (sym c.self.view_is) c.requires.going in
    let state : StageState = c.index_mut.result.now in
    let here = batch_is batches window.batches w.stage c.index-batches-self.result starts.window.batches_are below c.index-batches-self.is in
    let left = left_here batches window w starts below state c.index-batches-self.result c.args.items.now c.serve_list.new.left.items c.index_mut.ensures.value here is c.serve_list.ensures.left in
    let slots = c.serve_list.ensures.slots ∙ (λ i. slots_filled (here i) (first_slot_of state) (batch_size_of state) (is i) true) in
    let taken = ap (λ (n : ℕ). w.taken + n) (c.count_pieces.ensures ∙ ap piece_count is) in
    let sent = ap (λ (n : ℕ). w.sent + n) (c.count_pieces-2.ensures ∙ ap piece_count (c.items.ensures ∙ left)) in
    let stage = ap (λ (n : ℕ). w.stage + n) c.from.ensures in
    (starts_next batches window w starts below state c.serve_list.new.self _ _ _ c.index_mut.ensures.value c.serve_list.ensures.work slots c.serve_list.ensures.nodes stage taken sent, left))
