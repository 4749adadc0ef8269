use Rattle.std.proofs.Common.{◌≡◌, ◌<◌, ◌+◌, ◌*◌, drop, ℕ, List, ◌++◌, length, Bool, false, None, All, sym, ap, ◌∙◌, subst, arith}
use Rattle.std.proofs.lemmas.List.{length-take}
use Rattle.greedy_rules.specs.declared.flows.Item.{Item}
use Rattle.greedy_rules.specs.Batches.{DemandBatch, entry_of}
use Rattle.greedy_rules.specs.Demands.{need_with}
use Rattle.slot_batches.specs.Pieces.{Part, piece_at, part_of}
use Rattle.slot_batches.specs.Stands.{stage_endpoints, first_slot_of, IsSameWork, MayBeFed, Stands, ListsMayBeFed, StageState}
use Rattle.ring_core.specs.contracts.worker.Worker.{the_view}
use Rattle.ring_core.specs.States.{WorkerState}
use Rattle.ring_core.specs.Windows.{Window, batch_of, first_slot_in, items_fed, list_before_stage}
use Rattle.ring_core.specs.Streams.{IsPieceAt}
use Rattle.ring_core.specs.Ends.{WorkerEnds}
use Rattle.slot_batches.specs.declared.piece.Piece.{Piece}
use Rattle.ring_core.specs.Turns.{piece_to_push}
use Rattle.slot_batches.specs.NextList.{EveryBatchLeavesAList}
use Rattle.ring_core.specs.Workers.{HasPlayed, Plays, StageIsAt}
use Rattle.ring_core.proofs.PlayLemmas.{idle_state}
use Rattle.ring_core.proofs.FeedLemmas.{some_left, piece_is, taken_short, one_piece_on, may_be_fed, needs_fit, at_more, fed_on}
use Rattle.ring_core.proofs.worker.Worker.feed.Goals as goal
use Rattle.ring_core.proofs.WindowLemmas.{batch_is}

pub overflow_add-self : goal.overflow_add-self
overflow_add-self c =
    let plays = c.requires.plays in
    let short = taken_short c.args.batches.now plays.0 c.args.self.now plays.1.0 plays.1.1 plays.1.2 c.requires.going plays.2 c.every_batch_leaves_a_list.ensures.flows c.flows_fit_pairs.ensures in
    omega (arith, short, ap (λ (w : WorkerState). w.taken) c.self.view_is)

-- what the present stage may be fed
may_feed : (batches : List DemandBatch) (ends : WorkerEnds) (w : WorkerState) (fed given : ℕ) (batch : DemandBatch) (state : StageState) (part : Part) (played : HasPlayed batches ends w fed given)
    → w.stage < length batches → piece_to_push ends w ≡ None → batch ≡ batch_of ends.before.window w.stage → StageIsAt w.endpoints ends.before.window w.stage fed given state
    → part ≡ piece_at w.stage (list_before_stage ends.before.window w.stage) fed → EveryBatchLeavesAList → ListsMayBeFed
    → Stands batch (items_fed ends.before.window w.stage fed) false given state × MayBeFed batch.entries (stage_endpoints state) (first_slot_of state) (items_fed ends.before.window w.stage fed ++ part.items)
may_feed batches ends w fed given batch state part played below none batch_is at part_is leaves feed =
    let window : Window = ends.before.window in
    let inside : w.stage < length window.batches = omega (arith, below, ap length played.window.batches_are) in
    let all : items_fed window w.stage (fed + 1) ≡ items_fed window w.stage fed ++ part.items =
    sym (one_piece_on w.endpoints window w.stage fed given played.window.may inside) ∙ ap (λ (p : Part). items_fed window w.stage fed ++ p.items) (sym part_is) in
    let may = may_be_fed w.endpoints window w.stage fed given played.window.may inside leaves feed in
    rw batch_is (
      subst (λ (b : Bool). Stands (batch_of window w.stage) (items_fed window w.stage fed) b given state) (some_left batches ends w fed given played below none) at.stands,
      subst (λ (l : List Item). MayBeFed (batch_of window w.stage).entries (stage_endpoints state) (first_slot_of state) l) all
          (subst (λ (n : ℕ). MayBeFed (batch_of window w.stage).entries n (first_slot_of state) (items_fed window w.stage (fed + 1))) (sym at.work.same_endpoints)
          (subst (λ (n : ℕ). MayBeFed (batch_of window w.stage).entries w.endpoints n (items_fed window w.stage (fed + 1))) (sym at.work.same_first) may)),
    )

-- what is asked of the worker, as its fields have it
abbrev Asked : List DemandBatch → Piece → WorkerState → Type 0
Asked batches piece w = ((ends : WorkerEnds) × Plays batches ends w × (piece_to_push ends w ≡ None) × IsPieceAt ends.before ends.taken piece) × (w.stage < length batches) × (w.held ≡ None)

pub feed_stage-requires-clause-may : goal.feed_stage-requires-clause-may
feed_stage-requires-clause-may c =
    let w : WorkerState = the_view c.self.inside in
    let asked : Asked c.args.batches.now c.args.piece w = subst (Asked c.args.batches.now c.args.piece) (sym c.self.view_is) (c.requires.plays, c.requires.going, c.requires.held) in
    let it = asked.0 in
    let going = asked.1 in
    let held = asked.2 in
    let fed = it.1.0 in
    let given = it.1.1 in
    let here = batch_is c.args.batches.now it.0.before.window.batches w.stage c.index-batches-self.result it.1.2.window.batches_are going c.index-batches-self.is in
    let at = idle_state c.args.batches.now it.0 w fed given it.1.2 c.index_mut.result.now going held c.index_mut.ensures.value in
    let part = piece_is c.args.batches.now it.0 w fed given it.1.2 going it.2 c.args.piece it.3 in
    let may = may_feed c.args.batches.now it.0 w fed given c.index-batches-self.result c.index_mut.result.now (part_of c.args.piece) it.1.2 going it.2 here at part c.every_batch_leaves_a_list.ensures.next c.lists_may_be_fed.ensures in
    (items_fed it.0.before.window w.stage fed, given, may.0, may.1)

pub feed_stage-requires-clause-few : goal.feed_stage-requires-clause-few
feed_stage-requires-clause-few c =
    let w : WorkerState = the_view c.self.inside in
    let asked : Asked c.args.batches.now c.args.piece w = subst (Asked c.args.batches.now c.args.piece) (sym c.self.view_is) (c.requires.plays, c.requires.going, c.requires.held) in
    let it = asked.0 in
    let part = piece_is c.args.batches.now it.0 w it.1.0 it.1.1 it.1.2 asked.1 it.2 c.args.piece it.3 in
    omega (arith, ap (λ (p : Part). length p.items) part, length-take 64 (drop (64 * it.1.0) (list_before_stage it.0.before.window w.stage)))

pub feed_stage-requires-clause-needs : goal.feed_stage-requires-clause-needs
feed_stage-requires-clause-needs c =
    let w : WorkerState = the_view c.self.inside in
    let asked : Asked c.args.batches.now c.args.piece w = subst (Asked c.args.batches.now c.args.piece) (sym c.self.view_is) (c.requires.plays, c.requires.going, c.requires.held) in
    let it = asked.0 in
    let going = asked.1 in
    let held = asked.2 in
    let fed = it.1.0 in
    let given = it.1.1 in
    let window : Window = it.0.before.window in
    let here = batch_is c.args.batches.now window.batches w.stage c.index-batches-self.result it.1.2.window.batches_are going c.index-batches-self.is in
    let part = piece_is c.args.batches.now it.0 w fed given it.1.2 going it.2 c.args.piece it.3 in
    let inside : w.stage < length window.batches = omega (arith, going, ap length it.1.2.window.batches_are) in
    let Fit : DemandBatch → List Item → Type 0 = λ batch items. All (λ item. need_with (entry_of batch.entries item.flow) item.need < 4294967296) items in
    subst (λ (b : DemandBatch). Fit b c.args.piece.items) (sym here)
    (subst (λ (p : Part). Fit (batch_of window w.stage) p.items) (sym part) (needs_fit w.endpoints window w.stage fed given it.1.2.window.may inside))

pub returns-clause-plays : goal.returns-clause-plays
returns-clause-plays c =
    rw (← c.self.view_is) (λ ends plays none is.
    let w : WorkerState = the_view c.self.inside in
    let asked : Asked c.args.batches.now c.args.piece w = subst (Asked c.args.batches.now c.args.piece) (sym c.self.view_is) (c.requires.plays, c.requires.going, c.requires.held) in
    let held = asked.2 in
    let batches = c.args.batches.now in
    let fed = plays.0 in
    let given = plays.1 in
    let played = plays.2 in
    let window : Window = ends.before.window in
    let below = asked.1 in
    let here = batch_is batches window.batches w.stage c.index-batches-self.result played.window.batches_are below c.index-batches-self.is in
    let at = idle_state batches ends w fed given played c.index_mut.result.now below held c.index_mut.ensures.value in
    let part = piece_is batches ends w fed given played below none c.args.piece is in
    let may = may_feed batches ends w fed given c.index-batches-self.result c.index_mut.result.now (part_of c.args.piece) played below none here at part c.every_batch_leaves_a_list.ensures.next c.lists_may_be_fed.ensures in
    let stands = c.feed_stage.ensures.stands (items_fed window w.stage fed) given may.0 may.1 in
    let work = c.feed_stage.ensures.work in
    let same : IsSameWork w.endpoints window.b (w.stage + 1) (first_slot_in window w.stage) c.feed_stage.new.stage = record {
      same_endpoints = work.same_endpoints ∙ at.work.same_endpoints;
      same_size = work.same_size ∙ at.work.same_size;
      same_number = work.same_number ∙ at.work.same_number;
      same_first = work.same_first ∙ at.work.same_first;
    } in
    let more = at_more batches ends w fed given played below none (part_of c.args.piece) c.feed_stage.new.stage part same
    (subst (λ (b : DemandBatch). Stands b (items_fed window w.stage fed ++ c.args.piece.items) c.args.piece.end given c.feed_stage.new.stage) here stands) in
    (fed + 1, given, fed_on batches ends w fed given played below none c.feed_stage.new.stage w.held held more))
