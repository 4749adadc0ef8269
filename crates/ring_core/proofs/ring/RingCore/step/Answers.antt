use Rattle.std.proofs.Common.{◌≡◌, ◌<◌, ◌-◌, ◌∙◌, ℕ, List, length, Some, None, slice_get, refl, sym, ap, subst, arith}
use Rattle.std.specs.Vec.{with_items}
use Rattle.std.proofs.lemmas.Option.{same_Some}
use Rattle.greedy_rules.specs.declared.flows.Item.{Item}
use Rattle.ring_core.specs.declared.whole.Whole.{Whole}
use Rattle.ring_core.specs.contracts.ring.RingCore.{the_view}
use Rattle.ring_core.specs.States.{EdgeState, RingState, WorkerState}
use Rattle.ring_core.specs.Windows.{Window, worker_after}
use Rattle.ring_core.specs.Workers.{Plays}
use Rattle.ring_core.specs.Turns.{TurnAnswers}
use Rattle.ring_core.specs.Edges.{OthersStay, IsFoundEmpty, IsFoundFull, ends_between}
use Rattle.ring_core.specs.Cores.{IsPlaying, window_in}
use Rattle.ring_core.specs.Wholes.{with_list, whole_nodes}
use Rattle.ring_core.proofs.BeginLemmas.{written}
use Rattle.ring_core.proofs.WholeLemmas.{list_length}
use Rattle.ring_core.proofs.PlayLemmas.{get_set_other}
use Rattle.ring_core.proofs.RingLemmas.{next, here, plays_here, playing_on, spare_on}
use Rattle.ring_core.proofs.MoveLemmas.{moves}
use Rattle.ring_core.proofs.ring.RingCore.step.Goals as goal

-- with no list that lies whole the edges are as the code has them
left_whole : (workers : ℕ) (new old : Whole) (edges items : List EdgeState) → new ≡ record old { stage = None } → items ≡ edges → with_list new.stage workers new.list.items items ≡ edges
left_whole workers new old edges items none is = ap (λ (w : Whole). with_list w.stage workers w.list.items items) none ∙ is

pub send-requires-clause-workers : goal.send-requires-clause-workers
send-requires-clause-workers c =
    let core : RingState = the_view c.self.inside in
    let playing : IsPlaying c.args.batches.now core = subst (IsPlaying c.args.batches.now) (sym c.self.view_is) c.requires.playing in
    (playing.ring.some_workers, ap length c.deref_mut.ensures.value ∙ (sym (list_length c.self.inside.whole.stage core.workers c.self.inside.whole.list.items c.self.inside.edges.items) ∙ playing.ring.edge_count))

pub send-requires-clause-short : goal.send-requires-clause-short
send-requires-clause-short c = λ number edge is.
    let core : RingState = the_view c.self.inside in
    let playing : IsPlaying c.args.batches.now core = subst (IsPlaying c.args.batches.now) (sym c.self.view_is) c.requires.playing in
    let there : slice_get core.edges number ≡ Some edge = ap (λ (es : List EdgeState). slice_get (with_list c.self.inside.whole.stage core.workers c.self.inside.whole.list.items es) number) (sym c.deref_mut.ensures.value) ∙ is in
    omega (arith, (playing.holds.each number edge there).within, playing.short number)

pub turn_at-requires-clause-plays : goal.turn_at-requires-clause-plays
turn_at-requires-clause-plays c =
    let core : RingState = the_view c.self.inside in
    let raw : List EdgeState = c.self.inside.edges.items in
    let items_of_list : List Item = c.self.inside.whole.list.items in
    let sent_count = ap length c.send.ensures.edges ∙ list_length c.self.inside.whole.stage c.self.inside.workers items_of_list c.deref_mut.result.now in
    let edges_are : c.deref_mut-2.result.now ≡ core.edges =
    c.deref_mut-2.ensures.value ∙ (written c.self.inside.edges c.send.new.edges c.deref_mut.result.now c.deref_mut.ensures.value sent_count
    ∙ (c.send.ensures.edges ∙ ap (with_list c.self.inside.whole.stage c.self.inside.workers items_of_list) c.deref_mut.ensures.value)) in
    let batches = c.args.batches.now in
    let playing : IsPlaying batches core = subst (IsPlaying batches) (sym c.self.view_is) c.requires.playing in
    let number : ℕ = c.args.worker in
    let below : number < core.workers = subst (λ (v : RingState). number < v.workers) (sym c.self.view_is) c.requires.worker in
    let old : WorkerState = c.index_mut.result.now in
    let after : c.worker_after-after.result ≡ worker_after core.workers number = c.worker_after-after.ensures.value ∙ ap (λ (v : RingState). worker_after v.workers number) (sym c.self.view_is) in
    let plays = plays_here batches core number old old core.edges playing below c.index_mut.ensures.value (record { same_number = refl; same_workers = refl; same_endpoints = refl; same_batches = refl; same_b = refl }) in
    subst (λ (es : List EdgeState). Plays batches (ends_between (window_in batches core) es number c.worker_after-after.result) old) (sym edges_are)
    (subst (λ (n : ℕ). Plays batches (ends_between (window_in batches core) core.edges number n) old) (sym after) plays)

pub returns-clause-playing : goal.returns-clause-playing
returns-clause-playing c =
    let core : RingState = the_view c.self.inside in
    let raw : List EdgeState = c.self.inside.edges.items in
    let items_of_list : List Item = c.self.inside.whole.list.items in
    let sent_count = ap length c.send.ensures.edges ∙ list_length c.self.inside.whole.stage c.self.inside.workers items_of_list c.deref_mut.result.now in
    let edges_are : c.deref_mut-2.result.now ≡ core.edges =
    c.deref_mut-2.ensures.value ∙ (written c.self.inside.edges c.send.new.edges c.deref_mut.result.now c.deref_mut.ensures.value sent_count
    ∙ (c.send.ensures.edges ∙ ap (with_list c.self.inside.whole.stage c.self.inside.workers items_of_list) c.deref_mut.ensures.value)) in
    let batches = c.args.batches.now in
    let playing : IsPlaying batches core = subst (IsPlaying batches) (sym c.self.view_is) c.requires.playing in
    let number : ℕ = c.args.worker in
    let below : number < core.workers = subst (λ (v : RingState). number < v.workers) (sym c.self.view_is) c.requires.worker in
    let new : List EdgeState = c.turn_at.new.edges in
    let told = c.turn_at.ensures in
    let after : c.worker_after-after.result ≡ worker_after core.workers number = c.worker_after-after.ensures.value ∙ ap (λ (v : RingState). worker_after v.workers number) (sym c.self.view_is) in
    let others : OthersStay number (worker_after core.workers number) core.edges new =
    subst (λ (es : List EdgeState). OthersStay number (worker_after core.workers number) es new) edges_are
    (subst (λ (n : ℕ). OthersStay number n c.deref_mut-2.result.now new) after told.others) in
    let plays = subst (λ (n : ℕ). Plays batches (ends_between (window_in batches core) new number n) c.turn_at.new.worker) after told.plays in
    let items = left_whole c.self.inside.workers c.send.new.self c.self.inside.whole new _ c.send.ensures.none (written (with_items c.self.inside.edges c.send.new.edges) new c.deref_mut-2.result.now c.deref_mut-2.ensures.value told.others.count) in
    let spare : core.spare ≡ length c.send.new.spare - whole_nodes c.send.new.self.stage c.send.new.self.list.items =
    omega (arith, c.send.ensures.nodes, ap (λ (w : Whole). whole_nodes w.stage w.list.items) c.send.ensures.none) in
    spare_on batches _ (length c.send.new.spare - whole_nodes c.send.new.self.stage c.send.new.self.list.items) spare
    (subst (λ (es : List EdgeState). IsPlaying batches (record (next batches core number c.index_mut.result.now c.turn_at.new.worker new playing below c.index_mut.ensures.value told.worker) { edges = es })) (sym items)
    (playing_on batches core number c.index_mut.result.now c.turn_at.new.worker new playing below c.index_mut.ensures.value told.worker told.holds others plays))

pub returns-clause-answer : goal.returns-clause-answer
returns-clause-answer c =
    rw (← c.self.view_is) (λ worker is.
    let core : RingState = the_view c.self.inside in
    let raw : List EdgeState = c.self.inside.edges.items in
    let items_of_list : List Item = c.self.inside.whole.list.items in
    let sent_count = ap length c.send.ensures.edges ∙ list_length c.self.inside.whole.stage c.self.inside.workers items_of_list c.deref_mut.result.now in
    let edges_are : c.deref_mut-2.result.now ≡ core.edges =
    c.deref_mut-2.ensures.value ∙ (written c.self.inside.edges c.send.new.edges c.deref_mut.result.now c.deref_mut.ensures.value sent_count
    ∙ (c.send.ensures.edges ∙ ap (with_list c.self.inside.whole.stage c.self.inside.workers items_of_list) c.deref_mut.ensures.value)) in
    let batches = c.args.batches.now in
    let playing : IsPlaying batches core = subst (IsPlaying batches) (sym c.self.view_is) c.requires.playing in
    let number : ℕ = c.args.worker in
    let below : number < core.workers = subst (λ (v : RingState). number < v.workers) (sym c.self.view_is) c.requires.worker in
    let new : List EdgeState = c.turn_at.new.edges in
    let old : WorkerState = c.index_mut.result.now in
    let told = c.turn_at.ensures in
    let window : Window = window_in batches core in
    let after : c.worker_after-after.result ≡ worker_after core.workers number = c.worker_after-after.ensures.value ∙ ap (λ (v : RingState). worker_after v.workers number) (sym c.self.view_is) in
    let items = left_whole c.self.inside.workers c.send.new.self c.self.inside.whole new _ c.send.ensures.none (written (with_items c.self.inside.edges c.send.new.edges) new c.deref_mut-2.result.now c.deref_mut-2.ensures.value told.others.count) in
    let same : old ≡ worker = same_Some old worker (sym (here batches core number old c.turn_at.new.worker new playing below c.index_mut.ensures.value told.worker) ∙ is) in
    let at : (w : WorkerState) → (es : List EdgeState) → (n : ℕ) → (fs : List EdgeState) → Type 0 =
    λ w es n fs. TurnAnswers batches w (ends_between window es number n) (ends_between window fs number n) (IsFoundEmpty fs number) (IsFoundFull fs n) c.turn_at.result in
    subst (λ (fs : List EdgeState). at worker core.edges (worker_after core.workers number) fs) (sym items)
    (subst (λ (w : WorkerState). at w core.edges (worker_after core.workers number) new) same
    (subst (λ (es : List EdgeState). at old es (worker_after core.workers number) new) edges_are
    (subst (λ (n : ℕ). at old c.deref_mut-2.result.now n new) after told.answer))))

pub returns-clause-others : goal.returns-clause-others
returns-clause-others c =
    rw (← c.self.view_is) (
    let core : RingState = the_view c.self.inside in
    let raw : List EdgeState = c.self.inside.edges.items in
    let items_of_list : List Item = c.self.inside.whole.list.items in
    let sent_count = ap length c.send.ensures.edges ∙ list_length c.self.inside.whole.stage c.self.inside.workers items_of_list c.deref_mut.result.now in
    let edges_are : c.deref_mut-2.result.now ≡ core.edges =
    c.deref_mut-2.ensures.value ∙ (written c.self.inside.edges c.send.new.edges c.deref_mut.result.now c.deref_mut.ensures.value sent_count
    ∙ (c.send.ensures.edges ∙ ap (with_list c.self.inside.whole.stage c.self.inside.workers items_of_list) c.deref_mut.ensures.value)) in
    let batches = c.args.batches.now in
    let playing : IsPlaying batches core = subst (IsPlaying batches) (sym c.self.view_is) c.requires.playing in
    let number : ℕ = c.args.worker in
    let new : List EdgeState = c.turn_at.new.edges in
    let told = c.turn_at.ensures in
    let after : c.worker_after-after.result ≡ worker_after core.workers number = c.worker_after-after.ensures.value ∙ ap (λ (v : RingState). worker_after v.workers number) (sym c.self.view_is) in
    let others : OthersStay number (worker_after core.workers number) core.edges new =
    subst (λ (es : List EdgeState). OthersStay number (worker_after core.workers number) es new) edges_are
    (subst (λ (n : ℕ). OthersStay number n c.deref_mut-2.result.now new) after told.others) in
    record {
      edges = subst (OthersStay number (worker_after core.workers number) core.edges) (sym (left_whole c.self.inside.workers c.send.new.self c.self.inside.whole new _ c.send.ensures.none (written (with_items c.self.inside.edges c.send.new.edges) new c.deref_mut-2.result.now c.deref_mut-2.ensures.value told.others.count))) others;
      crew = λ k other. get_set_other core.crew number k c.turn_at.new.worker other;
      same = record { same_workers = refl; same_endpoints = refl; same_batches = refl; same_b = refl; same_room = refl };
      same_stages = refl;
    })

pub returns-clause-moves : goal.returns-clause-moves
returns-clause-moves c =
    rw (← c.self.view_is) (λ can.
    let core : RingState = the_view c.self.inside in
    let raw : List EdgeState = c.self.inside.edges.items in
    let items_of_list : List Item = c.self.inside.whole.list.items in
    let sent_count = ap length c.send.ensures.edges ∙ list_length c.self.inside.whole.stage c.self.inside.workers items_of_list c.deref_mut.result.now in
    let edges_are : c.deref_mut-2.result.now ≡ core.edges =
    c.deref_mut-2.ensures.value ∙ (written c.self.inside.edges c.send.new.edges c.deref_mut.result.now c.deref_mut.ensures.value sent_count
    ∙ (c.send.ensures.edges ∙ ap (with_list c.self.inside.whole.stage c.self.inside.workers items_of_list) c.deref_mut.ensures.value)) in
    let batches = c.args.batches.now in
    let playing : IsPlaying batches core = subst (IsPlaying batches) (sym c.self.view_is) c.requires.playing in
    let number : ℕ = c.args.worker in
    let below : number < core.workers = subst (λ (v : RingState). number < v.workers) (sym c.self.view_is) c.requires.worker in
    let new : List EdgeState = c.turn_at.new.edges in
    let old : WorkerState = c.index_mut.result.now in
    let told = c.turn_at.ensures in
    let window : Window = window_in batches core in
    let after : c.worker_after-after.result ≡ worker_after core.workers number = c.worker_after-after.ensures.value ∙ ap (λ (v : RingState). worker_after v.workers number) (sym c.self.view_is) in
    let others : OthersStay number (worker_after core.workers number) core.edges new =
    subst (λ (es : List EdgeState). OthersStay number (worker_after core.workers number) es new) edges_are
    (subst (λ (n : ℕ). OthersStay number n c.deref_mut-2.result.now new) after told.others) in
    let at : (es : List EdgeState) → (n : ℕ) → Type 0 =
    λ es n. TurnAnswers batches old (ends_between window es number n) (ends_between window new number n) (IsFoundEmpty new number) (IsFoundFull new n) c.turn_at.result in
    let answer = subst (λ (es : List EdgeState). at es (worker_after core.workers number)) edges_are (subst (λ (n : ℕ). at c.deref_mut-2.result.now n) after told.answer) in
    let free = can old (here batches core number old c.turn_at.new.worker new playing below c.index_mut.ensures.value told.worker) in
    moves batches core playing number old free new others c.turn_at.result answer)
