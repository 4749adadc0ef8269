use Rattle.std.proofs.Common.{◌≡◌, ◌<◌, ◌+◌, ◌-◌, ◌*◌, ℕ, zero, suc, List, [], ◌∷◌, Some, inl, inr, length, get_or, set, slice_get, All, refl, sym, ap, ◌∙◌, subst, arith, length-set}
use Rattle.std.proofs.lemmas.Option.{slice_get_within}
use Rattle.std.proofs.lemmas.List.{set-get_or, get_or-set_other, length-drop}
use Rattle.std.specs.Prelude.{slice_index_or}
use Rattle.ring_core.specs.Openings.{own_openings}
use Rattle.ring_core.proofs.OpeningLemmas.{own_more, own_none}
use Rattle.std.proofs.lemmas.List.Elements.{All-set}
use Rattle.greedy_rules.specs.Batches.{DemandBatch}
use Rattle.greedy_rules.specs.Demands.{AreBelow, opened}
use Rattle.greedy_rules.proofs.TableLemmas.{next_row}
use Rattle.slot_batches.specs.Stands.{StageState, stage_endpoints, batch_size_of}
use Rattle.ring_core.specs.Workers.{own_stage}
use Rattle.std.proofs.lemmas.Bool.{cases_lt}
use Rattle.ring_core.proofs.BeginLemmas.{ended_within, own_before, slots_fit, first_fits, batch_is, one_begun}
use Rattle.ring_core.proofs.worker.begin_stages.Goals as goal

pub loop-own-init : goal.loop-own-init
loop-own-init c = record {
  stage = omega (arith, c.from-stage.ensures);
  near = omega (arith, c.from-stage.ensures, c.requires.workers);
  count = refl;
  in_range = c.requires.in_range;
  endpoints = λ endpoints all. all;
  sizes = c.requires.sizes;
  rest = λ place d from within. c.requires.none place d within;
  spare =
      let from = ap (λ (n : ℕ). own_openings (length c.args.stages.now) c.args.batches.now c.args.workers n) (sym c.from-stage.ensures) in
      let all : length c.args.stages.now ≡ length c.args.stages.now - 0 = omega arith in
      let front = ap (λ (n : ℕ). own_openings n c.args.batches.now c.args.workers c.from-stage.result) all in
      omega (arith, from, front);
  begun = λ endpoints all place state below is. absurd (omega (arith, below));
}

pub overflow_add-first_slot : goal.overflow_add-first_slot
overflow_add-first_slot c =
    let fit = first_fits c.args.first_batch c.loop-own.stage (length c.args.batches.now) c.args.b 4294967296 c.requires.some_slots c.if-stage-batches.false c.requires.numbers in
    omega (arith, fit)

size_at : (stages : List StageState) (at b : ℕ) (d : StageState) → at < length stages → All (λ stage. batch_size_of stage ≡ b) stages → batch_size_of (get_or stages at d) ≡ b
size_at stages at b d below all = all at d below

pub begin-requires-clause-numbers : goal.begin-requires-clause-numbers
begin-requires-clause-numbers c =
    let size = size_at c.loop-own.own-items c.loop-own.own-index c.args.b c.own-item.result (omega (arith, c.loop-own-test.true, c.loop-own.invariant.count)) c.loop-own.invariant.sizes in
    let fit = slots_fit c.args.first_batch c.loop-own.stage (length c.args.batches.now) c.args.b 4294967296 c.if-stage-batches.false c.requires.numbers in
    let number = ap (λ (b : ℕ). (c.args.first_batch + c.loop-own.stage) * b) c.from.ensures in
    omega (arith, size, fit, number)

pub begin-requires-clause-in_range : goal.begin-requires-clause-in_range
begin-requires-clause-in_range c =
    let own : StageState = get_or c.loop-own.own-items c.loop-own.own-index c.own-item.result in
    let here = c.loop-own.invariant.in_range c.loop-own.own-index c.own-item.result (omega (arith, c.loop-own-test.true, c.loop-own.invariant.count)) in
    subst (λ (batch : DemandBatch). AreBelow (stage_endpoints own) (opened batch.entries)) (sym c.index-batches-stage.is) (here c.loop-own.stage c.index-batches-stage.result c.if-stage-batches.false)

pub begin-requires-clause-none : goal.begin-requires-clause-none
begin-requires-clause-none c =
    c.loop-own.invariant.rest c.loop-own.own-index c.own-item.result (omega arith) (omega (arith, c.loop-own-test.true, c.loop-own.invariant.count))

pub begin-requires-clause-nodes : goal.begin-requires-clause-nodes
begin-requires-clause-nodes c =
    let batches = c.args.batches.now in
    let n : ℕ = length c.args.stages.now in
    let at : ℕ = c.loop-own.own-index in
    let here = ap (λ (batch : DemandBatch). length (opened batch.entries)) (batch_is batches c.loop-own.stage c.index-batches-stage.result c.if-stage-batches.false c.index-batches-stage.is) in
    let more = own_more n at batches c.args.workers c.loop-own.stage (omega (arith, c.loop-own-test.true, c.loop-own.invariant.count)) in
    omega (arith, here, more, c.loop-own.invariant.spare, c.requires.nodes)

pub loop-own-preserved : goal.loop-own-preserved
loop-own-preserved c =
    let was = c.loop-own.invariant in
    let at : ℕ = c.loop-own.own-index in
    let within : at < length c.loop-own.own-items = omega (arith, c.loop-own-test.true, was.count) in
    let own : StageState = get_or c.loop-own.own-items at c.own-item.result in
    let new : StageState = c.begin.new.self in
    let work = c.begin.ensures.work in
    let batches = c.args.batches.now in
    let stage_is : c.loop-own.stage ≡ own_stage c.args.workers c.args.number at = was.stage in
    let number = ap (λ (b : ℕ). (c.args.first_batch + c.loop-own.stage) * b + 1) c.from.ensures in
    record {
      stage = omega (arith, next_row at c.args.workers, stage_is, c.from-stage-in-loop-own.ensures);
      near = omega (arith, c.if-stage-batches.false, c.from-stage-in-loop-own.ensures);
      count = length-set c.loop-own.own-items at new ∙ was.count;
      in_range = All-set (λ stage. All (λ batch. AreBelow (stage_endpoints stage) (opened batch.entries)) batches) c.loop-own.own-items at new
          (subst (λ (n : ℕ). All (λ (batch : DemandBatch). AreBelow n (opened batch.entries)) batches) (sym work.same_endpoints) (was.in_range at c.own-item.result within)) was.in_range;
      endpoints = λ endpoints all.
          let all_so = was.endpoints endpoints all in
          All-set (λ stage. stage_endpoints stage ≡ endpoints) c.loop-own.own-items at new (work.same_endpoints ∙ all_so at c.own-item.result within) all_so;
      sizes = All-set (λ stage. batch_size_of stage ≡ c.args.b) c.loop-own.own-items at new (work.same_size ∙ was.sizes at c.own-item.result within) was.sizes;
      rest = λ place d from inside.
          let other : slice_index_or (set c.loop-own.own-items at new) place d ≡ slice_index_or c.loop-own.own-items place d = get_or-set_other c.loop-own.own-items at place new d (λ same. omega (arith, same, from)) in
          ap (λ (s : StageState). s.nodes) other ∙ was.rest place d (omega (arith, from)) (omega (arith, inside, length-set c.loop-own.own-items at new));
      spare =
          let here = ap (λ (batch : DemandBatch). length (opened batch.entries)) (batch_is batches c.loop-own.stage c.index-batches-stage.result c.if-stage-batches.false c.index-batches-stage.is) in
          let more = own_more (length c.args.stages.now) at batches c.args.workers c.loop-own.stage (omega (arith, within, was.count)) in
          let left = ap length c.begin.ensures.spare ∙ length-drop (length (opened c.index-batches-stage.result.entries)) c.loop-own.spare in
          let next = ap (λ (n : ℕ). own_openings (length c.args.stages.now - (at + 1)) batches c.args.workers (c.loop-own.stage + n)) c.from-stage-in-loop-own.ensures in
          omega (arith, here, more, left, next, was.spare, c.requires.nodes);
      begun = λ endpoints all.
          one_begun endpoints c.args.b c.args.first_batch batches c.args.workers c.args.number at c.loop-own.stage c.loop-own.own-items own new c.index-batches-stage.result _
          stage_is (batch_is batches c.loop-own.stage c.index-batches-stage.result c.if-stage-batches.false c.index-batches-stage.is) number
          (was.endpoints endpoints all at c.own-item.result within) (was.sizes at c.own-item.result within) work c.begin.ensures.stands (was.begun endpoints all);
    }

pub returns-after-loop-own-clause-begun : goal.returns-after-loop-own-clause-begun
returns-after-loop-own-clause-begun c = λ endpoints all place state below is.
    c.loop-own.invariant.begun endpoints all place state (omega (arith, slice_get_within c.loop-own.own-items place state is, c.loop-own-test.false, c.loop-own.invariant.count)) is

pub returns-after-loop-own-clause-endpoints : goal.returns-after-loop-own-clause-endpoints
returns-after-loop-own-clause-endpoints c = c.loop-own.invariant.endpoints

pub returns-after-loop-own-clause-sizes : goal.returns-after-loop-own-clause-sizes
returns-after-loop-own-clause-sizes c = c.loop-own.invariant.sizes

-- the list is as it was
kept : (stages : List StageState) (at : ℕ) (d : StageState) → set stages at (get_or stages at d) ≡ stages
kept stages at d = set-get_or stages at d

pub returns-then-stage-batches-clause-begun : goal.returns-then-stage-batches-clause-begun
returns-then-stage-batches-clause-begun c = λ endpoints all place state below is.
    let before = own_before c.args.workers c.args.number place c.loop-own.own-index (omega (arith, below, c.if-stage-batches.true, c.loop-own.invariant.stage)) in
    c.loop-own.invariant.begun endpoints all place state before (sym (ap (λ (xs : List StageState). slice_get xs place) (kept c.loop-own.own-items c.loop-own.own-index c.own-item.result)) ∙ is)

pub returns-then-stage-batches-clause-endpoints : goal.returns-then-stage-batches-clause-endpoints
returns-then-stage-batches-clause-endpoints c = λ endpoints all.
    subst (All (λ stage. stage_endpoints stage ≡ endpoints)) (sym (kept c.loop-own.own-items c.loop-own.own-index c.own-item.result)) (c.loop-own.invariant.endpoints endpoints all)

pub returns-then-stage-batches-clause-sizes : goal.returns-then-stage-batches-clause-sizes
returns-then-stage-batches-clause-sizes c =
    subst (All (λ stage. batch_size_of stage ≡ c.args.b)) (sym (kept c.loop-own.own-items c.loop-own.own-index c.own-item.result)) c.loop-own.invariant.sizes

pub returns-after-loop-own-clause-spare : goal.returns-after-loop-own-clause-spare
returns-after-loop-own-clause-spare c =
    let none : length c.args.stages.now - c.loop-own.own-index ≡ 0 = omega (arith, c.loop-own-test.false, c.loop-own.invariant.count) in
    omega (arith, c.loop-own.invariant.spare, ap (λ (n : ℕ). own_openings n c.args.batches.now c.args.workers c.loop-own.stage) none)

pub returns-then-stage-batches-clause-spare : goal.returns-then-stage-batches-clause-spare
returns-then-stage-batches-clause-spare c =
    omega (arith, c.loop-own.invariant.spare, own_none (length c.args.stages.now - c.loop-own.own-index) c.args.batches.now c.args.workers c.loop-own.stage (omega (arith, c.if-stage-batches.true)))

-- the value at a place
value_at : (xs : List StageState) (at : ℕ) (state : StageState) → slice_get xs at ≡ Some state → slice_index_or xs at state ≡ state
value_at [] at state is = refl
value_at (x ∷ xs) zero state is = cc
value_at (x ∷ xs) (suc at) state is = value_at xs at state is

pub returns-after-loop-own-clause-idle : goal.returns-after-loop-own-clause-idle
returns-after-loop-own-clause-idle c = λ place state over is.
    let within = slice_get_within c.loop-own.own-items place state is in
    let before = ended_within c.args.workers c.args.number place c.loop-own.own-index (length c.args.batches.now) (omega (arith, within, c.loop-own-test.false, c.loop-own.invariant.count)) (omega (arith, c.loop-own.invariant.near, c.loop-own.invariant.stage)) in
    absurd (omega (arith, before, over))

pub returns-then-stage-batches-clause-idle : goal.returns-then-stage-batches-clause-idle
returns-then-stage-batches-clause-idle c = λ place state over is.
    let items : List StageState = c.loop-own.own-items in
    let here : slice_get items place ≡ Some state = sym (ap (λ (xs : List StageState). slice_get xs place) (kept items c.loop-own.own-index c.own-item.result)) ∙ is in
    let within = slice_get_within items place state here in
    elim (cases_lt place c.loop-own.own-index) [
      | inl earlier ↦
          let before = ended_within c.args.workers c.args.number place c.loop-own.own-index (length c.args.batches.now) earlier (omega (arith, c.loop-own.invariant.near, c.loop-own.invariant.stage)) in
          absurd (omega (arith, before, over))
      | inr past ↦ sym (ap (λ (s : StageState). s.nodes) (value_at items place state here)) ∙ c.loop-own.invariant.rest place state past within
    ]
