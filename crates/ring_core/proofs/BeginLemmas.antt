-- The stages of a worker as they begin their batches.
use Rattle.std.proofs.Common.{◌≡◌, ◌<◌, ◌≤◌, ◌+◌, ◌-◌, ◌*◌, ◌/◌, ℕ, Bool, true, nat_le, Vec, Global, None, drop, List, length, get_or, set, Some, slice_get, All, false, [], refl, sym, ap, ◌∙◌, subst, arith, inl, inr}
use Rattle.std.specs.Vec.{with_items}
use Rattle.std.proofs.lemmas.Bool.{cases_lt, lt-leb}
use Rattle.std.proofs.lemmas.Nat.{mul-le, div-mul-add}
use Rattle.std.proofs.lemmas.Bool.Decides.{nat_tests}
use Rattle.std.proofs.lemmas.List.{get_or_default, take_all, take_at}
use Rattle.greedy_rules.specs.declared.flows.Item.{Item}
use Rattle.greedy_rules.specs.Batches.{DemandBatch}
use Rattle.greedy_rules.specs.Schedule.{first_slot}
use Rattle.greedy_rules.proofs.TableLemmas.{next_row}
use Rattle.slot_batches.specs.Settled.{slots_filled}
use Rattle.slot_batches.specs.Stands.{stage_slots, IsSameWork, Stands, stage_endpoints, batch_size_of, StageState}
use Rattle.ring_core.specs.States.{WorkerState}
use Rattle.ring_core.specs.Windows.{Window, batch_of_stage, batch_of, first_slot_in, list_before_stage, pieces_before, is_fed, items_fed, slots_of_stage, worker_after}
use Rattle.ring_core.specs.Streams.{pieces_into}
use Rattle.ring_core.specs.Workers.{own_stage, StageIsAt, HasBegun, HaveBegun, IsWorker, IsWorkerWindow, HasPlayed, first_ends}
use Rattle.slot_batches.proofs.NodeCounts.{settled-all}
use Rattle.ring_core.proofs.WindowLemmas.{one_list_on}
use Rattle.ring_core.proofs.StreamLemmas.{into_none}
use Rattle.ring_core.proofs.PlayLemmas.{get_set_same, get_set_other}

-- earlier stages stand at earlier places
pub own_before : (workers worker place other : ℕ) → own_stage workers worker place < own_stage workers worker other → place < other
own_before workers worker place other below = elim (cases_lt place other) [
  | inl here ↦ here
  | inr past ↦ absurd (omega (arith, below, mul-le other workers place workers past (omega arith)))
]

-- the numbers of the slots
pub slots_fit : (first stage n b most : ℕ) → stage < n → (first + n) * b + 1 ≤ most → (first + stage) * b + 1 + b ≤ most
slots_fit first stage n b most below fit =
    let on : (first + stage + 1) * b ≡ (first + stage) * b + b = next_row (first + stage) b in
    omega (arith, on, fit, mul-le (first + stage + 1) b (first + n) b (omega arith) (omega arith))

pub first_fits : (first stage n b most : ℕ) → 0 < b → stage < n → (first + n) * b + 1 ≤ most → first + stage < most
first_fits first stage n b most some below fit = omega (arith, fit, below, mul-le (first + n) 1 (first + n) b (omega arith) (omega (arith, some)))

pub batch_is : (batches : List DemandBatch) (stage : ℕ) (batch : DemandBatch) → stage < length batches → batch ≡ get_or batches stage batch → batch ≡ batch_of_stage batches stage
batch_is batches stage batch below is = is ∙ get_or_default batches stage batch _ below

-- one more has begun
pub one_begun : (endpoints b first : ℕ) (batches : List DemandBatch) (workers worker at stage : ℕ) (stages : List StageState) (old new : StageState) (batch : DemandBatch) (number : ℕ)
    → stage ≡ own_stage workers worker at → batch ≡ batch_of_stage batches stage → number ≡ first_slot b (first + stage) → stage_endpoints old ≡ endpoints → batch_size_of old ≡ b
    → IsSameWork (stage_endpoints old) (batch_size_of old) (stage + 1) number new → Stands batch [] false 0 new
    → ((place : ℕ) (state : StageState) → place < at → slice_get stages place ≡ Some state → HasBegun endpoints b first batches (own_stage workers worker place) state)
    → (place : ℕ) (state : StageState) → place < at + 1 → slice_get (set stages at new) place ≡ Some state → HasBegun endpoints b first batches (own_stage workers worker place) state
one_begun endpoints b first batches workers worker at stage stages old new batch number stage_is batch_is number_is endpoints_are size_is work stands earlier place state below is = elim (cases_lt place at) [
  | inl before ↦ earlier place state before (sym (get_set_other stages at place new (λ same. omega (arith, same, before))) ∙ is)
  | inr here ↦
      let same : place ≡ at = omega (arith, below, here) in
      let begun : HasBegun endpoints b first batches stage new = record {
        work = record {
          same_endpoints = work.same_endpoints ∙ endpoints_are;
          same_size = work.same_size ∙ size_is;
          same_number = work.same_number;
          same_first = work.same_first ∙ number_is;
        };
        stands = subst (λ (d : DemandBatch). Stands d [] false 0 new) batch_is stands;
      } in
      subst (HasBegun endpoints b first batches (own_stage workers worker place)) (sym (get_set_same stages at new state (ap (slice_get (set stages at new)) (sym same) ∙ is)))
      (subst (λ (s : ℕ). HasBegun endpoints b first batches s new) (stage_is ∙ ap (own_stage workers worker) (sym same)) begun)
]

pub none_fed : (n : ℕ) → nat_le (n / 64 + 1) 0 ≡ false
none_fed n = lt-leb (n / 64 + 1) 0 (omega arith)

module _ (w : WorkerState) (window : Window) (first : ℕ) (batches : List DemandBatch) (is_window : IsWorkerWindow w first batches window) where
  begun_at : (number : ℕ) (state : StageState) → HasBegun w.endpoints w.b first batches number state → StageIsAt w.endpoints window number 0 0 state
  begun_at stage state begun = record {
    work = record {
      same_endpoints = begun.work.same_endpoints;
      same_size = begun.work.same_size ∙ sym is_window.b_is;
      same_number = begun.work.same_number;
      same_first = begun.work.same_first ∙ (λ i. first_slot (sym is_window.b_is i) (sym is_window.first_is i + stage));
    };
    stands = subst (λ (b : Bool). Stands (batch_of_stage window.batches stage) [] b 0 state) (sym (none_fed (length (list_before_stage window stage) - 1)))
        (subst (λ (ds : List DemandBatch). Stands (batch_of_stage ds stage) [] false 0 state) (sym is_window.batches_are) begun.stands);
  }

  pub begun_played : (sent stage : ℕ) (stages : List StageState) → length batches ≤ w.batches → sent ≡ (first_ends window w.number).sent → stage ≡ w.number
      → IsWorker (record w { stages = stages; place = 0; stage = stage; taken = 0; sent = sent; held = None }) → HaveBegun w.endpoints w.b first batches w.workers w.number stages
      → ((place : ℕ) (state : StageState) → length batches ≤ own_stage w.workers w.number place → slice_get stages place ≡ Some state → state.nodes ≡ 0)
      → HasPlayed batches (first_ends window w.number) (record w { stages = stages; place = 0; stage = stage; taken = 0; sent = sent; held = None }) 0 0
  begun_played sent stage stages few sent_is stage_is is_worker begun idle =
      let workers_are = is_window.workers_are in
      let below : w.number < window.workers = omega (arith, workers_are, is_worker.number) in
      let own : stage ≡ own_stage w.workers w.number 0 = omega (arith, stage_is) in
      record {
        is_worker = is_worker;
        window = record { may = is_window.may; batches_are = is_window.batches_are; first_is = refl; b_is = is_window.b_is; workers_are = workers_are };
        before = refl;
        after = ap (λ (n : ℕ). record { window = window; worker = worker_after n w.number }) workers_are;
        count = few;
        stage = own;
        near = omega (arith, stage_is, is_worker.number);
        taken = refl;
        sent = sym sent_is;
        taken_is = omega (arith, ap length (into_none window w.number stage below (omega (arith, stage_is))));
        sent_is = sent_is ∙ ((λ i. length (pieces_into window (worker_after (workers_are i) w.number) (sym stage_is i + 1))) ∙ (let q : length (pieces_into window (worker_after w.workers w.number) (stage + 1)) ≡ length (pieces_into window (worker_after w.workers w.number) (stage + 1)) + 0 = omega arith in q));
        fed_within = omega arith;
        given_within = omega arith;
        held = tt;
        past = λ past. (refl, refl);
        ended = λ place state none is. absurd (omega (arith, none));
        present = λ state within is. subst (λ (s : ℕ). StageIsAt w.endpoints window s 0 0 state) (sym own) (begun_at (own_stage w.workers w.number 0) state (begun 0 state (omega (arith, within, own)) is));
        later = λ place state after within is. begun_at (own_stage w.workers w.number place) state (begun place state within is);
        idle = idle;
      }

-- the slots of a stage that has ended
pub ended_slots : (endpoints : ℕ) (window : Window) (stage given : ℕ) (state : StageState) → StageIsAt endpoints window stage (pieces_before window stage) given state → stage_slots state ≡ slots_of_stage window stage
ended_slots endpoints window stage given state at =
    let list : List Item = list_before_stage window stage in
    let all : is_fed window stage (pieces_before window stage) ≡ true = whole (pieces_before window stage) in
    let items : items_fed window stage (pieces_before window stage) ≡ list = take_all (64 * pieces_before window stage) list (omega arith) in
    at.stands.arrays.slots
    ∙ ((λ i. slots_filled (batch_of window stage) (at.work.same_first i) (at.work.same_size i) (items i) (is_fed window stage (pieces_before window stage)))
    ∙ ap (slots_filled (batch_of window stage) (first_slot_in window stage) window.b list) all)
  where
    whole : (n : ℕ) → nat_le n n ≡ true
    whole n = grind (arith, nat_tests)

-- and its nodes are gone
pub ended_nodes : (endpoints : ℕ) (window : Window) (stage given : ℕ) (state : StageState) → stage < length window.batches → StageIsAt endpoints window stage (pieces_before window stage) given state
    → given ≡ pieces_before window (stage + 1) → state.nodes ≡ 0
ended_nodes endpoints window stage given state below at given_is =
    let list : List Item = list_before_stage window stage in
    let items : items_fed window stage (pieces_before window stage) ≡ list = take_all (64 * pieces_before window stage) list (omega arith) in
    let long = ap length (one_list_on window stage below) ∙ settled-all (batch_of window stage) (first_slot_in window stage) window.b list in
    omega (arith, at.stands.nodes, ap length items, long, given_is)

-- a stage before the present one is one of those for which there are batches
pub ended_within : (workers worker place present n : ℕ) → place < present → own_stage workers worker present < n + workers → own_stage workers worker place < n
ended_within workers worker place present n before near =
    let on : (place + 1) * workers ≡ place * workers + workers = next_row place workers in
    omega (arith, on, near, mul-le (place + 1) workers present workers (omega (arith, before)) (omega arith))

pub place_of : (workers worker place : ℕ) → worker < workers → own_stage workers worker place / workers ≡ place
place_of workers worker place below = div-mul-add place workers worker below

-- a worker whose stages were written anew
pub worker_with : (w : WorkerState) (new : List StageState) (sent stage : ℕ) → IsWorker w → length new ≡ length w.stages
    → All (λ s. stage_endpoints s ≡ w.endpoints) new → All (λ s. batch_size_of s ≡ w.b) new → IsWorker (record w { stages = new; place = 0; stage = stage; taken = 0; sent = sent; held = None })
worker_with w new sent stage is_worker count endpoints sizes = record {
  number = is_worker.number;
  some_slots = is_worker.some_slots;
  few_batches = is_worker.few_batches;
  endpoints = endpoints;
  sizes = sizes;
  enough = subst (λ (n : ℕ). w.batches ≤ own_stage w.workers w.number n) (sym count) is_worker.enough;
}

-- what is written back
pub written : {X : Type 0} (items : Vec X Global) (new old : List X) → old ≡ items.items → length new ≡ length old → (with_items items new).items ≡ new
written items new old old_is count = take_at new (drop (length new) items.items) items.len (omega (arith, count, ap length old_is, items.ok.0))
