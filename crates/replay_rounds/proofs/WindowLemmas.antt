-- A window of rounds between what stands before it and after it.
use Rattle.std.proofs.Common.{◌≡◌, ◌<◌, ◌≤◌, ℕ, ◌+◌, ◌*◌, ◌-◌, min, List, [], ◌∷◌, map, get_or, refl, sym, ◌∙◌, subst, arith}
use Rattle.std.specs.List.{range_with_len}
use Rattle.std.proofs.lemmas.Option.{slice_get-get_or, slice_get_within, get_or_from_slice_get}
use Rattle.greedy_rules.specs.Schedule.{first_slot}
use Rattle.clos_topology.specs.Network.{endpoints_of}
use Rattle.clos_topology.specs.NetSlots.{SlotCores}
use Rattle.lane_rounds.specs.State.{RoundsState}
use Rattle.trace_text.specs.Trace.{TraceContent}
use Rattle.trace_text.specs.Valid.{IsTrace}
use Rattle.trace_run.specs.Windows as windows
use Rattle.trace_run.specs.Windows.{InWindows, batch_at}
use Rattle.replay_rounds.specs.declared.collect.WindowInPlay.{WindowInPlay}
use Rattle.replay_rounds.specs.Setting.{setting_of}
use Rattle.replay_rounds.specs.Standing.{LaneStands, RoundsContent, AllRoundsStand, routed_from, slots_between}
use Rattle.replay_rounds.specs.Played.{raw_answers, departures_in, rounds_played}
use Rattle.replay_rounds.specs.Collecting.{answers_of, raw_part, round_part, played_of, published_by, run_told, setting_by, LanesStand, MayBeCollected, MayBeTold, MayCollectRounds, RoundPart}
use Rattle.replay_rounds.specs.Publishing.{WindowIsPublished}
use Rattle.replay_rounds.proofs.PartLemmas.{map_by, same_played}
use Rattle.replay_rounds.proofs.AnswerLemmas.{answers_are}
use Rattle.replay_rounds.proofs.PublishedWindows.{is_published}

-- ---- what the rounds give

answers_give : (trace : TraceContent) (b g : ℕ) (cores : SlotCores) (numbers : List ℕ)
    → answers_of (map (raw_part trace) numbers) (map (round_part (setting_of trace b g cores) trace 0 (endpoints_of trace.net)) numbers) ≡ map (raw_answers (setting_of trace b g cores) trace) numbers
answers_give trace b g cores [] = refl
answers_give trace b g cores (number ∷ numbers) = cc (answers_are trace b g cores number, answers_give trace b g cores numbers)

pub rounds_give : (trace : TraceContent) (b g : ℕ) (cores : SlotCores) (first count : ℕ)
    → played_of (map (raw_part trace) (range_with_len first count)) (map (round_part (setting_of trace b g cores) trace 0 (endpoints_of trace.net)) (range_with_len first count))
    ≡ rounds_played (setting_of trace b g cores) trace first count
rounds_give trace b g cores first count =
    let setting = setting_of trace b g cores in
    let part = round_part setting trace 0 (endpoints_of trace.net) in
    let numbers = range_with_len first count in
    same_played (played_of (map (raw_part trace) numbers) (map part numbers)) (rounds_played setting trace first count)
    (map_by (λ (p : RoundPart). p.batch) part (batch_at setting) (λ number. refl) numbers)
    (answers_give trace b g cores numbers)
    (map_by (λ (p : RoundPart). p.departures) part (departures_in setting) (λ number. refl) numbers)

-- ---- before it

module _ (trace : TraceContent) (cores : SlotCores) (all : RoundsContent) (stood : AllRoundsStand trace cores all) where
  -- what speaks of the rounds' sizes speaks of their window's
  by_window : (P : (b published : ℕ) → Type 0) → P all.b all.published → P all.window.b (published_by all.window)
  by_window P holds = subst (λ (b : ℕ). P b (published_by all.window)) (sym stood.size) (subst (λ (published : ℕ). P all.b published) (sym stood.held) holds)

  of_window : (P : (b published : ℕ) → Type 0) → P all.window.b (published_by all.window) → P all.b all.published
  of_window P holds = subst (λ (b : ℕ). P b all.published) stood.size (subst (λ (published : ℕ). P all.window.b published) stood.held holds)

  may_tell : windows.WhatIsToldIsPublished → IsTrace trace → InWindows all.g trace.rounds all.collected all.published all.window.first_batch
      → (number : ℕ) → all.collected ≤ number → number < all.collected + min all.g (trace.rounds - all.collected) → MayBeTold trace all.g cores all.window number
  may_tell law sound within number from_first before_end =
      let last : number < trace.rounds = omega (arith, before_end, within.within) in
      let published = law all.g trace.rounds all.collected all.published all.window.first_batch number within stood.rounds.0 from_first (omega (arith, before_end)) last in
      let room : 2 * all.g ≤ number → number + 1 ≤ all.published + 2 * all.g = λ late. (published late).2 in
      record {
        sound = sound;
        named = stood.named;
        batch = by_window (λ b _. (0 < b) × (b ≤ 64)) stood.batch;
        rounds = stood.rounds;
        within = last;
        served = stood.served ∙ stood.endpoints;
        slots = by_window (λ b published. all.window.slots ≡ routed_from cores (first_slot b all.window.first_batch) (slots_between (setting_of trace b all.g cores) all.window.first_batch published)) stood.slots;
        behind = by_window (λ _ p. p ≤ number) (omega (arith, stood.behind, from_first));
        allocated = by_window (λ _ p. number + 1 ≤ p + 2 * all.g) (omega (arith, room));
        held = λ late. ((published late).0, by_window (λ _ p. number - 2 * all.g < p) (published late).1);
      }

  pub may_collect : windows.WhatIsToldIsPublished → IsTrace trace → InWindows all.g trace.rounds all.collected all.published all.window.first_batch
      → MayBeCollected trace all.g cores all.window all.collected (min all.g (trace.rounds - all.collected))
  may_collect law sound within = record {
    published = by_window (λ b _. WindowIsPublished (setting_of trace b all.g cores) all.collected all.window) (is_published trace cores all stood (omega (arith, within.within, sound.few_rounds)));
    told = may_tell law sound within;
  }

  pub lanes_stand : LanesStand (setting_by trace all.g cores all.window) all.collected all.counted all.lanes
  lanes_stand = record {
    wide = stood.wide ∙ stood.endpoints;
    each = λ endpoint d below.
        by_window (λ b _. LaneStands (setting_of trace b all.g cores) all.collected all.counted endpoint (get_or all.lanes endpoint d))
        (stood.lanes endpoint (get_or all.lanes endpoint d) (slice_get-get_or all.lanes endpoint d below));
  }

  -- ---- after it

  pub next_window : (count : ℕ) (lanes : List RoundsState) → all.collected + count ≤ trace.rounds
      → LanesStand (setting_by trace all.g cores all.window) (all.collected + count) (published_by all.window) lanes
      → AllRoundsStand trace cores (record { endpoints = all.endpoints; b = all.b; g = all.g; collected = all.collected + count; published = all.published; counted = all.published; lanes = lanes; window = all.window })
  next_window count lanes within stand = record {
    named = stood.named;
    batch = stood.batch;
    rounds = stood.rounds;
    endpoints = stood.endpoints;
    within = within;
    behind = omega (arith, stood.behind);
    counted = (omega (arith, stood.held), omega arith);
    wide = stand.wide ∙ sym stood.endpoints;
    lanes = λ endpoint lane got.
        of_window (λ b published. LaneStands (setting_of trace b all.g cores) (all.collected + count) published endpoint lane)
        (subst (λ (l : RoundsState). LaneStands (setting_by trace all.g cores all.window) (all.collected + count) (published_by all.window) endpoint l) (get_or_from_slice_get lanes endpoint lane lane got)
        (stand.each endpoint lane (slice_get_within lanes endpoint lane got)));
    served = stood.served;
    room = stood.room;
    size = stood.size;
    held = stood.held;
    slots = stood.slots;
    in_range = stood.in_range;
  }

-- the rounds as they stand, with what their next window asks for
pub record Begins (trace : TraceContent) (cores : SlotCores) (all : RoundsContent) (count : ℕ) (lanes : List RoundsState) : Type 0 where
  pub stood : AllRoundsStand trace cores all
  pub may : MayBeCollected trace all.g cores all.window all.collected count
  pub stand : LanesStand (setting_by trace all.g cores all.window) all.collected all.counted lanes
  pub counted : (all.window.first_batch ≤ all.counted) × (all.counted ≤ published_by all.window)
  pub within : all.collected + count ≤ trace.rounds

pub begins : windows.WhatIsToldIsPublished → (trace : TraceContent) → IsTrace trace → (all now : RoundsContent) → all ≡ now
    → InWindows now.g trace.rounds now.collected now.published now.window.first_batch
    → (count : ℕ) → count ≡ min all.g (trace.rounds - all.collected) → (lanes : List RoundsState) → lanes ≡ all.lanes
    → (cores : SlotCores) → AllRoundsStand trace cores now → Begins trace cores all count lanes
begins law trace sound all now is in_windows count count_is lanes lanes_are cores stood_now =
    let stood = subst (λ (r : RoundsContent). AllRoundsStand trace cores r) (sym is) stood_now in
    let within = subst (λ (r : RoundsContent). InWindows r.g trace.rounds r.collected r.published r.window.first_batch) (sym is) in_windows in
    record {
      stood = stood;
      may = subst (λ (n : ℕ). MayBeCollected trace all.g cores all.window all.collected n) (sym count_is) (may_collect trace cores all stood law sound within);
      stand = subst (λ (ls : List RoundsState). LanesStand (setting_by trace all.g cores all.window) all.collected all.counted ls) (sym lanes_are) (lanes_stand trace cores all stood);
      counted = (stood.counted.0, omega (arith, stood.counted.1, stood.held));
      within = omega (arith, count_is, within.within);
    }

-- so the rounds of a window may be played for every endpoint
pub may_collect_rounds : (window : WindowInPlay) (cores : SlotCores) (lanes : List RoundsState) → IsTrace window.trace.now
    → MayBeCollected window.trace.now window.g cores window.publisher.now window.first window.count
    → (window.publisher.now.first_batch ≤ window.counted) × (window.counted ≤ published_by window.publisher.now)
    → window.first + window.count ≤ window.trace.now.rounds
    → LanesStand (run_told window cores) window.first window.counted lanes → MayCollectRounds window cores lanes
may_collect_rounds window cores lanes sound may counted within stand = record {
  may = record { may = may; counted = counted; within = within; few = omega (arith, within, sound.few_rounds); few_endpoints = sound.net.most_endpoints };
  stand = stand;
}
