use Rattle.std.proofs.Common.{◌≡◌, ◌≤◌, ℕ, ◌+◌, List, [], ◌∷◌, ◌++◌, Option, length, map, take, sym, ap, ◌∙◌, arith, rules, append-nil}
use Rattle.std.specs.List.{flat_map}
use Rattle.std.proofs.lemmas.Grind.{flat_map-append}
use Rattle.std.proofs.lemmas.List.{take_all}
use Rattle.std.proofs.lemmas.List.Sorted.{answers_always, IsNonDecreasingBy-from_sort_by_key}
use Rattle.list_facts.specs.Order.{sort_by}
use Rattle.list_facts.proofs.StableSort.{is_sort_by}
use Rattle.clos_topology.specs.Network.{endpoints_of}
use Rattle.lane_rounds.specs.Raw.{Raw}
use Rattle.trace_text.specs.Trace.{raw_at}
use Rattle.replay_rounds.specs.declared.named.Named.{Named}
use Rattle.replay_rounds.specs.Setting.{raw_rows}
use Rattle.replay_rounds.specs.Collecting.{framed_answer, named_at, source_of}
use Rattle.list_facts.proofs.Lists.{take_got}
use Rattle.list_facts.proofs.Turns.{map_got}
use Rattle.replay_rounds.proofs.Naming.{named_by}
use Rattle.replay_rounds.proofs.RowLemmas.{length-rows, row_got}
use Rattle.replay_rounds.proofs.raw.read_raw.Goals as goal

pub loop-at-preserved : goal.loop-at-preserved
loop-at-preserved c =
    let endpoints = endpoints_of c.args.trace.now.net in
    let raw = raw_at c.args.trace.now c.args.round in
    let rows = raw_rows c.args.trace.now c.args.round in
    let at = c.loop-at.at in
    let bytes : List ℕ = c.raw.result.now in
    let row : Raw = record { place = at; bytes = bytes } in
    let many = c.endpoints-endpoints.ensures.number in
    let source : Option ℕ = c.read_one-source.result.0 in
    let answer : Option ℕ = c.read_one-source.result.1 in
    let source_is : source ≡ source_of endpoints bytes = c.read_one-source.ensures.source ∙ ap (λ (n : ℕ). source_of n bytes) many in
    let answer_is : answer ≡ framed_answer endpoints bytes = c.read_one-source.ensures.answer ∙ ap (λ (n : ℕ). framed_answer n bytes) many in
    let got : take (at + 1) rows ≡ take at rows ++ row ∷ [] = take_got rows at row (row_got raw at bytes c.raw.ensures) in
    record {
      named = c.in_ok-push_named.ensures
          ∙ (ap (λ (ns : List Named). ns ++ named_at at source) c.loop-at.invariant.named
          ∙ (ap (λ (x : Option ℕ). flat_map (named_by endpoints) (take at rows) ++ named_at at x) source_is
          ∙ sym (ap (flat_map (named_by endpoints)) got
          ∙ (flat_map-append (named_by endpoints) (take at rows) (row ∷ [])
          ∙ ap (λ (ns : List Named). flat_map (named_by endpoints) (take at rows) ++ ns) (append-nil (named_by endpoints row))))));
      answers = c.in_ok-push.ensures.items
          ∙ (ap (λ (xs : List (Option ℕ)). xs ++ answer ∷ []) c.loop-at.invariant.answers
          ∙ (ap (λ (x : Option ℕ). map (framed_answer endpoints) (take at raw) ++ x ∷ []) answer_is
          ∙ sym (map_got (framed_answer endpoints) raw at bytes c.raw.ensures)));
    }

pub returns-clause-sorted : goal.returns-clause-sorted
returns-clause-sorted c = IsNonDecreasingBy-from_sort_by_key (λ (one : Named). one.source) c.sort_by_key.new.self.items c.in_ok-sort_by_key.ensures.sorted (λ a r q k. search rules)

pub returns-clause-named : goal.returns-clause-named
returns-clause-named c =
    let raw = raw_at c.args.trace.now c.args.round in
    let rows = raw_rows c.args.trace.now c.args.round in
    let facts = c.in_ok-sort_by_key.ensures in
    let source = λ (one : Named). one.source in
    let before : List Named = c.loop-at.named.items in
    let after : List Named = c.sort_by_key.new.self.items in
    let past : length rows ≤ c.loop-at.at = omega (arith, length-rows 0 raw, c.raw_count-count.ensures.number, c.loop-at-test.false) in
    is_sort_by source before after (returns-clause-sorted c) (facts.stable source (answers_always _ _ _ (λ f a r g called. search rules)))
    ∙ ap (sort_by source) (c.loop-at.invariant.named ∙ ap (flat_map (named_by (endpoints_of c.args.trace.now.net))) (take_all c.loop-at.at rows past))
