use Rattle.std.proofs.Common.{◌≡◌, ◌<◌, ℕ, ◌==◌, List, [], ◌∷◌, ◌++◌, length, get_or, take, map, filter, All, refl, sym, ap, ◌∙◌, subst, arith}
use Rattle.std.specs.List.{flat_map, slice_index_or}
use Rattle.std.proofs.lemmas.List.{map_more, take_all}
use Rattle.std.proofs.lemmas.List.Elements.{All-filter}
use Rattle.std.proofs.lemmas.Option.{get_or_from_slice_get}
use Rattle.clos_topology.specs.Network.{endpoints_of}
use Rattle.lane_rounds.specs.Raw.{Raw}
use Rattle.trace_text.specs.Trace.{raw_at}
use Rattle.replay_rounds.specs.declared.named.Named.{Named}
use Rattle.replay_rounds.specs.Setting.{raw_rows}
use Rattle.replay_rounds.proofs.Naming.{named_by, of_sort, places_within, row_of, rows_naming}
use Rattle.replay_rounds.proofs.handed.fill_raw.Goals as goal

abbrev none : Named
none = record { source = 0; place = 0 }

pub raw-requires-clause-at : goal.raw-requires-clause-at
raw-requires-clause-at c =
    let n = endpoints_of c.args.trace.now.net in
    let raw = raw_at c.args.trace.now c.args.round in
    let named : List Named = flat_map (named_by n) (raw_rows c.args.trace.now c.args.round) in
    let own : c.args.own.now ≡ filter (λ (one : Named). one.source == c.args.endpoint) named = c.requires.own ∙ of_sort (λ (one : Named). one.source) c.args.endpoint named in
    let all : All (λ (one : Named). one.place < length raw) c.args.own.now = subst (All (λ (one : Named). one.place < length raw)) (sym own) (All-filter (λ (one : Named). one.source == c.args.endpoint) (λ (one : Named). one.place < length raw) named (λ k d lt. let low = places_within n 0 raw k d lt in omega arith)) in
    all c.loop-one.one-index none c.loop-one-test.true

pub loop-one-preserved : goal.loop-one-preserved
loop-one-preserved c =
    let raw = raw_at c.args.trace.now c.args.round in
    let one : Named = slice_index_or c.args.own.now c.loop-one.one-index none in
    let same : c.raw.result.now ≡ get_or raw one.place [] = sym (get_or_from_slice_get raw one.place c.raw.result.now [] c.raw.ensures) in
    c.in_ok-push.ensures.ok
    ∙ (ap (λ (filled : List Raw). filled ++ record { place = one.place; bytes = c.raw.result.now } ∷ []) c.loop-one.invariant
    ∙ (ap (λ (bytes : List ℕ). map (row_of raw) (take c.loop-one.one-index c.args.own.now) ++ record { place = one.place; bytes = bytes } ∷ []) same
    ∙ sym (map_more (row_of raw) c.args.own.now c.loop-one.one-index none c.loop-one-test.true)))

pub returns : goal.returns
returns c =
    let n = endpoints_of c.args.trace.now.net in
    let raw = raw_at c.args.trace.now c.args.round in
    let rows = raw_rows c.args.trace.now c.args.round in
    c.loop-one.invariant
    ∙ (ap (map (row_of raw)) (take_all c.loop-one.one-index c.args.own.now c.loop-one-test.false ∙ (c.requires.own ∙ of_sort (λ (one : Named). one.source) c.args.endpoint (flat_map (named_by n) rows)))
    ∙ rows_naming n c.args.endpoint 0 raw raw refl)
