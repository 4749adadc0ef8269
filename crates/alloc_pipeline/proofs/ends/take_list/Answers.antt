use Rattle.std.proofs.Common.{◌≡◌, ◌+◌, length, refl, sym, ap, ◌∙◌, subst, arith, length-append}
use Rattle.std.proofs.lemmas.List.{append-nil}
use Rattle.crossbeam_queue.specs.Passes.{view}
use Rattle.ring_core.specs.Streams.{IsPieceAt}
use Rattle.alloc_pipeline.specs.declared.parcel.EdgeWindow.{EdgeWindow}
use Rattle.alloc_pipeline.specs.declared.parcel.View.{View}
use Rattle.alloc_pipeline.specs.Rules.{into_of}
use Rattle.alloc_pipeline.specs.Rings.{last_list}
use Rattle.alloc_pipeline.proofs.ListEnds.{fits, goes_on, ends, taken_there}
use Rattle.alloc_pipeline.proofs.ends.take_list.Goals as goal
use Rattle.alloc_pipeline.proofs.ends.take_list.Goals.{in-None, in-Some+in-Some-take+then-end}

pub loop-init : goal.loop-init
loop-init g c =
    let v : View = view c.args.pass.now in
    record {
      queue = c.requires.queue;
      kind = c.requires.taking;
      window = refl;
      taken = record { place = 0; going = omega arith; at = (let q : v.position ≡ v.position + 0 = omega arith in q); items_are = sym (append-nil c.args.list.now.items) };
      spare = refl;
      nodes = refl;
    }

pub unload-requires-clause-room : goal.unload-requires-clause-room
unload-requires-clause-room g c =
    let v : View = view c.args.pass.now in
    let was = c.loop.invariant in
    let next = subst (λ (w : EdgeWindow). IsPieceAt (into_of w) (view c.loop.pass).position c.in-Some-take.piece) was.window c.in-Some-take.ensures.taken.0 in
    let less = fits v.window v.position c.requires.last c.args.list.now.items c.loop.list.items (view c.loop.pass).position was.taken c.in-Some-take.piece next c.args.list.now.spare c.requires.room in
    omega (arith, less, was.spare)

pub unload-requires-clause-fits : goal.unload-requires-clause-fits
unload-requires-clause-fits g c =
    let v : View = view c.args.pass.now in
    let was = c.loop.invariant in
    let next = subst (λ (w : EdgeWindow). IsPieceAt (into_of w) (view c.loop.pass).position c.in-Some-take.piece) was.window c.in-Some-take.ensures.taken.0 in
    let less = fits v.window v.position c.requires.last c.args.list.now.items c.loop.list.items (view c.loop.pass).position was.taken c.in-Some-take.piece next (length (last_list v.window)) (omega arith) in
    omega (arith, less, was.nodes, c.requires.fits)

pub loop-preserved : goal.loop-preserved
loop-preserved g c =
    let v : View = view c.args.pass.now in
    let was = c.loop.invariant in
    let told = c.in-Some-take.ensures.taken in
    let next = subst (λ (w : EdgeWindow). IsPieceAt (into_of w) (view c.loop.pass).position c.in-Some-take.piece) was.window told.0 in
    let on = goes_on v.window v.position c.requires.last c.args.list.now.items c.loop.list.items (view c.loop.pass).position was.taken c.in-Some-take.piece next c.if-end.false in
    record {
      queue = c.take.ensures.queue;
      kind = ap (λ (u : View). u.kind) told.1;
      window = ap (λ (u : View). u.window) told.1 ∙ was.window;
      taken = taken_there v.window v.position c.args.list.now.items _ (view c.take.new.pass).position _ c.unload.new.list.items (ap (λ (u : View). u.position) told.1) c.unload.ensures.items on;
      spare = omega (arith, c.unload.ensures.spare, ap length c.unload.ensures.items, length-append c.loop.list.items c.in-Some-take.piece.items, was.spare);
      nodes = omega (arith, c.unload.ensures.nodes, ap length c.unload.ensures.items, length-append c.loop.list.items c.in-Some-take.piece.items, was.nodes);
    }

pub returns-clause-kind : goal.returns-clause-kind
returns-clause-kind g c = elim c.match-next.branch [
  | in-None w ↦ rw w.pass-is c.loop.invariant.kind
  | in-Some+in-Some-take+then-end w ↦ rw w.pass-is (ap (λ (u : View). u.kind) w.in-Some-take.ensures.taken.1)
]

pub returns-clause-window : goal.returns-clause-window
returns-clause-window g c = elim c.match-next.branch [
  | in-None w ↦ rw w.pass-is c.loop.invariant.window
  | in-Some+in-Some-take+then-end w ↦ rw w.pass-is (ap (λ (u : View). u.window) w.in-Some-take.ensures.taken.1 ∙ c.loop.invariant.window)
]

pub returns-clause-taken : goal.returns-clause-taken
returns-clause-taken g c =
    let v : View = view c.args.pass.now in
    let was = c.loop.invariant in
    elim c.match-next.branch [
      | in-None w ↦ absurd (let s = w.in-None.ensures.steps in cc)
      | in-Some+in-Some-take+then-end w ↦
          let told = w.in-Some-take.ensures.taken in
          let next = subst (λ (e : EdgeWindow). IsPieceAt (into_of e) (view c.loop.pass).position w.in-Some-take.piece) was.window told.0 in
          let all = ends v.window v.position c.requires.last c.args.list.now.items c.loop.list.items (view c.loop.pass).position was.taken w.in-Some-take.piece next w.if-end.true in
          rw w.pass-is (ap (λ (u : View). u.position) told.1 ∙ all.1)
    ]

pub returns-clause-items : goal.returns-clause-items
returns-clause-items g c =
    let v : View = view c.args.pass.now in
    let was = c.loop.invariant in
    elim c.match-next.branch [
      | in-None w ↦ absurd (let s = w.in-None.ensures.steps in cc)
      | in-Some+in-Some-take+then-end w ↦
          let told = w.in-Some-take.ensures.taken in
          let next = subst (λ (e : EdgeWindow). IsPieceAt (into_of e) (view c.loop.pass).position w.in-Some-take.piece) was.window told.0 in
          let all = ends v.window v.position c.requires.last c.args.list.now.items c.loop.list.items (view c.loop.pass).position was.taken w.in-Some-take.piece next w.if-end.true in
          rw w.list-is (w.unload.ensures.items ∙ all.0)
    ]

pub returns-clause-nodes : goal.returns-clause-nodes
returns-clause-nodes g c =
    let v : View = view c.args.pass.now in
    let was = c.loop.invariant in
    elim c.match-next.branch [
      | in-None w ↦ absurd (let s = w.in-None.ensures.steps in cc)
      | in-Some+in-Some-take+then-end w ↦
          let told = w.in-Some-take.ensures.taken in
          let next = subst (λ (e : EdgeWindow). IsPieceAt (into_of e) (view c.loop.pass).position w.in-Some-take.piece) was.window told.0 in
          let all = ends v.window v.position c.requires.last c.args.list.now.items c.loop.list.items (view c.loop.pass).position was.taken w.in-Some-take.piece next w.if-end.true in
          rw w.spare-is (omega (arith, w.unload.ensures.nodes, was.nodes, ap length all.0, length-append c.loop.list.items w.in-Some-take.piece.items, length-append c.args.list.now.items (last_list v.window)))
    ]
