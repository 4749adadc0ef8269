use Rattle.std.proofs.Common.{◌≡◌, ℕ, get_or, refl, ap, subst, arith, length-set}
use Rattle.ring_core.specs.States.{EdgeState}
use Rattle.ring_core.specs.Played.{window_named}
use Rattle.ring_core.specs.Streams.{IsPieceAt}
use Rattle.ring_core.specs.Edges.{sent_on_edge}
use Rattle.ring_core.proofs.EdgeLemmas.{holds, old_at, gave_all, gave_others, gave_ends}
use Rattle.ring_core.proofs.edge.ListLinkLink.push.Goals as goal

pub give-requires : goal.give-requires
give-requires c =
    let l = c.args.self.now in
    let window = window_named l.window in
    let old : EdgeState = get_or l.edges.now l.after c.index-self-after.result in
    let is : old ≡ get_or l.edges.now l.after old = ap (get_or l.edges.now l.after) c.index-self-after.is in
    let held = holds window l.edges.now l.after old old c.requires.ready.1 is c.requires.ready.3 in
    omega (arith, held.within, c.requires.ready.2 l.after)

pub returns-clause-ready : goal.returns-clause-ready
returns-clause-ready c =
    let l = c.args.self.now in
    let r = c.requires.ready in
    let window = window_named l.window in
    let old : EdgeState = get_or l.edges.now l.after c.index-self-after.result in
    let is : old ≡ get_or l.edges.now l.after old = ap (get_or l.edges.now l.after) c.index-self-after.is in
    let count = length-set l.edges.now l.after c.give.new.self in
    let next = subst (λ (n : ℕ). IsPieceAt (record { window = window; worker = l.after }) n c.args.piece) (old_at window l.edges.now l.after old c.give.new.self r.1 is r.3 sent_on_edge) c.requires.next in (
      (omega (arith, count, r.0), omega (arith, count, r.1), r.2, gave_all window l.edges.now l.after old c.give.new.self r.1 is r.3 c.give.result c.args.piece c.give.ensures.given c.give.ensures.taken next),
      (refl, refl, refl, refl, gave_others window l.edges.now l.after old c.give.new.self r.1 is r.3 l.before c.give.ensures.taken c.give.ensures.room),
    )

pub returns-clause-pushed : goal.returns-clause-pushed
returns-clause-pushed c =
    let l = c.args.self.now in
    let r = c.requires.ready in
    let window = window_named l.window in
    let old : EdgeState = get_or l.edges.now l.after c.index-self-after.result in
    let is : old ≡ get_or l.edges.now l.after old = ap (get_or l.edges.now l.after) c.index-self-after.is in
    gave_ends window l.edges.now l.after old c.give.new.self r.1 is r.3 l.before c.give.result c.args.piece c.give.ensures.given c.give.ensures.taken c.give.ensures.room
