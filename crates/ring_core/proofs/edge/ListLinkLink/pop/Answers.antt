use Rattle.std.proofs.Common.{◌≡◌, get_or, refl, ap, arith, length-set}
use Rattle.ring_core.specs.States.{EdgeState}
use Rattle.ring_core.specs.Played.{window_named}
use Rattle.ring_core.proofs.EdgeLemmas.{holds, took_all, took_others, took_ends}
use Rattle.ring_core.proofs.edge.ListLinkLink.pop.Goals as goal

pub take-requires : goal.take-requires
take-requires c =
    let l = c.args.self.now in
    let window = window_named l.window in
    let old : EdgeState = get_or l.edges.now l.before c.index-self-before.result in
    let is : old ≡ get_or l.edges.now l.before old = ap (get_or l.edges.now l.before) c.index-self-before.is in
    let held = holds window l.edges.now l.before old old c.requires.0 is c.requires.3 in
    omega (arith, held.order, held.within, c.requires.2 l.before)

pub returns-clause-ready : goal.returns-clause-ready
returns-clause-ready c =
    let l = c.args.self.now in
    let window = window_named l.window in
    let old : EdgeState = get_or l.edges.now l.before c.index-self-before.result in
    let is : old ≡ get_or l.edges.now l.before old = ap (get_or l.edges.now l.before) c.index-self-before.is in
    let count = length-set l.edges.now l.before c.take.new.self in (
      (omega (arith, count, c.requires.0), omega (arith, count, c.requires.1), c.requires.2, took_all window l.edges.now l.before old c.take.new.self c.requires.0 is c.requires.3 c.take.result c.take.ensures.taken c.take.ensures.sent),
      (refl, refl, refl, refl, took_others window l.edges.now l.before old c.take.new.self c.requires.0 is c.requires.3 l.after c.take.ensures.sent c.take.ensures.room),
    )

pub returns-clause-popped : goal.returns-clause-popped
returns-clause-popped c =
    let l = c.args.self.now in
    let window = window_named l.window in
    let old : EdgeState = get_or l.edges.now l.before c.index-self-before.result in
    let is : old ≡ get_or l.edges.now l.before old = ap (get_or l.edges.now l.before) c.index-self-before.is in
    took_ends window l.edges.now l.before old c.take.new.self c.requires.0 is c.requires.3 l.after c.take.result c.take.ensures.taken c.take.ensures.sent
