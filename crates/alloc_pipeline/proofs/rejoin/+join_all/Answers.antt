use Rattle.std.proofs.Common.{◌+◌, length, arith}
use Rattle.alloc_pipeline.proofs.Rejoining.{even_of, joined_of, crew_then, on_at, joined_at}
use Rattle.alloc_pipeline.proofs.rejoin.+join_all.Goals as goal

pub offset_bounds-queues-number : goal.offset_bounds-queues-number
offset_bounds-queues-number t c = omega (arith, c.len-number.ensures, c.in-Some.ensures.cases, c.requires.few)

pub bounds-queues-number : goal.bounds-queues-number
bounds-queues-number t c =
    let h = (even_of _ _ _ _ _ _ c.in-Some.ensures.items c.requires.even).1 in
    omega (arith, h.number, c.len-number.ensures)

pub join-requires-2-clause-queue : goal.join-requires-2-clause-queue
join-requires-2-clause-queue t c =
    let h = (even_of _ _ _ _ _ _ c.in-Some.ensures.items c.requires.even).1 in
    on_at _ (length c.pop.new.self.items + 1) (c.len-number.result + 1) c.in-Some.player.giving _ (omega (arith, c.len-number.ensures)) h.on_giving c.index-queues-number.is

pub join-requires-2-clause-other : goal.join-requires-2-clause-other
join-requires-2-clause-other t c =
    let h = (even_of _ _ _ _ _ _ c.in-Some.ensures.items c.requires.even).1 in
    on_at _ (length c.pop.new.self.items + 1) (c.len-number.result + 1) c.args.last _ (omega (arith, c.len-number.ensures)) h.on_taking c.index-queues-number.is

pub join-requires-2-clause-giving : goal.join-requires-2-clause-giving
join-requires-2-clause-giving t c = (even_of _ _ _ _ _ _ c.in-Some.ensures.items c.requires.even).1.giving

pub join-requires-2-clause-taking : goal.join-requires-2-clause-taking
join-requires-2-clause-taking t c = (even_of _ _ _ _ _ _ c.in-Some.ensures.items c.requires.even).1.taking

pub join-requires-2-clause-even : goal.join-requires-2-clause-even
join-requires-2-clause-even t c = (even_of _ _ _ _ _ _ c.in-Some.ensures.items c.requires.even).1.even

pub join_all-requires : goal.join_all-requires
join_all-requires t c =
    let h = (even_of _ _ _ _ _ _ c.in-Some.ensures.items c.requires.even).0 in (
      omega (arith, c.in-Some.ensures.cases),
      (
        h,
        (
          c.requires.no_crew,
          (
            c.requires.no_passes,
            (omega (arith, c.in-Some.ensures.cases, c.requires.room_crew), (omega (arith, c.in-Some.ensures.cases, c.requires.room_passes), omega (arith, c.in-Some.ensures.cases, c.requires.few))),
          ),
        ),
      ),
    )

pub returns-clause-crew : goal.returns-clause-crew
returns-clause-crew t c = crew_then _ _ _ _ _ c.in-Some.ensures.items c.push_reserved-3.ensures.items c.join_all.ensures.crew

pub returns-clause-joined : goal.returns-clause-joined
returns-clause-joined t c =
    let h = (even_of _ _ _ _ _ _ c.in-Some.ensures.items c.requires.even).1 in
    joined_of _ _ _ _ _ _ _ _ c.in-Some.ensures.items c.push_reserved-2.ensures.items c.join_all.ensures.joined
    (joined_at _ _ _ _ _ _ _ (omega (arith, c.len-number.ensures)) h c.index-queues-number.is c.join-2.ensures.queue c.join-2.ensures.whole)
