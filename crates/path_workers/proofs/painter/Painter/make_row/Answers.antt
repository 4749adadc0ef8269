use Rattle.std.proofs.Common.{◌≡◌, ◌≤◌, ◌+◌, ◌-◌, ◌*◌, ℕ, List, [], length, vec_len, sym, ap, ◌∙◌, subst, refl, arith}
use borrow.Rule.Slice.PartMut.{put_mid}
use Rattle.std.specs.Vec.{with_items}
use Rattle.std.proofs.lemmas.Nat.{row_fits}
use Rattle.greedy_rules.specs.Schedule.{slot_in}
use Rattle.clos_topology.specs.declared.graph.Edge.{Edge}
use Rattle.clos_topology.specs.Network.{Network, endpoints_of}
use Rattle.clos_topology.specs.RackGraph.{rack_edges}
use Rattle.edge_colouring.specs.Degrees.{HasDegreesWithin}
use Rattle.edge_colouring.specs.Colouring.{IsColouring, MakesClean}
use Rattle.edge_colouring.specs.Cores.{core_in}
use Rattle.path_workers.specs.Painters.{cores_at}
use Rattle.path_workers.specs.Coloured.{HasItsCores}
use Rattle.path_workers.proofs.RowLemmas.{no_excess, at_ok, row_coloured, length-row}
use Rattle.path_workers.proofs.FirstCores.{first_place}
use Rattle.path_workers.proofs.PainterLemmas.{idle_row, regraphed, repainted, written_row, other_row}
use Rattle.path_workers.proofs.painter.Painter.make_row.Goals as goal

pub copy_from_slice-requires : goal.copy_from_slice-requires
copy_from_slice-requires c =
    let count : ℕ = c.endpoints-endpoints.result in
    let from : ℕ = c.args.slot * count in
    let room : ℕ = vec_len c.args.self.now.places in
    let s = c.requires.may.painted.sized in
    let fits : from + count ≤ length c.deref_mut.result.now =
    omega (
      arith,
      row_fits c.args.slot count room (endpoints_of c.args.self.now.net) (omega (arith, c.requires.slot, c.requires.may.colourable.count)) (omega (arith, c.endpoints-endpoints.ensures.number)),
      s.rows,
      c.deref_mut.ensures.len,
    ) in
    omega (
      arith,
      length-row count (from + count - from) from c.deref_mut.result.now (omega arith) fits,
      c.cores-2.ensures.count,
      c.endpoints-endpoints.ensures.number,
      ap endpoints_of (c.colour.ensures.net ∙ s.table),
    )

pub returns-then-is_empty-clause-painted : goal.returns-then-is_empty-clause-painted
returns-then-is_empty-clause-painted c = regraphed _ _ c.args.slots.now.slots c.args.self.now _ c.requires.may.painted refl refl c.load.ensures.room refl refl refl

pub returns-then-is_empty-clause-row : goal.returns-then-is_empty-clause-row
returns-then-is_empty-clause-row c =
    let idle : rack_edges c.args.self.now.net.hosts (slot_in c.args.slots.now.slots c.args.slot) ≡ [] = sym c.load.ensures.edges ∙ c.is_empty.ensures.0 c.if-is_empty.true in
    idle_row _ (vec_len c.args.self.now.places) _ _ c.args.slot c.every_colouring_makes_a_matching_clean.ensures (returns-then-is_empty-clause-painted c).sized c.requires.may.colourable c.requires.slot idle

pub returns-then-is_alone-clause-painted : goal.returns-then-is_alone-clause-painted
returns-then-is_alone-clause-painted c = regraphed _ _ c.args.slots.now.slots c.args.self.now _ c.requires.may.painted refl refl c.load.ensures.room refl refl refl

pub returns-then-is_alone-clause-row : goal.returns-then-is_alone-clause-row
returns-then-is_alone-clause-row c =
    let edge : Edge = record { source = c.edge.result.0; left = c.edge.result.1; right = c.edge.result.2 } in
    first_place _ (vec_len c.args.self.now.places) c.args.slots.now.slots _ c.args.slot c.load.new.self.edges edge c.requires.may.painted.sized.few c.every_colouring_makes_a_matching_clean.ensures c.endpoints-endpoints.ensures.limits c.requires.may.colourable c.requires.slot
    c.load.ensures.edges c.load.ensures.graph (omega (arith, c.len-is_alone.ensures.edges, c.if-is_alone.true)) c.edge.ensures

pub prove-unreachable-requires : goal.prove-unreachable-requires
prove-unreachable-requires c =
    let net = c.args.self.now.net in
    let edges : List Edge = c.load.new.self.edges in
    let cores : c.cores.result ≡ net.cores = c.cores.ensures.number in
    let degrees : HasDegreesWithin net.cores (rack_edges net.hosts (slot_in c.args.slots.now.slots c.args.slot)) =
    (c.limits_are_degrees.ensures (record { hosts = net.hosts; cores = net.cores }) (slot_in c.args.slots.now.slots c.args.slot)).0 (c.requires.may.colourable.within c.args.slot [] c.requires.slot) in
    let within : HasDegreesWithin c.cores.result edges = subst (λ (n : ℕ). HasDegreesWithin n edges) (sym cores) (subst (HasDegreesWithin net.cores) (sym c.load.ensures.edges) degrees) in
    no_excess c.colour.result c.cores.result edges (sym c.is_ok-coloured.ensures.value ∙ c.if-prove.true) within c.colour.ensures.excess

-- the row lies within the rows, and is as long as there are endpoints
row_within : (c : goal.After-self-2-1) → c.args.slot * c.endpoints-endpoints.result + c.endpoints-endpoints.result ≤ length c.deref_mut.result.now
row_within c =
    let room : ℕ = vec_len c.args.self.now.places in
    let s = c.requires.may.painted.sized in
    omega (
      arith,
      row_fits c.args.slot c.endpoints-endpoints.result room (endpoints_of c.args.self.now.net) (omega (arith, c.requires.slot, c.requires.may.colourable.count)) (omega (arith, c.endpoints-endpoints.ensures.number)),
      s.rows,
      c.deref_mut.ensures.len,
    )

row_size : (c : goal.After-self-2-1) → length c.copy_from_slice.new.self ≡ c.endpoints-endpoints.result
row_size c =
    let count : ℕ = c.endpoints-endpoints.result in
    let from : ℕ = c.args.slot * count in
    c.copy_from_slice.auto.self ∙ length-row count (from + count - from) from c.deref_mut.result.now (omega arith) (row_within c)

-- what was copied are the cores of the slot
row_cores : (c : goal.After-self-2-1) → HasItsCores c.args.self.now.net (slot_in c.args.slots.now.slots c.args.slot) (core_in c.copy_from_slice.new.self)
row_cores c =
    let net = c.args.self.now.net in
    let slot = slot_in c.args.slots.now.slots c.args.slot in
    let edges : List Edge = c.load.new.self.edges in
    let table = core_in c.colour.new.table.cores in
    let row = core_in c.copy_from_slice.new.self in
    let ok = sym c.is_ok-coloured.ensures.value ∙ c.if-prove.false in
    let cores : c.cores.result ≡ net.cores = c.cores.ensures.number in
    let Colours : ℕ → Type 0 = λ most. IsColouring most edges table in
    let Cleans : ℕ → Type 0 = λ most. MakesClean net.hosts most edges table in
    let Hosts : Network → Type 0 = λ n. MakesClean n.hosts c.cores.result edges table in
    let same_net = c.requires.may.painted.sized.table in
    let colouring : IsColouring net.cores edges table = subst Colours cores (at_ok c.colour.result (IsColouring c.cores.result edges table) ok c.colour.ensures.colouring) in
    let clean : MakesClean net.hosts net.cores edges table = subst Cleans cores (subst Hosts same_net (at_ok c.colour.result (Hosts c.args.self.now.table.net) ok c.colour.ensures.clean)) in
    row_coloured net slot edges table row (c.requires.may.colourable.matchings c.args.slot [] c.requires.slot) c.load.ensures.edges colouring clean
    (ap core_in (sym (c.copy_from_slice.ensures.after ∙ c.cores-2.ensures.cores)))

-- where they stand
row_stands : (c : goal.After-self-2-1) → HasItsCores c.args.self.now.net (slot_in c.args.slots.now.slots c.args.slot) (cores_at (endpoints_of c.args.self.now.net) (with_items c.args.self.now.rows (put_mid (c.args.slot * c.endpoints-endpoints.result) (c.args.slot * c.endpoints-endpoints.result + c.endpoints-endpoints.result - c.args.slot * c.endpoints-endpoints.result) c.deref_mut.result.now c.copy_from_slice.new.self)).items c.args.slot)
row_stands c =
    let count : ℕ = c.endpoints-endpoints.result in
    let from : ℕ = c.args.slot * count in
    subst (HasItsCores c.args.self.now.net (slot_in c.args.slots.now.slots c.args.slot))
    (sym (written_row (endpoints_of c.args.self.now.net) count c.args.slot (from + count - from) c.args.self.now.rows c.deref_mut.result.now c.copy_from_slice.new.self c.endpoints-endpoints.ensures.number c.deref_mut.ensures.value (omega arith) (row_size c) (row_within c) (omega (arith, c.requires.slot, c.requires.may.colourable.count, c.requires.may.painted.sized.few))))
    (row_cores c)

pub returns-clause-painted : goal.returns-clause-painted
returns-clause-painted c =
    let count : ℕ = c.endpoints-endpoints.result in
    let from : ℕ = c.args.slot * count in
    let s = c.requires.may.painted.sized in
    repainted _ _ c.args.slots.now.slots c.args.self.now _ c.args.slot c.requires.may.painted (omega (arith, c.requires.slot, c.requires.may.colourable.count)) refl (c.colour.ensures.net ∙ s.table)
    (omega (arith, c.load.ensures.room, s.graph)) refl refl refl (row_stands c)
    (λ place other. other_row (endpoints_of c.args.self.now.net) count c.args.slot (from + count - from) place c.args.self.now.rows c.deref_mut.result.now c.copy_from_slice.new.self c.endpoints-endpoints.ensures.number c.deref_mut.ensures.value (omega arith) (row_size c) (row_within c) other)

pub returns-clause-row : goal.returns-clause-row
returns-clause-row c = record {
  same = λ lt. refl;
  within = omega (arith, c.requires.slot, c.requires.may.colourable.count, c.requires.may.painted.sized.few);
  cores = row_stands c;
}
