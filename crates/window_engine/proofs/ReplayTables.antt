-- The cores that a window names, in the place of those named before for its slots.
use Rattle.std.proofs.Common.{◌≡◌, ◌≢◌, ◌<◌, ◌≤◌, ◌+◌, ◌-◌, ℕ, List, cond, Option, Some, None, MatchOption, IfSome, sym, ap, ◌∙◌, subst, inl, inr, arith}
use Rattle.std.specs.Prelude.{nat_lt}
use Rattle.std.proofs.lemmas.Bool.{cases_Bool, cond-true, cond-false, ltb-true, ltb-false, lt-ltb, le-ltb}
use Rattle.greedy_rules.specs.declared.flows.Flow.{Flow}
use Rattle.greedy_rules.specs.Limits.{rack_of}
use Rattle.clos_topology.specs.Network.{Network}
use Rattle.clos_topology.specs.Limits.{IsNetwork}
use Rattle.clos_topology.specs.Links.{CoreOf, HasItsCore, IsClean}
use Rattle.clos_topology.specs.NetSlots.{SlotCores, AreSlotCores}
use Rattle.path_workers.specs.Coloured.{NamesNoOther}
use Rattle.path_workers.specs.CoreTable.{CoreSlots, core_of}
use Rattle.path_workers.proofs.NamedCores.{Below, found}
use Rattle.replay_rounds.specs.Standing.{AreOfTable}
use Rattle.replay_rounds.proofs.ReplayCores.{AgreeBelow}

-- ---- a core that is named is below the number of cores

pub core_below : (hosts cores : ℕ) (named : CoreOf) (flow : Flow) → HasItsCore hosts cores named flow → Below cores (named flow.src)
core_below hosts cores named flow own = below (named flow.src) own
  where
    below : (core : Option ℕ) → MatchOption core (rack_of hosts flow.src ≡ rack_of hosts flow.dst) (λ c. (rack_of hosts flow.src ≢ rack_of hosts flow.dst) × (c < cores)) → IfSome core (λ c. c < cores)
    below None own = tt
    below (Some c) own = own.1

fewer : (most cores : ℕ) (core : Option ℕ) → cores ≤ most → Below cores core → IfSome core (λ c. c < most)
fewer most cores None few below = tt
fewer most cores (Some c) few below = omega (arith, below)

pub clean_cores : (net : Network) (slot : List Flow) (named : CoreOf) → IsNetwork net → IsClean net.hosts net.cores slot named → NamesNoOther net.hosts slot named
    → (source : ℕ) → IfSome (named source) (λ core. core < 64)
clean_cores net slot named sizes clean others source =
    elim (found net.hosts net.cores named slot source clean.named) [
      | inl none ↦ subst (λ (core : Option ℕ). IfSome core (λ c. c < 64)) (sym (others source none)) tt
      | inr below ↦ fewer 64 net.cores (named source) sizes.most_cores below
    ]

-- ---- a table in the place of the cores of its slots

abbrev pub with_table : SlotCores → ℕ → ℕ → CoreSlots → SlotCores
with_table cores first count table number =
    cond (nat_lt number first) (cores number) (cond (nat_lt number (first + count)) (core_of table (number - first)) (cores number))

pub table-before : (cores : SlotCores) (first count : ℕ) (table : CoreSlots) → AgreeBelow first cores (with_table cores first count table)
table-before cores first count table number before =
    sym (cond-true (nat_lt number first) (cores number) (cond (nat_lt number (first + count)) (core_of table (number - first)) (cores number)) (lt-ltb number first before))

pub table-there : (cores : SlotCores) (first count : ℕ) (table : CoreSlots) → AreOfTable (with_table cores first count table) first count table
table-there cores first count table at source within =
    let number : ℕ = first + at in
    let place : number - first ≡ at = omega arith in
    let inner : CoreOf = cond (nat_lt number (first + count)) (core_of table (number - first)) (cores number) in
    ap (λ (named : CoreOf). named source) (cond-false (nat_lt number first) (cores number) inner (le-ltb number first (omega arith)))
    ∙ (ap (λ (named : CoreOf). named source) (cond-true (nat_lt number (first + count)) (core_of table (number - first)) (cores number) (lt-ltb number (first + count) (omega arith)))
    ∙ ap (λ (n : ℕ). core_of table n source) place)

pub table-named : (cores : SlotCores) (first count : ℕ) (table : CoreSlots) → AreSlotCores cores → ((at source : ℕ) → at < count → IfSome (core_of table at source) (λ core. core < 64)) → AreSlotCores (with_table cores first count table)
table-named cores first count table named those number source =
    let Named : CoreOf → Type 0 = λ of. IfSome (of source) (λ core. core < 64) in
    let inner : CoreOf = cond (nat_lt number (first + count)) (core_of table (number - first)) (cores number) in
    elim (cases_Bool (nat_lt number first)) [
      | inl before ↦ subst Named (sym (cond-true (nat_lt number first) (cores number) inner before)) (named number source)
      | inr from ↦
          let start : first ≤ number = ltb-false number first from in
          elim (cases_Bool (nat_lt number (first + count))) [
            | inl there ↦
                let below : number < first + count = ltb-true number (first + count) there in
                subst Named (sym (cond-false (nat_lt number first) (cores number) inner from ∙ cond-true (nat_lt number (first + count)) (core_of table (number - first)) (cores number) there))
                (those (number - first) source (omega arith))
            | inr after ↦
                subst Named (sym (cond-false (nat_lt number first) (cores number) inner from ∙ cond-false (nat_lt number (first + count)) (core_of table (number - first)) (cores number) after))
                (named number source)
          ]
    ]
