-- Cores for every slot of a run, where those of the first slots are named already.
use Rattle.std.proofs.Common.{◌≡◌, ◌<◌, ◌≤◌, ℕ, List, get_or, cond, Option, Some, None, All, IfSome, refl, sym, subst, inl, inr, arith}
use Rattle.std.specs.Prelude.{nat_lt, nat_le, unwrap_or}
use Rattle.std.proofs.lemmas.Bool.{cases_Bool, cond-true, cond-false, leb-true, ltb-true, lt-ltb, le-leb}
use Rattle.greedy_rules.specs.declared.flows.Flow.{Flow}
use Rattle.greedy_rules.specs.Batches.{DemandBatch}
use Rattle.greedy_rules.specs.Schedule.{schedule, slot_at}
use Rattle.clos_topology.specs.Network.{Network}
use Rattle.clos_topology.specs.Limits.{IsNetwork}
use Rattle.clos_topology.specs.Links.{CoreOf, HasItsCore, IsClean, links, SharesNoLink}
use Rattle.clos_topology.specs.NetSlots.{SlotCores, AreSlotCores}
use Rattle.trace_run.specs.Run.{replayed}
use Rattle.trace_run.specs.Cores.{CoresDecideNothing}
use Rattle.replay_rounds.specs.Setting.{byte_of, setting_of}
use Rattle.window_allocation.specs.Scheduled.{EverySlotIsScheduled, EveryRecordHasCores}
use Rattle.window_engine.specs.Premises.{Replays}
use Rattle.window_engine.specs.Replay.{AreCleanUpTo, CoresGoOn}
use Rattle.window_engine.proofs.ReplayTables.{core_below}

-- ---- cores that are below 64

pub below_64 : Option ℕ → Option ℕ
below_64 None = None
below_64 (Some core) = cond (nat_lt core 64) (Some core) None

pub below_64-below : (core : Option ℕ) → IfSome (below_64 core) (λ c. c < 64)
unfolding below_64
below_64-below None = tt
below_64-below (Some core) =
    let Below : Option ℕ → Type 0 = λ named. IfSome named (λ c. c < 64) in
    elim (cases_Bool (nat_lt core 64)) [
      | inl is ↦ subst Below (sym (cond-true (nat_lt core 64) (Some core) None is)) (ltb-true core 64 is)
      | inr not ↦ subst Below (sym (cond-false (nat_lt core 64) (Some core) None not)) tt
    ]

pub below_64-same : (core : Option ℕ) (cores : ℕ) → cores ≤ 64 → IfSome core (λ c. c < cores) → below_64 core ≡ core
unfolding below_64
below_64-same None cores most below = refl
below_64-same (Some core) cores most below = cond-true (nat_lt core 64) (Some core) None (lt-ltb core 64 (omega (arith, below)))

-- a slot is as clean with cores that are the same for its sources
pub clean-same : (hosts cores : ℕ) (slot : List Flow) (one other : CoreOf) → All (λ (flow : Flow). one flow.src ≡ other flow.src) slot → IsClean hosts cores slot one → IsClean hosts cores slot other
clean-same hosts cores slot one other same clean = record {
  named = λ k d below.
      let flow : Flow = get_or slot k d in
      let Named : Option ℕ → Type 0 = λ core. HasItsCore hosts cores (λ source. core) flow in
      subst Named (same k d below) (clean.named k d below);
  apart = λ i j d lt below.
      let f : Flow = get_or slot i d in
      let g : Flow = get_or slot j d in
      let Apart : Option ℕ → Option ℕ → Type 0 = λ a b. SharesNoLink (links hosts f.src f.dst (unwrap_or a 0)) (links hosts g.src g.dst (unwrap_or b 0)) in
      subst (λ (a : Option ℕ). Apart a (other g.src)) (same i d (omega (arith, lt, below))) (subst (Apart (one f.src)) (same j d below) (clean.apart i j d lt below));
}

pub clean_limited : (hosts cores : ℕ) (slot : List Flow) (named : CoreOf) → cores ≤ 64 → IsClean hosts cores slot named → IsClean hosts cores slot (λ source. below_64 (named source))
clean_limited hosts cores slot named most clean =
    clean-same hosts cores slot named (λ source. below_64 (named source))
    (λ k d below. sym (below_64-same (named (get_or slot k d).src) cores most (core_below hosts cores named (get_or slot k d) (clean.named k d below)))) clean

-- ---- the first ones are kept

abbrev kept : SlotCores → ℕ → SlotCores → SlotCores
kept cores reached others number = cond (nat_le number reached) (cores number) (λ source. below_64 (others number source))

kept-first : (cores : SlotCores) (reached : ℕ) (others : SlotCores) (number : ℕ) → number ≤ reached → kept cores reached others number ≡ cores number
kept-first cores reached others number within = cond-true (nat_le number reached) (cores number) (λ source. below_64 (others number source)) (le-leb number reached within)

kept-named : (cores : SlotCores) (reached : ℕ) (others : SlotCores) → AreSlotCores cores → AreSlotCores (kept cores reached others)
kept-named cores reached others named number source =
    let Named : CoreOf → Type 0 = λ of. IfSome (of source) (λ core. core < 64) in
    let later : CoreOf = λ s. below_64 (others number s) in
    elim (cases_Bool (nat_le number reached)) [
      | inl first ↦ subst Named (sym (cond-true (nat_le number reached) (cores number) later first)) (named number source)
      | inr after ↦ subst Named (sym (cond-false (nat_le number reached) (cores number) later after)) (below_64-below (others number source))
    ]

kept-scheduled : (b : ℕ) (net : Network) (batches : List DemandBatch) (cores : SlotCores) (reached : ℕ) (others : SlotCores) → IsNetwork net → AreCleanUpTo net (schedule b batches) reached cores
    → EverySlotIsScheduled b net batches others → EverySlotIsScheduled b net batches (kept cores reached others)
kept-scheduled b net batches cores reached others sizes first all number positive within =
    let slot : List Flow = slot_at (schedule b batches) number in
    let later : CoreOf = λ source. below_64 (others number source) in
    let this = all number positive within in
    let Clean : CoreOf → Type 0 = IsClean net.hosts net.cores slot in
    record {
      matching = this.matching;
      maximal = this.maximal;
      within_cores = this.within_cores;
      clean = elim (cases_Bool (nat_le number reached)) [
        | inl early ↦ subst Clean (sym (cond-true (nat_le number reached) (cores number) later early)) (first number positive (leb-true number reached early) within)
        | inr late ↦ subst Clean (sym (cond-false (nat_le number reached) (cores number) later late)) (clean_limited net.hosts net.cores slot (others number) sizes.most_cores this.clean)
      ];
    }

pub cores_go_on : Replays → EveryRecordHasCores → CoresDecideNothing → CoresGoOn
cores_go_on laws record_has decide b g trace cores reached sound small some named first =
    let batches : List DemandBatch = (replayed (setting_of trace b g cores) trace.rounds).batches in
    let recorded = laws.recorded (setting_of trace b g cores) trace.rounds trace.rounds (omega arith) (laws.setting trace b g cores sound small some) in
    let found = record_has b trace.net batches recorded.batches in
    let whole : SlotCores = kept cores reached found.0 in
    let same = sym (decide (setting_of trace b g cores) (λ number source. byte_of (whole number source)) trace.rounds) in (
      whole,
      kept-named cores reached found.0 named,
      λ number within. kept-first cores reached found.0 number within,
      subst (λ (bs : List DemandBatch). EverySlotIsScheduled b trace.net bs whole) same (kept-scheduled b trace.net batches cores reached found.0 sound.net first found.1),
    )
