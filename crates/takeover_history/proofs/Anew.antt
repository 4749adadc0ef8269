-- Nothing was told or published in a generation that is new to its node.
use Rattle.std.proofs.Common.{◌≡◌, ◌≢◌, ◌<◌, ◌≤◌, ◌+◌, ◌*◌, ◌==◌, ◌&&◌, ◌||◌, ℕ, suc, List, [], ◌∷◌, ◌++◌, length, get_or, cond, Bool, true, false, Option, Some, None, All, refl, sym, ap, ◌∙◌, subst, inl, inr, arith}
use Rattle.std.specs.Prelude.{Contains}
use Rattle.std.proofs.Math.Nat.{mul-suc}
use Rattle.std.proofs.lemmas.Bool.{cases_Bool, cases_eq, cases_lt, cond-true, cond-false, cond_both, eqb-true, eq-eqb, ne_eqb, and_parts, and_left, or_cases, or_parts, false_from_ne_true, false≢true}
use Rattle.std.proofs.lemmas.Option.{same_Some}
use Rattle.std.proofs.lemmas.List.{append-nil}
use Rattle.std.proofs.lemmas.List.Elements.{All-nil, All-cons, All-head, All-tail, All-weaker, All-contains}
use Rattle.greedy_rules.specs.declared.flows.Flow.{Flow}
use Rattle.greedy_rules.specs.Batches.{DemandBatch}
use Rattle.takeover_history.specs.Events.{PairSetting, Event, Take, Holder, Lease, Fact, Asked, Requested, Granted, Took, Told, Published, Heard, Crashed, Refused, Log}
use Rattle.takeover_history.specs.Leases.{boot_of, sent_messages, grant_at, leases, lease_of}
use Rattle.takeover_history.specs.Endpoints.{total_of, recorded_of_flow}
use Rattle.takeover_history.specs.Batches.{published_batches, published}
use Rattle.takeover_history.specs.Steps.{done, log_of, FactFollows, IsLog}
use Rattle.takeover_history.specs.Laws.{AGenerationBeginsAnew}
use Rattle.takeover_history.proofs.Follow.{lease-node, follows, is_log}
use Rattle.takeover_history.proofs.Leases.{IsOwned, Leased, leased, above-last}
use Rattle.takeover_history.proofs.Generations.{Later, AreGranted, granted, all_later, Agree, all_agree}

-- ---- leases that are there

there-cons : (new lease : Lease) (ls : List Lease) → Contains ls lease → Contains (new ∷ ls) lease
there-cons new lease ls c = (suc c.0, omega (arith, c.1), c.2)

here : (lease : Lease) (ls : List Lease) → Contains (lease ∷ ls) lease
here lease ls = (0, omega arith, refl)

pub grant-there : (log : Log) (message : ℕ) (lease : Lease) → grant_at log message ≡ Some lease → Contains (leases log) lease
grant-there [] message lease is = absurd (cc)
grant-there (Asked flow slots ∷ log) message lease is = grant-there log message lease is
grant-there (Requested holder ∷ log) message lease is = grant-there log message lease is
grant-there (Granted new ∷ log) message lease is = elim (cases_Bool (sent_messages log == message)) [
  | inl this ↦ subst (λ (l : Lease). Contains (new ∷ leases log) l) (same_Some new lease (rw this at is)) (here new (leases log))
  | inr other ↦ there-cons new lease (leases log) (grant-there log message lease (rw other at is))
]
grant-there (Took new ∷ log) message lease is = grant-there log message lease is
grant-there (Told src generation ∷ log) message lease is = grant-there log message lease is
grant-there (Published issue ∷ log) message lease is = grant-there log message lease is
grant-there (Heard src issue ∷ log) message lease is = grant-there log message lease is
grant-there (Crashed node ∷ log) message lease is = grant-there log message lease is
grant-there (Refused why ∷ log) message lease is = grant-there log message lease is

pub taken-there : (setting : PairSetting) (log : Log) (node : ℕ) (lease : Lease) → IsLog setting log → lease_of log node ≡ Some lease → Contains (leases log) lease
taken-there setting [] node lease is of = absurd (cc)
taken-there setting (Asked flow slots ∷ log) node lease is of = taken-there setting log node lease is.1 of
taken-there setting (Requested holder ∷ log) node lease is of = taken-there setting log node lease is.1 of
taken-there setting (Granted new ∷ log) node lease is of = there-cons new lease (leases log) (taken-there setting log node lease is.1 of)
taken-there setting (Took new ∷ log) node lease is of = elim (cases_Bool (new.holder.node == node)) [
  | inl this ↦ subst (λ (l : Lease). Contains (leases log) l) (same_Some new lease (rw this at of)) (grant-there log is.0.0 new is.0.1)
  | inr other ↦ taken-there setting log node lease is.1 (rw other at of)
]
taken-there setting (Told src generation ∷ log) node lease is of = taken-there setting log node lease is.1 of
taken-there setting (Published issue ∷ log) node lease is of = taken-there setting log node lease is.1 of
taken-there setting (Heard src issue ∷ log) node lease is of = taken-there setting log node lease is.1 of
taken-there setting (Crashed crashed ∷ log) node lease is of = elim (cases_Bool (crashed == node)) [
  | inl this ↦ let none : None ≡ Some lease = rw this at of in absurd (cc)
  | inr other ↦ taken-there setting log node lease is.1 (rw other at of)
]
taken-there setting (Refused why ∷ log) node lease is of = taken-there setting log node lease is.1 of

-- ---- leases with higher batches have no lower generation

abbrev Mono : Lease → Lease → Type 0
Mono one other = one.first < other.first → one.generation ≤ other.generation

-- each begins where those before it end
abbrev AreSpaced : PairSetting → List Lease → Type 0
AreSpaced setting [] = Unit {0}
AreSpaced setting (lease ∷ before) = (lease.first ≡ setting.span * length before) × AreSpaced setting before

spaced : (setting : PairSetting) (log : Log) → IsLog setting log → AreSpaced setting (leases log)
spaced setting [] is = tt
spaced setting (Asked flow slots ∷ log) is = spaced setting log is.1
spaced setting (Requested holder ∷ log) is = spaced setting log is.1
spaced setting (Granted lease ∷ log) is = (ap (λ (l : Lease). l.first) is.0, spaced setting log is.1)
spaced setting (Took lease ∷ log) is = spaced setting log is.1
spaced setting (Told src generation ∷ log) is = spaced setting log is.1
spaced setting (Published issue ∷ log) is = spaced setting log is.1
spaced setting (Heard src issue ∷ log) is = spaced setting log is.1
spaced setting (Crashed node ∷ log) is = spaced setting log is.1
spaced setting (Refused why ∷ log) is = spaced setting log is.1

-- all begin at or below the end of the list
low : (setting : PairSetting) (ls : List Lease) → AreSpaced setting ls → All (λ (l : Lease). l.first ≤ setting.span * length ls) ls
low setting [] are = λ k d within. absurd (omega arith)
low setting (lease ∷ ls) are =
    let P : Lease → Type 0 = λ l. l.first ≤ setting.span * length (lease ∷ ls) in
    All-cons P lease ls (omega (arith, are.0, mul-suc setting.span (length ls)))
    (All-weaker (λ (l : Lease). l.first ≤ setting.span * length ls) P (λ l le. omega (arith, mul-suc setting.span (length ls))) ls (low setting ls are.1))

mono : (setting : PairSetting) (ls : List Lease) → AreSpaced setting ls → AreGranted ls → All (λ (one : Lease). All (Mono one) ls) ls
mono setting [] are grants = All-nil (λ (one : Lease). All (Mono one) [])
mono setting (lease ∷ ls) are grants =
    let later = all_later lease ls grants in
    let below = low setting ls are.1 in
    All-cons (λ (one : Lease). All (Mono one) (lease ∷ ls)) lease ls
    (All-cons (Mono lease) lease ls (λ less. absurd (omega arith)) (All-weaker (λ (l : Lease). l.first ≤ setting.span * length ls) (Mono lease) (λ l le less. absurd (omega (arith, are.0))) ls below))
    (λ k d within. All-cons (Mono (get_or ls k d)) lease ls (λ less. (later k d within).0) (mono setting ls are.1 grants.1 k d within))

two : (P : Lease → Lease → Type 0) (ls : List Lease) (one other : Lease) → All (λ (x : Lease). All (P x) ls) ls → Contains ls one → Contains ls other → P one other
two P ls one other all first second = All-contains (P one) ls other (All-contains (λ (x : Lease). All (P x) ls) ls one all first) second

-- ---- a generation in which something was told or published

-- its holder has that boot or a later one; and where it is still in that boot, its last lease is of that generation or a later one
abbrev pub Live : Log → ℕ → Type 0
Live log k =
    (lease : Lease) × Contains (leases log) lease × (lease.generation ≡ k) × (lease.holder.boot ≤ boot_of log lease.holder.node)
    × (lease.holder.boot ≡ boot_of log lease.holder.node → (last : Lease) × (lease_of log lease.holder.node ≡ Some last) × (k ≤ last.generation))

-- it is, of a lease that is taken
live-now : (setting : PairSetting) (log : Log) (node : ℕ) (lease : Lease) → IsLog setting log → lease_of log node ≡ Some lease → Live log lease.generation
live-now setting log node lease is of =
    let t = (leased setting log is).taken node lease of in
    let same = lease-node setting log node lease of in
    let boot : lease.holder.boot ≡ boot_of log lease.holder.node = t.1 ∙ ap (λ (n : ℕ). boot_of log n) (sym same) in
    (lease, taken-there setting log node lease is of, refl, omega (arith, boot), λ at. (lease, ap (λ (n : ℕ). lease_of log n) same ∙ of, omega arith))

live-granted : (log : Log) (new : Lease) (k : ℕ) → Live log k → Live (Granted new ∷ log) k
live-granted log new k l = (l.0, there-cons new l.0 (leases log) l.1, l.2, l.3, l.4)

rises : (setting : PairSetting) (log : Log) (new last : Lease) → IsLog setting log → 0 < setting.span → FactFollows setting log (Took new) → lease_of log new.holder.node ≡ Some last → last.generation ≤ new.generation
rises setting log new last is some f of =
    two Mono (leases log) last new (mono setting (leases log) (spaced setting log is) (granted setting log is)) (taken-there setting log new.holder.node last is of) (grant-there log f.0 new f.1)
    (omega (arith, above-last setting log new last f.3 of))

live-took : (setting : PairSetting) (log : Log) (new : Lease) (k : ℕ) → IsLog setting log → 0 < setting.span → FactFollows setting log (Took new) → Live log k → Live (Took new ∷ log) k
live-took setting log new k is some f l =
    let node : ℕ = l.0.holder.node in (
      l.0,
      l.1,
      l.2,
      l.3,
      λ boot.
          let before = l.4 boot in
          elim (cases_Bool (new.holder.node == node)) [
            | inl this ↦
                let of_node : new.holder.node ≡ node = eqb-true new.holder.node node this in
                let last : lease_of log new.holder.node ≡ Some before.0 = ap (λ (n : ℕ). lease_of log n) of_node ∙ before.1 in
                (new, cond-true (new.holder.node == node) (Some new) (lease_of log node) this, omega (arith, before.2, rises setting log new before.0 is some f last))
            | inr other ↦ (before.0, cond-false (new.holder.node == node) (Some new) (lease_of log node) other ∙ before.1, before.2)
          ],
    )

live-crashed : (log : Log) (gone k : ℕ) → Live log k → Live (Crashed gone ∷ log) k
live-crashed log gone k l =
    let node : ℕ = l.0.holder.node in (
      l.0,
      l.1,
      l.2,
      omega (arith, l.3),
      λ is. elim (cases_Bool (gone == node)) [
        | inl this ↦
            let boot : boot_of (Crashed gone ∷ log) node ≡ 1 + boot_of log node = ap (λ (n : ℕ). n + boot_of log node) (cond-true (gone == node) 1 0 this) in
            absurd (omega (arith, l.3, is, boot))
        | inr other ↦
            let boot : boot_of (Crashed gone ∷ log) node ≡ boot_of log node = ap (λ (n : ℕ). n + boot_of log node) (cond-false (gone == node) 1 0 other) ∙ omega arith in
            let before = l.4 (is ∙ boot) in
            (before.0, cond-false (gone == node) None (lease_of log node) other ∙ before.1, before.2)
      ],
    )

-- something was told or published in the generation
abbrev used_in : ℕ → Log → Bool
used_in k [] = false
used_in k (Told src generation ∷ log) = (generation == k) || used_in k log
used_in k (Published issue ∷ log) = (issue.lease.generation == k) || used_in k log
used_in k (_ ∷ log) = used_in k log

lives : (setting : PairSetting) (log : Log) (k : ℕ) → IsLog setting log → 0 < setting.span → used_in k log ≡ true → Live log k
lives setting [] k is some used = absurd (false≢true used)
lives setting (Asked flow slots ∷ log) k is some used = lives setting log k is.1 some used
lives setting (Requested holder ∷ log) k is some used = lives setting log k is.1 some used
lives setting (Granted new ∷ log) k is some used = live-granted log new k (lives setting log k is.1 some used)
lives setting (Took new ∷ log) k is some used = live-took setting log new k is.1 some is.0 (lives setting log k is.1 some used)
lives setting (Told src generation ∷ log) k is some used = elim (or_cases (generation == k) (used_in k log) used) [
  | inl now ↦ subst (λ (n : ℕ). Live log n) (sym is.0.3 ∙ eqb-true generation k now) (live-now setting log is.0.0 is.0.1 is.1 is.0.2)
  | inr before ↦ lives setting log k is.1 some before
]
lives setting (Published issue ∷ log) k is some used = elim (or_cases (issue.lease.generation == k) (used_in k log) used) [
  | inl now ↦ subst (λ (n : ℕ). Live log n) (eqb-true issue.lease.generation k now) (live-now setting log issue.lease.holder.node issue.lease is.1 is.0.0)
  | inr before ↦ lives setting log k is.1 some before
]
lives setting (Heard src issue ∷ log) k is some used = lives setting log k is.1 some used
lives setting (Crashed gone ∷ log) k is some used = live-crashed log gone k (lives setting log k is.1 some used)
lives setting (Refused why ∷ log) k is some used = lives setting log k is.1 some used

unused : (setting : PairSetting) (log : Log) (k : ℕ) → used_in k log ≡ false → (published_batches k log ≡ []) × ((flow : Flow) → recorded_of_flow setting k log flow ≡ 0) × ((flow : Flow) → published setting k log flow ≡ 0)
unused setting [] k none = (refl, λ flow. refl, λ flow. refl)
unused setting (Asked of slots ∷ log) k none = let b = unused setting log k none in (b.0, b.1, b.2)
unused setting (Requested holder ∷ log) k none = let b = unused setting log k none in (b.0, b.1, b.2)
unused setting (Granted new ∷ log) k none = let b = unused setting log k none in (b.0, b.1, b.2)
unused setting (Took new ∷ log) k none = let b = unused setting log k none in (b.0, b.1, b.2)
unused setting (Told src generation ∷ log) k none =
    let parts = or_parts (generation == k) (used_in k log) none in
    let b = unused setting log k parts.1 in
    (b.0, λ flow. cond-false ((generation == k) && (src == flow.src)) (total_of setting (Told src generation ∷ log) flow) (recorded_of_flow setting k log flow) (and_left (generation == k) (src == flow.src) parts.0) ∙ b.1 flow, b.2)
unused setting (Published issue ∷ log) k none =
    let parts = or_parts (issue.lease.generation == k) (used_in k log) none in
    let b = unused setting log k parts.1 in (
      ap (λ (xs : List (ℕ × DemandBatch)). published_batches k log ++ xs) (cond-false (issue.lease.generation == k) ((issue.number, issue.batch) ∷ []) [] parts.0) ∙ (append-nil (published_batches k log) ∙ b.0),
      b.1,
      λ flow. cond-false (issue.lease.generation == k) (recorded_of_flow setting k log flow) (published setting k log flow) parts.0 ∙ b.2 flow,
    )
unused setting (Heard src issue ∷ log) k none = let b = unused setting log k none in (b.0, b.1, b.2)
unused setting (Crashed gone ∷ log) k none = let b = unused setting log k none in (b.0, b.1, b.2)
unused setting (Refused why ∷ log) k none = let b = unused setting log k none in (b.0, b.1, b.2)

pub begins_anew : AGenerationBeginsAnew
begins_anew setting events node message lease some takes new =
    let log : List Fact = log_of setting events in
    let is = is_log setting events in
    let f : FactFollows setting log (Took lease) = subst (FactFollows setting log) takes (follows setting log (Take node message)) in
    unused setting log lease.generation (false_from_ne_true (used_in lease.generation log) (λ used.
    let l = lives setting log lease.generation is some used in
    let holder : l.0.holder ≡ lease.holder = two Agree (leases log) l.0 lease (all_agree (leases log) (granted setting log is)) l.1 (grant-there log f.0 lease f.1) l.2 in
    let of_node : l.0.holder.node ≡ lease.holder.node = ap (λ (h : Holder). h.node) holder in
    let boot : l.0.holder.boot ≡ boot_of log l.0.holder.node = ap (λ (h : Holder). h.boot) holder ∙ (f.2 ∙ ap (λ (n : ℕ). boot_of log n) (sym of_node)) in
    let at = l.4 boot in
    let last : lease_of log lease.holder.node ≡ Some at.0 = ap (λ (n : ℕ). lease_of log n) (sym of_node) ∙ at.1 in
    let same : at.0.generation ≡ lease.generation = omega (arith, at.2, rises setting log lease at.0 is some f last) in
    new at.0 last same))
