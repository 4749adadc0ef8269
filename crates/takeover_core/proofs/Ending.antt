-- What is kept of the endpoints, fact by fact.
use Rattle.std.proofs.Common.{◌≡◌, ◌<◌, ◌≤◌, ◌==◌, ◌&&◌, ◌||◌, nat_lt, ℕ, List, [], ◌∷◌, ◌++◌, length, cond, Bool, true, false, Option, Some, None, inl, inr, refl, sym, ap, ◌∙◌, subst, arith}
use Rattle.std.specs.Prelude.{slice_index, count_by, option_map}
use Rattle.std.proofs.lemmas.Bool.{cases_eq, cond-true, cond-false, eq-eqb, ne_eqb, and_right, le-ltb, lt-ltb}
use Rattle.std.proofs.lemmas.List.{append-nil}
use Rattle.greedy_rules.specs.declared.flows.Flow.{Flow}
use Rattle.takeover_history.specs.declared.event.Refusal.TheVariants.{Stale, Repeat}
use Rattle.takeover_history.specs.Events.{PairSetting, BatchIssue, Published, Heard, Refused, Log}
use Rattle.takeover_history.specs.Steps.{heard}
use Rattle.takeover_history.specs.Endpoints.{asked_of_flow, generation_of, issue_at, has_heard, Send, is_of, own_sends, sent, sends_of_flow, base_of}
use Rattle.greedy_rules.specs.Batches.{DemandBatch}
use Rattle.greedy_rules.specs.Schedule.{first_slot}
use Rattle.greedy_rules.specs.Cells.{flow_of}
use Rattle.takeover_core.specs.declared.endpoints.Endpoints.{Endpoints}
use Rattle.takeover_core.specs.declared.published.Issued.{Issued}
use Rattle.takeover_core.specs.declared.published.Published.{Published as Kept}
use Rattle.takeover_core.specs.Cells.{CellsContent, cell}
use Rattle.takeover_core.specs.Sending.{sends_in, SendsAreCounted}
use Rattle.takeover_core.specs.Published.{issue_in, is_heard}
use Rattle.takeover_core.specs.Standing.{AreEndpoints, ArePublished, kept_of}

abbrev pub AreEndpointsOf : PairSetting → Log → Endpoints → Type 0
AreEndpointsOf setting log ends = AreEndpoints setting.endpoints ends (generation_of log) (asked_of_flow log) (base_of setting log) (sent setting log)

-- what is kept once the source took this generation
abbrev pub AreTaken : PairSetting → Log → ℕ → Endpoints → ℕ → Type 0
AreTaken setting log src now k =
    AreEndpoints setting.endpoints now (λ s. cond (src == s) k (generation_of log s)) (asked_of_flow log) (λ flow. cond ((src == flow.src) && nat_lt (generation_of log src) k) (sends_of_flow setting log flow) (base_of setting log flow)) (sent setting log)

-- the source takes a generation
pub ends_took : (setting : PairSetting) (log : Log) (src k : ℕ) (ends now : Endpoints) → AreEndpointsOf setting log ends → src < setting.endpoints
    → ((s : ℕ) → slice_index now.generations.items s ≡ cond (src == s) k (slice_index ends.generations.items s)) → length now.generations.items ≡ length ends.generations.items
    → ((s d : ℕ) → d < ends.counts.endpoints → cell now.base s d ≡ cond ((src == s) && nat_lt (slice_index ends.generations.items src) k) (cell ends.counts s d) (cell ends.base s d))
    → now.base.endpoints ≡ ends.base.endpoints → now.asked ≡ ends.asked → now.counts ≡ ends.counts → now.sent.items ≡ ends.sent.items
    → AreEndpoints setting.endpoints now (λ s. cond (src == s) k (generation_of log s)) (asked_of_flow log) (λ flow. cond ((src == flow.src) && nat_lt (generation_of log src) k) (sends_of_flow setting log flow) (base_of setting log flow)) (sent setting log)
ends_took setting log src k ends now e in_src gens lengths bases endpoints askeds counteds sents = record {
  count = lengths ∙ e.count;
  generations_are = λ s in_s. gens s ∙ ap (λ (n : ℕ). cond (src == s) k n) (e.generations_are s in_s);
  asked_is = (ap (λ (t : CellsContent). t.endpoints) askeds ∙ e.asked_is.0, λ s d in_s in_d. ap (λ (t : CellsContent). cell t s d) askeds ∙ e.asked_is.1 s d in_s in_d);
  base_is = (
    endpoints ∙ e.base_is.0,
    λ s d in_s in_d.
        let number : cell ends.counts s d ≡ sends_of_flow setting log (flow_of s d) =
        e.counted s d (subst (λ (n : ℕ). s < n) (sym e.counts_are) in_s) (subst (λ (n : ℕ). d < n) (sym e.counts_are) in_d) ∙ ap (λ (xs : List Send). count_by (is_of (flow_of s d)) xs) e.sent_is in
        bases s d (subst (λ (n : ℕ). d < n) (sym e.counts_are) in_d)
        ∙ (ap (λ (n : ℕ). cond ((src == s) && nat_lt n k) (cell ends.counts s d) (cell ends.base s d)) (e.generations_are src in_src)
        ∙ (ap (λ (n : ℕ). cond ((src == s) && nat_lt (generation_of log src) k) n (cell ends.base s d)) number
        ∙ ap (λ (n : ℕ). cond ((src == s) && nat_lt (generation_of log src) k) (sends_of_flow setting log (flow_of s d)) n) (e.base_is.1 s d in_s in_d))),
  );
  sent_is = ap sends_in sents ∙ e.sent_is;
  counts_are = ap (λ (t : CellsContent). t.endpoints) counteds ∙ e.counts_are;
  counted = λ s d in_s in_d.
      ap (λ (t : CellsContent). cell t s d) counteds
      ∙ (e.counted s d (subst (λ (n : ℕ). s < n) (ap (λ (t : CellsContent). t.endpoints) counteds) in_s) (subst (λ (n : ℕ). d < n) (ap (λ (t : CellsContent). t.endpoints) counteds) in_d)
      ∙ sym (ap (λ xs. count_by (is_of (flow_of s d)) (sends_in xs)) sents));
}

-- and sends_of_flow nothing in the batch that brings it
pub ends_hear_new : (setting : PairSetting) (log : Log) (src : ℕ) (issue : BatchIssue) (now : Endpoints) → generation_of log src < issue.lease.generation
    → AreEndpoints setting.endpoints now (λ s. cond (src == s) issue.lease.generation (generation_of log s)) (asked_of_flow log) (λ flow. cond ((src == flow.src) && nat_lt (generation_of log src) issue.lease.generation) (sends_of_flow setting log flow) (base_of setting log flow)) (sent setting log)
    → AreEndpointsOf setting (Heard src issue ∷ log) now
ends_hear_new setting log src issue now later e = record {
  count = e.count;
  generations_are = e.generations_are;
  asked_is = e.asked_is;
  base_is = e.base_is;
  sent_is = e.sent_is ∙ (sym (append-nil (sent setting log))
      ∙ ap (λ (xs : List Send). sent setting log ++ xs) (sym (cond-true (nat_lt (generation_of log src) issue.lease.generation) [] (own_sends src (first_slot setting.b issue.number) issue.slots) (lt-ltb (generation_of log src) issue.lease.generation later))));
  counts_are = e.counts_are;
  counted = e.counted;
}

-- the source sends_of_flow in its slots of a batch of its own generation
pub ends_hear_own : (setting : PairSetting) (log : Log) (src : ℕ) (issue : BatchIssue) (ends now : Endpoints) → generation_of log src ≡ issue.lease.generation → AreEndpointsOf setting log ends
    → sends_in now.sent.items ≡ sends_in ends.sent.items ++ own_sends src (first_slot setting.b issue.number) issue.slots
    → SendsAreCounted now.counts now.sent.items → now.counts.endpoints ≡ ends.counts.endpoints → now.generations.items ≡ ends.generations.items → now.asked ≡ ends.asked → now.base ≡ ends.base
    → AreEndpointsOf setting (Heard src issue ∷ log) now
ends_hear_own setting log src issue ends now own e sents counteds endpoints gens askeds bases =
    let k : ℕ = issue.lease.generation in
    let not_later = le-ltb (generation_of log src) k (omega (arith, own)) in
    record {
      count = ap (λ (xs : List ℕ). length xs) gens ∙ e.count;
      generations_are = λ s in_s. ap (λ (xs : List ℕ). slice_index xs s) gens ∙ (e.generations_are s in_s ∙ elim (cases_eq src s) [
        | inl here ↦ ap (generation_of log) (sym here) ∙ (own ∙ sym (cond-true (src == s) k (generation_of log s) (eq-eqb src s here)))
        | inr other ↦ sym (cond-false (src == s) k (generation_of log s) (ne_eqb src s other))
      ]);
      asked_is = (ap (λ (t : CellsContent). t.endpoints) askeds ∙ e.asked_is.0, λ s d in_s in_d. ap (λ (t : CellsContent). cell t s d) askeds ∙ e.asked_is.1 s d in_s in_d);
      base_is = (
        ap (λ (t : CellsContent). t.endpoints) bases ∙ e.base_is.0,
        λ s d in_s in_d.
            ap (λ (t : CellsContent). cell t s d) bases
            ∙ (e.base_is.1 s d in_s in_d
            ∙ sym (cond-false ((src == s) && nat_lt (generation_of log src) k) (sends_of_flow setting log (flow_of s d)) (base_of setting log (flow_of s d)) (and_right (src == s) (nat_lt (generation_of log src) k) not_later))),
      );
      sent_is = sents ∙ (ap (λ (xs : List Send). xs ++ own_sends src (first_slot setting.b issue.number) issue.slots) e.sent_is
          ∙ ap (λ (xs : List Send). sent setting log ++ xs) (sym (cond-false (nat_lt (generation_of log src) k) [] (own_sends src (first_slot setting.b issue.number) issue.slots) not_later)));
      counts_are = endpoints ∙ e.counts_are;
      counted = counteds;
    }

-- ---- published batches

kept_cond : (endpoints : ℕ) (test : Bool) (issue : BatchIssue) (o : Option BatchIssue) → cond test (Some (kept_of endpoints issue)) (option_map (kept_of endpoints) o) ≡ option_map (kept_of endpoints) (cond test (Some issue) o)
kept_cond endpoints true issue o = refl
kept_cond endpoints false issue o = refl

pub published_more : (setting : PairSetting) (log : Log) (issue : BatchIssue) (issued : Issued) (kept now : Kept) → ArePublished setting.endpoints kept (issue_at log) (has_heard log) → issued ≡ kept_of setting.endpoints issue
    → ((n : ℕ) → issue_in now n ≡ cond (issue.number == n) (Some issued) (issue_in kept n)) → ((src n : ℕ) → is_heard now src n ≡ is_heard kept src n)
    → ArePublished setting.endpoints now (issue_at (Published issue ∷ log)) (has_heard (Published issue ∷ log))
published_more setting log issue issued kept now p is batches heards = record {
  batches_are = λ n.
      batches n
      ∙ (ap (λ (x : Issued). cond (issue.number == n) (Some x) (issue_in kept n)) is
      ∙ (ap (λ (o : Option Issued). cond (issue.number == n) (Some (kept_of setting.endpoints issue)) o) (p.batches_are n) ∙ kept_cond setting.endpoints (issue.number == n) issue (issue_at log n)));
  heard_are = λ src n. heards src n ∙ p.heard_are src n;
}

pub heard_more : (setting : PairSetting) (log : Log) (src : ℕ) (issue : BatchIssue) (kept now : Kept) → ArePublished setting.endpoints kept (issue_at log) (has_heard log)
    → ((n : ℕ) → issue_in now n ≡ issue_in kept n) → ((s n : ℕ) → is_heard now s n ≡ (((src == s) && (issue.number == n)) || is_heard kept s n))
    → ArePublished setting.endpoints now (issue_at (Heard src issue ∷ log)) (has_heard (Heard src issue ∷ log))
heard_more setting log src issue kept now p batches heards = record {
  batches_are = λ n. batches n ∙ p.batches_are n;
  heard_are = λ s n. heards s n ∙ ap (λ (b : Bool). ((src == s) && (issue.number == n)) || b) (p.heard_are s n);
}

-- the batch of which this is kept
pub issue_of : (setting : PairSetting) (log : Log) (number : ℕ) (kept : Kept) (issued : Issued) → ArePublished setting.endpoints kept (issue_at log) (has_heard log) → issue_in kept number ≡ Some issued
    → (issue : BatchIssue) × (issue_at log number ≡ Some issue) × (issued ≡ kept_of setting.endpoints issue)
issue_of setting log number kept issued p is = go (issue_at log number) (sym (p.batches_are number) ∙ is)
  where
    go : (o : Option BatchIssue) → option_map (kept_of setting.endpoints) o ≡ Some issued → (issue : BatchIssue) × (o ≡ Some issue) × (issued ≡ kept_of setting.endpoints issue)
    go None none = absurd (cc)
    go (Some issue) some = (issue, refl, cc)

-- and none is
pub no_issue : (setting : PairSetting) (log : Log) (number : ℕ) (kept : Kept) → ArePublished setting.endpoints kept (issue_at log) (has_heard log) → issue_in kept number ≡ None → issue_at log number ≡ None
no_issue setting log number kept p is = go (issue_at log number) (sym (p.batches_are number) ∙ is)
  where
    go : (o : Option BatchIssue) → option_map (kept_of setting.endpoints) o ≡ None → o ≡ None
    go None none = refl
    go (Some issue) some = absurd (cc)

-- ---- hearing

pub heard-stale : (log : Log) (src : ℕ) (issue : BatchIssue) → issue.lease.generation < generation_of log src → heard log src (Some issue) ≡ Refused Stale
heard-stale log src issue lt =
    cond-true (nat_lt issue.lease.generation (generation_of log src)) (Refused Stale) (cond (has_heard log src issue.number) (Refused Repeat) (Heard src issue)) (lt-ltb issue.lease.generation (generation_of log src) lt)

heard-fresh : (log : Log) (src : ℕ) (issue : BatchIssue) → generation_of log src ≤ issue.lease.generation → heard log src (Some issue) ≡ cond (has_heard log src issue.number) (Refused Repeat) (Heard src issue)
heard-fresh log src issue le =
    cond-false (nat_lt issue.lease.generation (generation_of log src)) (Refused Stale) (cond (has_heard log src issue.number) (Refused Repeat) (Heard src issue)) (le-ltb issue.lease.generation (generation_of log src) le)

pub heard-repeat : (log : Log) (src : ℕ) (issue : BatchIssue) → generation_of log src ≤ issue.lease.generation → has_heard log src issue.number ≡ true → heard log src (Some issue) ≡ Refused Repeat
heard-repeat log src issue le again = heard-fresh log src issue le ∙ cond-true (has_heard log src issue.number) (Refused Repeat) (Heard src issue) again

pub heard-is : (log : Log) (src : ℕ) (issue : BatchIssue) → generation_of log src ≤ issue.lease.generation → has_heard log src issue.number ≡ false → heard log src (Some issue) ≡ Heard src issue
heard-is log src issue le first = heard-fresh log src issue le ∙ cond-false (has_heard log src issue.number) (Refused Repeat) (Heard src issue) first

-- a kept batch is this one's
pub same_issued : (endpoints : ℕ) (issued : Issued) (issue : BatchIssue) → issued.generation ≡ issue.lease.generation → issued.batch ≡ issue.batch → issued.slots.slots ≡ issue.slots → issued.slots.endpoints ≡ endpoints → issued ≡ kept_of endpoints issue
same_issued endpoints issued issue generations batches slots counts =
    ap (λ (n : ℕ). record { generation = n; batch = issued.batch; slots = record { slots = issued.slots.slots; endpoints = issued.slots.endpoints } }) generations
    ∙ (ap (λ (b : DemandBatch). record { generation = issue.lease.generation; batch = b; slots = record { slots = issued.slots.slots; endpoints = issued.slots.endpoints } }) batches
    ∙ (ap (λ (xs : List (List Flow)). record { generation = issue.lease.generation; batch = issue.batch; slots = record { slots = xs; endpoints = issued.slots.endpoints } }) slots
    ∙ ap (λ (n : ℕ). record { generation = issue.lease.generation; batch = issue.batch; slots = record { slots = issue.slots; endpoints = n } }) counts))
