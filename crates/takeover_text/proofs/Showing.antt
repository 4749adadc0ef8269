-- What the latest event of a log shows, by what it answered.
use Rattle.std.proofs.Common.{◌≡◌, ◌≤◌, ◌+◌, ◌==◌, nat_lt, ℕ, Bool, true, false, List, [], ◌∷◌, ◌++◌, length, map, take, drop, cond, Option, Some, None, refl, sym, ap, ◌∙◌, arith}
use Rattle.std.proofs.Math.Seq.{take-length, drop-append_seam}
use Rattle.std.proofs.lemmas.Bool.{cond_both}
use Rattle.std.proofs.lemmas.List.{append-nil, length-append}
use Rattle.greedy_rules.specs.Schedule.{first_slot}
use Rattle.report_text.specs.declared.line.Line.{Line}
use Rattle.report_text.specs.declared.line.Line.TheVariants as line
use Rattle.text_output.specs.Text.{line_text, text_of}
use Rattle.takeover_history.specs.declared.event.Event.{Event}
use Rattle.takeover_history.specs.declared.event.Event.TheVariants as event
use Rattle.takeover_history.specs.declared.event.Refusal.{Refusal}
use Rattle.takeover_history.specs.declared.event.Refusal.TheVariants.{NoMessage, OldBoot, OldLease, Stale, Repeat}
use Rattle.takeover_history.specs.declared.lease.Holder.{Holder}
use Rattle.takeover_history.specs.declared.lease.Lease.{Lease}
use Rattle.takeover_history.specs.Events.{PairSetting, BatchIssue, Fact, Log}
use Rattle.takeover_history.specs.Events as fact
use Rattle.takeover_history.specs.Leases.{boot_of, lease_of, begins_above, request_at, grant_at}
use Rattle.takeover_history.specs.Endpoints.{generation_of, issue_at, has_heard, Send, own_sends, sends_at, sent}
use Rattle.takeover_history.specs.Steps.{granted, taken_fact, told_fact, heard, done}
use Rattle.takeover_core.specs.declared.outcome.Outcome.{Outcome}
use Rattle.takeover_core.specs.declared.outcome.Outcome.TheVariants.{Nothing, Granted, Published, Sent, Refused}
use Rattle.takeover_text.specs.Lines.{refusal_place, send_line}
use Rattle.takeover_text.specs.Progress.{latest_outcome, latest_lines}

-- one line alone
pub one_line : (l : Line) (ls : List Line) → ls ≡ l ∷ [] → line_text l ≡ text_of ls
one_line l ls is = sym (append-nil (line_text l)) ∙ ap text_of (sym is)

-- a hearing answers nothing where there is nothing to send in, and otherwise how much is sent
heard_nothing : (later : Bool) (own : List Send) (from count : ℕ) → cond later Nothing (Sent from count) ≡ Nothing → cond later [] own ≡ []
heard_nothing true own from count is = refl
heard_nothing false own from count is = absurd (cc)

heard_sent : (later : Bool) (from count first many : ℕ) → cond later Nothing (Sent from count) ≡ Sent first many → (from ≡ first) × (count ≡ many)
heard_sent true from count first many is = absurd (cc)
heard_sent false from count first many is = (cc, cc)

heard_other : (P : Type 0) (later : Bool) (from count : ℕ) (other : Outcome) → (Nothing ≡ other → P) → (Sent from count ≡ other → P) → cond later Nothing (Sent from count) ≡ other → P
heard_other P true from count other nothing sends is = nothing is
heard_other P false from count other nothing sends is = sends is

pub nothing_shown : (setting : PairSetting) (log : Log) → latest_outcome setting log ≡ Nothing → latest_lines setting log ≡ []
nothing_shown setting [] is = refl
nothing_shown setting (fact.Granted lease ∷ log) is = absurd (cc)
nothing_shown setting (fact.Published issue ∷ log) is = absurd (cc)
nothing_shown setting (fact.Refused why ∷ log) is = absurd (cc)
nothing_shown setting (fact.Heard src issue ∷ log) is =
    ap (map send_line) (heard_nothing (nat_lt (generation_of log src) issue.lease.generation) (own_sends src (first_slot setting.b issue.number) issue.slots) _ _ is)
nothing_shown setting (fact.Asked flow slots ∷ log) is = refl
nothing_shown setting (fact.Requested holder ∷ log) is = refl
nothing_shown setting (fact.Took lease ∷ log) is = refl
nothing_shown setting (fact.Told src generation ∷ log) is = refl
nothing_shown setting (fact.Crashed node ∷ log) is = refl

pub grant_shown : (setting : PairSetting) (log : Log) (message node generation first : ℕ) → latest_outcome setting log ≡ Granted message node generation first
    → latest_lines setting log ≡ line.Granted message node generation first ∷ []
grant_shown setting [] message node generation first is = absurd (cc)
grant_shown setting (fact.Granted lease ∷ log) message node generation first is = cc
grant_shown setting (fact.Heard src issue ∷ log) message node generation first is =
    heard_other _ (nat_lt (generation_of log src) issue.lease.generation) _ _ _ (λ (no : Nothing ≡ Granted message node generation first). absurd (cc)) (λ (no : Sent _ _ ≡ Granted message node generation first). absurd (cc)) is
grant_shown setting (fact.Published issue ∷ log) message node generation first is = absurd (cc)
grant_shown setting (fact.Refused why ∷ log) message node generation first is = absurd (cc)
grant_shown setting (fact.Asked flow slots ∷ log) message node generation first is = absurd (cc)
grant_shown setting (fact.Requested holder ∷ log) message node generation first is = absurd (cc)
grant_shown setting (fact.Took lease ∷ log) message node generation first is = absurd (cc)
grant_shown setting (fact.Told src of ∷ log) message node generation first is = absurd (cc)
grant_shown setting (fact.Crashed crashed ∷ log) message node generation first is = absurd (cc)

pub refusal_shown : (setting : PairSetting) (log : Log) (why : Refusal) → latest_outcome setting log ≡ Refused why → latest_lines setting log ≡ line.Declined (length log + 1) (refusal_place why) ∷ []
refusal_shown setting [] why is = absurd (cc)
refusal_shown setting (fact.Refused named ∷ log) why is =
    let same : named ≡ why = cc in
    let row : length log + 2 ≡ length (fact.Refused named ∷ log) + 1 = omega arith in
    ap (λ (r : Refusal). line.Declined (length log + 2) (refusal_place r) ∷ []) same ∙ ap (λ (n : ℕ). line.Declined n (refusal_place why) ∷ []) row
refusal_shown setting (fact.Heard src issue ∷ log) why is =
    heard_other _ (nat_lt (generation_of log src) issue.lease.generation) _ _ _ (λ (no : Nothing ≡ Refused why). absurd (cc)) (λ (no : Sent _ _ ≡ Refused why). absurd (cc)) is
refusal_shown setting (fact.Granted lease ∷ log) why is = absurd (cc)
refusal_shown setting (fact.Published issue ∷ log) why is = absurd (cc)
refusal_shown setting (fact.Asked flow slots ∷ log) why is = absurd (cc)
refusal_shown setting (fact.Requested holder ∷ log) why is = absurd (cc)
refusal_shown setting (fact.Took lease ∷ log) why is = absurd (cc)
refusal_shown setting (fact.Told src of ∷ log) why is = absurd (cc)
refusal_shown setting (fact.Crashed crashed ∷ log) why is = absurd (cc)

-- so many of the sends, from this one on, are shown
pub record AreShown (setting : PairSetting) (log : Log) (from count : ℕ) : Type 0 where
  pub within : from + count ≤ length (sent setting log)
  pub lines : latest_lines setting log ≡ map send_line (take count (drop from (sent setting log)))

pub sends_shown : (setting : PairSetting) (log : Log) (from count : ℕ) → latest_outcome setting log ≡ Sent from count → AreShown setting log from count
sends_shown setting [] from count is = absurd (cc)
sends_shown setting (fact.Heard src issue ∷ log) from count is =
    let before : List Send = sent setting log in
    let own : List Send = sends_at setting log src issue in
    let (first, many) = heard_sent (nat_lt (generation_of log src) issue.lease.generation) (length before) (length own) from count is in
    record {
      within = omega (arith, first, many, length-append before own);
      lines = ap (map send_line) (sym (take-length own)
          ∙ (ap (λ (xs : List Send). take (length own) xs) (sym (drop-append_seam before own))
          ∙ (ap (λ (n : ℕ). take n (drop (length before) (before ++ own))) many ∙ ap (λ (n : ℕ). take count (drop n (before ++ own))) first)));
    }
sends_shown setting (fact.Granted lease ∷ log) from count is = absurd (cc)
sends_shown setting (fact.Published issue ∷ log) from count is = absurd (cc)
sends_shown setting (fact.Refused why ∷ log) from count is = absurd (cc)
sends_shown setting (fact.Asked flow slots ∷ log) from count is = absurd (cc)
sends_shown setting (fact.Requested holder ∷ log) from count is = absurd (cc)
sends_shown setting (fact.Took lease ∷ log) from count is = absurd (cc)
sends_shown setting (fact.Told src of ∷ log) from count is = absurd (cc)
sends_shown setting (fact.Crashed crashed ∷ log) from count is = absurd (cc)

-- a batch of this number was published last
pub record IsIssued (log : Log) (number : ℕ) : Type 0 where
  pub issue : BatchIssue
  pub earlier : Log
  pub is : log ≡ fact.Published issue ∷ earlier
  pub named : issue.number ≡ number

pub batch_shown : (setting : PairSetting) (log : Log) (number : ℕ) → latest_outcome setting log ≡ Published number → IsIssued log number
batch_shown setting [] number is = absurd (cc)
batch_shown setting (fact.Published issue ∷ log) number is = record { issue = issue; earlier = log; is = refl; named = cc }
batch_shown setting (fact.Heard src issue ∷ log) number is =
    heard_other _ (nat_lt (generation_of log src) issue.lease.generation) _ _ _ (λ (no : Nothing ≡ Published number). absurd (cc)) (λ (no : Sent _ _ ≡ Published number). absurd (cc)) is
batch_shown setting (fact.Granted lease ∷ log) number is = absurd (cc)
batch_shown setting (fact.Refused why ∷ log) number is = absurd (cc)
batch_shown setting (fact.Asked flow slots ∷ log) number is = absurd (cc)
batch_shown setting (fact.Requested holder ∷ log) number is = absurd (cc)
batch_shown setting (fact.Took lease ∷ log) number is = absurd (cc)
batch_shown setting (fact.Told src of ∷ log) number is = absurd (cc)
batch_shown setting (fact.Crashed crashed ∷ log) number is = absurd (cc)

-- ---- a batch is published by a publishing alone

module _ (setting : PairSetting) (log : Log) (issue : BatchIssue) where
  abbrev IsOther : Fact → Type 0
  IsOther what = what ≡ fact.Published issue → ⊥

  granting : (o : Option Holder) → IsOther (granted setting log o)
  granting None = λ is. cc
  granting (Some holder) = λ is. cc

  taking : (node : ℕ) (o : Option Lease) → IsOther (taken_fact setting log node o)
  taking node None = λ is. cc
  taking node (Some lease) =
      cond_both (lease.holder.node == node) (cond (lease.holder.boot == boot_of log node) (cond (begins_above setting (lease_of log node) lease) (fact.Took lease) (fact.Refused OldLease)) (fact.Refused OldBoot)) (fact.Refused NoMessage) IsOther
      (λ here. cond_both (lease.holder.boot == boot_of log node) (cond (begins_above setting (lease_of log node) lease) (fact.Took lease) (fact.Refused OldLease)) (fact.Refused OldBoot) IsOther
      (λ boot. cond_both (begins_above setting (lease_of log node) lease) (fact.Took lease) (fact.Refused OldLease) IsOther (λ above is. cc) (λ below is. cc)) (λ other is. cc)) (λ other is. cc)

  telling : (src : ℕ) (o : Option Lease) → IsOther (told_fact log src o)
  telling src None = λ is. cc
  telling src (Some lease) = cond_both (nat_lt lease.generation (generation_of log src)) (fact.Refused Stale) (fact.Told src lease.generation) IsOther (λ stale is. cc) (λ fresh is. cc)

  hearing : (src : ℕ) (o : Option BatchIssue) → IsOther (heard log src o)
  hearing src None = λ is. cc
  hearing src (Some published) =
      cond_both (nat_lt published.lease.generation (generation_of log src)) (fact.Refused Stale) (cond (has_heard log src published.number) (fact.Refused Repeat) (fact.Heard src published)) IsOther
      (λ stale is. cc) (λ fresh. cond_both (has_heard log src published.number) (fact.Refused Repeat) (fact.Heard src published) IsOther (λ again is. cc) (λ first is. cc))

  pub publishes : (this : Event) → done setting log this ≡ fact.Published issue → (node : ℕ) × (this ≡ event.Publish node)
  publishes (event.Ask src dst slots) is = absurd (cc)
  publishes (event.Request node) is = absurd (cc)
  publishes (event.Grant m) is = absurd (granting (request_at log m) is)
  publishes (event.Take node m) is = absurd (taking node (grant_at log m) is)
  publishes (event.Tell src node) is = absurd (telling src (lease_of log node) is)
  publishes (event.Publish node) is = (node, refl)
  publishes (event.Hear src batch) is = absurd (hearing src (issue_at log batch) is)
  publishes (event.Crash node) is = absurd (cc)
