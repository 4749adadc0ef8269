use Rattle.std.proofs.Common.{◌≡◌, ◌≤◌, ◌+◌, ◌*◌, ◌<◌, ◌-◌, ◌==◌, ◌&&◌, ◌||◌, nat_lt, ◌∷◌, ◌++◌, List, ℕ, length, refl, sym, ap, ◌∙◌, subst, arith}
use Rattle.std.specs.Prelude.{option_copied}
use Rattle.std.proofs.Math.Nat.{mul-le-mul}
use Rattle.std.proofs.lemmas.Bool.{cond-true, cond-false, lt-ltb, le-ltb}
use Rattle.std.proofs.lemmas.List.{get_or_default, length-map, length-append}
use Rattle.greedy_rules.specs.declared.flows.Flow.{Flow}
use Rattle.greedy_rules.specs.Schedule.{first_slot}
use Rattle.takeover_history.specs.declared.event.Event.TheVariants as event
use Rattle.takeover_history.specs.declared.event.Refusal.TheVariants.{Unpublished, Stale, Repeat}
use Rattle.takeover_history.specs.Events.{Fact, BatchIssue, Heard, Refused}
use Rattle.takeover_history.specs.Endpoints.{generation_of, has_heard, Send, own_sends, sends_at, sent}
use Rattle.takeover_history.specs.Steps.{heard, log_of}
use Rattle.takeover_core.specs.declared.published.Issued.{Issued}
use Rattle.takeover_core.specs.Published.{is_heard}
use Rattle.takeover_core.specs.Sending.{send_of, sends_in}
use Rattle.takeover_core.specs.declared.outcome.Outcome.TheVariants as outcome
use Rattle.takeover_core.proofs.Ending.{AreEndpointsOf, AreTaken, ends_took, ends_hear_new, ends_hear_own, heard_more, issue_of, no_issue, heard-stale, heard-repeat, heard-is}
use Rattle.takeover_core.proofs.Stepping.{stands_by, answers_by, stands_refused}
use Rattle.takeover_core.proofs.pair.Pair.hear.Goals as goal

pub returns-in_default-clause-stands : goal.returns-in_default-clause-stands
returns-in_default-clause-stands c = λ setting events s may.
    let log = log_of setting events in
    stands_refused setting c.args.self.now events (event.Hear c.args.src c.args.batch) Unpublished
    (ap (heard log c.args.src) (no_issue setting log c.args.batch c.args.self.now.published s.published_are (sym c.get.ensures ∙ ap option_copied c.in_default.is))) s

pub returns-then-issued-generation-clause-stands : goal.returns-then-issued-generation-clause-stands
returns-then-issued-generation-clause-stands c = λ setting events s may.
    let log = log_of setting events in
    let src = c.args.src in
    let it = issue_of setting log c.args.batch c.args.self.now.published c.in-Some.issued.now s.published_are (sym c.get.ensures ∙ ap option_copied c.in-Some.is) in
    let gens = c.args.self.now.ends.generations.items in
    let gen = c.index-generation.ensures ∙ (get_or_default gens src c.index-generation.result.now 0 (omega (arith, may.is_event, s.ends_are.count)) ∙ s.ends_are.generations_are src may.is_event) in
    let of_issue = ap (λ (i : Issued). i.generation) it.2 in
    stands_refused setting c.args.self.now events (event.Hear src c.args.batch) Stale
    (ap (heard log src) it.1 ∙ heard-stale log src it.0 (omega (arith, c.if-issued-generation.true, gen, of_issue))) s

pub returns-then-has_heard-clause-answers : goal.returns-then-has_heard-clause-answers
returns-then-has_heard-clause-answers c = λ setting events s may.
    let log = log_of setting events in
    let src = c.args.src in
    let it = issue_of setting log c.args.batch c.args.self.now.published c.in-Some.issued.now s.published_are (sym c.get.ensures ∙ ap option_copied c.in-Some.is) in
    let issue : BatchIssue = it.0 in
    let gens = c.args.self.now.ends.generations.items in
    let gen = c.index-generation.ensures ∙ (get_or_default gens src c.index-generation.result.now 0 (omega (arith, may.is_event, s.ends_are.count)) ∙ s.ends_are.generations_are src may.is_event) in
    let of_issue = ap (λ (i : Issued). i.generation) it.2 in
    let few = c.running_counts_serve.ensures.few setting events in
    let sizes = few.1.issued c.args.batch issue it.1 in
    let not_stale : generation_of log src ≤ issue.lease.generation = omega (arith, c.if-issued-generation.false, gen, of_issue) in
    let mark : has_heard log src issue.number ≡ c.has_heard.result = ap (λ (n : ℕ). has_heard log src n) sizes.0 ∙ (sym (s.published_are.heard_are src c.args.batch) ∙ sym c.has_heard.ensures) in
    answers_by setting events (event.Hear src c.args.batch) (Refused Repeat) (outcome.Refused Repeat) (ap (heard log src) it.1 ∙ heard-repeat log src issue not_stale (mark ∙ c.if-has_heard.true)) refl

pub returns-then-has_heard-clause-stands : goal.returns-then-has_heard-clause-stands
returns-then-has_heard-clause-stands c = λ setting events s may.
    let log = log_of setting events in
    let src = c.args.src in
    let it = issue_of setting log c.args.batch c.args.self.now.published c.in-Some.issued.now s.published_are (sym c.get.ensures ∙ ap option_copied c.in-Some.is) in
    let issue : BatchIssue = it.0 in
    let gens = c.args.self.now.ends.generations.items in
    let gen = c.index-generation.ensures ∙ (get_or_default gens src c.index-generation.result.now 0 (omega (arith, may.is_event, s.ends_are.count)) ∙ s.ends_are.generations_are src may.is_event) in
    let of_issue = ap (λ (i : Issued). i.generation) it.2 in
    let few = c.running_counts_serve.ensures.few setting events in
    let sizes = few.1.issued c.args.batch issue it.1 in
    let not_stale : generation_of log src ≤ issue.lease.generation = omega (arith, c.if-issued-generation.false, gen, of_issue) in
    let mark : has_heard log src issue.number ≡ c.has_heard.result = ap (λ (n : ℕ). has_heard log src n) sizes.0 ∙ (sym (s.published_are.heard_are src c.args.batch) ∙ sym c.has_heard.ensures) in
    stands_refused setting c.args.self.now events (event.Hear src c.args.batch) Repeat (ap (heard log src) it.1 ∙ heard-repeat log src issue not_stale (mark ∙ c.if-has_heard.true)) s

pub returns-then-generation-issued-clause-answers : goal.returns-then-generation-issued-clause-answers
returns-then-generation-issued-clause-answers c = λ setting events s may.
    let log = log_of setting events in
    let src = c.args.src in
    let it = issue_of setting log c.args.batch c.args.self.now.published c.in-Some.issued.now s.published_are (sym c.get.ensures ∙ ap option_copied c.in-Some.is) in
    let issue : BatchIssue = it.0 in
    let gens = c.args.self.now.ends.generations.items in
    let gen = c.index-generation.ensures ∙ (get_or_default gens src c.index-generation.result.now 0 (omega (arith, may.is_event, s.ends_are.count)) ∙ s.ends_are.generations_are src may.is_event) in
    let of_issue = ap (λ (i : Issued). i.generation) it.2 in
    let few = c.running_counts_serve.ensures.few setting events in
    let sizes = few.1.issued c.args.batch issue it.1 in
    let not_stale : generation_of log src ≤ issue.lease.generation = omega (arith, c.if-issued-generation.false, gen, of_issue) in
    let mark : has_heard log src issue.number ≡ c.has_heard.result = ap (λ (n : ℕ). has_heard log src n) sizes.0 ∙ (sym (s.published_are.heard_are src c.args.batch) ∙ sym c.has_heard.ensures) in
    let fact = ap (heard log src) it.1 ∙ heard-is log src issue not_stale (mark ∙ c.if-has_heard.false) in
    let later : generation_of log src < issue.lease.generation = omega (arith, c.if-generation-issued.true, gen, of_issue) in
    answers_by setting events (event.Hear src c.args.batch) (Heard src issue) outcome.Nothing fact
    (sym (cond-true (nat_lt (generation_of log src) issue.lease.generation) outcome.Nothing (outcome.Sent (length (sent setting log)) (length (sends_at setting log src issue))) (lt-ltb (generation_of log src) issue.lease.generation later)))

pub returns-then-generation-issued-clause-stands : goal.returns-then-generation-issued-clause-stands
returns-then-generation-issued-clause-stands c = λ setting events s may.
    let log = log_of setting events in
    let src = c.args.src in
    let it = issue_of setting log c.args.batch c.args.self.now.published c.in-Some.issued.now s.published_are (sym c.get.ensures ∙ ap option_copied c.in-Some.is) in
    let issue : BatchIssue = it.0 in
    let gens = c.args.self.now.ends.generations.items in
    let gen = c.index-generation.ensures ∙ (get_or_default gens src c.index-generation.result.now 0 (omega (arith, may.is_event, s.ends_are.count)) ∙ s.ends_are.generations_are src may.is_event) in
    let of_issue = ap (λ (i : Issued). i.generation) it.2 in
    let few = c.running_counts_serve.ensures.few setting events in
    let sizes = few.1.issued c.args.batch issue it.1 in
    let not_stale : generation_of log src ≤ issue.lease.generation = omega (arith, c.if-issued-generation.false, gen, of_issue) in
    let mark : has_heard log src issue.number ≡ c.has_heard.result = ap (λ (n : ℕ). has_heard log src n) sizes.0 ∙ (sym (s.published_are.heard_are src c.args.batch) ∙ sym c.has_heard.ensures) in
    let fact = ap (heard log src) it.1 ∙ heard-is log src issue not_stale (mark ∙ c.if-has_heard.false) in
    let later : generation_of log src < issue.lease.generation = omega (arith, c.if-generation-issued.true, gen, of_issue) in
    let is = c.take.ensures in
    let k = c.in-Some.issued.now.generation in
    let took = ends_took setting log src k c.args.self.now.ends c.take.new.self s.ends_are may.is_event is.generations is.length is.base is.endpoints is.asked is.counts is.sent in
    let e : AreEndpointsOf setting (Heard src issue ∷ log) c.take.new.self = ends_hear_new setting log src issue c.take.new.self later (subst (AreTaken setting log src c.take.new.self) of_issue took) in
    stands_by setting _ events (event.Hear src c.args.batch) (Heard src issue) fact (record {
      fits = s.fits;
      asks_fit = s.asks_fit;
      endpoints_are = s.endpoints_are;
      b_is = s.b_is;
      keeper_is = s.keeper_is;
      turns_are = s.turns_are;
      two = s.two;
      nodes_are = s.nodes_are;
      ends_are = e;
      published_are = heard_more setting log src issue c.args.self.now.published c.hear.new.self s.published_are c.in_ok-hear.ensures.batches
          (λ k' n. subst (λ (m : ℕ). is_heard c.hear.new.self k' n ≡ (((src == k') && (m == n)) || is_heard c.args.self.now.published k' n)) (sym sizes.0) (c.in_ok-hear.ensures.heard k' n));
      last_is = s.last_is;
      none_is = s.none_is;
    })

pub overflow_mul-batch : goal.overflow_mul-batch
overflow_mul-batch c =
    let (setting, events, s, may) = c.requires in
    let log = log_of setting events in
    let src = c.args.src in
    let it = issue_of setting log c.args.batch c.args.self.now.published c.in-Some.issued.now s.published_are (sym c.get.ensures ∙ ap option_copied c.in-Some.is) in
    let issue : BatchIssue = it.0 in
    let gens = c.args.self.now.ends.generations.items in
    let gen = c.index-generation.ensures ∙ (get_or_default gens src c.index-generation.result.now 0 (omega (arith, may.is_event, s.ends_are.count)) ∙ s.ends_are.generations_are src may.is_event) in
    let of_issue = ap (λ (i : Issued). i.generation) it.2 in
    let few = c.running_counts_serve.ensures.few setting events in
    let sizes = few.1.issued c.args.batch issue it.1 in
    let not_stale : generation_of log src ≤ issue.lease.generation = omega (arith, c.if-issued-generation.false, gen, of_issue) in
    let mark : has_heard log src issue.number ≡ c.has_heard.result = ap (λ (n : ℕ). has_heard log src n) sizes.0 ∙ (sym (s.published_are.heard_are src c.args.batch) ∙ sym c.has_heard.ensures) in
    let many : length log ≤ 10000 = omega (arith, few.0, may.few) in
    let most : setting.span * length log ≤ 100 * 10000 = mul-le-mul s.fits.batches many in
    let b : c.from.result ≤ 64 = omega (arith, c.from.ensures, s.b_is, s.fits.slots) in
    let low : c.args.batch ≤ 1000000 = omega (arith, sizes.1, most) in
    let product : c.args.batch * c.from.result ≤ 1000000 * 64 = mul-le-mul low b in
    let count : length c.in-Some.issued.now.slots.slots ≤ 64 = omega (arith, ap (λ (i : Issued). length i.slots.slots) it.2, sizes.2, s.fits.slots) in
    let sends : setting.b * length log ≤ 64 * 10000 = mul-le-mul s.fits.slots many in
    let kept : length c.args.self.now.ends.sent.items ≡ length (sent setting log) = sym (length-map c.args.self.now.ends.sent.items send_of) ∙ ap (λ (xs : List Send). length xs) s.ends_are.sent_is in
    omega (arith, product)

pub overflow_add-batch : goal.overflow_add-batch
overflow_add-batch c =
    let (setting, events, s, may) = c.requires in
    let log = log_of setting events in
    let src = c.args.src in
    let it = issue_of setting log c.args.batch c.args.self.now.published c.in-Some.issued.now s.published_are (sym c.get.ensures ∙ ap option_copied c.in-Some.is) in
    let issue : BatchIssue = it.0 in
    let gens = c.args.self.now.ends.generations.items in
    let gen = c.index-generation.ensures ∙ (get_or_default gens src c.index-generation.result.now 0 (omega (arith, may.is_event, s.ends_are.count)) ∙ s.ends_are.generations_are src may.is_event) in
    let of_issue = ap (λ (i : Issued). i.generation) it.2 in
    let few = c.running_counts_serve.ensures.few setting events in
    let sizes = few.1.issued c.args.batch issue it.1 in
    let not_stale : generation_of log src ≤ issue.lease.generation = omega (arith, c.if-issued-generation.false, gen, of_issue) in
    let mark : has_heard log src issue.number ≡ c.has_heard.result = ap (λ (n : ℕ). has_heard log src n) sizes.0 ∙ (sym (s.published_are.heard_are src c.args.batch) ∙ sym c.has_heard.ensures) in
    let many : length log ≤ 10000 = omega (arith, few.0, may.few) in
    let most : setting.span * length log ≤ 100 * 10000 = mul-le-mul s.fits.batches many in
    let b : c.from.result ≤ 64 = omega (arith, c.from.ensures, s.b_is, s.fits.slots) in
    let low : c.args.batch ≤ 1000000 = omega (arith, sizes.1, most) in
    let product : c.args.batch * c.from.result ≤ 1000000 * 64 = mul-le-mul low b in
    let count : length c.in-Some.issued.now.slots.slots ≤ 64 = omega (arith, ap (λ (i : Issued). length i.slots.slots) it.2, sizes.2, s.fits.slots) in
    let sends : setting.b * length log ≤ 64 * 10000 = mul-le-mul s.fits.slots many in
    let kept : length c.args.self.now.ends.sent.items ≡ length (sent setting log) = sym (length-map c.args.self.now.ends.sent.items send_of) ∙ ap (λ (xs : List Send). length xs) s.ends_are.sent_is in
    omega (arith, product)

pub send-requires-clause-numbers : goal.send-requires-clause-numbers
send-requires-clause-numbers c =
    let (setting, events, s, may) = c.requires in
    let log = log_of setting events in
    let src = c.args.src in
    let it = issue_of setting log c.args.batch c.args.self.now.published c.in-Some.issued.now s.published_are (sym c.get.ensures ∙ ap option_copied c.in-Some.is) in
    let issue : BatchIssue = it.0 in
    let gens = c.args.self.now.ends.generations.items in
    let gen = c.index-generation.ensures ∙ (get_or_default gens src c.index-generation.result.now 0 (omega (arith, may.is_event, s.ends_are.count)) ∙ s.ends_are.generations_are src may.is_event) in
    let of_issue = ap (λ (i : Issued). i.generation) it.2 in
    let few = c.running_counts_serve.ensures.few setting events in
    let sizes = few.1.issued c.args.batch issue it.1 in
    let not_stale : generation_of log src ≤ issue.lease.generation = omega (arith, c.if-issued-generation.false, gen, of_issue) in
    let mark : has_heard log src issue.number ≡ c.has_heard.result = ap (λ (n : ℕ). has_heard log src n) sizes.0 ∙ (sym (s.published_are.heard_are src c.args.batch) ∙ sym c.has_heard.ensures) in
    let many : length log ≤ 10000 = omega (arith, few.0, may.few) in
    let most : setting.span * length log ≤ 100 * 10000 = mul-le-mul s.fits.batches many in
    let b : c.from.result ≤ 64 = omega (arith, c.from.ensures, s.b_is, s.fits.slots) in
    let low : c.args.batch ≤ 1000000 = omega (arith, sizes.1, most) in
    let product : c.args.batch * c.from.result ≤ 1000000 * 64 = mul-le-mul low b in
    let count : length c.in-Some.issued.now.slots.slots ≤ 64 = omega (arith, ap (λ (i : Issued). length i.slots.slots) it.2, sizes.2, s.fits.slots) in
    let sends : setting.b * length log ≤ 64 * 10000 = mul-le-mul s.fits.slots many in
    let kept : length c.args.self.now.ends.sent.items ≡ length (sent setting log) = sym (length-map c.args.self.now.ends.sent.items send_of) ∙ ap (λ (xs : List Send). length xs) s.ends_are.sent_is in
    omega (arith, product, count)

pub send-requires-clause-few : goal.send-requires-clause-few
send-requires-clause-few c =
    let (setting, events, s, may) = c.requires in
    let log = log_of setting events in
    let src = c.args.src in
    let it = issue_of setting log c.args.batch c.args.self.now.published c.in-Some.issued.now s.published_are (sym c.get.ensures ∙ ap option_copied c.in-Some.is) in
    let issue : BatchIssue = it.0 in
    let gens = c.args.self.now.ends.generations.items in
    let gen = c.index-generation.ensures ∙ (get_or_default gens src c.index-generation.result.now 0 (omega (arith, may.is_event, s.ends_are.count)) ∙ s.ends_are.generations_are src may.is_event) in
    let of_issue = ap (λ (i : Issued). i.generation) it.2 in
    let few = c.running_counts_serve.ensures.few setting events in
    let sizes = few.1.issued c.args.batch issue it.1 in
    let not_stale : generation_of log src ≤ issue.lease.generation = omega (arith, c.if-issued-generation.false, gen, of_issue) in
    let mark : has_heard log src issue.number ≡ c.has_heard.result = ap (λ (n : ℕ). has_heard log src n) sizes.0 ∙ (sym (s.published_are.heard_are src c.args.batch) ∙ sym c.has_heard.ensures) in
    let many : length log ≤ 10000 = omega (arith, few.0, may.few) in
    let most : setting.span * length log ≤ 100 * 10000 = mul-le-mul s.fits.batches many in
    let b : c.from.result ≤ 64 = omega (arith, c.from.ensures, s.b_is, s.fits.slots) in
    let low : c.args.batch ≤ 1000000 = omega (arith, sizes.1, most) in
    let product : c.args.batch * c.from.result ≤ 1000000 * 64 = mul-le-mul low b in
    let count : length c.in-Some.issued.now.slots.slots ≤ 64 = omega (arith, ap (λ (i : Issued). length i.slots.slots) it.2, sizes.2, s.fits.slots) in
    let sends : setting.b * length log ≤ 64 * 10000 = mul-le-mul s.fits.slots many in
    let kept : length c.args.self.now.ends.sent.items ≡ length (sent setting log) = sym (length-map c.args.self.now.ends.sent.items send_of) ∙ ap (λ (xs : List Send). length xs) s.ends_are.sent_is in
    omega (arith, kept, few.1.sent, sends, count)

pub overflow_cast-count : goal.overflow_cast-count
overflow_cast-count c =
    let (setting, events, s, may) = c.requires in
    let log = log_of setting events in
    let src = c.args.src in
    let it = issue_of setting log c.args.batch c.args.self.now.published c.in-Some.issued.now s.published_are (sym c.get.ensures ∙ ap option_copied c.in-Some.is) in
    let issue : BatchIssue = it.0 in
    let gens = c.args.self.now.ends.generations.items in
    let gen = c.index-generation.ensures ∙ (get_or_default gens src c.index-generation.result.now 0 (omega (arith, may.is_event, s.ends_are.count)) ∙ s.ends_are.generations_are src may.is_event) in
    let of_issue = ap (λ (i : Issued). i.generation) it.2 in
    let few = c.running_counts_serve.ensures.few setting events in
    let sizes = few.1.issued c.args.batch issue it.1 in
    let not_stale : generation_of log src ≤ issue.lease.generation = omega (arith, c.if-issued-generation.false, gen, of_issue) in
    let mark : has_heard log src issue.number ≡ c.has_heard.result = ap (λ (n : ℕ). has_heard log src n) sizes.0 ∙ (sym (s.published_are.heard_are src c.args.batch) ∙ sym c.has_heard.ensures) in
    let fact = ap (heard log src) it.1 ∙ heard-is log src issue not_stale (mark ∙ c.if-has_heard.false) in
    let own : generation_of log src ≡ issue.lease.generation = omega (arith, c.if-generation-issued.false, not_stale, gen, of_issue) in
    let slots = ap (λ (i : Issued). i.slots.slots) it.2 in
    let is = c.in_ok-send.ensures in
    let all = is.sent
    ∙ (ap (λ (n : ℕ). sends_in c.args.self.now.ends.sent.items ++ own_sends src (c.args.batch * n + 1) c.in-Some.issued.now.slots.slots) (c.from.ensures ∙ s.b_is)
    ∙ (ap (λ (n : ℕ). sends_in c.args.self.now.ends.sent.items ++ own_sends src (first_slot setting.b n) c.in-Some.issued.now.slots.slots) (sym sizes.0)
    ∙ ap (λ (xs : List (List Flow)). sends_in c.args.self.now.ends.sent.items ++ own_sends src (first_slot setting.b issue.number) xs) slots)) in
    let e : AreEndpointsOf setting (Heard src issue ∷ log) c.send.new.self = ends_hear_own setting log src issue c.args.self.now.ends c.send.new.self own s.ends_are all is.counted is.endpoints is.generations is.asked is.base in
    let then : length c.send.new.self.sent.items ≡ length (sent setting (Heard src issue ∷ log)) = sym (length-map c.send.new.self.sent.items send_of) ∙ ap (λ (xs : List Send). length xs) e.sent_is in
    let more : length (sent setting (Heard src issue ∷ log)) ≡ length (sent setting log) + length (sends_at setting log src issue) = length-append (sent setting log) (sends_at setting log src issue) in
    let few' = c.running_counts_serve.ensures.few setting (event.Hear src c.args.batch ∷ events) in
    let few_sent : length (sent setting (Heard src issue ∷ log)) ≤ setting.b * length (Heard src issue ∷ log) =
    subst (λ (f : Fact). length (sent setting (f ∷ log)) ≤ setting.b * length (f ∷ log)) fact few'.1.sent in
    let sends' : setting.b * length (Heard src issue ∷ log) ≤ 64 * 10000 = (let many' : length (Heard src issue ∷ log) ≤ 10000 = omega (arith, few.0, may.few) in mul-le-mul s.fits.slots many') in
    omega (arith, c.len.ensures, then, few_sent, sends')

pub overflow_sub-count : goal.overflow_sub-count
overflow_sub-count c =
    let (setting, events, s, may) = c.requires in
    let log = log_of setting events in
    let src = c.args.src in
    let it = issue_of setting log c.args.batch c.args.self.now.published c.in-Some.issued.now s.published_are (sym c.get.ensures ∙ ap option_copied c.in-Some.is) in
    let issue : BatchIssue = it.0 in
    let gens = c.args.self.now.ends.generations.items in
    let gen = c.index-generation.ensures ∙ (get_or_default gens src c.index-generation.result.now 0 (omega (arith, may.is_event, s.ends_are.count)) ∙ s.ends_are.generations_are src may.is_event) in
    let of_issue = ap (λ (i : Issued). i.generation) it.2 in
    let few = c.running_counts_serve.ensures.few setting events in
    let sizes = few.1.issued c.args.batch issue it.1 in
    let not_stale : generation_of log src ≤ issue.lease.generation = omega (arith, c.if-issued-generation.false, gen, of_issue) in
    let mark : has_heard log src issue.number ≡ c.has_heard.result = ap (λ (n : ℕ). has_heard log src n) sizes.0 ∙ (sym (s.published_are.heard_are src c.args.batch) ∙ sym c.has_heard.ensures) in
    let own : generation_of log src ≡ issue.lease.generation = omega (arith, c.if-generation-issued.false, not_stale, gen, of_issue) in
    let slots = ap (λ (i : Issued). i.slots.slots) it.2 in
    let many : length log ≤ 10000 = omega (arith, few.0, may.few) in
    let most : setting.span * length log ≤ 100 * 10000 = mul-le-mul s.fits.batches many in
    let b : c.from.result ≤ 64 = omega (arith, c.from.ensures, s.b_is, s.fits.slots) in
    let low : c.args.batch ≤ 1000000 = omega (arith, sizes.1, most) in
    let product : c.args.batch * c.from.result ≤ 1000000 * 64 = mul-le-mul low b in
    let count : length c.in-Some.issued.now.slots.slots ≤ 64 = omega (arith, ap (λ (i : Issued). length i.slots.slots) it.2, sizes.2, s.fits.slots) in
    let sends : setting.b * length log ≤ 64 * 10000 = mul-le-mul s.fits.slots many in
    let kept : length c.args.self.now.ends.sent.items ≡ length (sent setting log) = sym (length-map c.args.self.now.ends.sent.items send_of) ∙ ap (λ (xs : List Send). length xs) s.ends_are.sent_is in
    let is = c.in_ok-send.ensures in
    let all = is.sent
    ∙ (ap (λ (n : ℕ). sends_in c.args.self.now.ends.sent.items ++ own_sends src (c.args.batch * n + 1) c.in-Some.issued.now.slots.slots) (c.from.ensures ∙ s.b_is)
    ∙ (ap (λ (n : ℕ). sends_in c.args.self.now.ends.sent.items ++ own_sends src (first_slot setting.b n) c.in-Some.issued.now.slots.slots) (sym sizes.0)
    ∙ ap (λ (xs : List (List Flow)). sends_in c.args.self.now.ends.sent.items ++ own_sends src (first_slot setting.b issue.number) xs) slots)) in
    let e : AreEndpointsOf setting (Heard src issue ∷ log) c.send.new.self = ends_hear_own setting log src issue c.args.self.now.ends c.send.new.self own s.ends_are all is.counted is.endpoints is.generations is.asked is.base in
    let then : length c.send.new.self.sent.items ≡ length (sent setting (Heard src issue ∷ log)) = sym (length-map c.send.new.self.sent.items send_of) ∙ ap (λ (xs : List Send). length xs) e.sent_is in
    let more : length (sent setting (Heard src issue ∷ log)) ≡ length (sent setting log) + length (sends_at setting log src issue) = length-append (sent setting log) (sends_at setting log src issue) in
    omega (arith, c.len.ensures, c.len-from.ensures, then, more, kept)

pub returns-clause-answers : goal.returns-clause-answers
returns-clause-answers c = λ setting events s may.
    let log = log_of setting events in
    let src = c.args.src in
    let it = issue_of setting log c.args.batch c.args.self.now.published c.in-Some.issued.now s.published_are (sym c.get.ensures ∙ ap option_copied c.in-Some.is) in
    let issue : BatchIssue = it.0 in
    let gens = c.args.self.now.ends.generations.items in
    let gen = c.index-generation.ensures ∙ (get_or_default gens src c.index-generation.result.now 0 (omega (arith, may.is_event, s.ends_are.count)) ∙ s.ends_are.generations_are src may.is_event) in
    let of_issue = ap (λ (i : Issued). i.generation) it.2 in
    let few = c.running_counts_serve.ensures.few setting events in
    let sizes = few.1.issued c.args.batch issue it.1 in
    let not_stale : generation_of log src ≤ issue.lease.generation = omega (arith, c.if-issued-generation.false, gen, of_issue) in
    let mark : has_heard log src issue.number ≡ c.has_heard.result = ap (λ (n : ℕ). has_heard log src n) sizes.0 ∙ (sym (s.published_are.heard_are src c.args.batch) ∙ sym c.has_heard.ensures) in
    let fact = ap (heard log src) it.1 ∙ heard-is log src issue not_stale (mark ∙ c.if-has_heard.false) in
    let own : generation_of log src ≡ issue.lease.generation = omega (arith, c.if-generation-issued.false, not_stale, gen, of_issue) in
    let slots = ap (λ (i : Issued). i.slots.slots) it.2 in
    let many : length log ≤ 10000 = omega (arith, few.0, may.few) in
    let most : setting.span * length log ≤ 100 * 10000 = mul-le-mul s.fits.batches many in
    let b : c.from.result ≤ 64 = omega (arith, c.from.ensures, s.b_is, s.fits.slots) in
    let low : c.args.batch ≤ 1000000 = omega (arith, sizes.1, most) in
    let product : c.args.batch * c.from.result ≤ 1000000 * 64 = mul-le-mul low b in
    let count : length c.in-Some.issued.now.slots.slots ≤ 64 = omega (arith, ap (λ (i : Issued). length i.slots.slots) it.2, sizes.2, s.fits.slots) in
    let sends : setting.b * length log ≤ 64 * 10000 = mul-le-mul s.fits.slots many in
    let kept : length c.args.self.now.ends.sent.items ≡ length (sent setting log) = sym (length-map c.args.self.now.ends.sent.items send_of) ∙ ap (λ (xs : List Send). length xs) s.ends_are.sent_is in
    let is = c.in_ok-send.ensures in
    let all = is.sent
    ∙ (ap (λ (n : ℕ). sends_in c.args.self.now.ends.sent.items ++ own_sends src (c.args.batch * n + 1) c.in-Some.issued.now.slots.slots) (c.from.ensures ∙ s.b_is)
    ∙ (ap (λ (n : ℕ). sends_in c.args.self.now.ends.sent.items ++ own_sends src (first_slot setting.b n) c.in-Some.issued.now.slots.slots) (sym sizes.0)
    ∙ ap (λ (xs : List (List Flow)). sends_in c.args.self.now.ends.sent.items ++ own_sends src (first_slot setting.b issue.number) xs) slots)) in
    let e : AreEndpointsOf setting (Heard src issue ∷ log) c.send.new.self = ends_hear_own setting log src issue c.args.self.now.ends c.send.new.self own s.ends_are all is.counted is.endpoints is.generations is.asked is.base in
    let then : length c.send.new.self.sent.items ≡ length (sent setting (Heard src issue ∷ log)) = sym (length-map c.send.new.self.sent.items send_of) ∙ ap (λ (xs : List Send). length xs) e.sent_is in
    let more : length (sent setting (Heard src issue ∷ log)) ≡ length (sent setting log) + length (sends_at setting log src issue) = length-append (sent setting log) (sends_at setting log src issue) in
    let from : c.len-from.result ≡ length (sent setting log) = omega (arith, c.len-from.ensures, kept) in
    let count : c.len.result - c.len-from.result ≡ length (sends_at setting log src issue) = omega (arith, c.len.ensures, c.len-from.ensures, then, more, kept) in
    answers_by setting events (event.Hear src c.args.batch) (Heard src issue) _ fact
    (ap (λ (n : ℕ). outcome.Sent n (c.len.result - c.len-from.result)) from
    ∙ (ap (λ (n : ℕ). outcome.Sent (length (sent setting log)) n) count
    ∙ sym (cond-false (nat_lt (generation_of log src) issue.lease.generation) outcome.Nothing (outcome.Sent (length (sent setting log)) (length (sends_at setting log src issue))) (le-ltb (generation_of log src) issue.lease.generation (omega (arith, own))))))

pub returns-clause-stands : goal.returns-clause-stands
returns-clause-stands c = λ setting events s may.
    let log = log_of setting events in
    let src = c.args.src in
    let it = issue_of setting log c.args.batch c.args.self.now.published c.in-Some.issued.now s.published_are (sym c.get.ensures ∙ ap option_copied c.in-Some.is) in
    let issue : BatchIssue = it.0 in
    let gens = c.args.self.now.ends.generations.items in
    let gen = c.index-generation.ensures ∙ (get_or_default gens src c.index-generation.result.now 0 (omega (arith, may.is_event, s.ends_are.count)) ∙ s.ends_are.generations_are src may.is_event) in
    let of_issue = ap (λ (i : Issued). i.generation) it.2 in
    let few = c.running_counts_serve.ensures.few setting events in
    let sizes = few.1.issued c.args.batch issue it.1 in
    let not_stale : generation_of log src ≤ issue.lease.generation = omega (arith, c.if-issued-generation.false, gen, of_issue) in
    let mark : has_heard log src issue.number ≡ c.has_heard.result = ap (λ (n : ℕ). has_heard log src n) sizes.0 ∙ (sym (s.published_are.heard_are src c.args.batch) ∙ sym c.has_heard.ensures) in
    let fact = ap (heard log src) it.1 ∙ heard-is log src issue not_stale (mark ∙ c.if-has_heard.false) in
    let own : generation_of log src ≡ issue.lease.generation = omega (arith, c.if-generation-issued.false, not_stale, gen, of_issue) in
    let slots = ap (λ (i : Issued). i.slots.slots) it.2 in
    let is = c.in_ok-send.ensures in
    let all = is.sent
    ∙ (ap (λ (n : ℕ). sends_in c.args.self.now.ends.sent.items ++ own_sends src (c.args.batch * n + 1) c.in-Some.issued.now.slots.slots) (c.from.ensures ∙ s.b_is)
    ∙ (ap (λ (n : ℕ). sends_in c.args.self.now.ends.sent.items ++ own_sends src (first_slot setting.b n) c.in-Some.issued.now.slots.slots) (sym sizes.0)
    ∙ ap (λ (xs : List (List Flow)). sends_in c.args.self.now.ends.sent.items ++ own_sends src (first_slot setting.b issue.number) xs) slots)) in
    let e : AreEndpointsOf setting (Heard src issue ∷ log) c.send.new.self = ends_hear_own setting log src issue c.args.self.now.ends c.send.new.self own s.ends_are all is.counted is.endpoints is.generations is.asked is.base in
    let then : length c.send.new.self.sent.items ≡ length (sent setting (Heard src issue ∷ log)) = sym (length-map c.send.new.self.sent.items send_of) ∙ ap (λ (xs : List Send). length xs) e.sent_is in
    let more : length (sent setting (Heard src issue ∷ log)) ≡ length (sent setting log) + length (sends_at setting log src issue) = length-append (sent setting log) (sends_at setting log src issue) in
    stands_by setting _ events (event.Hear src c.args.batch) (Heard src issue) fact (record {
      fits = s.fits;
      asks_fit = s.asks_fit;
      endpoints_are = s.endpoints_are;
      b_is = s.b_is;
      keeper_is = s.keeper_is;
      turns_are = s.turns_are;
      two = s.two;
      nodes_are = s.nodes_are;
      ends_are = e;
      published_are = heard_more setting log src issue c.args.self.now.published c.hear-2.new.self s.published_are c.in_ok-hear-2.ensures.batches
          (λ k' n. subst (λ (m : ℕ). is_heard c.hear-2.new.self k' n ≡ (((src == k') && (m == n)) || is_heard c.args.self.now.published k' n)) (sym sizes.0) (c.in_ok-hear-2.ensures.heard k' n));
      last_is = s.last_is;
      none_is = s.none_is;
    })
