-- What an audit tells by the way it ends.
use Rattle.std.proofs.Common.{◌≡◌, ◌≤◌, ◌<◌, ℕ, List, [], ◌∷◌, length, Bool, true, false, Option, Some, None, Ok, Err, refl, sym, ap, ◌∙◌, subst, arith, inl, inr}
use Rattle.std.specs.Io.KnownBytes.{Appends, Consumes, IsAtEnd}
use Rattle.std.proofs.lemmas.Bool.{false≢true}
use Rattle.std.proofs.lemmas.Option.{none-some}
use Rattle.clos_topology.specs.Network.{Network}
use Rattle.report_text.specs.declared.line.Line.{Line}
use Rattle.text_output.specs.Transfer.{AppendsFront}
use Rattle.schedule_audit.specs.Reading.{ReadsLines}
use Rattle.schedule_audit.specs.ReadLaws.{EachTextHasOneReading}
use Rattle.schedule_audit.specs.BadLines.{first_bad_line}
use Rattle.schedule_audit.specs.Audited.{IsVerdict, ShowsACleanSchedule}
use Rattle.fastpass_run.specs.Audits.{Audits, count_text, HasBadLine, GivesText, AuditEnds}
use Rattle.fastpass_run.specs.Outside.{Outside, Growth}
use Rattle.fastpass_run.specs.Rows.{Rows, AsksToRead, IsReadAs}
use Rattle.fastpass_run.specs.Run.{Ending, EndsBy, Performs, AsksToMake, status_of}
use Rattle.fastpass_run.specs.Statuses.{IsStatusAmong}
use Rattle.fastpass_run.specs.Transfer.{input_limit}
use Rattle.fastpass_run.specs.Words.{Asked, AskedOfTrace, asked_by_words}
use Rattle.fastpass_run.specs.Words.Asked.{writes, plans_by_need, audits, takes_over}
use Rattle.fastpass_run.specs.declared.outcome.Failure.TheVariants as failure
use Rattle.fastpass_run.proofs.RunLemmas.{same_asked, refused_or_asked, reads_none, whole, too_many}

-- ---- what words ask for that ask for an audit

abbrev is_audit : Asked → Bool
is_audit (writes asked) = false
is_audit (plans_by_need sizes) = false
is_audit (audits net b) = true
is_audit takes_over = false

audits_alone : (words : List (List ℕ)) (asked : Asked) (net : Network) (b : ℕ) → is_audit asked ≡ false → asked_by_words words ≡ Some asked → asked_by_words words ≡ Some (audits net b) → ⊥
audits_alone words asked net b other is so = false≢true (sym other ∙ ap is_audit (same_asked words asked (audits net b) is so))

writes_or_audits : (words : List (List ℕ)) (asked : AskedOfTrace) (net : Network) (b : ℕ) → asked_by_words words ≡ Some (writes asked) → asked_by_words words ≡ Some (audits net b) → ⊥
writes_or_audits words asked net b is so = audits_alone words (writes asked) net b refl is so

reads_or_audits : (words : List (List ℕ)) (rows : Rows) (net : Network) (b : ℕ) → AsksToRead words rows → asked_by_words words ≡ Some (audits net b) → ⊥
reads_or_audits words rows net b reads so = reads_none words (audits net b) rows so refl reads

abbrev audit_in : Network → ℕ → Asked → Network × ℕ
audit_in net b (audits other c) = (other, c)
audit_in net b (_) = (net, b)

same_audit : (words : List (List ℕ)) (net other : Network) (b c : ℕ) → asked_by_words words ≡ Some (audits net b) → asked_by_words words ≡ Some (audits other c) → (net ≡ other) × (b ≡ c)
same_audit words net other b c is so =
    let same = ap (audit_in net b) (same_asked words (audits net b) (audits other c) is so) in
    (ap (λ (p : Network × ℕ). p.0) same, ap (λ (p : Network × ℕ). p.1) same)

-- the bytes that an audit read, all that the source had
record WasAudited (net : Network) (b : ℕ) (bytes : List ℕ) (bad : Option ℕ) : Type 0 where
  few : length bytes ≤ input_limit
  lines : List (Option Line)
  read : ReadsLines bytes lines
  found : first_bad_line net b lines ≡ bad

was_audited : (old new : Outside) (net : Network) (b : ℕ) (bytes : List ℕ) (lines : List (Option Line)) (bad : Option ℕ) → old.left ≡ Some bytes → IsReadAs (λ taken. ReadsLines taken lines) old new → first_bad_line net b lines ≡ bad
    → WasAudited net b bytes bad
was_audited old new net b bytes lines bad told (taken, took, ended, few, are) found =
    let all : bytes ≡ taken = whole new.left bytes taken (subst (λ (l : Option (List ℕ)). Consumes l new.left taken) told took) ended in
    record { few = omega (arith, ap (λ (bs : List ℕ). length bs) all, few); lines = lines; read = subst (λ (bs : List ℕ). ReadsLines bs lines) (sym all) are; found = found }

-- the same for any words that ask for it
good_lines : (grew : Growth) (words : List (List ℕ)) (old new : Outside) (net : Network) (b : ℕ) (bytes : List ℕ) → Performs grew words old new → GivesText words old net b bytes → WasAudited net b bytes None
good_lines grew words old new net b bytes (inl plans) gives = absurd (writes_or_audits words plans.asked net b plans.accepted gives.accepted)
good_lines grew words old new net b bytes (inr (inl plans)) gives = absurd (audits_alone words (plans_by_need plans.sizes) net b refl plans.accepted gives.accepted)
good_lines grew words old new net b bytes (inr (inr (inl replays))) gives = absurd (writes_or_audits words replays.asked net b replays.accepted gives.accepted)
good_lines grew words old new net b bytes (inr (inr (inr (inl makes)))) gives = absurd (writes_or_audits words makes.asked net b makes.accepted gives.accepted)
good_lines grew words old new net b bytes (inr (inr (inr (inr (inl audit))))) gives =
    let (net_is, b_is) = same_audit words audit.net net audit.b b audit.accepted gives.accepted in
    was_audited old new net b bytes audit.lines None gives.told audit.read
    (subst (λ (n : Network). first_bad_line n b audit.lines ≡ None) net_is (subst (λ (c : ℕ). first_bad_line audit.net c audit.lines ≡ None) b_is audit.good))
good_lines grew words old new net b bytes (inr (inr (inr (inr (inr (inl receives)))))) gives = absurd (writes_or_audits words receives.asked net b receives.accepted gives.accepted)
good_lines grew words old new net b bytes (inr (inr (inr (inr (inr (inr takeover)))))) gives = absurd (audits_alone words takes_over net b refl takeover.accepted gives.accepted)

bad_lines : (words : List (List ℕ)) (old new : Outside) (line : ℕ) (net : Network) (b : ℕ) (bytes : List ℕ) → HasBadLine words old new line → GivesText words old net b bytes → WasAudited net b bytes (Some line)
bad_lines words old new line net b bytes has gives =
    let (net_is, b_is) = same_audit words has.net net has.b b has.accepted gives.accepted in
    was_audited old new net b bytes has.lines (Some line) gives.told has.read
    (subst (λ (n : Network). first_bad_line n b has.lines ≡ Some line) net_is (subst (λ (c : ℕ). first_bad_line has.net c has.lines ≡ Some line) b_is has.bad))

-- ---- what was audited and written

-- good lines, whose number was given
pub audited : (grew : Growth) → EachTextHasOneReading → (words : List (List ℕ)) (old new : Outside) (net : Network) (b : ℕ) (bytes text given : List ℕ) (count : ℕ) → asked_by_words words ≡ Some (audits net b)
    → Consumes old.left new.left bytes → IsAtEnd new.left → length bytes ≤ input_limit → text ≡ bytes
    → (lines : List (Option Line)) × ReadsLines text lines × IsVerdict net b lines (Ok count) → (lines : List (Option Line)) × ReadsLines text lines × ShowsACleanSchedule net b lines
    → given ≡ count_text count → grew old.sink.held new.sink.held given → Audits grew words old new
audited grew once words old new net b bytes text given count accepted took ended few is (lines, are, verdict_is) (others, also, shown) counted grows = record {
  net = net;
  b = b;
  accepted = accepted;
  lines = lines;
  read = (bytes, took, ended, few, subst (λ (bs : List ℕ). ReadsLines bs lines) is are);
  good = verdict_is.0;
  written = subst (λ (piece : List ℕ). grew old.sink.held new.sink.held piece) (counted ∙ ap count_text verdict_is.1) grows;
  shown = subst (λ (ls : List (Option Line)). ShowsACleanSchedule net b ls) (once text others lines also are) shown;
}

-- ---- one verdict

-- bytes have one list of lines, so one first bad line, or none
verdict : EachTextHasOneReading → (net : Network) (b : ℕ) (bytes : List ℕ) (lines : List (Option Line)) (one other : Option ℕ) → ReadsLines bytes lines → first_bad_line net b lines ≡ one
    → WasAudited net b bytes other → one ≡ other
verdict once net b bytes lines one other are found was = sym found ∙ (ap (first_bad_line net b) (once bytes lines was.lines are was.read) ∙ was.found)

some_or_none : (line : ℕ) → Some line ≡ None → ⊥
some_or_none line same = none-some line (sym same)

-- ---- which ends there may be

completes : EachTextHasOneReading → (words : List (List ℕ)) (old new : Outside) (ending : Ending) → EndsBy words old new ending
    → (net : Network) (b : ℕ) (bytes : List ℕ) (lines : List (Option Line)) → GivesText words old net b bytes → length bytes ≤ input_limit → ReadsLines bytes lines → first_bad_line net b lines ≡ None
    → IsStatusAmong (status_of ending) (0 ∷ 3 ∷ 4 ∷ 5 ∷ [])
completes once words old new (Ok done) ends net b bytes lines gives few are good = inl refl
completes once words old new (Err failure.Words) ends net b bytes lines gives few are good = absurd (refused_or_asked words (audits net b) ends.0 gives.accepted)
completes once words old new (Err (failure.Row row fault)) ends net b bytes lines gives few are good = absurd (reads_or_audits words ends.0.rows net b ends.0.accepted gives.accepted)
completes once words old new (Err failure.Read) ends net b bytes lines gives few are good = inr (inl refl)
completes once words old new (Err failure.Write) ends net b bytes lines gives few are good = inr (inr (inl refl))
completes once words old new (Err failure.Memory) ends net b bytes lines gives few are good = inr (inr (inr (inl refl)))
completes once words old new (Err failure.Big) ends net b bytes lines gives few are good = let many = too_many old new bytes gives.told ends.1 in absurd (omega (arith, many, few))
completes once words old new (Err (failure.Bad line)) ends net b bytes lines gives few are good =
    absurd (none-some line (verdict once net b bytes lines None (Some line) are good (bad_lines words old new line net b bytes ends.0 gives)))

tells_bad : EachTextHasOneReading → (words : List (List ℕ)) (old new : Outside) (ending : Ending) → EndsBy words old new ending
    → (net : Network) (b line : ℕ) (bytes : List ℕ) (lines : List (Option Line)) → GivesText words old net b bytes → length bytes ≤ input_limit → ReadsLines bytes lines → first_bad_line net b lines ≡ Some line
    → IsStatusAmong (status_of ending) (7 ∷ 3 ∷ 5 ∷ [])
tells_bad once words old new (Ok done) ends net b line bytes lines gives few are bad =
    absurd (some_or_none line (verdict once net b bytes lines (Some line) None are bad (good_lines Appends words old new net b bytes ends gives)))
tells_bad once words old new (Err failure.Words) ends net b line bytes lines gives few are bad = absurd (refused_or_asked words (audits net b) ends.0 gives.accepted)
tells_bad once words old new (Err (failure.Row row fault)) ends net b line bytes lines gives few are bad = absurd (reads_or_audits words ends.0.rows net b ends.0.accepted gives.accepted)
tells_bad once words old new (Err failure.Read) ends net b line bytes lines gives few are bad = inr (inl refl)
tells_bad once words old new (Err failure.Write) ends net b line bytes lines gives few are bad =
    absurd (some_or_none line (verdict once net b bytes lines (Some line) None are bad (good_lines AppendsFront words old new net b bytes ends.1 gives)))
tells_bad once words old new (Err failure.Memory) ends net b line bytes lines gives few are bad = inr (inr (inl refl))
tells_bad once words old new (Err failure.Big) ends net b line bytes lines gives few are bad = let many = too_many old new bytes gives.told ends.1 in absurd (omega (arith, many, few))
tells_bad once words old new (Err (failure.Bad other)) ends net b line bytes lines gives few are bad = inl refl

tells_excess : (words : List (List ℕ)) (old new : Outside) (ending : Ending) → EndsBy words old new ending
    → (net : Network) (b : ℕ) (bytes : List ℕ) → GivesText words old net b bytes → input_limit < length bytes → IsStatusAmong (status_of ending) (6 ∷ 3 ∷ 5 ∷ [])
tells_excess words old new (Ok done) ends net b bytes gives many = let few = (good_lines Appends words old new net b bytes ends gives).few in absurd (omega (arith, many, few))
tells_excess words old new (Err failure.Words) ends net b bytes gives many = absurd (refused_or_asked words (audits net b) ends.0 gives.accepted)
tells_excess words old new (Err (failure.Row row fault)) ends net b bytes gives many = absurd (reads_or_audits words ends.0.rows net b ends.0.accepted gives.accepted)
tells_excess words old new (Err failure.Read) ends net b bytes gives many = inr (inl refl)
tells_excess words old new (Err failure.Write) ends net b bytes gives many = let few = (good_lines AppendsFront words old new net b bytes ends.1 gives).few in absurd (omega (arith, many, few))
tells_excess words old new (Err failure.Memory) ends net b bytes gives many = inr (inr (inl refl))
tells_excess words old new (Err failure.Big) ends net b bytes gives many = inl refl
tells_excess words old new (Err (failure.Bad line)) ends net b bytes gives many = let few = (bad_lines words old new line net b bytes ends.0 gives).few in absurd (omega (arith, many, few))

pub audit_ends : EachTextHasOneReading → (words : List (List ℕ)) (old new : Outside) (ending : Ending) → EndsBy words old new ending → AuditEnds words old (status_of ending)
audit_ends once words old new ending ends = record {
  completes = completes once words old new ending ends;
  tells_bad = tells_bad once words old new ending ends;
  tells_excess = tells_excess words old new ending ends;
}

-- words that ask for an audit make no trace
pub makes_or_audits : (words : List (List ℕ)) (number : ℕ) (net : Network) (b : ℕ) → AsksToMake words number → asked_by_words words ≡ Some (audits net b) → ⊥
makes_or_audits words number net b (asked, is, makes) so = writes_or_audits words asked net b is so
