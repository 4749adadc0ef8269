-- A walk that finds no bad line.
use Rattle.std.proofs.Common.{◌≡◌, ◌+◌, nat_lt, ℕ, List, [], ◌∷◌, length, Bool, false, Option, Some, None, refl, sym, ap, ◌∙◌, subst, arith}
use Rattle.std.specs.Prelude.{filter_map}
use Rattle.std.specs.List.{cons_option}
use Rattle.std.proofs.lemmas.Bool.{cond-true, cond-false, le-ltb, or_from}
use Rattle.clos_topology.specs.Network.{Network, endpoints_of}
use Rattle.report_text.specs.declared.line.Line.{Line}
use Rattle.report_text.specs.declared.line.Line.TheVariants as line
use Rattle.schedule_audit.specs.Lines.{Recorded, Path, recorded_by, path_of, records, paths, sends_in_lines, ends, first_or_0, rounds_in_lines}
use Rattle.schedule_audit.specs.Misplaced.{is_any, is_bad_end, is_misplaced_line, has_end, is_misplaced}
use Rattle.schedule_audit.specs.Wrong.{Expected, expected_of, expected_of_batches, batches_of_records, is_wrong}
use Rattle.schedule_audit.specs.BadLines.{first_from, or_else, after_last, first_misplaced, first_wrong}
use Rattle.schedule_audit.specs.Laws.{AreInner, GoodRecords, GoodPaths, GoodSends, AreGoodLines, read, ended_lines, AGoodTextHasNoBadLine}

-- ---- a walk

abbrev pub AllGood : (List (Option Line) → Option Line → Bool) → List (Option Line) → List (Option Line) → Type 0
AllGood bad before [] = Unit {0}
AllGood bad before (l ∷ later) = (bad before l ≡ false) × AllGood bad (l ∷ before) later

pub none_from : (bad : List (Option Line) → Option Line → Bool) (number : ℕ) (before lines : List (Option Line)) → AllGood bad before lines → first_from bad number before lines ≡ None
none_from bad number before [] good = refl
none_from bad number before (l ∷ later) good = cond-false (bad before l) (Some number) (first_from bad (number + 1) (l ∷ before) later) good.0 ∙ none_from bad (number + 1) (l ∷ before) later good.1

-- ---- misplaced lines

end_first : (endpoints : ℕ) (whole before : List (Option Line)) (rounds : ℕ) → ends before ≡ [] → is_bad_end (records whole) rounds ≡ false → is_misplaced endpoints whole before (Some (line.End rounds)) ≡ false
end_first endpoints whole before rounds none good = or_from (has_end before) (is_bad_end (records whole) rounds) (ap is_any none) good

inner_first : (endpoints : ℕ) (whole before : List (Option Line)) (l : Line) → ends before ≡ [] → is_misplaced_line endpoints whole before l ≡ false → is_misplaced endpoints whole before (Some l) ≡ false
inner_first endpoints whole before l none good = or_from (has_end before) (is_misplaced_line endpoints whole before l) (ap is_any none) good

good_first : (endpoints : ℕ) (whole before : List (Option Line)) (rounds : ℕ) (body : List Line) → ends before ≡ [] → AreInner body → GoodRecords endpoints (records before) (records (read body))
    → is_bad_end (records whole) rounds ≡ false → AllGood (is_misplaced endpoints whole) before (ended_lines body rounds)
good_first endpoints whole before rounds [] none inner good last = (end_first endpoints whole before rounds none last, tt)
good_first endpoints whole before rounds (line.Batch batch src dst clear add ∷ body) none inner good last =
    let l : Line = line.Batch batch src dst clear add in
    (inner_first endpoints whole before l none good.0, good_first endpoints whole (Some l ∷ before) rounds body none inner.1 good.1 last)
good_first endpoints whole before rounds (line.Slot slot src dst core ∷ body) none inner good last =
    let l : Line = line.Slot slot src dst core in
    (inner_first endpoints whole before l none refl, good_first endpoints whole (Some l ∷ before) rounds body none inner.1 good last)
good_first endpoints whole before rounds (line.Sent slot src dst ∷ body) none inner good last =
    let l : Line = line.Sent slot src dst in
    (inner_first endpoints whole before l none refl, good_first endpoints whole (Some l ∷ before) rounds body none inner.1 good last)
good_first endpoints whole before rounds (line.Refused round number ∷ body) none inner good last =
    let l : Line = line.Refused round number in
    (inner_first endpoints whole before l none refl, good_first endpoints whole (Some l ∷ before) rounds body none inner.1 good last)
good_first endpoints whole before rounds (line.Flow src dst demanded allocated pending ∷ body) none inner good last =
    let l : Line = line.Flow src dst demanded allocated pending in
    (inner_first endpoints whole before l none refl, good_first endpoints whole (Some l ∷ before) rounds body none inner.1 good last)
good_first endpoints whole before rounds (line.Count src dst demanded acknowledged flight pending lost sent missed ∷ body) none inner good last =
    let l : Line = line.Count src dst demanded acknowledged flight pending lost sent missed in
    (inner_first endpoints whole before l none refl, good_first endpoints whole (Some l ∷ before) rounds body none inner.1 good last)
good_first endpoints whole before rounds (l ∷ body) none inner good last = absurd inner.0

-- ---- what the lines are

ends_are : (body : List Line) (rounds : ℕ) → AreInner body → ends (ended_lines body rounds) ≡ rounds ∷ []
ends_are [] rounds inner = refl
ends_are (line.Batch batch src dst clear add ∷ body) rounds inner = ends_are body rounds inner.1
ends_are (line.Slot slot src dst core ∷ body) rounds inner = ends_are body rounds inner.1
ends_are (line.Sent slot src dst ∷ body) rounds inner = ends_are body rounds inner.1
ends_are (line.Refused round number ∷ body) rounds inner = ends_are body rounds inner.1
ends_are (line.Flow src dst demanded allocated pending ∷ body) rounds inner = ends_are body rounds inner.1
ends_are (line.Count src dst demanded acknowledged flight pending lost sent missed ∷ body) rounds inner = ends_are body rounds inner.1
ends_are (l ∷ body) rounds inner = absurd inner.0

-- what a line adds, in a list of lines
kept : {X : Type 0} (f : Option Line → Option X) (rounds : ℕ) (body : List Line) → f (Some (line.End rounds)) ≡ None → filter_map f (ended_lines body rounds) ≡ filter_map f (read body)
kept f rounds [] none = ap (λ o. cons_option o []) none
kept f rounds (l ∷ body) none = ap (λ xs. cons_option (f (Some l)) xs) (kept f rounds body none)

-- ---- wrong lines

good_second : (net : Network) (b : ℕ) (expected : Expected) (whole before : List (Option Line)) (rounds : ℕ) (body : List Line) → AreInner body
    → GoodPaths net expected (paths before) (paths (read body)) → GoodSends expected (sends_in_lines before) (sends_in_lines (read body)) → AreGoodLines b expected body
    → nat_lt (length (paths whole)) (length expected.places) ≡ false → AllGood (is_wrong net b expected whole) before (ended_lines body rounds)
good_second net b expected whole before rounds [] inner ps ss ls last = (last, tt)
good_second net b expected whole before rounds (line.Batch batch src dst clear add ∷ body) inner ps ss ls last =
    (refl, good_second net b expected whole (Some (line.Batch batch src dst clear add) ∷ before) rounds body inner.1 ps ss ls.1 last)
good_second net b expected whole before rounds (line.Slot slot src dst core ∷ body) inner ps ss ls last =
    (ps.0, good_second net b expected whole (Some (line.Slot slot src dst core) ∷ before) rounds body inner.1 ps.1 ss ls.1 last)
good_second net b expected whole before rounds (line.Sent slot src dst ∷ body) inner ps ss ls last =
    (ss.0, good_second net b expected whole (Some (line.Sent slot src dst) ∷ before) rounds body inner.1 ps ss.1 ls.1 last)
good_second net b expected whole before rounds (line.Refused round number ∷ body) inner ps ss ls last =
    (refl, good_second net b expected whole (Some (line.Refused round number) ∷ before) rounds body inner.1 ps ss ls.1 last)
good_second net b expected whole before rounds (line.Flow src dst demanded allocated pending ∷ body) inner ps ss ls last =
    (ls.0, good_second net b expected whole (Some (line.Flow src dst demanded allocated pending) ∷ before) rounds body inner.1 ps ss ls.1 last)
good_second net b expected whole before rounds (line.Count src dst demanded acknowledged flight pending lost sent missed ∷ body) inner ps ss ls last =
    (ls.0, good_second net b expected whole (Some (line.Count src dst demanded acknowledged flight pending lost sent missed) ∷ before) rounds body inner.1 ps ss ls.1 last)
good_second net b expected whole before rounds (l ∷ body) inner ps ss ls last = absurd inner.0

-- ---- all of it

pub a_good_text : AGoodTextHasNoBadLine
a_good_text net b body rounds is =
    let lines : List (Option Line) = ended_lines body rounds in
    let ends' : ends lines ≡ rounds ∷ [] = ends_are body rounds is.inner in
    let records' : records lines ≡ records (read body) = kept recorded_by rounds body refl in
    let paths' : paths lines ≡ paths (read body) = kept path_of rounds body refl in
    let rounds' : rounds_in_lines lines ≡ rounds = ap first_or_0 ends' in
    let expected : Expected = expected_of_batches b (records (read body)) (batches_of_records net rounds (records (read body))) in
    let expected' : expected_of net b lines ≡ expected =
    ap (λ (rs : List Recorded). expected_of_batches b rs (batches_of_records net (rounds_in_lines lines) rs)) records' ∙ ap (λ (n : ℕ). expected_of_batches b (records (read body)) (batches_of_records net n (records (read body)))) rounds' in
    let first : first_from (is_misplaced (endpoints_of net) lines) 1 [] lines ≡ None =
    none_from (is_misplaced (endpoints_of net) lines) 1 [] lines
    (good_first (endpoints_of net) lines [] rounds body refl is.inner is.records (ap (λ (rs : List Recorded). is_bad_end rs rounds) records' ∙ is.last)) in
    let few : length (paths lines) ≡ length expected.places = ap (λ (ps : List Path). length ps) paths' ∙ is.count in
    let second : first_from (is_wrong net b expected lines) 1 [] lines ≡ None =
    none_from (is_wrong net b expected lines) 1 [] lines
    (good_second net b expected lines [] rounds body is.inner is.paths is.sends is.lines (le-ltb (length (paths lines)) (length expected.places) (omega arith))) in
    let no_more : after_last lines ≡ None = cond-true (has_end lines) None (Some (length lines + 1)) (ap is_any ends') in
    let of_first : first_misplaced (endpoints_of net) lines ≡ None = ap (λ (o : Option ℕ). or_else o (after_last lines)) first ∙ no_more in
    let of_second : first_wrong net b lines ≡ None = subst (λ (t : Expected). first_from (is_wrong net b t lines) 1 [] lines ≡ None) (sym expected') second in
    ap (λ (o : Option ℕ). or_else o (first_wrong net b lines)) of_first ∙ of_second
