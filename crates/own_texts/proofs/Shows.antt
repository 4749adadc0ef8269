-- What lines show: what they record, the paths that they name, and what they send.
use Rattle.std.proofs.Common.{◌≡◌, ◌<◌, ◌≤◌, ◌+◌, ◌*◌, ℕ, zero, suc, List, [], ◌∷◌, ◌++◌, map, take, drop, length, Option, Some, refl, sym, ap, ◌∙◌, arith}
use Rattle.std.specs.Prelude.{filter_map}
use Rattle.std.proofs.Math.Nat.{suc-mul}
use Rattle.std.proofs.lemmas.List.{append_assoc, append-nil, map-append}
use Rattle.std.proofs.lemmas.List.Elements.{filter_map-append}
use Rattle.greedy_rules.specs.declared.flows.Flow.{Flow}
use Rattle.greedy_rules.specs.declared.flows.Entry.{Entry}
use Rattle.greedy_rules.specs.Schedule.{first_slot}
use Rattle.clos_topology.specs.Links.{CoreOf}
use Rattle.clos_topology.specs.NetSlots.{SlotCores}
use Rattle.report_text.specs.declared.line.Line.{Line}
use Rattle.report_text.specs.declared.line.Line.TheVariants as line
use Rattle.report_text.specs.Lines.{IsLine}
use Rattle.schedule_audit.specs.declared.recorded.Recorded.{Recorded}
use Rattle.schedule_audit.specs.declared.packets.Place.{Place}
use Rattle.schedule_audit.specs.declared.packets.Path.{Path}
use Rattle.schedule_audit.specs.Lines.{recorded_by, path_of, sent_by_line, records, paths, sends_in_lines}
use Rattle.schedule_audit.specs.Wrong.{Expected}
use Rattle.schedule_audit.specs.Laws.{read, IsInner, AreInner, IsGoodLine, AreGoodLines}
use Rattle.schedule_audit.specs.Texts.{record_of}
use Rattle.run_lines.specs.Text.{entry_line, slot_line, slots_lines}

-- each number of a line that is none of a batch, a slot or a send fits its field
abbrev pub IsFigure : Line → Type 0
IsFigure (line.Batch batch src dst clear add) = Unit {0}
IsFigure (line.Slot slot src dst core) = Unit {0}
IsFigure (line.Sent slot src dst) = Unit {0}
IsFigure l = IsLine l

abbrev pub AreFigures : List Line → Type 0
AreFigures [] = Unit {0}
AreFigures (l ∷ ls) = IsFigure l × AreFigures ls

-- lines before an `end` line that record, route and send this, and whose figures fit and are what is expected
pub record Shows (b : ℕ) (expected : Expected) (ls : List Line) (rs : List Recorded) (ps : List Path) (ss : List Place) : Type 0 where
  pub inner : AreInner ls
  pub good : AreGoodLines b expected ls
  pub figures : AreFigures ls
  pub recorded : records (read ls) ≡ rs
  pub routed : paths (read ls) ≡ ps
  pub sent : sends_in_lines (read ls) ≡ ss

pub read-append : {X : Type 0} (f : Option Line → Option X) (xs ys : List Line) → filter_map f (read (xs ++ ys)) ≡ filter_map f (read xs) ++ filter_map f (read ys)
read-append f xs ys = ap (filter_map f) (map-append (λ (l : Line). Some l) xs ys) ∙ filter_map-append f (read xs) (read ys)

both : {X : Type 0} (a b c d : List X) → a ≡ c → b ≡ d → a ++ b ≡ c ++ d
both a b c d one two = ap (λ x. x ++ b) one ∙ ap (λ x. c ++ x) two

inner-append : (xs ys : List Line) → AreInner xs → AreInner ys → AreInner (xs ++ ys)
inner-append [] ys first second = second
inner-append (x ∷ xs) ys first second = (first.0, inner-append xs ys first.1 second)

good-append : (b : ℕ) (e : Expected) (xs ys : List Line) → AreGoodLines b e xs → AreGoodLines b e ys → AreGoodLines b e (xs ++ ys)
good-append b e [] ys first second = second
good-append b e (x ∷ xs) ys first second = (first.0, good-append b e xs ys first.1 second)

figures-append : (xs ys : List Line) → AreFigures xs → AreFigures ys → AreFigures (xs ++ ys)
figures-append [] ys first second = second
figures-append (x ∷ xs) ys first second = (first.0, figures-append xs ys first.1 second)

-- ---- lines behind lines

pub shows-nil : (b : ℕ) (e : Expected) → Shows b e [] [] [] []
shows-nil b e = record { inner = tt; good = tt; figures = tt; recorded = refl; routed = refl; sent = refl }

pub shows-append : {b : ℕ} {e : Expected} {xs ys : List Line} {rs rt : List Recorded} {ps pt : List Path} {ss st : List Place}
    → Shows b e xs rs ps ss → Shows b e ys rt pt st → Shows b e (xs ++ ys) (rs ++ rt) (ps ++ pt) (ss ++ st)
shows-append {b} {e} {xs} {ys} {rs} {rt} {ps} {pt} {ss} {st} one two = record {
  inner = inner-append xs ys one.inner two.inner;
  good = good-append b e xs ys one.good two.good;
  figures = figures-append xs ys one.figures two.figures;
  recorded = read-append recorded_by xs ys ∙ both (records (read xs)) (records (read ys)) rs rt one.recorded two.recorded;
  routed = read-append path_of xs ys ∙ both (paths (read xs)) (paths (read ys)) ps pt one.routed two.routed;
  sent = read-append sent_by_line xs ys ∙ both (sends_in_lines (read xs)) (sends_in_lines (read ys)) ss st one.sent two.sent;
}

-- the same, told otherwise
pub shows-as : {b : ℕ} {e : Expected} {ls : List Line} {rs rt : List Recorded} {ps pt : List Path} {ss st : List Place}
    → Shows b e ls rs ps ss → rs ≡ rt → ps ≡ pt → ss ≡ st → Shows b e ls rt pt st
shows-as it one two three = record {
  inner = it.inner;
  good = it.good;
  figures = it.figures;
  recorded = it.recorded ∙ one;
  routed = it.routed ∙ two;
  sent = it.sent ∙ three;
}

-- ---- entries and slots

pub shows-entries : (b : ℕ) (e : Expected) (k : ℕ) (es : List Entry) → Shows b e (map (entry_line k) es) (map (record_of k) es) [] []
shows-entries b e k [] = shows-nil b e
shows-entries b e k (x ∷ es) =
    let more = shows-entries b e k es in
    record { inner = (tt, more.inner); good = (tt, more.good); figures = (tt, more.figures); recorded = ap (λ xs. record_of k x ∷ xs) more.recorded; routed = more.routed; sent = more.sent }

abbrev pub path_at : ℕ → CoreOf → Flow → Path
path_at number core_of flow = record { place = record { slot = number; flow = flow }; core = core_of flow.src }

abbrev pub paths_by : SlotCores → ℕ → List (List Flow) → List Path
paths_by cores number [] = []
paths_by cores number (slot ∷ slots) = map (path_at number (cores number)) slot ++ paths_by cores (number + 1) slots

shows-slot : (b : ℕ) (e : Expected) (number : ℕ) (core_of : CoreOf) (slot : List Flow) → Shows b e (map (slot_line number core_of) slot) [] (map (path_at number core_of) slot) []
shows-slot b e number core_of [] = shows-nil b e
shows-slot b e number core_of (f ∷ slot) =
    let more = shows-slot b e number core_of slot in
    record { inner = (tt, more.inner); good = (tt, more.good); figures = (tt, more.figures); recorded = more.recorded; routed = ap (λ xs. path_at number core_of f ∷ xs) more.routed; sent = more.sent }

pub shows-slots : (b : ℕ) (e : Expected) (cores : SlotCores) (number : ℕ) (slots : List (List Flow)) → Shows b e (slots_lines cores number slots) [] (paths_by cores number slots) []
shows-slots b e cores number [] = shows-nil b e
shows-slots b e cores number (slot ∷ slots) = shows-append (shows-slot b e number (cores number) slot) (shows-slots b e cores (number + 1) slots)

pub paths_by-append : (cores : SlotCores) (number : ℕ) (xs ys : List (List Flow)) → paths_by cores number (xs ++ ys) ≡ paths_by cores number xs ++ paths_by cores (number + length xs) ys
paths_by-append cores number [] ys = ap (λ n. paths_by cores n ys) (omega arith)
paths_by-append cores number (x ∷ xs) ys =
    let same : number + 1 + length xs ≡ number + suc (length xs) = omega arith in
    let here = map (path_at number (cores number)) x in
    ap (λ ps. here ++ ps) (paths_by-append cores (number + 1) xs ys)
    ∙ (sym (append_assoc here (paths_by cores (number + 1) xs) (paths_by cores (number + 1 + length xs) ys)) ∙ ap (λ n. (here ++ paths_by cores (number + 1) xs) ++ paths_by cores n ys) same)
