-- A line by its kind: the first two bytes tell the kind, and so bytes that begin with a name are a line of that kind alone.
use Rattle.std.proofs.Common.{◌≡◌, ◌≢◌, ◌<◌, ◌≤◌, ℕ, List, ◌++◌, Bool, Option, cond, eqb, get_or, codes, refl, sym, ap, subst, ◌∙◌, arith}
use Rattle.report_text.specs.declared.line.Line.{Line}
use Rattle.report_text.specs.declared.line.Line.TheVariants as line
use Rattle.report_text.specs.Lines.{line_bytes, IsLine}

pub data Kind : Type 0 where
  Batch : Kind
  Slot : Kind
  Sent : Kind
  Refused : Kind
  Flow : Kind
  Count : Kind
  End : Kind
  Made : Kind

abbrev pub name : Kind → List ℕ
name Batch = codes "batch"
name Slot = codes "slot"
name Sent = codes "sent"
name Refused = codes "refused"
name Flow = codes "flow"
name Count = codes "count"
name End = codes "end"
name Made = codes "made"

-- what a line of a kind tells
abbrev pub Fields : Kind → Type 0
Fields Batch = (batch src dst : ℕ) × (clear : Bool) × ℕ
Fields Slot = (slot src dst : ℕ) × Option ℕ
Fields Sent = (slot src : ℕ) × ℕ
Fields Refused = (round : ℕ) × ℕ
Fields Flow = (src dst demanded allocated : ℕ) × ℕ
Fields Count = (src dst demanded acknowledged flight pending lost sent : ℕ) × ℕ
Fields End = ℕ
Fields Made = (number flows demanded acknowledged flight pending lost sent : ℕ) × ℕ

abbrev pub build : (kind : Kind) → Fields kind → Line
build Batch f = line.Batch f.0 f.1 f.2 f.3 f.4
build Slot f = line.Slot f.0 f.1 f.2 f.3
build Sent f = line.Sent f.0 f.1 f.2
build Refused f = line.Refused f.0 f.1
build Flow f = line.Flow f.0 f.1 f.2 f.3 f.4
build Count f = line.Count f.0 f.1 f.2 f.3 f.4 f.5 f.6 f.7 f.8
build End f = line.End f
build Made f = line.Made f.0 f.1 f.2 f.3 f.4 f.5 f.6 f.7 f.8

-- the kind that two bytes tell: only `slot` and `sent` begin alike
abbrev kind_by : ℕ → ℕ → Kind
kind_by first second =
    cond (eqb first 98) Batch (cond (eqb first 99) Count (cond (eqb first 101) End (cond (eqb first 102) Flow
    (cond (eqb first 109) Made (cond (eqb first 114) Refused (cond (eqb second 108) Slot Sent))))))

abbrev kind_told : List ℕ → Kind
kind_told bytes = kind_by (get_or bytes 0 0) (get_or bytes 1 0)

-- a line that is read has the kind that its bytes tell
line_told : (l : Line) → IsLine l → (f : Fields (kind_told (line_bytes l))) × (build (kind_told (line_bytes l)) f ≡ l)
line_told (line.Batch batch src dst clear add) is = ((batch, src, dst, clear, add), refl)
line_told (line.Slot slot src dst core) is = ((slot, src, dst, core), refl)
line_told (line.Sent slot src dst) is = ((slot, src, dst), refl)
line_told (line.Refused round number) is = ((round, number), refl)
line_told (line.Flow src dst demanded allocated pending) is = ((src, dst, demanded, allocated, pending), refl)
line_told (line.Count src dst demanded acknowledged flight pending lost sent missed) is = ((src, dst, demanded, acknowledged, flight, pending, lost, sent, missed), refl)
line_told (line.End rounds) is = (rounds, refl)
line_told (line.Made number flows demanded acknowledged flight pending lost sent missed) is = ((number, flows, demanded, acknowledged, flight, pending, lost, sent, missed), refl)
line_told l is = absurd is

name_told : (kind : Kind) (text : List ℕ) → kind_told (name kind ++ text) ≡ kind
name_told Batch text = refl
name_told Slot text = refl
name_told Sent text = refl
name_told Refused text = refl
name_told Flow text = refl
name_told Count text = refl
name_told End text = refl
name_told Made text = refl

-- what holds of each line of a kind holds of a line whose bytes begin with the kind's name
pub of_kind : (kind : Kind) (text : List ℕ) (X : Line → Type 0) → ((f : Fields kind) → IsLine (build kind f) → name kind ++ text ≡ line_bytes (build kind f) → X (build kind f))
    → (l : Line) → IsLine l → name kind ++ text ≡ line_bytes l → X l
of_kind kind text X known l ok is =
    let same : kind_told (line_bytes l) ≡ kind = ap kind_told (sym is) ∙ name_told kind text in
    let told = subst (λ (k : Kind). (f : Fields k) × (build k f ≡ l)) same (line_told l ok) in
    subst X told.1 (known told.0 (subst IsLine (sym told.1) ok) (subst (λ (m : Line). name kind ++ text ≡ line_bytes m) (sym told.1) is))

-- each name ends at a comma by the eighth byte
pub name_ends : (l : Line) (bytes : List ℕ) (n : ℕ) → IsLine l → bytes ≡ line_bytes l → 8 ≤ n → ((i : ℕ) → i < n → get_or bytes i 0 ≢ 44) → ⊥
name_ends (line.Batch batch src dst clear add) bytes n ok is long before = before 5 (omega arith) (ap (λ (bs : List ℕ). get_or bs 5 0) is)
name_ends (line.Slot slot src dst core) bytes n ok is long before = before 4 (omega arith) (ap (λ (bs : List ℕ). get_or bs 4 0) is)
name_ends (line.Sent slot src dst) bytes n ok is long before = before 4 (omega arith) (ap (λ (bs : List ℕ). get_or bs 4 0) is)
name_ends (line.Refused round number) bytes n ok is long before = before 7 (omega arith) (ap (λ (bs : List ℕ). get_or bs 7 0) is)
name_ends (line.Flow src dst demanded allocated pending) bytes n ok is long before = before 4 (omega arith) (ap (λ (bs : List ℕ). get_or bs 4 0) is)
name_ends (line.Count src dst demanded acknowledged flight pending lost sent missed) bytes n ok is long before = before 5 (omega arith) (ap (λ (bs : List ℕ). get_or bs 5 0) is)
name_ends (line.End rounds) bytes n ok is long before = before 3 (omega arith) (ap (λ (bs : List ℕ). get_or bs 3 0) is)
name_ends (line.Made number flows demanded acknowledged flight pending lost sent missed) bytes n ok is long before = before 4 (omega arith) (ap (λ (bs : List ℕ). get_or bs 4 0) is)
name_ends l bytes n ok is long before = absurd ok
