-- Which lines are marked once some have changed: those that have risen.
use Rattle.std.proofs.Common.{◌≡◌, ◌≢◌, ℕ, ◌+◌, ◌<◌, ◌≤◌, true, false, ◌||◌, ◌==◌, List, length, set, get_or, Some, refl, sym, ◌∙◌, ap, subst, inl, inr, arith}
use Rattle.std.specs.Prelude.{Vec}
use Rattle.std.proofs.lemmas.Bool.{cases_lt, eq-eqb, false≢true, or_parts}
use Rattle.std.proofs.lemmas.List.{with_items_is, get_or-set_other, length-set}
use Rattle.std.proofs.lemmas.Option.{slice_get_within, get_or_from_slice_get}
use Rattle.std.specs.Vec.{with_items}
use Rattle.line_marks.specs.Places.{Places, is_marked}
use Rattle.arbiter_lane.specs.declared.line.LaneLine.{LaneLine}
use Rattle.arbiter_lane.specs.Lines.{Become, AcknowledgesSlots, AllocatesSlots, RisesTo, IsEntered, HasStartedAgain}
use Rattle.arbiter_lane.specs.Parts.{RisenAreMarked, HaveEntriesMarked}
use Rattle.arbiter_lane.proofs.Changes.{UpTo, line_between}
use Rattle.arbiter_lane.proofs.Recording.{IsEntered-already}

-- a line that is not marked has not changed what it owes or what is entered of it, nor lost its mark
pub record IsStill (marks : Places) (dst : ℕ) (old new : LaneLine) : Type 0 where
  pub was : is_marked marks dst ≡ false
  pub owed : new.count.demanded + new.count.lost ≡ old.count.demanded + old.count.lost
  pub entered : new.entered ≡ old.entered

marked-by : (relation : ℕ → LaneLine → LaneLine → Type 0) (marks marks' : Places) (before after : List LaneLine) → Become relation before after →
    ((dst : ℕ) (old new : LaneLine) → relation dst old new → is_marked marks' dst ≡ false → IsStill marks dst old new) → RisenAreMarked marks before → RisenAreMarked marks' after
marked-by relation marks marks' before after become stays marked dst line here none =
    let there = line_between after before (sym become.as_many) dst line here in
    let old = get_or before dst line in
    let still = stays dst old line (become.each dst old line there here) none in
    let was = marked dst old there still.was in
    omega (arith, was, still.owed, still.entered)

pub marked-acknowledged : (slots : ℕ → ℕ) (marks : Places) (before after : List LaneLine) → Become (λ dst. AcknowledgesSlots (slots dst)) before after → RisenAreMarked marks before → RisenAreMarked marks after
marked-acknowledged slots marks before after become =
    marked-by (λ dst. AcknowledgesSlots (slots dst)) marks marks before after become
    (λ dst old new changed none. record { was = none; owed = omega (arith, changed.count.demanded, changed.count.lost); entered = changed.entered })

pub marked-allocated : (slots : ℕ → ℕ) (marks : Places) (before after : List LaneLine) → Become (λ dst. AllocatesSlots (slots dst)) before after → RisenAreMarked marks before → RisenAreMarked marks after
marked-allocated slots marks before after become =
    marked-by (λ dst. AllocatesSlots (slots dst)) marks marks before after become
    (λ dst old new changed none. record { was = none; owed = omega (arith, changed.count.demanded, changed.count.lost); entered = changed.entered })

pub marked-unrisen : (marks : Places) (before after : List LaneLine) → Become (λ dst. RisesTo 0) before after → RisenAreMarked marks before → RisenAreMarked marks after
marked-unrisen marks before after become =
    marked-by (λ dst. RisesTo 0) marks marks before after become
    (λ dst old new changed none. record { was = none; owed = omega (arith, changed.count.demanded, changed.count.lost); entered = changed.entered })

-- one line changes, and is marked
pub marked-set : (marks marks' : Places) (lines : List LaneLine) (at : ℕ) (new : LaneLine) → at < length lines → ((place : ℕ) → is_marked marks' place ≡ (is_marked marks place || place == at)) →
    RisenAreMarked marks lines → RisenAreMarked marks' (set lines at new)
marked-set marks marks' lines at new within is_set marked dst line here none =
    let (was, apart) = or_parts (is_marked marks dst) (dst == at) (sym (is_set dst) ∙ none) in
    let other : dst ≢ at = λ e. false≢true (sym apart ∙ eq-eqb dst at e) in
    let there = line_between (set lines at new) lines (sym (length-set lines at new)) dst line here in
    let same : line ≡ get_or lines dst line = sym (get_or_from_slice_get (set lines at new) dst line line here) ∙ get_or-set_other lines at dst new line other in
    marked dst line (there ∙ ap Some (sym same)) was

-- all start again
pub marked-begun : (marks : Places) (before after : List LaneLine) → Become (λ dst. HasStartedAgain) before after → RisenAreMarked marks after
marked-begun marks before after become dst line here none =
    let there = line_between after before (sym become.as_many) dst line here in
    let started = become.each dst (get_or before dst line) line there here in
    omega (arith, started.entered, started.count.demanded, started.count.lost)

-- all are entered
pub marked-entered : (marks : Places) (before after : List LaneLine) → Become (λ dst. IsEntered) before after → RisenAreMarked marks after
marked-entered marks before after become dst line here none =
    let there = line_between after before (sym become.as_many) dst line here in
    let entered = become.each dst (get_or before dst line) line there here in
    omega (arith, entered.entered, entered.count.demanded, entered.count.lost)

-- what is written through the slice of all lines
pub marked-written : {Z : Type 0} (marks : Places) (lines : Vec LaneLine Z) (old new : List LaneLine) → old ≡ lines.items → length new ≡ length old → RisenAreMarked marks new → RisenAreMarked marks (with_items lines new).items
marked-written marks lines old new is as_many =
    subst (RisenAreMarked marks) (sym (with_items_is lines new (as_many ∙ (ap length is ∙ sym lines.ok.0))))

-- ---- what is recorded

-- with a reset every line is looked at
pub entries-marked : (marks : Places) (lines : List LaneLine) → length lines ≤ 256 → ((place : ℕ) → place < 256 → is_marked marks place ≡ true) → HaveEntriesMarked marks true lines
entries-marked marks lines few all dst line here none =
    let within = slice_get_within lines dst line here in
    absurd (false≢true (sym none ∙ all dst (omega (arith, within, few))))

pub all-marked : (marks : Places) (lines : List LaneLine) → length lines ≤ 256 → ((place : ℕ) → place < 256 → is_marked marks place ≡ true) → RisenAreMarked marks lines
all-marked marks lines few all dst line here none =
    let within = slice_get_within lines dst line here in
    absurd (false≢true (sym none ∙ all dst (omega (arith, within, few))))

-- a line that is passed over stays as it is
pub entered-past : (marks : Places) (before lines : List LaneLine) (at to : ℕ) → RisenAreMarked marks before → ((place : ℕ) → at ≤ place → place < to → is_marked marks place ≡ false) →
    Become (UpTo (λ dst. IsEntered) at) before lines → at ≤ to → Become (UpTo (λ dst. IsEntered) to) before lines
entered-past marks before lines at to marked none become upward = record {
  as_many = become.as_many;
  each = λ dst x y was is.
      let up_to = become.each dst x y was is in (
        (λ below. elim (cases_lt dst at) [
          | inl earlier ↦ up_to.0 earlier
          | inr later ↦ subst (λ (z : LaneLine). IsEntered x z) (sym (up_to.1 later)) (IsEntered-already x (marked dst x was (none dst later below)))
        ]),
        (λ above. up_to.1 (omega (arith, above, upward))),
      );
}

pub entered-none : (lines : List LaneLine) → Become (UpTo (λ dst. IsEntered) 0) lines lines
entered-none lines = record {
  as_many = refl;
  each = λ dst x y was is. ((λ below. absurd (omega (arith, below))), (λ above. sym (get_or_from_slice_get lines dst y x is) ∙ get_or_from_slice_get lines dst x x was));
}

pub entered-all : (before lines : List LaneLine) (at : ℕ) → length before ≤ at → Become (UpTo (λ dst. IsEntered) at) before lines → Become (λ dst. IsEntered) before lines
entered-all before lines at past become = record {
  as_many = become.as_many;
  each = λ dst x y was is. let within = slice_get_within before dst x was in (become.each dst x y was is).0 (omega (arith, within, past));
}
