-- Calls one after the other, and what arrives one after the other.
use Rattle.std.proofs.Common.{◌≡◌, ℕ, List, [], ◌∷◌, ◌++◌, map, drop, Some, None, sym, ◌∙◌, ap, subst, refl, append_assoc}
use Rattle.std.proofs.lemmas.List.{append-nil}
use Rattle.std.specs.Prelude.{slice_get}
use Rattle.lane_rounds.specs.State.{with_each}
use Rattle.lane_rounds.specs.Parts.{Each}

pub with_each-more : {X Y : Type 0} (call : X → Y) (xs : List X) (x : X) (calls : List Y) → with_each call (xs ++ x ∷ []) calls ≡ call x ∷ with_each call xs calls
with_each-more call [] x calls = refl
with_each-more call (y ∷ xs) x calls = with_each-more call xs x (call y ∷ calls)

-- ---- what arrives

-- of all that arrives some have come, for which this stands; the others are still due
pub record HaveCome {T : Type 0} (spell : T → List ℕ) (Q : T → Type 0) (Stands : List T → Type 0) (due : List (List ℕ)) (packets : List T) : Type 0 where
  pub before : List T
  pub after : List T
  pub parts : packets ≡ before ++ after
  pub left : due ≡ map spell after
  pub each : Each Q after
  pub stands : Stands before

pub none-yet : {T : Type 0} (spell : T → List ℕ) (Q : T → Type 0) (Stands : List T → Type 0) (due : List (List ℕ)) (packets : List T) →
    due ≡ map spell packets → Each Q packets → Stands [] → HaveCome spell Q Stands due packets
none-yet spell Q Stands due packets is each stands = record { before = []; after = packets; parts = refl; left = is; each = each; stands = stands }

-- the first that is due
pub record First {T : Type 0} (spell : T → List ℕ) (bytes : List ℕ) (packets : List T) : Type 0 where
  pub first : T
  pub rest : List T
  pub parts : packets ≡ first ∷ rest
  pub bytes_of : bytes ≡ spell first

pub first-of : {T : Type 0} (spell : T → List ℕ) (bytes : List ℕ) (due : List (List ℕ)) (packets : List T) → due ≡ map spell packets → Some bytes ≡ slice_get due 0 → First spell bytes packets
first-of spell bytes due [] is one = let none = one ∙ ap (λ (d : List (List ℕ)). slice_get d 0) is in absurd (cc)
first-of spell bytes due (p ∷ rest) is one = let same = one ∙ ap (λ (d : List (List ℕ)). slice_get d 0) is in record { first = p; rest = rest; parts = refl; bytes_of = cc }

pub one-more : {T : Type 0} (spell : T → List ℕ) (Q : T → Type 0) (Stands Now : List T → Type 0) (due left : List (List ℕ)) (packets : List T) (bytes : List ℕ) →
    Some bytes ≡ slice_get due 0 → left ≡ drop 1 due →
    ((before : List T) (p : T) → Q p → bytes ≡ spell p → Stands before → Now (before ++ p ∷ [])) →
    HaveCome spell Q Stands due packets → HaveCome spell Q Now left packets
one-more spell Q Stands Now due left packets bytes one now step some =
    let f = first-of spell bytes due some.after some.left one in
    let each = subst (Each Q) f.parts some.each in
    record {
      before = some.before ++ f.first ∷ [];
      after = f.rest;
      parts = some.parts ∙ ap (λ xs. some.before ++ xs) f.parts ∙ sym (append_assoc some.before (f.first ∷ []) f.rest);
      left = now ∙ ap (drop 1) (some.left ∙ ap (map spell) f.parts);
      each = each.1;
      stands = step some.before f.first each.0 f.bytes_of some.stands;
    }

none-left : {T : Type 0} (spell : T → List ℕ) (due : List (List ℕ)) (packets : List T) → due ≡ map spell packets → None ≡ slice_get due 0 → packets ≡ []
none-left spell due [] is none = refl
none-left spell due (p ∷ rest) is none = let some = none ∙ ap (λ (d : List (List ℕ)). slice_get d 0) is in absurd (cc)

pub all-come : {T : Type 0} (spell : T → List ℕ) (Q : T → Type 0) (Stands : List T → Type 0) (due : List (List ℕ)) (packets : List T) →
    None ≡ slice_get due 0 → HaveCome spell Q Stands due packets → Stands packets
all-come spell Q Stands due packets none some =
    let empty = none-left spell due some.after some.left none in
    subst Stands (sym (some.parts ∙ ap (λ xs. some.before ++ xs) empty ∙ append-nil some.before)) some.stands

-- what is at hand is all that arrives
pub at_hand-comes : {T : Type 0} (spell : T → List ℕ) (Q : T → Type 0) (Stands Now : List T → Type 0) (due : List (List ℕ)) (packets : List T) (bytes : List ℕ) →
    due ≡ bytes ∷ [] → ((before : List T) (p : T) → Q p → bytes ≡ spell p → Stands before → Now (before ++ p ∷ [])) →
    due ≡ map spell packets → Each Q packets → Stands [] → Now packets
at_hand-comes spell Q Stands Now due packets bytes one step is each stands =
    all-come spell Q Now (drop 1 due) packets (sym (ap (λ (d : List (List ℕ)). slice_get (drop 1 d) 0) one))
    (one-more spell Q Stands Now due (drop 1 due) packets bytes (sym (ap (λ (d : List (List ℕ)). slice_get d 0) one)) refl step (none-yet spell Q Stands due packets is each stands))
