-- One step of output after another.
use Rattle.std.proofs.Common.{◌≡◌, ◌≤◌, ℕ, List, [], ◌++◌, Result, Ok, Err, IsErrAnd, refl, sym, ap, ◌∙◌, subst, arith}
use Rattle.std.specs.Io.KnownBytes.{Appends}
use Rattle.std.proofs.KnownBytes.{Appends-trans, Appends-nil}
use Rattle.std.proofs.lemmas.List.{append_assoc, append-nil}
use Rattle.text_output.specs.Content.{SinkContent, OutputContent}
use Rattle.text_output.specs.Transfer.{AppendsFront}
use Rattle.text_output.specs.Output.{Gives, Passes, Passed, EndsText, Writes, IsCaused}
use Rattle.text_output.specs.declared.output.Stop.TheVariants.{Write, Memory}
use Rattle.text_output.specs.declared.output.Stop.{Stop}
use Rattle.std.proofs.Common.{OnOk}

Gives-then : (a b c : OutputContent) (x y : List ℕ) → Gives a b x → Gives b c y → Gives a c (x ++ y)
Gives-then a b c x y (given, was, is) (given', was', is') = (
  given ++ given',
  Appends-trans a.sink.held b.sink.held c.sink.held given given' was was',
  sym (append_assoc a.gathered x y)
      ∙ (ap (λ (xs : List ℕ). xs ++ y) is ∙ (append_assoc given b.gathered y ∙ (ap (λ (xs : List ℕ). given ++ xs) is' ∙ sym (append_assoc given given' c.gathered)))),
)

-- what a failed step leaves is a prefix of all that was to come
front_then : (a b c : OutputContent) (x y : List ℕ) → Gives a b x → AppendsFront b.sink.held c.sink.held (b.gathered ++ y) → AppendsFront a.sink.held c.sink.held (a.gathered ++ (x ++ y))
front_then a b c x y (given, was, is) (front, rest, parts, was') = (
  given ++ front,
  rest,
  sym (append_assoc a.gathered x y)
      ∙ (ap (λ (xs : List ℕ). xs ++ y) is ∙ (append_assoc given b.gathered y ∙ (ap (λ (xs : List ℕ). given ++ xs) parts ∙ sym (append_assoc given front rest)))),
  Appends-trans a.sink.held b.sink.held c.sink.held given front was was',
)

front_more : (a b : OutputContent) (x y : List ℕ) → AppendsFront a.sink.held b.sink.held (a.gathered ++ x) → AppendsFront a.sink.held b.sink.held (a.gathered ++ (x ++ y))
front_more a b x y (front, rest, parts, was) =
    (front, rest ++ y, sym (append_assoc a.gathered x y) ∙ (ap (λ (xs : List ℕ). xs ++ y) parts ∙ append_assoc front rest y), was)

later_cause : (f f' f'' : ℕ) (e : Stop) → f ≤ f' → IsCaused f' f'' e → IsCaused f f'' e
later_cause f f' f'' Write le rose = omega (arith, le, rose)
later_cause f f' f'' Memory le none = tt

-- a step that went well, and then another
then : (a b c : OutputContent) (x y : List ℕ) (r : Result (Unit {0}) Stop) → Passed a b x → Passes b c y r → Passes a c (x ++ y) r
then a b c x y (Ok u) first second = record {
  name = second.name ∙ first.name;
  later = omega (arith, first.later, second.later);
  all = Gives-then a b c x y first.all second.all;
  front = tt;
  cause = tt;
}
then a b c x y (Err e) first second = record {
  name = second.name ∙ first.name;
  later = omega (arith, first.later, second.later);
  all = tt;
  front = front_then a b c x y first.all second.front;
  cause = later_cause a.sink.faults b.sink.faults c.sink.faults e first.later second.cause;
}

-- a step that stopped, and with it what was to come after it
cut : (a b : OutputContent) (x y : List ℕ) (e : Stop) (r : Result (Unit {0}) Stop) → Passes a b x (Err e) → IsErrAnd r (λ d. d ≡ e) → Passes a b (x ++ y) r
cut a b x y e (Ok u) stopped is = absurd is
cut a b x y e (Err d) stopped is = record {
  name = stopped.name;
  later = stopped.later;
  all = tt;
  front = front_more a b x y stopped.front;
  cause = subst (IsCaused a.sink.faults b.sink.faults) (sym is) stopped.cause;
}

-- the same, where the whole text is known to be made of these parts
pub Passes-after : {a b c : OutputContent} {x y z : List ℕ} {r : Result (Unit {0}) Stop} → Passed a b x → Passes b c y r → z ≡ x ++ y → Passes a c z r
Passes-after {a = a} {b = b} {c = c} {x = x} {y = y} {r = r} first second is = subst (λ (w : List ℕ). Passes a c w r) (sym is) (then a b c x y r first second)

pub Passes-stopped : {a b : OutputContent} {x z : List ℕ} {e : Stop} {r : Result (Unit {0}) Stop} (y : List ℕ) → Passes a b x (Err e) → IsErrAnd r (λ d. d ≡ e) → z ≡ x ++ y → Passes a b z r
Passes-stopped {a = a} {b = b} {x = x} {e = e} {r = r} y stopped is parts = subst (λ (w : List ℕ). Passes a b w r) (sym parts) (cut a b x y e r stopped is)

-- a step that stops after another
pub Passes-broken : {a b c : OutputContent} {x y whole : List ℕ} {e : Stop} {r : Result (Unit {0}) Stop} (rest : List ℕ) → Passed a b x → Passes b c y (Err e) → IsErrAnd r (λ d. d ≡ e) → whole ≡ (x ++ y) ++ rest → Passes a c whole r
Passes-broken {a = a} {b = b} {c = c} {x = x} {y = y} {e = e} {r = r} rest first second is parts =
    Passes-stopped rest (then a b c x y (Err e) first second) is parts

pub Passes-same : {a b : OutputContent} {x y : List ℕ} {r : Result (Unit {0}) Stop} → Passes a b x r → x ≡ y → Passes a b y r
Passes-same {a = a} {b = b} {r = r} passed is = subst (λ (w : List ℕ). Passes a b w r) is passed

pub Passes-nothing : (a : OutputContent) → Passed a a []
Passes-nothing a = record { name = refl; later = omega arith; all = ([], Appends-nil a.sink.held, append-nil a.gathered); front = tt; cause = tt }

-- a step that stops for want of memory before it gives anything to the sink
pub Passes-no_memory : (a : OutputContent) (x : List ℕ) (r : Result (Unit {0}) Stop) → IsErrAnd r (λ d. d ≡ Memory) → Passes a a x r
Passes-no_memory a x (Ok u) is = absurd is
Passes-no_memory a x (Err d) is = record {
  name = refl;
  later = omega arith;
  all = tt;
  front = ([], a.gathered ++ x, refl, Appends-nil a.sink.held);
  cause = subst (IsCaused a.sink.faults a.sink.faults) (sym is) tt;
}

-- text that began with nothing gathered, and of which nothing is gathered any more, is written
whole : (a b : OutputContent) (x : List ℕ) (r : Result (Unit {0}) Stop) → a.gathered ≡ [] → EndsText a b x r → Writes a.sink b.sink x r
whole a b x (Ok u) none ends =
    let (given, was, is) = ends.passes.all in
    let same : given ≡ x = sym (append-nil given) ∙ (ap (λ (xs : List ℕ). given ++ xs) (sym ends.empty) ∙ (sym is ∙ ap (λ (xs : List ℕ). xs ++ x) none)) in
    record { later = ends.passes.later; all = subst (Appends a.sink.held b.sink.held) same was; front = tt; cause = tt }
whole a b x (Err e) none ends = record {
  later = ends.passes.later;
  all = tt;
  front = subst (λ (xs : List ℕ). AppendsFront a.sink.held b.sink.held (xs ++ x)) none ends.passes.front;
  cause = ends.passes.cause;
}

pub Writes-whole : (a b : OutputContent) (old new : SinkContent) (x : List ℕ) (r : Result (Unit {0}) Stop) → a.sink ≡ old → b.sink ≡ new → a.gathered ≡ [] → EndsText a b x r → Writes old new x r
Writes-whole a b old new x r before after none ends =
    subst (λ (s : SinkContent). Writes s new x r) before (subst (λ (s : SinkContent). Writes a.sink s x r) after (whole a b x r none ends))

pub Writes-nothing : (sink : SinkContent) (x : List ℕ) (r : Result (Unit {0}) Stop) → IsErrAnd r (λ d. d ≡ Memory) → Writes sink sink x r
Writes-nothing sink x (Ok u) is = absurd is
Writes-nothing sink x (Err d) is = record { later = omega arith; all = tt; front = ([], x, refl, Appends-nil sink.held); cause = subst (IsCaused sink.faults sink.faults) (sym is) tt }

pub never_ok : (P : Type 0) (e : Stop) (r : Result (Unit {0}) Stop) → IsErrAnd r (λ d. d ≡ e) → OnOk r P
never_ok P e (Ok t) is = absurd is
never_ok P e (Err d) is = tt

pub OnOk-always : {P : Type 0} (r : Result (Unit {0}) Stop) → P → OnOk r P
OnOk-always (Ok t) p = p
OnOk-always (Err e) p = tt

pub Ends-stopped : {a b : OutputContent} {x : List ℕ} {r : Result (Unit {0}) Stop} (e : Stop) → Passes a b x r → IsErrAnd r (λ d. d ≡ e) → EndsText a b x r
Ends-stopped {b = b} {r = r} e passes is = record { passes = passes; empty = never_ok (b.gathered ≡ []) e r is }
