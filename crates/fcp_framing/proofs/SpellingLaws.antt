-- The laws of the spelling, in both versions.
use Rattle.std.proofs.Common.{◌≡◌, ℕ, ◌<◌, true, false, ltb, List, [], ◌++◌, length, refl, sym, ap, subst, ◌∙◌, inl, inr, arith}
use Rattle.std.proofs.lemmas.Bool.{lt-ltb, ltb-false, cases_lt}
use Rattle.std.proofs.lemmas.List.{append-nil, nil_from_length, get_or_past}
use Rattle.fcp_framing.specs.declared.packet.Up.{Up}
use Rattle.fcp_framing.specs.declared.packet.Down.{Down}
use Rattle.fcp_framing.specs.Spelling.{IsUp, FitsUp, up_bytes, SpellsUp, SpellsDown}
use Rattle.fcp_framing.specs.Fields.{kind_in}
use Rattle.fcp_framing.specs.Refusals.{refuses_up, refuses_down}
use Rattle.fcp_framing.specs.Laws.{SpellOnePacket, HaveOneSpelling, BeginNoOther, RefuseWhatFollows, AreReadBack, WereSpelledSo, AreBytes}
use Rattle.fcp_framing.proofs.Finding.{holds_none}
use Rattle.fcp_framing.proofs.Numbers as numbers
use Rattle.fcp_framing.proofs.UpLaws.{up_reads, up_alone, up_spelled}
use Rattle.fcp_framing.proofs.DownLaws.{down_reads, down_alone, down_spelled}

other_kind : (n m s : ℕ) (bytes more : List ℕ) (a : Up) (b : Down) → SpellsUp n bytes a → SpellsDown m s (bytes ++ more) b → ⊥
other_kind n m s bytes more a b up down =
    let low = (up_reads n bytes more a up).kind in
    let three = (down_reads m s (bytes ++ more) [] b down).kind in
    let same : kind_in (bytes ++ more) ≡ 3 = ap kind_in (sym (append-nil (bytes ++ more))) ∙ three in
    omega arith

other_kind_too : (n m s : ℕ) (bytes more : List ℕ) (a : Up) (b : Down) → SpellsUp n (bytes ++ more) a → SpellsDown m s bytes b → ⊥
other_kind_too n m s bytes more a b up down =
    let three = (down_reads m s bytes more b down).kind in
    let low = (up_reads n (bytes ++ more) [] a up).kind in
    let same : kind_in (bytes ++ more) < 3 = subst (λ (t : List ℕ). kind_in t < 3) (append-nil (bytes ++ more)) low in
    omega arith

pub spell_one_packet : SpellOnePacket
spell_one_packet = record {
  up = λ n m bytes a b one two. sym (up_alone n bytes a one).1 ∙ (up_alone m bytes b two).1;
  down = λ n m s t bytes a b one two. sym (down_alone n s bytes a one).1 ∙ (down_alone m t bytes b two).1;
  either = λ n m s bytes a b one two. other_kind n m s bytes [] a b one (subst (λ (t : List ℕ). SpellsDown m s t b) (sym (append-nil bytes)) two);
}

up_text : (n : ℕ) (bytes : List ℕ) (up : Up) → SpellsUp n bytes up → bytes ≡ up_bytes up
unfolding up_bytes
up_text n bytes up (inl reset) = let kind : up.reset ≡ true = ap (λ (u : Up). u.reset) reset.rules.blank in rw kind reset.text
up_text n bytes up (inr request) = let kind : up.reset ≡ false = request.rules.kind in rw kind request.text

pub have_one_spelling : HaveOneSpelling
have_one_spelling = record { up = up_text; down = λ n s bytes down spelled. spelled.text }

nothing : (more : List ℕ) → ltb 0 (length more) ≡ false → more ≡ []
nothing more none = let few = ltb-false 0 (length more) none in nil_from_length more (omega arith)

pub begin_no_other : BeginNoOther
unfolding refuses_up refuses_down
begin_no_other bytes more (inl one) (inl two) =
    let here = (up_reads one.0 bytes more one.1 one.2).trailing in
    let none = (holds_none (refuses_up two.0 (bytes ++ more)) (up_alone two.0 (bytes ++ more) two.1 two.2).0).trailing in
    nothing more (sym here ∙ none)
begin_no_other bytes more (inr one) (inr two) =
    let here = (down_reads one.0 one.1 bytes more one.2 one.3).trailing in
    let none = (holds_none (refuses_down two.0 two.1 (bytes ++ more)) (down_alone two.0 two.1 (bytes ++ more) two.2 two.3).0).trailing in
    nothing more (sym here ∙ none)
begin_no_other bytes more (inl one) (inr two) = absurd (other_kind one.0 two.0 two.1 bytes more one.1 two.2 one.2 two.3)
begin_no_other bytes more (inr one) (inl two) = absurd (other_kind_too two.0 one.0 one.1 bytes more two.1 one.2 two.2 one.3)

pub refuse_what_follows : RefuseWhatFollows
refuse_what_follows = record {
  up = λ n bytes more up spelled some. (up_reads n bytes more up spelled).first ∙ (let test = lt-ltb 0 (length more) some in rw test refl);
  down = λ n s bytes more down spelled some. (down_reads n s bytes more down spelled).first ∙ (let test = lt-ltb 0 (length more) some in rw test refl);
}

-- ---- what is encoded is read back, and what is read was spelled so

up_spells : (n : ℕ) (up : Up) → IsUp n up → FitsUp up → SpellsUp n (up_bytes up) up
unfolding up_bytes
up_spells n up (inl reset) fits = let kind : up.reset ≡ true = ap (λ (u : Up). u.reset) reset.blank in inl (record { rules = reset; fits = fits; text = rw kind refl })
up_spells n up (inr request) fits = let kind : up.reset ≡ false = request.kind in inr (record { rules = request; fits = fits; text = rw kind refl })

pub are_read_back : AreReadBack
are_read_back = record {
  up = λ n up rules fits. up_alone n _ up (up_spells n up rules fits);
  down = λ n s down rules fits. down_alone n s _ down (record { rules = rules; fits = fits; text = refl });
}

within : (bytes : List ℕ) → AreBytes bytes → numbers.AreBytes bytes
within bytes fits = record {
  below = λ i. elim (cases_lt i (length bytes)) [
    | inl lt ↦ fits i 0 lt
    | inr past ↦ rw (get_or_past bytes i 0 past) (omega arith)
  ];
}

pub were_spelled_so : WereSpelledSo
were_spelled_so = record {
  up = λ n bytes network fits none. up_spelled n bytes network (within bytes fits) none;
  down = λ n s bytes network fits none. down_spelled n s bytes network (within bytes fits) none;
}
