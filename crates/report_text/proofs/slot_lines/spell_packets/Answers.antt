use Rattle.std.proofs.Common.{◌≢◌, ◌-◌, ◌++◌, ℕ, List, Option, take, bit_and, w64, Fits, sym, ap, refl, ◌∙◌, arith, rules}
use Rattle.std.specs.Int.{trailing_zeros}
use Rattle.std.proofs.lemmas.List.{append_assoc, append-nil}
use Rattle.list_facts.proofs.Bits.{kept, kept_whole, within_whole, IsWithin, LowestIsKept, lowest_is_kept}
use Rattle.report_text.specs.SlotLines.{row_text}
use Rattle.report_text.proofs.RowText.{text-of_no_bits, text-of_lowest, held-most, held-lowest}
use Rattle.report_text.proofs.slot_lines.spell_packets.Goals as goal

-- the first source that is left
first : (row : List (Option ℕ)) (rest : ℕ) → Fits w64 rest → rest ≢ 0 → IsWithin row rest → LowestIsKept row rest (trailing_zeros w64 rest)
first row rest fits some within = lowest_is_kept row rest (search rules) some within

pub loop-rest-init : goal.loop-rest-init
loop-rest-init c =
    let row : List (Option ℕ) = c.args.row.now in
    let whole = kept_whole c.args.senders row c.requires.senders in
    record {
      within = within_whole c.args.senders row c.requires.senders;
      fits = rw whole (omega (arith, held-most row));
      written = ap (λ (held : List (Option ℕ)). take c.args.at c.args.buf.now ++ row_text c.args.slot.now c.args.cores.now c.args.from held) whole;
      count = refl;
    }

pub bounds-row-here : goal.bounds-row-here
bounds-row-here c = (first c.args.row.now c.loop-rest.rest c.loop-rest.auto.rest-fits c.loop-rest-test.true c.loop-rest.invariant.within).below

pub spell_place-end-requires-clause-source : goal.spell_place-end-requires-clause-source
spell_place-end-requires-clause-source c =
    omega (arith, (first c.args.row.now c.loop-rest.rest c.loop-rest.auto.rest-fits c.loop-rest-test.true c.loop-rest.invariant.within).below, c.requires.sources)

pub spell_place-end-requires-clause-core : goal.spell_place-end-requires-clause-core
spell_place-end-requires-clause-core c =
    omega (arith, (first c.args.row.now c.loop-rest.rest c.loop-rest.auto.rest-fits c.loop-rest-test.true c.loop-rest.invariant.within).below, c.requires.cores)

pub spell_place-end-requires-clause-room : goal.spell_place-end-requires-clause-room
spell_place-end-requires-clause-room c =
    let lowest = first c.args.row.now c.loop-rest.rest c.loop-rest.auto.rest-fits c.loop-rest-test.true c.loop-rest.invariant.within in
    omega (arith, held-lowest c.loop-rest.rest _ c.args.row.now lowest, c.loop-rest.invariant.fits, c.loop-rest.invariant.count, c.requires.room)

pub loop-rest-preserved : goal.loop-rest-preserved
loop-rest-preserved c =
    let was = c.loop-rest in
    let number = c.args.slot.now in
    let cores : List (Option ℕ) = c.args.cores.now in
    let row : List (Option ℕ) = c.args.row.now in
    let lowest = first row was.rest was.auto.rest-fits c.loop-rest-test.true was.invariant.within in
    let left : List ℕ = row_text number cores c.args.from (kept (bit_and was.rest (was.rest - 1)) row) in
    record {
      within = lowest.within;
      fits = omega (arith, held-lowest was.rest _ row lowest, was.invariant.fits, c.spell_place-end.ensures.fits);
      written = ap (λ (t : List ℕ). t ++ left) c.spell_place-end.ensures.written
          ∙ (append_assoc (take was.end was.buf) _ left
          ∙ (ap (λ (t : List ℕ). take was.end was.buf ++ t) (sym (text-of_lowest number cores c.args.from was.rest _ row lowest)) ∙ was.invariant.written));
      count = c.spell_place-end.ensures.count ∙ was.invariant.count;
    }

pub returns-clause-written : goal.returns-clause-written
returns-clause-written c =
    let text : List ℕ = take c.loop-rest.end c.loop-rest.buf in
    sym (append-nil text)
    ∙ (ap (λ (t : List ℕ). text ++ t) (sym (text-of_no_bits c.args.slot.now c.args.cores.now c.args.from c.loop-rest.rest c.args.row.now c.loop-rest-test.false)) ∙ c.loop-rest.invariant.written)
