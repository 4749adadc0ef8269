use Rattle.std.proofs.Common.{◌≡◌, ◌<◌, ℕ, List, length, get_or, sym, ap, ◌∙◌, subst, replicate, arith}
use Rattle.std.specs.Prelude.{vec_capacity}
use Rattle.std.proofs.Math.Nat.{div-eq_of_lt}
use Rattle.std.proofs.lemmas.List.{length-replicate, get_or-replicate}
use Rattle.endpoint_bitmaps.specs.Noted.{NotesTaken}
use Rattle.endpoint_bitmaps.proofs.NamingLemmas.{none_names}
use Rattle.endpoint_bitmaps.proofs.free_maps.FreeMaps.open.Goals as goal

pub invariant_of-result : goal.invariant_of-result
invariant_of-result c =
    let noted = c.in_ok-open.field-0 in
    let senders = c.in_ok-vec.field-0.items in
    let receivers = c.in_ok-vec-2.field-0.items in
    let racks = c.in_ok-vec-3.field-0.items in
    let none : List ℕ = replicate c.args.endpoints 0 in
    let senders_are : senders ≡ none = c.in_ok-vec.ensures.items_if_clones_equal (λ y same. same) in
    let receivers_are : receivers ≡ none = c.in_ok-vec-2.ensures.items_if_clones_equal (λ y same. same) in
    let racks_are : racks ≡ none = c.in_ok-vec-3.ensures.items_if_clones_equal (λ y same. same) in
    let count : length none ≡ c.args.endpoints = length-replicate c.args.endpoints 0 in
    let zero : (words : List ℕ) → words ≡ none → (at : ℕ) → at < length words → get_or words at 0 ≡ 0 = λ words are at below.
    ap (λ (xs : List ℕ). get_or xs at 0) are ∙ get_or-replicate c.args.endpoints at 0 0 (omega (arith, below, ap length are, count)) in
    let notes : List ℕ → List ℕ → Type 0 = NotesTaken (vec_capacity noted.flows) noted.free noted.flows.items in (
      record {
        few = omega (arith, ap length senders_are, count, c.ranges.endpoints.fits);
        receivers_count = omega (arith, ap length senders_are, ap length receivers_are);
        racks_count = omega (arith, ap length senders_are, ap length racks_are);
        leaving_count = omega (arith, ap length senders_are, count, c.in_ok-open-2.ensures.racks, c.in_ok-open-2.field-0.left.ok);
        entering_count = omega (arith, ap length senders_are, count, c.in_ok-open-3.ensures.racks, c.in_ok-open-3.field-0.left.ok);
        hosts = omega arith;
        some_core = omega arith;
        cores = omega arith;
        racks_are = λ endpoint below. zero racks racks_are endpoint below ∙ sym (div-eq_of_lt (omega (arith, below, ap length racks_are, count, c.ranges.endpoints.fits)));
        leaving_shown = c.in_ok-open-2.ensures.left;
        entering_shown = c.in_ok-open-3.ensures.left;
      },
      sym (none_names senders (zero senders senders_are)),
      c.in_ok-open-2.ensures.used,
      c.in_ok-open-3.ensures.used,
      subst (λ (words : List ℕ). notes words receivers) (sym senders_are) (subst (λ (words : List ℕ). notes none words) (sym receivers_are) (c.in_ok-open.ensures c.args.endpoints)),
    )
