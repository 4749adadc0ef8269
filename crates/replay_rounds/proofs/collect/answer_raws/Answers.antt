use Rattle.std.proofs.Common.{◌≡◌, ◌+◌, ◌≤◌, ℕ, List, [], ◌∷◌, ◌++◌, Option, length, map, get_or, take, sym, ap, ◌∙◌, arith}
use Rattle.std.proofs.lemmas.List.{length-take-le, map-append, take_all, take_more}
use Rattle.replay_rounds.specs.Collecting.{answers_of, with_numbers, RawPart, RoundPart}
use Rattle.replay_rounds.proofs.PartLemmas.{answers_more}
use Rattle.replay_rounds.proofs.collect.answer_raws.Goals as goal

pub loop-at-preserved : goal.loop-at-preserved
loop-at-preserved c =
    let raws : List RawPart = c.args.raws.now in
    let rounds : List RoundPart = c.args.rounds.now in
    let at = c.loop-at.at in
    let raw : RawPart = c.index-raws-at.result in
    let part : RoundPart = c.index-rounds-at.result in
    let done : List RawPart = take at raws in
    let new : List (Option ℕ) = c.in_ok-answers-2.field-0.items in
    let long : length done ≡ at = length-take-le at raws (omega (arith, c.loop-at-test.true)) in
    let more : take (at + 1) raws ≡ done ++ raw ∷ [] = take_more raws at raw c.loop-at-test.true ∙ ap (λ (r : RawPart). done ++ r ∷ []) (sym c.index-raws-at.is) in
    let here : part ≡ get_or rounds (length done) part = c.index-rounds-at.is ∙ ap (λ (k : ℕ). get_or rounds k part) (sym long) in
    ap (map (λ v. v.items)) c.in_ok-push.ensures.items
    ∙ (map-append (λ v. v.items) c.loop-at.answers.items (c.in_ok-answers-2.field-0 ∷ [])
    ∙ (ap (λ (xs : List (List (Option ℕ))). xs ++ new ∷ []) c.loop-at.invariant
    ∙ (ap (λ (zs : List (Option ℕ)). answers_of done rounds ++ zs ∷ [])
    (c.in_ok-answers-2.ensures ∙ (ap (λ (rs : List (ℕ × ℕ)). with_numbers rs raw.answers) c.refused.ensures ∙ ap (λ (p : RoundPart). with_numbers p.refused raw.answers) here))
    ∙ (sym (answers_more done raw rounds part (omega (arith, long, c.loop-at-test.true, c.requires)))
    ∙ ap (λ (rs : List RawPart). answers_of rs rounds) (sym more)))))

pub returns : goal.returns
returns c =
    let past : length c.args.raws.now ≤ c.loop-at.at = omega (arith, c.loop-at-test.false) in
    c.loop-at.invariant ∙ ap (λ (rs : List RawPart). answers_of rs c.args.rounds.now) (take_all c.loop-at.at c.args.raws.now past)
