-- The flows that are noted, where slots of one flow more are taken.
use Rattle.std.proofs.Common.{◌≡◌, ◌≢◌, ◌<◌, ◌≤◌, ◌+◌, ℕ, List, [], ◌∷◌, ◌++◌, length, get_or, take, map, sym, ap, ◌∙◌, subst, arith, inl, inr, length-append}
use Rattle.std.specs.List.{All, Contains}
use Rattle.std.proofs.lemmas.Bool.{cases_eq, cases_lt}
use Rattle.std.proofs.lemmas.List.{take_all, map-append, length-take-le}
use Rattle.std.proofs.lemmas.List.Elements.{All-push, Contains-push, Contains-append_left}
use Rattle.greedy_rules.specs.declared.flows.Flow.{Flow}
use Rattle.endpoint_bitmaps.specs.Noted.{AreButAt, AreEnds, NotesTaken}

-- the word of one endpoint more is another
one_more_but : (word last : ℕ) (endpoints words words' : List ℕ) → AreButAt word endpoints words → length words' ≡ length words
    → ((at : ℕ) → at ≢ last → get_or words' at 0 ≡ get_or words at 0) → AreButAt word (endpoints ++ last ∷ []) words'
one_more_but word last endpoints words words' all count others = λ at below. elim (cases_eq at last) [
  | inl here ↦ inr (subst (Contains (endpoints ++ last ∷ [])) (sym here) (Contains-push endpoints last))
  | inr other ↦ elim (all at (omega (arith, below, count))) [
    | inl is ↦ inl (others at other ∙ is)
    | inr named ↦ inr (Contains-append_left endpoints (last ∷ []) at named)
  ]
]

pub one_more_noted : (room word : ℕ) (flow : Flow) (flows flows' : List Flow) (senders receivers senders' receivers' : List ℕ) → NotesTaken room word flows senders receivers
    → flows' ≡ take room (flows ++ flow ∷ []) → length senders' ≡ length senders → length receivers' ≡ length receivers → flow.src < length senders → flow.dst < length receivers
    → ((at : ℕ) → at ≢ flow.src → get_or senders' at 0 ≡ get_or senders at 0) → ((at : ℕ) → at ≢ flow.dst → get_or receivers' at 0 ≡ get_or receivers at 0)
    → NotesTaken room word flows' senders' receivers'
one_more_noted room word flow flows flows' senders receivers senders' receivers' noted flows_are senders_count receivers_count src_below dst_below other_senders other_receivers = λ few.
    let more : List Flow = flows ++ flow ∷ [] in
    let count : length more ≡ length flows + 1 = length-append flows (flow ∷ []) in
    let less : length more ≤ room = elim (cases_lt room (length more)) [
      | inr within ↦ within
      | inl above ↦ absurd (omega (arith, few, ap length flows_are, length-take-le room more (omega (arith, above))))
    ] in
    let all : flows' ≡ more = flows_are ∙ take_all room more less in
    let was = noted (omega (arith, less, count)) in
    subst (λ (fs : List Flow). AreEnds word fs senders' receivers') (sym all)
    (record {
      sources = subst (λ (n : ℕ). All (λ (f : Flow). f.src < n) more) (sym senders_count) (All-push (λ (f : Flow). f.src < length senders) flows flow was.sources src_below);
      destinations = subst (λ (n : ℕ). All (λ (f : Flow). f.dst < n) more) (sym receivers_count) (All-push (λ (f : Flow). f.dst < length receivers) flows flow was.destinations dst_below);
      to_send = subst (λ (ends : List ℕ). AreButAt word ends senders') (sym (map-append (λ (f : Flow). f.src) flows (flow ∷ [])))
          (one_more_but word flow.src (map (λ (f : Flow). f.src) flows) senders senders' was.to_send senders_count other_senders);
      to_receive = subst (λ (ends : List ℕ). AreButAt word ends receivers') (sym (map-append (λ (f : Flow). f.dst) flows (flow ∷ [])))
          (one_more_but word flow.dst (map (λ (f : Flow). f.dst) flows) receivers receivers' was.to_receive receivers_count other_receivers);
    })
