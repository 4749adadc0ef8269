-- A step, from what the event does.
use Rattle.std.proofs.Common.{◌≡◌, ◌≢◌, ◌<◌, ℕ, List, ◌∷◌, length, set, get_or, inl, inr, sym, ap, ◌∙◌, subst, arith, length-set}
use Rattle.std.proofs.lemmas.Bool.{cases_eq}
use Rattle.std.proofs.lemmas.List.{get_or-set_same, get_or-set_other}
use Rattle.takeover_history.specs.declared.event.Event.{Event}
use Rattle.takeover_history.specs.declared.event.Refusal.{Refusal}
use Rattle.takeover_history.specs.Events.{PairSetting, Fact, Refused, Log}
use Rattle.takeover_history.specs.Steps.{done, log_of}
use Rattle.takeover_core.specs.declared.node.Node.{Node}
use Rattle.takeover_core.specs.declared.outcome.Outcome.{Outcome}
use Rattle.takeover_core.specs.declared.pair.Pair.{Pair}
use Rattle.takeover_core.specs.Standing.{StandsForLog, PairStandsFor, IsNodeOf}
use Rattle.takeover_core.specs.Outcomes.{outcome_of, answer_of}

-- what an event does is known
pub stands_by : (setting : PairSetting) (pair : Pair) (events : List Event) (event : Event) (fact : Fact) → done setting (log_of setting events) event ≡ fact
    → StandsForLog setting pair (fact ∷ log_of setting events) → PairStandsFor setting pair (event ∷ events)
stands_by setting pair events event fact is stands = subst (λ (f : Fact). StandsForLog setting pair (f ∷ log_of setting events)) (sym is) stands

pub answers_by : (setting : PairSetting) (events : List Event) (event : Event) (fact : Fact) (outcome : Outcome) → done setting (log_of setting events) event ≡ fact
    → outcome ≡ outcome_of setting (log_of setting events) fact → outcome ≡ answer_of setting events event
answers_by setting events event fact outcome is answers = answers ∙ ap (λ (f : Fact). outcome_of setting (log_of setting events) f) (sym is)

refused : (setting : PairSetting) (pair : Pair) (log : Log) (why : Refusal) → StandsForLog setting pair log → StandsForLog setting pair (Refused why ∷ log)
refused setting pair log why s = record {
  fits = s.fits;
  asks_fit = s.asks_fit;
  endpoints_are = s.endpoints_are;
  b_is = s.b_is;
  keeper_is = s.keeper_is;
  turns_are = s.turns_are;
  two = s.two;
  nodes_are = s.nodes_are;
  ends_are = s.ends_are;
  published_are = s.published_are;
  last_is = s.last_is;
  none_is = s.none_is;
}

-- the event is refused
pub stands_refused : (setting : PairSetting) (pair : Pair) (events : List Event) (event : Event) (why : Refusal) → done setting (log_of setting events) event ≡ Refused why → PairStandsFor setting pair events → PairStandsFor setting pair (event ∷ events)
stands_refused setting pair events event why is stands = stands_by setting pair events event (Refused why) is (refused setting pair (log_of setting events) why stands)

-- one of two nodes changed
pub nodes_with : (setting : PairSetting) (log then : Log) (nodes : List Node) (at : ℕ) (now : Node) → length nodes ≡ 2 → at < 2
    → ((number : ℕ) (d : Node) → number < 2 → IsNodeOf setting log number (get_or nodes number d)) → IsNodeOf setting then at now
    → ((number : ℕ) (node : Node) → number < 2 → at ≢ number → IsNodeOf setting log number node → IsNodeOf setting then number node)
    → (number : ℕ) (d : Node) → number < 2 → IsNodeOf setting then number (get_or (set nodes at now) number d)
nodes_with setting log then nodes at now two within are own others number d below = elim (cases_eq at number) [
  | inl here ↦
      let it : IsNodeOf setting then at (get_or (set nodes at now) at d) = subst (IsNodeOf setting then at) (sym (get_or-set_same nodes at now d (omega arith))) own in
      subst (λ (n : ℕ). IsNodeOf setting then n (get_or (set nodes at now) n d)) here it
  | inr other ↦ subst (IsNodeOf setting then number) (sym (get_or-set_other nodes at number now d (λ e. other (sym e)))) (others number (get_or nodes number d) below other (are number d below))
]

pub two_with : (nodes : List Node) (at : ℕ) (now : Node) → length nodes ≡ 2 → length (set nodes at now) ≡ 2
two_with nodes at now two = length-set nodes at now ∙ two
