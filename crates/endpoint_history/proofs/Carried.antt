-- Confirmed totals.
use Rattle.std.proofs.Common.{◌≡◌, ℕ, ◌+◌, ◌<◌, ◌≤◌, Bool, ◌&&◌, ◌||◌, cond, ◌==◌, List, [], ◌∷◌, ◌++◌, Option, Some, None, sym, ◌∙◌, ap, subst, refl, inl, inr, arith}
use Rattle.std.specs.Prelude.{max}
use Rattle.std.specs.List.{list_any}
use Rattle.std.proofs.lemmas.Bool.{cases_eq, cases_Bool, eq-eqb, ne_eqb}
use Rattle.ack_window.specs.declared.acknowledgement.Decision.{Decision}
use Rattle.ack_window.specs.declared.acknowledgement.Decision.TheVariants.{Acknowledged, Lost}
use Rattle.ack_window.specs.declared.send_window.Unresolved.{Unresolved}
use Rattle.ack_window.specs.Acknowledgement.{is_acknowledged, decision_read}
use Rattle.ack_window.specs.Ends.{content_of}
use Rattle.ack_window.specs.Outstanding.{decided_in, left_in}
use Rattle.ack_window.specs.Sends.{Event, Sends, Reads, newest_of, numbers_sent, decision_of, first_decision}
use Rattle.ack_window.specs.Versions.{reorder_of, span_of}
use Rattle.ack_window.proofs.Sending.{decision_of-above}
use Rattle.fcp_framing.specs.declared.packet.Demand.{Demand}
use Rattle.endpoint_history.specs.Agent.{version_of, numbers, total}
use Rattle.endpoint_history.specs.Confirmed.{total_named, carried_in, carried, carried_by}
use Rattle.endpoint_history.specs.Tellings.{Among}
use Rattle.endpoint_history.specs.AgentLaws.{ConfirmedByGreatest, CarriedIsWhatIsShown}
use Rattle.endpoint_history.proofs.Totals.{named-total}
use Rattle.endpoint_history.proofs.Members.{among-append}

-- each number sent has its content
sent-content : {T : Type 0} (sent : List (Event T)) (s : Unresolved T) → Among s (numbers_sent sent) → (s.number ≤ newest_of sent) × (content_of sent s.number ≡ Some s.content)
sent-content [] s among = absurd among
sent-content (Reads ack ∷ sent) s among = sent-content sent s among
sent-content {T} (Sends content ∷ sent) s among =
    elim (among-append s (numbers_sent sent) (record { number = newest_of sent + 1; content = content } ∷ []) among) [
      | inl before ↦
          let it = sent-content sent s before in
          let low = it.0 in
          (omega arith, subst (λ (b : Bool). cond b (Some content) (content_of sent s.number) ≡ Some s.content) (sym (ne_eqb s.number (newest_of sent + 1) (omega arith))) it.1)
      | inr now ↦ elim now [
        | inl here ↦
            subst (λ (x : Unresolved T). (x.number ≤ newest_of sent + 1) × (content_of (Sends content ∷ sent) x.number ≡ Some x.content)) here
            (omega arith, ap (λ b. cond b (Some content) (content_of sent (newest_of sent + 1))) (eq-eqb (newest_of sent + 1) (newest_of sent + 1) refl))
        | inr never ↦ absurd never
      ]
    ]

abbrev names : ℕ → ℕ → List Demand → Bool
names dst most demands = list_any (λ (d : Demand). d.dst == dst && d.total == most) demands

-- a list names the total exactly where that is the greatest that it names
names-total : (dst most : ℕ) (demands : List Demand) → 0 < most → total_named dst demands ≤ most → names dst most demands ≡ (total_named dst demands == most)
names-total dst most [] some low = sym (ne_eqb 0 most (omega arith))
names-total dst most (d ∷ demands) some low =
    elim (cases_eq d.dst dst) [
      | inr other ↦ rw (ne_eqb d.dst dst other) (names-total dst most demands some (rw (ne_eqb d.dst dst other) at low))
      | inl same ↦
          let low_all : max d.total (total_named dst demands) ≤ most = rw (eq-eqb d.dst dst same) at low in
          rw (eq-eqb d.dst dst same)
          (elim (cases_eq d.total most) [
            | inl is ↦ rw (eq-eqb d.total most is) (sym (eq-eqb (max d.total (total_named dst demands)) most (omega arith)))
            | inr less ↦
                rw (ne_eqb d.total most less)
                (names-total dst most demands some (omega arith)
                ∙ elim (cases_eq (total_named dst demands) most) [
                  | inl is ↦ eq-eqb (total_named dst demands) most is ∙ sym (eq-eqb (max d.total (total_named dst demands)) most (omega arith))
                  | inr no_more ↦ ne_eqb (total_named dst demands) most no_more ∙ sym (ne_eqb (max d.total (total_named dst demands)) most (omega arith))
                ])
          ])
    ]

carried-greatest : (test : ℕ → Bool) (dst most : ℕ) (sent : List (Unresolved (List Demand))) → 0 < most →
    ((s : Unresolved (List Demand)) → Among s sent → total_named dst s.content ≤ most) →
    (carried_in test dst sent ≤ most) × (list_any (λ s. test s.number && names dst most s.content) sent ≡ (carried_in test dst sent == most))
carried-greatest test dst most [] some low = (omega arith, sym (ne_eqb 0 most (omega arith)))
carried-greatest test dst most (s ∷ sent) some low =
    let rest = carried-greatest test dst most sent some (λ x among. low x (inr among)) in
    let here = low s (inl refl) in
    let below = rest.0 in
    elim (cases_Bool (test s.number)) [
      | inr fails ↦ rw fails rest
      | inl holds ↦
          rw holds (
            omega arith,
            ap (λ b. b || list_any (λ x. test x.number && names dst most x.content) sent) (names-total dst most s.content some here)
                ∙ ap (λ b. (total_named dst s.content == most) || b) rest.1
                ∙ elim (cases_eq (total_named dst s.content) most) [
                  | inl is ↦ rw (eq-eqb (total_named dst s.content) most is) (sym (eq-eqb (max (total_named dst s.content) (carried_in test dst sent)) most (omega arith)))
                  | inr less ↦
                      rw (ne_eqb (total_named dst s.content) most less)
                      (elim (cases_eq (carried_in test dst sent) most) [
                        | inl is ↦ eq-eqb (carried_in test dst sent) most is ∙ sym (eq-eqb (max (total_named dst s.content) (carried_in test dst sent)) most (omega arith))
                        | inr no_more ↦ ne_eqb (carried_in test dst sent) most no_more ∙ sym (ne_eqb (max (total_named dst s.content) (carried_in test dst sent)) most (omega arith))
                      ])
                ],
          )
    ]

pub confirmed_by_greatest : ConfirmedByGreatest
confirmed_by_greatest endpoints g history dst some =
    (carried-greatest (λ number. is_acknowledged (decision_of (reorder_of (version_of history)) (span_of (version_of history)) (numbers endpoints g history) number)) dst
    (total g history dst) (numbers_sent (numbers endpoints g history)) some
    (λ s among. named-total endpoints g history s.number s.content dst (sent-content (numbers endpoints g history) s among).1)).1

-- ---- what an acknowledgement changes

carried-append : (test : ℕ → Bool) (dst : ℕ) (xs ys : List (Unresolved (List Demand))) → carried_in test dst (xs ++ ys) ≡ max (carried_in test dst xs) (carried_in test dst ys)
carried-append test dst [] ys = omega arith
carried-append test dst (s ∷ xs) ys =
    let rest = carried-append test dst xs ys in
    elim (cases_Bool (test s.number)) [ inl holds ↦ rw holds (omega arith) | inr fails ↦ rw fails rest ]

carried-sends : (reorder span : ℕ) (content : List Demand) (sent : List (Event (List Demand))) (dst : ℕ) → carried reorder span (Sends content ∷ sent) dst ≡ carried reorder span sent dst
carried-sends reorder span content sent dst =
    let test = λ (n : ℕ). is_acknowledged (decision_of reorder span sent n) in
    let parts = carried-append test dst (numbers_sent sent) (record { number = newest_of sent + 1; content = content } ∷ []) in
    let none : carried_in test dst (record { number = newest_of sent + 1; content = content } ∷ []) ≡ 0 = ap (λ d. cond (is_acknowledged d) (max (total_named dst content) 0) 0) (decision_of-above reorder span sent (newest_of sent + 1) (omega arith)) in
    omega arith

-- acknowledged before, and shown now
carried-shown : (before now : ℕ → Option Decision) (dst : ℕ) (xs : List (Unresolved (List Demand))) →
    carried_in (λ n. is_acknowledged (first_decision (before n) (now n))) dst xs
    ≡ max (carried_in (λ n. is_acknowledged (before n)) dst xs) (carried_by (decided_in now (left_in before xs)) dst)
carried-shown before now dst [] = refl
carried-shown before now dst (s ∷ xs) =
    let rest = carried-shown before now dst xs in
    one (before s.number) (now s.number) refl refl rest
  where
    one : (b n : Option Decision) → before s.number ≡ b → now s.number ≡ n →
        carried_in (λ k. is_acknowledged (first_decision (before k) (now k))) dst xs ≡ max (carried_in (λ k. is_acknowledged (before k)) dst xs) (carried_by (decided_in now (left_in before xs)) dst) →
        carried_in (λ k. is_acknowledged (first_decision (before k) (now k))) dst (s ∷ xs)
        ≡ max (carried_in (λ k. is_acknowledged (before k)) dst (s ∷ xs)) (carried_by (decided_in now (left_in before (s ∷ xs))) dst)
    one (Some Acknowledged) n was is rest = rw was (omega arith)
    one (Some Lost) n was is rest = rw was rest
    one None None was is rest = rw (was, is) rest
    one None (Some Acknowledged) was is rest = rw (was, is) (omega arith)
    one None (Some Lost) was is rest = rw (was, is) rest

pub carried_is_what_is_shown : CarriedIsWhatIsShown
carried_is_what_is_shown = record {
  nothing = λ reorder span dst. refl;
  sends = λ reorder span content sent dst. carried-sends reorder span content sent dst;
  reads = λ reorder span ack sent dst. carried-shown (λ n. decision_of reorder span sent n) (λ n. decision_read reorder span (newest_of sent) ack n) dst (numbers_sent sent);
}
