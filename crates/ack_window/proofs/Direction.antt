-- One direction of a connection: what each event keeps of the agreement of its ends.
use Rattle.std.proofs.Common.{◌≡◌, ℕ, ◌+◌, ◌≤◌, Bool, true, false, ◌&&◌, not, cond, nat_lt, ◌==◌, List, [], ◌∷◌, ◌++◌, Option, Some, None, sym, ap, subst, refl, inl, inr, arith}
use Rattle.std.specs.Prelude.{◌⊎◌}
use Rattle.std.proofs.lemmas.Bool.{cases_lt, ltb-true, ne_eqb, and_parts, or_right}
use Rattle.ack_window.specs.declared.acknowledgement.Acknowledgement.{Acknowledgement}
use Rattle.ack_window.specs.declared.acknowledgement.Decision.{Decision}
use Rattle.ack_window.specs.declared.acknowledgement.Decision.TheVariants.{Acknowledged, Lost}
use Rattle.ack_window.specs.Acknowledgement.{shows, finds_lost, decision_by, decision_read}
use Rattle.ack_window.specs.Arrivals.{highest, receive_verdict, is_fresh, is_number_taken, acknowledgement}
use Rattle.ack_window.specs.Outstanding.{MaySendNew}
use Rattle.ack_window.specs.Sends.{Event, Sends, Reads, newest_of, decision_of, first_decision, IsOpen, outstanding_of}
use Rattle.ack_window.proofs.BothEnds.{shown_was_taken, lost_is_never_taken, never_taken, highest-later, open_is_within_span}
use Rattle.ack_window.specs.Ends.{Numbered, IsOfPart, content_of, Agree, IsOf, IsSent, Arrives, IsRead, sender_of, receiver_of}
use Rattle.ack_window.specs.Laws.{AgreementIsKept, TheEndsAgree, LostStaysUntaken, PacketsStayTheirSenders}

-- ---- what was taken stays taken

pub taken-later : (reorder : ℕ) (later arrived : List ℕ) (number : ℕ) → is_number_taken reorder arrived number ≡ true → is_number_taken reorder (later ++ arrived) number ≡ true
taken-later reorder [] arrived number taken = taken
taken-later reorder (latest ∷ later) arrived number taken =
    or_right (latest == number && is_fresh (receive_verdict reorder (later ++ arrived) latest)) (is_number_taken reorder (later ++ arrived) number)
    (taken-later reorder later arrived number taken)

-- ---- a decision, by what was decided before and what an acknowledgement says

earlier_or_now : (before now : Option Decision) (d : Decision) → first_decision before now ≡ Some d → (before ≡ Some d) ⊎ ((before ≡ None) × (now ≡ Some d))
earlier_or_now None now d h = inr (refl, h)
earlier_or_now (Some b) now d h = inl h

not_passed : (passed : Bool) (now : Option Decision) (d : Decision) → cond passed None now ≡ Some d → now ≡ Some d
not_passed true now d h = absurd (cc)
not_passed false now d h = h

shown_by : (s f : Bool) → cond s (Some Acknowledged) (cond f (Some Lost) None) ≡ Some Acknowledged → s ≡ true
shown_by true f h = refl
shown_by false true h = absurd (cc)
shown_by false false h = absurd (cc)

lost_by : (s f : Bool) → cond s (Some Acknowledged) (cond f (Some Lost) None) ≡ Some Lost → f ≡ true
lost_by true f h = absurd (cc)
lost_by false true h = refl
lost_by false false h = absurd (cc)

Agree-nothing : {T : Type 0} (reorder span : ℕ) → Agree {T = T} reorder span [] []
Agree-nothing reorder span = record {
  within = tt;
  none_above = omega arith;
  shown = λ number counted h. absurd (cc);
  lost = λ number counted h. absurd (cc);
  for_good = λ number counted h. absurd (cc);
}

-- a new number is sent
Agree-sends : {T : Type 0} (reorder span : ℕ) (sent : List (Event T)) (arrived : List ℕ) (content : T) →
    Agree reorder span sent arrived → MaySendNew span (outstanding_of reorder span sent) → Agree reorder span (Sends content ∷ sent) arrived
Agree-sends reorder span sent arrived content a may =
    let above = a.none_above in
    record { within = (may, a.within); none_above = omega arith; shown = a.shown; lost = a.lost; for_good = a.for_good }

-- a packet of the sender arrives
Agree-arrives : {T : Type 0} (reorder span : ℕ) (sent : List (Event T)) (arrived : List ℕ) (number : ℕ) →
    Agree reorder span sent arrived → number ≤ newest_of sent → Agree reorder span sent (number ∷ arrived)
Agree-arrives reorder span sent arrived number a known =
    let above = a.none_above in
    record {
      within = a.within;
      none_above = omega arith;
      shown = λ n counted h. taken-later reorder (number ∷ []) arrived n (a.shown n counted h);
      lost = λ n counted h. never_taken reorder (number ∷ []) arrived n (a.for_good n counted h) (a.lost n counted h);
      for_good = λ n counted h. let far = a.for_good n counted h in omega arith;
    }

-- an acknowledgement of the receiver is read
Agree-reads : {T : Type 0} (reorder span : ℕ) (sent : List (Event T)) (arrived : List ℕ) (ack : Acknowledgement) →
    Agree reorder span sent arrived → IsOfPart reorder span arrived ack → Agree reorder span (Reads ack ∷ sent) arrived
Agree-reads {T} reorder span sent arrived ack a part =
    record {
      within = a.within;
      none_above = a.none_above;
      shown = λ n counted h. elim (split n Acknowledged h) [
        | inl before ↦ a.shown n counted before
        | inr now ↦
            let seen = shown_by (shows span ack n) (finds_lost reorder span ack n) now.1 in
            subst (λ (xs : List ℕ). is_number_taken reorder xs n ≡ true) part.parts
            (taken-later reorder part.later part.earlier n
            (shown_was_taken reorder span part.earlier n counted (subst (λ (k : Acknowledgement). shows span k n ≡ true) part.told seen)))
      ];
      lost = λ n counted h. elim (split n Lost h) [
        | inl before ↦ a.lost n counted before
        | inr now ↦
            subst (λ (xs : List ℕ). is_number_taken reorder xs n ≡ false) part.parts
            (lost_is_never_taken reorder span part.earlier part.later n counted (reached n counted now.0) (missing n now.1))
      ];
      for_good = λ n counted h. elim (split n Lost h) [
        | inl before ↦ a.for_good n counted before
        | inr now ↦
            let far = ltb-true (n + reorder) (highest part.earlier)
            (and_parts (nat_lt (n + reorder) (highest part.earlier)) (not (shows span (acknowledgement reorder span part.earlier) n)) (missing n now.1)).0 in
            let grown = highest-later part.later part.earlier in
            let same = ap highest part.parts in
            omega arith
      ];
    }
  where
    split : (n : ℕ) (d : Decision) → decision_of reorder span (Reads ack ∷ sent) n ≡ Some d →
        (decision_of reorder span sent n ≡ Some d) ⊎ ((decision_of reorder span sent n ≡ None) × (decision_by reorder span ack n ≡ Some d))
    split n d h = elim (earlier_or_now (decision_of reorder span sent n) (decision_read reorder span (newest_of sent) ack n) d h) [
      | inl before ↦ inl before
      | inr now ↦ inr (now.0, not_passed (nat_lt (newest_of sent) ack.high) (decision_by reorder span ack n) d now.1)
    ]

    -- the mask reaches an open number, and one that is not sent yet is above it
    reached : (n : ℕ) → 1 ≤ n → decision_of reorder span sent n ≡ None → highest part.earlier ≤ n + span
    reached n counted none =
        let above = a.none_above in
        let grown = highest-later part.later part.earlier in
        let same = ap highest part.parts in
        elim (cases_lt (newest_of sent) n) [
          | inl later ↦ omega arith
          | inr known ↦
              let it : IsOpen reorder span sent n = record { counted = counted; sent = known; undecided = none } in
              let near = open_is_within_span T reorder span sent n a.within it in
              omega arith
        ]

    missing : (n : ℕ) → decision_by reorder span ack n ≡ Some Lost → finds_lost reorder span (acknowledgement reorder span part.earlier) n ≡ true
    missing n h = subst (λ (k : Acknowledgement). finds_lost reorder span k n ≡ true) part.told (lost_by (shows span ack n) (finds_lost reorder span ack n) h)

-- ---- a packet stays its sender's

IsOfPart-later : (reorder span : ℕ) (number : ℕ) (arrived : List ℕ) (ack : Acknowledgement) → IsOfPart reorder span arrived ack → IsOfPart reorder span (number ∷ arrived) ack
IsOfPart-later reorder span number arrived ack part = record {
  later = number ∷ part.later;
  earlier = part.earlier;
  parts = ap (λ xs. number ∷ xs) part.parts;
  told = part.told;
}

IsOf-arrives : {T : Type 0} (reorder span : ℕ) (sent : List (Event T)) (arrived : List ℕ) (number : ℕ) (packet : Numbered T) →
    IsOf reorder span sent arrived packet → IsOf reorder span sent (number ∷ arrived) packet
IsOf-arrives reorder span sent arrived number packet is = record {
  counted = is.counted;
  known = is.known;
  content = is.content;
  reads = IsOfPart-later reorder span number arrived packet.ack is.reads;
}

IsOf-reads : {T : Type 0} (reorder span : ℕ) (sent : List (Event T)) (arrived : List ℕ) (ack : Acknowledgement) (packet : Numbered T) →
    IsOf reorder span sent arrived packet → IsOf reorder span (Reads ack ∷ sent) arrived packet
IsOf-reads reorder span sent arrived ack packet is = record { counted = is.counted; known = is.known; content = is.content; reads = is.reads }

IsOf-sends : {T : Type 0} (reorder span : ℕ) (sent : List (Event T)) (arrived : List ℕ) (content : T) (packet : Numbered T) →
    IsOf reorder span sent arrived packet → IsOf reorder span (Sends content ∷ sent) arrived packet
IsOf-sends {T} reorder span sent arrived content packet is =
    let known = is.known in
    record {
      counted = is.counted;
      known = omega arith;
      content = subst (λ (b : Bool). cond b (Some content) (content_of sent packet.seq) ≡ Some packet.content) (sym (ne_eqb packet.seq (newest_of sent + 1) (omega arith))) is.content;
      reads = is.reads;
    }

-- ---- what is lost stays untaken

pub lost_stays_untaken : (T : Type 0) → LostStaysUntaken T
lost_stays_untaken T reorder span sent arrived later number a counted h =
    never_taken reorder later arrived number (a.for_good number counted h) (a.lost number counted h)

-- ---- the laws

pub agreement_is_kept : (T : Type 0) → AgreementIsKept T
agreement_is_kept T = record { nothing = Agree-nothing; sends = Agree-sends; arrives = Agree-arrives; reads = Agree-reads }

pub the_ends_agree : (T : Type 0) → TheEndsAgree T
the_ends_agree T reorder span [] happens = Agree-nothing reorder span
the_ends_agree T reorder span (IsSent content ∷ earlier) happens =
    Agree-sends reorder span (sender_of earlier) (receiver_of earlier) content (the_ends_agree T reorder span earlier happens.1) happens.0
the_ends_agree T reorder span (Arrives number ∷ earlier) happens =
    Agree-arrives reorder span (sender_of earlier) (receiver_of earlier) number (the_ends_agree T reorder span earlier happens.1) happens.0
the_ends_agree T reorder span (IsRead ack ∷ earlier) happens =
    Agree-reads reorder span (sender_of earlier) (receiver_of earlier) ack (the_ends_agree T reorder span earlier happens.1) happens.0

pub packets_stay_their_senders : (T : Type 0) → PacketsStayTheirSenders T
packets_stay_their_senders T = record { arrives = IsOf-arrives; reads = IsOf-reads; sends = IsOf-sends }
