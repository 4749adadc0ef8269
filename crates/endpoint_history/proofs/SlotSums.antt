-- Slots in numbers, summed over the numbers of which a test holds.
use Rattle.std.proofs.Common.{◌≡◌, ◌≢◌, ℕ, ◌+◌, ◌≤◌, Bool, true, false, cond, List, [], ◌∷◌, Some, refl, arith}
use Rattle.std.specs.Prelude.{sum_by}
use Rattle.std.proofs.lemmas.List.Sums.{sum_by-cons}
use Rattle.ack_window.specs.declared.acknowledgement.Acknowledgement.{Acknowledgement}
use Rattle.ack_window.specs.Ends.{content_of}
use Rattle.ack_window.specs.Sends.{Event, Sends, Reads, newest_of}
use Rattle.ack_window.specs.Versions.{reorder_of, span_of}
use Rattle.endpoint_history.specs.Packets.{Telling, slots_to}
use Rattle.endpoint_history.specs.Lane.{LaneHistory, version_of, numbers}
use Rattle.endpoint_history.specs.Counts.{slots_in, acknowledged, lost, told, open_to}
use Rattle.endpoint_history.specs.Windows.{Windows}

-- the weight of what is told
abbrev pub to : ℕ → Telling → ℕ
to dst telling = slots_to dst telling.told

-- a sum of what is split in two
pub sum_by-split : {X : Type 0} (test : X → Bool) (f : X → ℕ) (xs : List X) → sum_by (λ x. cond (test x) (f x) 0) xs + sum_by (λ x. cond (test x) 0 (f x)) xs ≡ sum_by f xs
sum_by-split test f [] = refl
sum_by-split {X} test f (x ∷ xs) =
    let one = sum_by-cons (λ (y : X). cond (test y) (f y) 0) x xs in
    let two = sum_by-cons (λ (y : X). cond (test y) 0 (f y)) x xs in
    let all = sum_by-cons f x xs in
    let rest = sum_by-split test f xs in
    let here : cond (test x) (f x) 0 + cond (test x) 0 (f x) ≡ f x = elim (test x) as (λ b. cond b (f x) 0 + cond b 0 (f x) ≡ f x) [ true ↦ omega arith | false ↦ omega arith ] in
    omega arith

pub slots_in-nothing : (w : Windows) (test : ℕ → Bool) (dst : ℕ) → slots_in test [] dst ≡ 0
unfolding slots_in
slots_in-nothing w test dst = w.sums.nothing (to dst) test

pub slots_in-reads : (w : Windows) (test : ℕ → Bool) (ack : Acknowledgement) (sent : List (Event Telling)) (dst : ℕ) → slots_in test (Reads ack ∷ sent) dst ≡ slots_in test sent dst
unfolding slots_in
slots_in-reads w test ack sent dst = w.sums.reads (to dst) test ack sent

pub slots_in-sends : (w : Windows) (test : ℕ → Bool) (content : Telling) (sent : List (Event Telling)) (dst : ℕ) →
    slots_in test (Sends content ∷ sent) dst ≡ slots_in test sent dst + cond (test (newest_of sent + 1)) (slots_to dst content.told) 0
unfolding slots_in
slots_in-sends w test content sent dst = w.sums.sends (to dst) test content sent

-- tests that are the same of the numbers sent
pub slots_in-same : (w : Windows) (t u : ℕ → Bool) (sent : List (Event Telling)) (dst : ℕ) → ((number : ℕ) → 1 ≤ number → number ≤ newest_of sent → t number ≡ u number) → slots_in t sent dst ≡ slots_in u sent dst
unfolding slots_in
slots_in-same w t u sent dst same = w.sums.same (to dst) t u sent same

-- of one number more
pub slots_in-one : (w : Windows) (t u : ℕ → Bool) (sent : List (Event Telling)) (dst one : ℕ) (content : Telling) → content_of sent one ≡ Some content →
    t one ≡ false → u one ≡ true → ((number : ℕ) → number ≢ one → t number ≡ u number) →
    slots_in u sent dst ≡ slots_in t sent dst + slots_to dst content.told
unfolding slots_in
slots_in-one w t u sent dst one content is before after others = w.sums.one (to dst) t u sent one content is before after others

-- tests of which no number meets both
pub slots_in-apart : (w : Windows) (t u : ℕ → Bool) (sent : List (Event Telling)) (dst : ℕ) → ((number : ℕ) → 1 ≤ number → u number ≡ true → t number ≡ false) →
    slots_in t sent dst + slots_in u sent dst ≤ slots_in (λ number. true) sent dst
unfolding slots_in
slots_in-apart w t u sent dst apart = w.sums.apart (to dst) t u sent apart

-- each number is acknowledged, lost or open
pub slots-three : (w : Windows) (g : ℕ) (history : LaneHistory) (dst : ℕ) → told g history dst ≡ acknowledged g history dst + lost g history dst + open_to g history dst
unfolding slots_in
slots-three w g history dst = let parts = w.parts.parts (to dst) (reorder_of (version_of history)) (span_of (version_of history)) (numbers g history) in omega arith
