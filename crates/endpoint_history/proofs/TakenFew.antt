-- How many slots a boot can take in.
use Rattle.std.proofs.Common.{◌≡◌, ℕ, zero, suc, ◌+◌, ◌*◌, ◌≤◌, Bool, cond, ◌==◌, List, [], ◌∷◌, sym, ◌∙◌, ap, refl, inl, inr, arith, mul-le-mul_right}
use Rattle.std.specs.Prelude.{sum_by, count_by}
use Rattle.std.proofs.lemmas.Bool.{cases_eq, cases_Bool, eq-eqb}
use Rattle.std.proofs.lemmas.List.Sums.{sum_by-cons}
use Rattle.fcp_framing.specs.declared.packet.Told.{Told}
use Rattle.endpoint_history.specs.Packets.{slots_to}
use Rattle.endpoint_history.specs.Agent as agent
use Rattle.endpoint_history.specs.Agent.{TakenDown}
use Rattle.endpoint_history.specs.Sending.{Slot, slots_of_telling}
use Rattle.endpoint_history.specs.Steps.{agent_of, lane_of, rounds_begun}
use Rattle.endpoint_history.specs.Tellings.{Among, SlotsAreWithin}
use Rattle.endpoint_history.specs.Bounds.{TakenIsFew}
use Rattle.endpoint_history.specs.Windows.{Windows}
use Rattle.endpoint_history.proofs.Issues.{packet-came}
use Rattle.endpoint_history.proofs.NeverSent.{issued-within}
use Rattle.endpoint_history.proofs.Sending.{count_by-cons}
use Rattle.endpoint_history.proofs.Once.{numbered, weight, taken-made, boot-once}

-- a sum over the numbers from 1 on
abbrev sum_to : (ℕ → ℕ) → ℕ → ℕ
sum_to f zero = 0
sum_to f (suc n) = sum_to f n + f (suc n)

sum_to-add : (f h : ℕ → ℕ) (n : ℕ) → sum_to (λ i. f i + h i) n ≡ sum_to f n + sum_to h n
sum_to-add f h zero = refl
sum_to-add f h (suc n) = omega (arith, sum_to-add f h n)

sum_to-same : (f h : ℕ → ℕ) (n : ℕ) → ((i : ℕ) → f i ≡ h i) → sum_to f n ≡ sum_to h n
sum_to-same f h zero same = refl
sum_to-same f h (suc n) same = omega (arith, sum_to-same f h n same, same (suc n))

sum_to-within : (f : ℕ → ℕ) (n : ℕ) → ((i : ℕ) → f i ≤ 1) → sum_to f n ≤ n
sum_to-within f zero low = omega arith
sum_to-within f (suc n) low = omega (arith, sum_to-within f n low, low (suc n))

sum_to-none : (n : ℕ) → sum_to (λ i. 0) n ≡ 0
sum_to-none zero = refl
sum_to-none (suc n) = omega (arith, sum_to-none n)

abbrev one_if : Bool → ℕ
one_if b = cond b 1 0

-- each is counted once, where its number is in range
sum_to-one : (s n : ℕ) → 1 ≤ s → s ≤ n → 1 ≤ sum_to (λ i. cond (s == i) 1 0) n
sum_to-one s zero low high = absurd (omega arith)
sum_to-one s (suc n) low high =
    elim (cases_eq s (suc n)) [
      | inl same ↦ let one = ap one_if (eq-eqb s (suc n) same) in omega (arith, one)
      | inr other ↦ let rest = sum_to-one s n low (omega arith) in omega arith
    ]

exchange : (w : ℕ → TakenDown → ℕ) (ts : List TakenDown) (n : ℕ) → sum_to (λ i. sum_by (w i) ts) n ≡ sum_by (λ t. sum_to (λ i. w i t) n) ts
exchange w [] n = sum_to-none n
exchange w (t ∷ ts) n =
    sum_to-same (λ i. sum_by (w i) (t ∷ ts)) (λ i. w i t + sum_by (w i) ts) n (λ i. sum_by-cons (w i) t ts)
    ∙ sum_to-add (λ i. w i t) (λ i. sum_by (w i) ts) n
    ∙ ap (λ m. sum_to (λ i. w i t) n + m) (exchange w ts n)
    ∙ sym (sum_by-cons (λ x. sum_to (λ i. w i x) n) t ts)

counted : (b batch most dst : ℕ) (told : List Told) → SlotsAreWithin b told → batch * b + b ≤ most →
    slots_to dst told ≤ sum_to (λ i. count_by (numbered i) (slots_of_telling b (record { batch = batch; told = told }))) most
counted b batch most dst [] within high = omega arith
counted b batch most dst (t ∷ told) within high =
    let low_t = within.0 in
    let rest = counted b batch most dst told within.1 high in
    let one = sum_to-one (batch * b + 1 + t.offset) most (omega arith) (omega arith) in
    let here = count_by-cons (λ (x : Told). x.dst == dst) t told in
    let rest_of = λ (i : ℕ). count_by (numbered i) (slots_of_telling b (record { batch = batch; told = told })) in
    let all : sum_to (λ i. count_by (numbered i) (slots_of_telling b (record { batch = batch; told = t ∷ told }))) most
    ≡ sum_to (λ i. cond (batch * b + 1 + t.offset == i) 1 0) most + sum_to rest_of most =
    sum_to-same (λ i. count_by (numbered i) (slots_of_telling b (record { batch = batch; told = t ∷ told }))) (λ i. cond (batch * b + 1 + t.offset == i) 1 0 + rest_of i) most
    (λ i. sum_by-cons (λ (s : Slot). cond (s.slot == i) 1 0) (record { slot = batch * b + 1 + t.offset; dst = t.dst }) (slots_of_telling b (record { batch = batch; told = told })))
    ∙ sum_to-add (λ i. cond (batch * b + 1 + t.offset == i) 1 0) rest_of most in
    elim (cases_Bool (t.dst == dst)) [
      | inl same ↦ let it = ap (λ c. cond c (1 + slots_to dst told) (slots_to dst told)) same in omega arith
      | inr other ↦ let it = ap (λ c. cond c (1 + slots_to dst told) (slots_to dst told)) other in omega arith
    ]

sum-le : (f h : TakenDown → ℕ) (ts : List TakenDown) → ((t : TakenDown) → Among t ts → f t ≤ h t) → sum_by f ts ≤ sum_by h ts
sum-le f h [] le = omega arith
sum-le f h (t ∷ ts) le =
    let one = sum_by-cons f t ts in
    let two = sum_by-cons h t ts in
    let here = le t (inl refl) in
    let rest = sum-le f h ts (λ x among. le x (inr among)) in
    omega arith

pub taken_is_few : (w : Windows) → TakenIsFew
taken_is_few w b g steps arrives rise within rises dst =
    let ts = agent.taken (agent_of steps) in
    let most = rounds_begun (lane_of steps) * b in
    let each = sum-le (λ t. slots_to dst t.packet.content.told) (λ t. sum_to (λ i. weight b i t) most) ts
    (λ t among. one_packet t among) in
    let swapped = exchange (λ i. weight b i) ts most in
    let low = sum_to-within (λ i. sum_by (weight b i) ts) most (λ i. boot-once w b g i steps (record { arrives = arrives; rise = rise; within = within; rises = rises })) in
    omega arith
  where
    one_packet : (t : TakenDown) → Among t (agent.taken (agent_of steps)) → slots_to dst t.packet.content.told ≤ sum_to (λ i. weight b i t) (rounds_begun (lane_of steps) * b)
    one_packet t among = by_slots t.packet.content.told refl
      where
        by_slots : (told : List Told) → t.packet.content.told ≡ told → slots_to dst t.packet.content.told ≤ sum_to (λ i. weight b i t) (rounds_begun (lane_of steps) * b)
        by_slots [] none = let zero_slots = ap (λ xs. slots_to dst xs) none in omega arith
        by_slots (x ∷ xs) is =
            let made = taken-made g steps t arrives among in
            let came = packet-came w g (lane_of steps) t.packet rise made (λ none. absurd (clash (sym none ∙ is))) in
            let begun = came.begun in
            let more : (t.packet.content.batch + 1) * b ≤ rounds_begun (lane_of steps) * b = mul-le-mul_right b (omega arith) in
            counted b t.packet.content.batch (rounds_begun (lane_of steps) * b) dst t.packet.content.told
            (issued-within b g (lane_of steps) (t.packet.content.batch + 2 * g) _ within came.issue) (omega arith)
          where
            clash : [] ≡ x ∷ xs → ⊥
            clash h = cc
