-- What a trace holds, round by round and endpoint by endpoint.
use Rattle.std.proofs.Common.{◌≡◌, ℕ, ◌<◌, ◌≤◌, List, [], length, get_or, Bool, true, false, None, refl, sym, ap, subst, ◌∙◌, arith}
use Rattle.std.specs.Prelude.{nat_lt}
use Rattle.std.proofs.Math.ListN.{get_or-eq_default}
use Rattle.std.proofs.lemmas.Bool.{ltb-false}
use Rattle.std.proofs.lemmas.Bool.Decides.{nat_tests}
use Rattle.std.proofs.lemmas.List.FromFn.{get_or-map-range_with_len, length-map-range_with_len}
use Rattle.clos_topology.specs.Network.{Network, endpoints_of}
use Rattle.trace_text.specs.Trace.{Events, asked_at, fate_at, boots_at, raw_at, of_way, content_by, each_below, table_of, some_below}
use mathlib.Core.Path.{fun_ext}

-- the same amounts and the same events
pub content_by-same : (net : Network) (rounds : ℕ) (f g : ℕ → ℕ → ℕ → ℕ) (events events2 : Events) → ((round src dst : ℕ) → f round src dst ≡ g round src dst) → events ≡ events2
    → content_by net rounds f events ≡ content_by net rounds g events2
content_by-same net rounds f g events events2 same same2 =
    ap (λ h. content_by net rounds h events) (fun_ext (λ round. fun_ext (λ src. fun_ext (λ dst. same round src dst)))) ∙ ap (content_by net rounds g) same2

-- what is made of a number, and the default outside
pub below-at : {A : Type 0} (n : ℕ) (f : ℕ → A) (d : A) (i : ℕ) → i < n → get_or (each_below n f) i d ≡ f i
below-at n f d i low = get_or-map-range_with_len f 0 n i i d low (omega arith)

pub below-cases : {A : Type 0} (P : A → Type 0) (n : ℕ) (f : ℕ → A) (d : A) (i : ℕ) → P d → P (f i) → P (get_or (each_below n f) i d)
below-cases {A} P n f d i none some = by (nat_lt i n) refl
  where
    by : (a : Bool) → nat_lt i n ≡ a → P (get_or (each_below n f) i d)
    by true e = let low : i < n = grind (arith, nat_tests) in subst P (sym (below-at n f d i low)) some
    by false e =
        let high : length (each_below n f) ≤ i = omega (arith, length-map-range_with_len f 0 n, ltb-false i n e) in
        subst P (sym (get_or-eq_default (each_below n f) d high)) none

-- the same of a round and an endpoint
pub table-at : {A : Type 0} (rounds n : ℕ) (f : ℕ → ℕ → A) (d : A) (round i : ℕ) → round < rounds → i < n → get_or (get_or (table_of rounds n f) round []) i d ≡ f round i
table-at rounds n f d round i low low2 = ap (λ l. get_or l i d) (below-at rounds (λ r. each_below n (f r)) [] round low) ∙ below-at n (f round) d i low2

pub table-cases : {A : Type 0} (P : A → Type 0) (rounds n : ℕ) (f : ℕ → ℕ → A) (d : A) (round i : ℕ) → P d → P (f round i) → P (get_or (get_or (table_of rounds n f) round []) i d)
table-cases {A} P rounds n f d round i none some =
    below-cases (λ (l : List A). P (get_or l i d)) rounds (λ r. each_below n (f r)) [] round none (below-cases P n (f round) d i none some)

-- what is told of a round and an endpoint of the trace
pub asked_at-content_by : (net : Network) (rounds : ℕ) (f : ℕ → ℕ → ℕ → ℕ) (events : Events) (round src : ℕ) → round < rounds → src < endpoints_of net
    → asked_at (content_by net rounds f events) round src ≡ some_below (endpoints_of net) (f round src)
asked_at-content_by net rounds f events round src low low2 = table-at rounds (endpoints_of net) (λ r s. some_below (endpoints_of net) (f r s)) [] round src low low2

pub fate_at-content_by : (net : Network) (rounds : ℕ) (f : ℕ → ℕ → ℕ → ℕ) (events : Events) (round endpoint : ℕ) (up : Bool) → round < rounds → endpoint < endpoints_of net
    → fate_at (content_by net rounds f events) round endpoint up ≡ events.fates round endpoint up
fate_at-content_by net rounds f events round endpoint up low low2 =
    ap (of_way up) (table-at rounds (endpoints_of net) (λ r e. (events.fates r e true, events.fates r e false)) (None, None) round endpoint low low2) ∙ by up
  where
    by : (u : Bool) → of_way u (events.fates round endpoint true, events.fates round endpoint false) ≡ events.fates round endpoint u
    by true = refl
    by false = refl

pub boots_at-content_by : (net : Network) (rounds : ℕ) (f : ℕ → ℕ → ℕ → ℕ) (events : Events) (round endpoint : ℕ) → round < rounds → endpoint < endpoints_of net
    → boots_at (content_by net rounds f events) round endpoint ≡ events.boots round endpoint
boots_at-content_by net rounds f events round endpoint low low2 = table-at rounds (endpoints_of net) events.boots [] round endpoint low low2

pub raw_at-content_by : (net : Network) (rounds : ℕ) (f : ℕ → ℕ → ℕ → ℕ) (events : Events) (round : ℕ) → round < rounds → raw_at (content_by net rounds f events) round ≡ events.raw round
raw_at-content_by net rounds f events round low = below-at rounds events.raw [] round low
