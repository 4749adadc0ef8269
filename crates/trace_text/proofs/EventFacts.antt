-- Fates, boots and raw packets in order: what a part of their ranks holds, and that the order changes nothing of what is told.
use Rattle.std.proofs.Common.{◌≡◌, ℕ, zero, suc, ◌+◌, ◌*◌, ◌<◌, ◌≤◌, List, [], ◌∷◌, length, get_or, map, filter, drop, Bool, true, false, cond, All, Some, None, IfSome, refl, sym, ap, ◌∙◌, arith, length-take}
use Rattle.std.specs.Prelude.{◌==◌, ◌&&◌, not, slice_get, option_map}
use Rattle.std.specs.List.Sorted.{IsStableByKey, IsPermutation, ties}
use Rattle.std.specs.Ordering.{is_lt, nat_cmp}
use Rattle.std.proofs.lemmas.Bool.Decides.{nat_tests}
use Rattle.std.proofs.lemmas.List.Elements.{All-cons, All-drop, All-take, filter_agree}
use Rattle.std.proofs.lemmas.List.Sorted.{All-permutation}
use Rattle.loss_world.specs.declared.fate.Fate.{Fate}
use Rattle.loss_world.specs.declared.fate.Fate.TheVariants.{Lose}
use Rattle.trace_text.specs.Earlier.{is_same_way}
use Rattle.trace_text.specs.Faults.{is_fate}
use Rattle.trace_text.specs.Ranks.{has_rank_in}
use Rattle.trace_text.specs.Events.{EventsAreAmong, IsBootAmong, IsFateAmong, IsWithin, boot_rank, events_kept, fate_rank, is_boot_of, is_fate_of, is_packet_of, packet_of, packet_rank, way_number, packet_start}
use Rattle.trace_text.specs.declared.events.GivenFate.{GivenFate}
use Rattle.trace_text.specs.declared.events.Boot.{Boot}
use Rattle.trace_text.specs.declared.packets.KeptPacket.{KeptPacket}
use Rattle.trace_text.proofs.RankFacts.{filter-filter}
use mathlib.Core.Path.{fun_ext}

-- tests that agree at the elements of a list
pub filter-same : {X : Type 0} (p q : X → Bool) (xs : List X) → All (λ x. p x ≡ q x) xs → filter p xs ≡ filter q xs
filter-same p q [] same = refl
filter-same p q (x ∷ xs) same =
    let here : p x ≡ q x = same 0 x (omega arith) in
    rw here (ap (λ l. cond (q x) (x ∷ l) l) (filter-same p q xs (λ k d lt. same (suc k) d (omega arith))))

-- a part of a part
filter-within : {X : Type 0} (p q : X → Bool) (xs : List X) → ((x : X) → p x ≡ true → q x ≡ true) → filter p (filter q xs) ≡ filter p xs
filter-within p q [] within = refl
filter-within p q (x ∷ xs) within = by (q x) refl (p x) refl (filter-within p q xs within)
  where
    by : (a : Bool) → q x ≡ a → (b : Bool) → p x ≡ b → filter p (filter q xs) ≡ filter p xs
        → filter p (cond a (x ∷ filter q xs) (filter q xs)) ≡ cond b (x ∷ filter p xs) (filter p xs)
    by true e true f rest = rw (f, rest) refl
    by true e false f rest = rw (f, rest) refl
    by false e true f rest = absurd (grind (arith, nat_tests, within x f))
    by false e false f rest = rest

-- a number is not below itself
tie : (n : ℕ) → (not (is_lt (nat_cmp n n)) && not (is_lt (nat_cmp n n))) ≡ true
tie n = grind (arith, nat_tests)

-- a stable sort keeps what is told of one rank
pub stable-part : {X : Type 0} (rank_of : X → ℕ) (p : X → Bool) (one : X) (xs ys : List X) → IsStableByKey rank_of nat_cmp xs ys → ((x : X) → p x ≡ true → rank_of x ≡ rank_of one)
    → filter p ys ≡ filter p xs
stable-part {X} rank_of p one xs ys stable same = sym (filter-within p q ys within) ∙ ap (filter p) (stable one) ∙ filter-within p q xs within
  where
    q : X → Bool
    q = ties (λ x y. is_lt (nat_cmp (rank_of x) (rank_of y))) one

    within : (x : X) → p x ≡ true → q x ≡ true
    within x e = rw (same x e) (tie (rank_of one))

-- a fate has the rank of its round, endpoint and way
fate-rank : (round endpoint : ℕ) (up : Bool) (given : GivenFate) → endpoint < 256 → given.endpoint < 256
    → has_rank_in fate_rank ((round * 256 + endpoint) * 2 + way_number up) ((round * 256 + endpoint) * 2 + way_number up + 1) given ≡ is_fate_of round endpoint up given
fate-rank round endpoint up given low low2 = by up given.up refl (given.round == round) refl (given.endpoint == endpoint) refl
  where
    by : (u v : Bool) → given.up ≡ v → (a : Bool) → (given.round == round) ≡ a → (b : Bool) → (given.endpoint == endpoint) ≡ b
        → has_rank_in fate_rank ((round * 256 + endpoint) * 2 + way_number u) ((round * 256 + endpoint) * 2 + way_number u + 1) given ≡ (a && b && is_same_way v u)
    by true true v true e true f = rw v (grind (arith, nat_tests))
    by true false v true e true f = rw v (grind (arith, nat_tests))
    by false true v true e true f = rw v (grind (arith, nat_tests))
    by false false v true e true f = rw v (grind (arith, nat_tests))
    by true true v true e false f = rw v (grind (arith, nat_tests))
    by true false v true e false f = rw v (grind (arith, nat_tests))
    by false true v true e false f = rw v (grind (arith, nat_tests))
    by false false v true e false f = rw v (grind (arith, nat_tests))
    by true true v false e b f = rw v (grind (arith, nat_tests))
    by true false v false e b f = rw v (grind (arith, nat_tests))
    by false true v false e b f = rw v (grind (arith, nat_tests))
    by false false v false e b f = rw v (grind (arith, nat_tests))

-- and one of those of its round
pub fate-within : (round endpoint : ℕ) (up : Bool) → endpoint < 256
    → (round * 512 ≤ (round * 256 + endpoint) * 2 + way_number up) × ((round * 256 + endpoint) * 2 + way_number up + 1 ≤ (round + 1) * 512)
fate-within round endpoint true low = (omega arith, omega arith)
fate-within round endpoint false low = (omega arith, omega arith)

pub fates-of : (n : ℕ) (fates : List GivenFate) (round endpoint : ℕ) (up : Bool) → n ≤ 256 → endpoint < n → All (IsFateAmong n) fates
    → filter (has_rank_in fate_rank ((round * 256 + endpoint) * 2 + way_number up) ((round * 256 + endpoint) * 2 + way_number up + 1)) fates ≡ filter (is_fate_of round endpoint up) fates
fates-of n fates round endpoint up few low among =
    filter-same _ (is_fate_of round endpoint up) fates (λ k d lt. fate-rank round endpoint up (get_or fates k d) (omega arith) (let here = (among k d lt).0 in omega arith))

boot-rank : (round endpoint : ℕ) (boot : Boot) → endpoint < 256 → boot.endpoint < 256
    → has_rank_in boot_rank (round * 256 + endpoint) (round * 256 + endpoint + 1) boot ≡ is_boot_of round endpoint boot
boot-rank round endpoint boot low low2 = by (boot.round == round) refl (boot.endpoint == endpoint) refl
  where
    by : (a : Bool) → (boot.round == round) ≡ a → (b : Bool) → (boot.endpoint == endpoint) ≡ b → has_rank_in boot_rank (round * 256 + endpoint) (round * 256 + endpoint + 1) boot ≡ (a && b)
    by true e true f = grind (arith, nat_tests)
    by true e false f = grind (arith, nat_tests)
    by false e b f = grind (arith, nat_tests)

pub boots-of : (n : ℕ) (boots : List Boot) (round endpoint : ℕ) → n ≤ 256 → endpoint < n → All (IsBootAmong n) boots
    → filter (has_rank_in boot_rank (round * 256 + endpoint) (round * 256 + endpoint + 1)) boots ≡ filter (is_boot_of round endpoint) boots
boots-of n boots round endpoint few low among =
    filter-same _ (is_boot_of round endpoint) boots (λ k d lt. boot-rank round endpoint (get_or boots k d) (omega arith) (let here = (among k d lt).0 in omega arith))

pub packets-of : (raws : List KeptPacket) (round : ℕ) → filter (has_rank_in packet_rank round (round + 1)) raws ≡ filter (is_packet_of round) raws
packets-of raws round = filter_agree (has_rank_in packet_rank round (round + 1)) (is_packet_of round) (λ raw. grind (arith, nat_tests)) raws

-- the order in which they are kept changes nothing of what is told
pub events-ordered : (fates fates2 : List GivenFate) (boots boots2 : List Boot) (raws raws2 : List KeptPacket) (bytes : List ℕ)
    → IsStableByKey fate_rank nat_cmp fates fates2 → IsStableByKey boot_rank nat_cmp boots boots2 → IsStableByKey packet_rank nat_cmp raws raws2
    → events_kept fates2 boots2 raws2 bytes ≡ events_kept fates boots raws bytes
events-ordered fates fates2 boots boots2 raws raws2 bytes stable stable2 stable3 =
    ap (λ f. record { fates = f; boots = (events_kept fates2 boots2 raws2 bytes).boots; raw = (events_kept fates2 boots2 raws2 bytes).raw })
    (fun_ext (λ round. fun_ext (λ endpoint. fun_ext (λ up. ap (λ l. slice_get (map (λ (given : GivenFate). given.fate) l) 0) (fate-part round endpoint up)))))
    ∙ ap (λ f. record { fates = (events_kept fates boots raws bytes).fates; boots = f; raw = (events_kept fates2 boots2 raws2 bytes).raw })
    (fun_ext (λ round. fun_ext (λ endpoint. ap (map (λ (boot : Boot). boot.version)) (boot-part round endpoint))))
    ∙ ap (λ f. record { fates = (events_kept fates boots raws bytes).fates; boots = (events_kept fates boots raws bytes).boots; raw = f })
    (fun_ext (λ round. ap (map (packet_of bytes)) (raw-part round)))
  where
    fate-part : (round endpoint : ℕ) (up : Bool) → filter (is_fate_of round endpoint up) fates2 ≡ filter (is_fate_of round endpoint up) fates
    fate-part round endpoint up = stable-part fate_rank (is_fate_of round endpoint up) (record { round = round; endpoint = endpoint; up = up; fate = Lose }) fates fates2 stable (λ x e. same x up x.up refl e)
      where
        same : (x : GivenFate) (u v : Bool) → x.up ≡ v → ((x.round == round) && (x.endpoint == endpoint) && is_same_way v u) ≡ true → (x.round * 256 + x.endpoint) * 2 + way_number x.up ≡ (round * 256 + endpoint) * 2 + way_number u
        same x true true v e = rw v (grind (arith, nat_tests))
        same x true false v e = absurd (grind (arith, nat_tests))
        same x false true v e = absurd (grind (arith, nat_tests))
        same x false false v e = rw v (grind (arith, nat_tests))

    boot-part : (round endpoint : ℕ) → filter (is_boot_of round endpoint) boots2 ≡ filter (is_boot_of round endpoint) boots
    boot-part round endpoint = stable-part boot_rank (is_boot_of round endpoint) (record { round = round; endpoint = endpoint; version = 0 }) boots boots2 stable2 (λ x e. grind (arith, nat_tests))

    raw-part : (round : ℕ) → filter (is_packet_of round) raws2 ≡ filter (is_packet_of round) raws
    raw-part round = stable-part packet_rank (is_packet_of round) (record { key = round; low = 0; high = 0; size = 0 }) raws raws2 stable3 (λ x e. grind (arith, nat_tests))

-- what holds of each holds of what is told of some
first-told : {X Y : Type 0} (P : Y → Type 0) (f : X → Y) (p : X → Bool) (xs : List X) → All (λ x. P (f x)) xs → IfSome (slice_get (map f (filter p xs)) 0) P
first-told P f p [] all = tt
first-told P f p (x ∷ xs) all = by (p x) (first-told P f p xs (λ k d lt. all (suc k) d (omega arith)))
  where
    by : (b : Bool) → IfSome (slice_get (map f (filter p xs)) 0) P → IfSome (slice_get (map f (cond b (x ∷ filter p xs) (filter p xs))) 0) P
    by true rest = all 0 x (omega arith)
    by false rest = rest

all-told : {X Y : Type 0} (P : Y → Type 0) (f : X → Y) (p : X → Bool) (xs : List X) → All (λ x. P (f x)) xs → All P (map f (filter p xs))
all-told P f p [] all = λ k d lt. absurd (omega arith)
all-told P f p (x ∷ xs) all = by (p x) (all-told P f p xs (λ k d lt. all (suc k) d (omega arith)))
  where
    by : (b : Bool) → All P (map f (filter p xs)) → All P (map f (cond b (x ∷ filter p xs) (filter p xs)))
    by true rest = All-cons P (f x) (map f (filter p xs)) (all 0 x (omega arith)) rest
    by false rest = rest

pub holds-told : (n : ℕ) (fates : List GivenFate) (round endpoint : ℕ) (up : Bool) → All (IsFateAmong n) fates → IfSome (slice_get (map (λ given. given.fate) (filter (is_fate_of round endpoint up) fates)) 0) (λ fate. is_fate fate ≡ true)
holds-told n fates round endpoint up among = first-told (λ (fate : Fate). is_fate fate ≡ true) (λ (given : GivenFate). given.fate) (is_fate_of round endpoint up) fates (λ k d lt. (among k d lt).1)

pub versions-told : (n : ℕ) (boots : List Boot) (round endpoint : ℕ) → All (IsBootAmong n) boots → All (λ version. (1 ≤ version) × (version ≤ 2)) (map (λ boot. boot.version) (filter (is_boot_of round endpoint) boots))
versions-told n boots round endpoint among = all-told (λ version. (1 ≤ version) × (version ≤ 2)) (λ (boot : Boot). boot.version) (is_boot_of round endpoint) boots (λ k d lt. let here = among k d lt in (here.1, here.2))

pub short-told : (bytes : List ℕ) (raws : List KeptPacket) (round : ℕ) → All (IsWithin (length bytes)) raws → All (λ packet. length packet ≤ 2048) (map (packet_of bytes) (filter (is_packet_of round) raws))
short-told bytes raws round among =
    all-told (λ (packet : List ℕ). length packet ≤ 2048) (packet_of bytes) (is_packet_of round) raws
    (λ k d lt. let raw = get_or raws k d in let here = (among k d lt).1 in omega (arith, length-take raw.size (drop (packet_start raw) bytes)))

pub bytes-told : (bytes : List ℕ) (raws : List KeptPacket) (round : ℕ) → All (λ byte. byte < 256) bytes → All (All (λ byte. byte < 256)) (map (packet_of bytes) (filter (is_packet_of round) raws))
bytes-told bytes raws round are =
    all-told (All (λ byte. byte < 256)) (packet_of bytes) (is_packet_of round) raws
    (λ k d lt. let raw = get_or raws k d in All-take (λ byte. byte < 256) raw.size (drop (packet_start raw) bytes) (All-drop (λ byte. byte < 256) (packet_start raw) bytes are))

pub among-permuted : (n : ℕ) (fates fates2 : List GivenFate) (boots boots2 : List Boot) (raws raws2 : List KeptPacket) (bytes : List ℕ)
    → IsPermutation fates fates2 → IsPermutation boots boots2 → IsPermutation raws raws2 → EventsAreAmong n fates boots raws bytes → EventsAreAmong n fates2 boots2 raws2 bytes
among-permuted n fates fates2 boots boots2 raws raws2 bytes p q r among = record {
  each_fate = All-permutation (IsFateAmong n) fates fates2 p among.each_fate;
  each_boot = All-permutation (IsBootAmong n) boots boots2 q among.each_boot;
  each_raw = All-permutation (IsWithin (length bytes)) raws raws2 r among.each_raw;
}

-- the first of what is told
first-map : {X Y : Type 0} (f : X → Y) (xs : List X) → slice_get (map f xs) 0 ≡ option_map f (slice_get xs 0)
first-map f [] = refl
first-map f (x ∷ xs) = refl

pub fate-first : (n : ℕ) (fates xs : List GivenFate) (round endpoint : ℕ) (up : Bool) → n ≤ 256 → endpoint < n → All (IsFateAmong n) fates
    → xs ≡ filter (has_rank_in fate_rank ((round * 256 + endpoint) * 2 + way_number up) ((round * 256 + endpoint) * 2 + way_number up + 1)) fates
    → slice_get (map (λ given. given.fate) (filter (is_fate_of round endpoint up) fates)) 0 ≡ option_map (λ (given : GivenFate). given.fate) (slice_get xs 0)
fate-first n fates xs round endpoint up few low among is =
    first-map (λ (given : GivenFate). given.fate) (filter (is_fate_of round endpoint up) fates)
    ∙ ap (λ l. option_map (λ (given : GivenFate). given.fate) (slice_get l 0)) (sym (is ∙ fates-of n fates round endpoint up few low among))

-- where no fate has a rank of a round and endpoint, no row gives either of its fates
pub fate-none : (n : ℕ) (fates : List GivenFate) (round endpoint : ℕ) (up : Bool) → n ≤ 256 → endpoint < n → All (IsFateAmong n) fates
    → filter (has_rank_in fate_rank ((round * 256 + endpoint) * 2) ((round * 256 + endpoint) * 2 + 2)) fates ≡ []
    → slice_get (map (λ given. given.fate) (filter (is_fate_of round endpoint up) fates)) 0 ≡ None
fate-none n fates round endpoint up few low among gap =
    fate-first n fates [] round endpoint up few low among
    (ap (filter (has_rank_in fate_rank (rank + way_number up) (rank + way_number up + 1))) (sym gap)
    ∙ filter-filter fate_rank fates (rank + way_number up) (rank + way_number up + 1) rank (rank + 2) (omega arith) (by up))
  where
    rank : ℕ
    rank = (round * 256 + endpoint) * 2

    by : (u : Bool) → rank + way_number u + 1 ≤ rank + 2
    by true = omega arith
    by false = omega arith

-- and so of boots
pub boots-none : (n : ℕ) (boots : List Boot) (round endpoint : ℕ) → n ≤ 256 → endpoint < n → All (IsBootAmong n) boots
    → filter (has_rank_in boot_rank (round * 256 + endpoint) (round * 256 + endpoint + 1)) boots ≡ [] → map (λ boot. boot.version) (filter (is_boot_of round endpoint) boots) ≡ []
boots-none n boots round endpoint few low among gap = ap (map (λ (boot : Boot). boot.version)) (sym (boots-of n boots round endpoint few low among) ∙ gap)

-- one of what is told
pub at-map : {X Y : Type 0} (f : X → Y) (xs : List X) (at : ℕ) (d : X) → at < length xs → slice_get (map f xs) at ≡ Some (f (get_or xs at d))
at-map f [] at d lt = absurd (omega arith)
at-map f (x ∷ xs) zero d lt = refl
at-map f (x ∷ xs) (suc at) d lt = at-map f xs at d (omega arith)
