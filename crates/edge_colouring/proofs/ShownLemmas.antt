-- What a side shows, place by place.
use Rattle.std.proofs.Common.{◌≡◌, ◌≢◌, ◌<◌, ◌≤◌, ◌+◌, ◌-◌, ◌*◌, ◌/◌, ◌%◌, ◌^◌, ℕ, zero, suc, List, [], ◌∷◌, length, get_or, set, replicate, Bool, true, false, not, ◌==◌, cond, Option, Some, None, Vec, vec_len, refl, sym, ap, ◌∙◌, arith, inl, inr}
use Rattle.std.specs.Int.{bit_at}
use Rattle.std.specs.Option.{is_some, is_none, unwrap_or}
use Rattle.std.proofs.lemmas.Bool.{cases_eq, cond-true, cond-false, eq-eqb, ne_eqb}
use Rattle.std.proofs.lemmas.List.{get_or_read, get_or-replicate, get_or-set_same, get_or-set_other, length-replicate, length-set}
use Rattle.std.proofs.lemmas.Nat.Bits.{bit_at-lt, bit_at_ones}
use Rattle.list_facts.proofs.Bools.{bit_test}
use Rattle.edge_colouring.specs.Holders.{shown_from, holders_shown, is_free_holder, IsRackOf}

-- what a place shows
abbrev pub cell : List ℕ → ℕ → ℕ → Option ℕ
cell masks place edge = cond (bit_at (get_or masks (place / 64) 0) (place % 64) == 1) None (Some edge)

pub length-shown_from : (place : ℕ) (masks edges : List ℕ) → length (shown_from place masks edges) ≡ length edges
length-shown_from place masks [] = refl
length-shown_from place masks (edge ∷ edges) = ap suc (length-shown_from (place + 1) masks edges)

get_or-shown_from : (place : ℕ) (masks edges : List ℕ) (k : ℕ) → k < length edges → get_or (shown_from place masks edges) k None ≡ cell masks (place + k) (get_or edges k 0)
get_or-shown_from place masks [] k below = absurd (omega (arith, below))
get_or-shown_from place masks (edge ∷ edges) zero below = let same : place ≡ place + 0 = omega arith in ap (λ (p : ℕ). cell masks p edge) same
get_or-shown_from place masks (edge ∷ edges) (suc k) below =
    let same : place + 1 + k ≡ place + suc k = omega arith in
    get_or-shown_from (place + 1) masks edges k (omega (arith, below)) ∙ ap (λ (p : ℕ). cell masks p (get_or edges k 0)) same

pub length-shown : (masks edges : List ℕ) → length (holders_shown masks edges) ≡ length edges
length-shown masks edges = length-shown_from 0 masks edges

pub get_or-shown : (masks edges : List ℕ) (k : ℕ) → k < length edges → get_or (holders_shown masks edges) k None ≡ cell masks k (get_or edges k 0)
get_or-shown masks edges k below = let same : 0 + k ≡ k = omega arith in get_or-shown_from 0 masks edges k below ∙ ap (λ (p : ℕ). cell masks p (get_or edges k 0)) same

-- lists with the same elements
same_lists : (xs ys : List (Option ℕ)) → length xs ≡ length ys → ((k : ℕ) → k < length xs → get_or xs k None ≡ get_or ys k None) → xs ≡ ys
same_lists [] [] len same = refl
same_lists [] (y ∷ ys) len same = absurd (omega (arith, len))
same_lists (x ∷ xs) [] len same = absurd (omega (arith, len))
same_lists (x ∷ xs) (y ∷ ys) len same =
    let first : x ≡ y = same 0 (omega arith) in
    let rest : xs ≡ ys = same_lists xs ys (omega (arith, len)) (λ k below. same (suc k) (omega (arith, below))) in
    λ i. first i ∷ rest i

-- a place of a rack
pub place-rack : (rack core : ℕ) → core < 64 → (rack * 64 + core) / 64 ≡ rack
place-rack rack core small = omega (arith, small)

pub place-core : (rack core : ℕ) → core < 64 → (rack * 64 + core) % 64 ≡ core
place-core rack core small = omega (arith, small)

pub cell-place : (masks : List ℕ) (rack core edge : ℕ) → core < 64 → cell masks (rack * 64 + core) edge ≡ cond (bit_at (get_or masks rack 0) core == 1) None (Some edge)
cell-place masks rack core edge small = λ i. cond (bit_at (get_or masks (place-rack rack core small i) 0) (place-core rack core small i) == 1) None (Some edge)

-- all cores free
pub shown-free : (masks edges : List ℕ) → length edges ≤ length masks * 64 → ((rack : ℕ) → rack < length masks → get_or masks rack 0 ≡ 2 ^ 64 - 1) → holders_shown masks edges ≡ replicate (length edges) None
shown-free masks edges room ones =
    let none : Option ℕ = None in
    same_lists (holders_shown masks edges) (replicate (length edges) none) (length-shown masks edges ∙ sym (length-replicate (length edges) none)) (λ k below.
    let in_edges : k < length edges = omega (arith, below, length-shown masks edges) in
    let rack : k / 64 < length masks = omega (arith, in_edges, room) in
    let core : k % 64 < 64 = omega arith in
    let bit : bit_at (get_or masks (k / 64) 0) (k % 64) ≡ 1 = ap (λ (mask : ℕ). bit_at mask (k % 64)) (ones (k / 64) rack) ∙ bit_at_ones 64 (k % 64) core in
    get_or-shown masks edges k in_edges
    ∙ (cond-true (bit_at (get_or masks (k / 64) 0) (k % 64) == 1) none (Some (get_or edges k 0)) (eq-eqb _ _ bit)
    ∙ sym (get_or-replicate (length edges) k none none in_edges)))

-- one place is written
pub shown-put : (masks new edges written : List ℕ) (rack core : ℕ) (o : Option ℕ) → core < 64 → rack * 64 + core < length edges → length written ≡ length edges
    → ((r : ℕ) → r ≢ rack → get_or new r 0 ≡ get_or masks r 0) → ((c : ℕ) → c < 64 → c ≢ core → bit_at (get_or new rack 0) c ≡ bit_at (get_or masks rack 0) c)
    → ((k : ℕ) → k ≢ rack * 64 + core → get_or written k 0 ≡ get_or edges k 0) → cell new (rack * 64 + core) (get_or written (rack * 64 + core) 0) ≡ o
    → holders_shown new written ≡ set (holders_shown masks edges) (rack * 64 + core) o
shown-put masks new edges written rack core o small within len racks bits others here =
    let place : ℕ = rack * 64 + core in
    let old : List (Option ℕ) = holders_shown masks edges in
    let room : place < length old = omega (arith, within, length-shown masks edges) in
    same_lists (holders_shown new written) (set old place o) (omega (arith, len, length-shown new written, length-shown masks edges, length-set old place o)) (λ k below.
    let in_written : k < length written = omega (arith, below, length-shown new written) in
    get_or-shown new written k in_written
    ∙ elim (cases_eq k place) [
      | inl same ↦
          ap (λ (p : ℕ). cell new p (get_or written p 0)) same
          ∙ (here ∙ sym (ap (λ (p : ℕ). get_or (set old place o) p None) same ∙ get_or-set_same old place o None room))
      | inr other ↦
          let core_small : k % 64 < 64 = omega arith in
          let bit : bit_at (get_or new (k / 64) 0) (k % 64) ≡ bit_at (get_or masks (k / 64) 0) (k % 64) =
          elim (cases_eq (k / 64) rack) [
            | inl at_rack ↦
                let apart : k % 64 ≢ core = λ at_core. other (omega (arith, at_rack, at_core)) in
                ap (λ (r : ℕ). bit_at (get_or new r 0) (k % 64)) at_rack ∙ (bits (k % 64) core_small apart ∙ sym (ap (λ (r : ℕ). bit_at (get_or masks r 0) (k % 64)) at_rack))
            | inr away ↦ ap (λ (mask : ℕ). bit_at mask (k % 64)) (racks (k / 64) away)
          ] in
          (λ i. cond (bit i == 1) None (Some (others k other i)))
          ∙ (sym (get_or-shown masks edges k (omega (arith, in_written, len))) ∙ sym (get_or-set_other old place k o None other))
    ])

free_bit : (bit edge : ℕ) → bit < 2 → bit ≡ cond (not (is_some (cond (bit == 1) None (Some edge)))) 1 0
free_bit zero edge small = refl
free_bit (suc zero) edge small = refl
free_bit (suc (suc bit)) edge small = absurd (omega (arith, small))

-- the masks tell which cores are free
pub masks_tell : (masks edges : List ℕ) (rack core : ℕ) → IsRackOf (holders_shown masks edges) rack → core < 64 → bit_at (get_or masks rack 0) core ≡ cond (is_free_holder (holders_shown masks edges) rack core) 1 0
masks_tell masks edges rack core within small =
    let edge : ℕ = get_or edges (rack * 64 + core) 0 in
    let bit : ℕ = bit_at (get_or masks rack 0) core in
    let shows : get_or (holders_shown masks edges) (rack * 64 + core) None ≡ cond (bit == 1) None (Some edge) = get_or-shown masks edges (rack * 64 + core) (omega (arith, within, small, length-shown masks edges)) ∙ cell-place masks rack core edge small in
    free_bit bit edge (bit_at-lt (get_or masks rack 0) core) ∙ ap (λ (o : Option ℕ). cond (not (is_some o)) 1 0) (sym shows)

-- a rack of a side lies within its masks and its edges
pub rack_fits : {Z : Type 0} (free : List ℕ) (holders : Vec ℕ Z) (side : List (Option ℕ)) (rack : ℕ) → holders_shown free holders.items ≡ side → (length free ≡ 64) × (vec_len holders ≤ 4096) → IsRackOf side rack
    → (rack < 64) × (rack * 64 + 64 ≤ vec_len holders)
rack_fits free holders side rack is size within =
    let len : length side ≡ vec_len holders = ap (λ (xs : List (Option ℕ)). length xs) (sym is) ∙ (length-shown free holders.items ∙ sym holders.ok.0) in
    (omega (arith, len, size.1, within), omega (arith, len, within))

-- who holds a core that is free, and one that isn't
pub held-free : (masks edges : List ℕ) (rack core : ℕ) → core < 64 → rack * 64 + core < length edges → (bit_at (get_or masks rack 0) core == 1) ≡ true → None ≡ get_or (holders_shown masks edges) (rack * 64 + core) None
held-free masks edges rack core small within set =
    let edge : ℕ = get_or edges (rack * 64 + core) 0 in
    sym (get_or-shown masks edges (rack * 64 + core) within ∙ (cell-place masks rack core edge small
    ∙ cond-true (bit_at (get_or masks rack 0) core == 1) None (Some edge) set))

pub held-by : (masks edges : List ℕ) (rack core place edge : ℕ) → core < 64 → rack * 64 + core < length edges → place ≡ rack * 64 + core → edge ≡ get_or edges place edge → (bit_at (get_or masks rack 0) core == 1) ≡ false
    → Some edge ≡ get_or (holders_shown masks edges) (rack * 64 + core) None
held-by masks edges rack core place edge small within place_is edge_is clear =
    let edge_at : edge ≡ get_or edges (rack * 64 + core) 0 = get_or_read edges place edge (omega (arith, place_is, within)) edge_is 0 ∙ ap (λ (p : ℕ). get_or edges p 0) place_is in
    ap (λ (e : ℕ). Some e) edge_at
    ∙ sym (get_or-shown masks edges (rack * 64 + core) within ∙ (cell-place masks rack core (get_or edges (rack * 64 + core) 0) small
    ∙ cond-false (bit_at (get_or masks rack 0) core == 1) None (Some (get_or edges (rack * 64 + core) 0)) clear))

written_cell : (edge : Option ℕ) → cond (is_none edge) None (Some (unwrap_or edge 0)) ≡ edge
written_cell None = refl
written_cell (Some e) = refl

pub none_is : (edge : Option ℕ) (b : Bool) → is_some edge ≡ not b → b ≡ is_none edge
none_is None true is = refl
none_is None false is = absurd (cc)
none_is (Some e) true is = absurd (cc)
none_is (Some e) false is = refl

-- a mask and an edge are written
pub shown-written : (masks edges : List ℕ) (rack core bits place : ℕ) (edge : Option ℕ) → core < 64 → rack * 64 + core < length edges → rack < length masks → place ≡ rack * 64 + core
    → ((i : ℕ) → i < 64 → bit_at bits i ≡ cond (i == core) (cond (is_none edge) 1 0) (bit_at (get_or masks rack 0) i)) → holders_shown (set masks rack bits) (set edges place (unwrap_or edge 0)) ≡ set (holders_shown masks edges) (rack * 64 + core) edge
shown-written masks edges rack core bits place edge small within below place_is bits_are =
    let mask : ℕ = get_or masks rack 0 in
    let new : List ℕ = set masks rack bits in
    let held : ℕ = unwrap_or edge 0 in
    let written : List ℕ = set edges (rack * 64 + core) held in
    let mask_is : get_or new rack 0 ≡ bits = get_or-set_same masks rack bits 0 below in
    let edge_is : get_or written (rack * 64 + core) 0 ≡ held = get_or-set_same edges (rack * 64 + core) held 0 within in
    let bit : bit_at (get_or new rack 0) core ≡ cond (is_none edge) 1 0 =
    ap (λ (m : ℕ). bit_at m core) mask_is ∙ (bits_are core small ∙ cond-true (core == core) (cond (is_none edge) 1 0) (bit_at mask core) (eq-eqb core core refl)) in
    let here : cell new (rack * 64 + core) (get_or written (rack * 64 + core) 0) ≡ edge =
    cell-place new rack core (get_or written (rack * 64 + core) 0) small
    ∙ ((λ i. cond (bit i == 1) None (Some (edge_is i))) ∙ (ap (λ (b : Bool). cond b None (Some held)) (bit_test (is_none edge)) ∙ written_cell edge)) in
    ap (λ (p : ℕ). holders_shown new (set edges p held)) place_is
    ∙ shown-put masks new edges written rack core edge small within (length-set edges (rack * 64 + core) held) (λ r other. get_or-set_other masks rack r bits 0 other)
    (λ c c_small other. ap (λ (m : ℕ). bit_at m c) mask_is ∙ (bits_are c c_small ∙ (cond-false (c == core) (cond (is_none edge) 1 0) (bit_at mask c) (ne_eqb c core other))))
    (λ k other. get_or-set_other edges (rack * 64 + core) k held 0 other) here
