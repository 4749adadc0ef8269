-- The maps as parts that fit: the racks of two endpoints, and the slots that these have in common.
use Rattle.std.proofs.Common.{◌≡◌, ◌<◌, ◌+◌, ◌^◌, ℕ, List, length, get_or, Bool, true, false, not, ◌==◌, ◌&&◌, ◌||◌, nat_lt, cond, bit_and, refl, sym, ap, ◌∙◌, arith, inl, inr}
use Rattle.std.proofs.Math.Nat.{div-le_self}
use Rattle.std.proofs.lemmas.Bool.{cases_lt, and_left, and_parts, both_ways}
use Rattle.std.proofs.lemmas.List.{get_or_read}
use Rattle.greedy_rules.specs.declared.limits.Limits.{Limits}
use Rattle.greedy_rules.specs.Limits.{rack_of}
use Rattle.endpoint_bitmaps.specs.Slots.{has_slot}
use Rattle.endpoint_bitmaps.specs.Links.{taken_in, ShowsLeft, HasTakenLinks}
use Rattle.endpoint_bitmaps.specs.Fit.{Fit}
use Rattle.endpoint_bitmaps.specs.FreeSlots.{FreeSlots, is_free_to_send, may_receive, leaving_in, entering_in, rack_in, needs_links, has_links, is_common}
use Rattle.endpoint_bitmaps.proofs.WordLemmas.{has_slot-both, has_slot-above}

module _ (n : ℕ) (limits : Limits) (senders receivers racks leaving leaving_left entering entering_left : List ℕ)
    (fit : Fit limits senders receivers racks leaving leaving_left entering entering_left) where
  abbrev pub maps : FreeSlots
  maps = record { endpoints = n; limits = limits; to_send = senders; to_receive = receivers; leaving = leaving; entering = entering }

  pub rack_read : (endpoint rack : ℕ) → endpoint < length senders → rack ≡ get_or racks endpoint rack → rack ≡ rack_of limits.hosts endpoint
  rack_read endpoint rack below is =
      let within : endpoint < length racks = omega (arith, below, fit.racks_count) in
      get_or_read racks endpoint rack within is 0 ∙ fit.racks_are endpoint within

  pub rack_below : (endpoint : ℕ) → endpoint < length senders → rack_of limits.hosts endpoint < length senders
  rack_below endpoint below = omega (arith, below, div-le_self endpoint limits.hosts)

  -- an endpoint of the maps as they are seen
  module _ (v : FreeSlots) (view_is : maps ≡ v) (count : n ≡ length senders) (endpoint : ℕ) (below : endpoint < v.endpoints) where
    pub seen_below : endpoint < length senders
    seen_below = omega (arith, ap (λ (m : FreeSlots). m.endpoints) view_is, count, below)

    pub seen_rack : (rack : ℕ) → rack ≡ get_or racks endpoint rack → rack ≡ rack_of limits.hosts endpoint
    seen_rack rack is = rack_read endpoint rack seen_below is

  left_is : (cores rack word slot : ℕ) (counts words : List ℕ) → ShowsLeft cores counts words → rack < length words → word ≡ get_or words rack word → slot < 64
      → has_slot word slot ≡ nat_lt (taken_in counts rack slot) cores
  left_is cores rack word slot counts words shows below is within =
      ap (λ (m : ℕ). has_slot m slot) (get_or_read words rack word below is 0) ∙ shows.each rack slot below within

  -- where it needs links both racks have one left, too
  pub common_with : (src dst from to free up down slot : ℕ) → src < length senders → dst < length senders → free < 2 ^ 64 → from ≡ rack_of limits.hosts src
      → to ≡ rack_of limits.hosts dst → needs_links maps src dst ≡ true → up ≡ get_or leaving_left from up → down ≡ get_or entering_left to down
      → has_slot free slot ≡ (is_free_to_send maps src slot && may_receive maps dst slot) → has_slot (bit_and free (bit_and up down)) slot ≡ is_common maps src dst slot
  common_with src dst from to free up down slot src_below dst_below fits from_is to_is needed up_is down_is free_is =
      let both : Bool = is_free_to_send maps src slot && may_receive maps dst slot in
      has_slot-both free (bit_and up down) slot
      ∙ elim (cases_lt slot 64) [
        | inl within ↦
            ap (λ (b : Bool). b && has_slot (bit_and up down) slot) free_is
            ∙ (ap (λ (b : Bool). both && b) (has_slot-both up down slot)
            ∙ (ap (λ (b : Bool). both && (b && has_slot down slot))
            (left_is limits.cores from up slot leaving leaving_left fit.leaving_shown (omega (arith, from_is, rack_below src src_below, fit.leaving_count)) up_is within
            ∙ ap (λ (r : ℕ). nat_lt (taken_in leaving r slot) limits.cores) from_is)
            ∙ (ap (λ (b : Bool). both && (nat_lt (taken_in leaving (rack_of limits.hosts src) slot) limits.cores && b))
            (left_is limits.cores to down slot entering entering_left fit.entering_shown (omega (arith, to_is, rack_below dst dst_below, fit.entering_count)) down_is within
            ∙ ap (λ (r : ℕ). nat_lt (taken_in entering r slot) limits.cores) to_is)
            ∙ with_links both (needs_links maps src dst) (has_links maps src dst slot) needed)))
        | inr from_64 ↦
            let none : has_slot free slot ≡ false = has_slot-above free slot fits from_64 in
            and_left (has_slot free slot) (has_slot (bit_and up down) slot) none
            ∙ sym (and_left both (not (needs_links maps src dst) || has_links maps src dst slot) (sym free_is ∙ none))
      ]
    where
      with_links : (both needs links : Bool) → needs ≡ true → (both && links) ≡ (both && (not needs || links))
      with_links both true links is = refl
      with_links both false links is = absurd (both_ways false refl is)

  -- in a common slot of a flow that needs links both racks have one left
  links_left : (src dst slot : ℕ) → is_common maps src dst slot ≡ true → needs_links maps src dst ≡ true → has_links maps src dst slot ≡ true
  links_left src dst slot common needed =
      left (is_free_to_send maps src slot && may_receive maps dst slot) (needs_links maps src dst) (has_links maps src dst slot) common needed
    where
      left : (both needs links : Bool) → (both && (not needs || links)) ≡ true → needs ≡ true → links ≡ true
      left both true links all is = (and_parts both links all).1
      left both false links all is = absurd (both_ways false refl is)

  pub common_links_left : (src dst common slot : ℕ) → common < 2 ^ 64 → needs_links maps src dst ≡ true → ((k : ℕ) → has_slot common k ≡ is_common maps src dst k) → has_slot common slot ≡ true
      → (slot < 64) × (has_links maps src dst slot ≡ true)
  common_links_left src dst common slot fits needed common_is here = (
    elim (cases_lt slot 64) [
      | inl within ↦ within
      | inr above ↦ absurd (both_ways (has_slot common slot) (has_slot-above common slot fits above) here)
    ],
    links_left src dst slot (sym (common_is slot) ∙ here) needed,
  )

  pub up_left : (src dst from slot : ℕ) → src < length senders → slot < 64 → from ≡ rack_of limits.hosts src → has_links maps src dst slot ≡ true
      → has_slot (get_or leaving_left from 0) slot ≡ true
  up_left src dst from slot below within from_is links =
      fit.leaving_shown.each from slot (omega (arith, from_is, rack_below src below, fit.leaving_count)) within
      ∙ (ap (λ (r : ℕ). nat_lt (taken_in leaving r slot) limits.cores) from_is
      ∙ (and_parts (nat_lt (leaving_in maps (rack_in maps src) slot) limits.cores) (nat_lt (entering_in maps (rack_in maps dst) slot) limits.cores) links).0)

  pub down_left : (src dst to slot : ℕ) → dst < length senders → slot < 64 → to ≡ rack_of limits.hosts dst → has_links maps src dst slot ≡ true
      → has_slot (get_or entering_left to 0) slot ≡ true
  down_left src dst to slot below within to_is links =
      fit.entering_shown.each to slot (omega (arith, to_is, rack_below dst below, fit.entering_count)) within
      ∙ (ap (λ (r : ℕ). nat_lt (taken_in entering r slot) limits.cores) to_is
      ∙ (and_parts (nat_lt (leaving_in maps (rack_in maps src) slot) limits.cores) (nat_lt (entering_in maps (rack_in maps dst) slot) limits.cores) links).1)

-- one more is counted in the rack of the endpoint
pub links_taken : (own rack slot : ℕ) (counted needs : Bool) (taken : ℕ → Bool) (old new : List ℕ) → slot < 64 → own ≡ rack → counted ≡ needs
    → HasTakenLinks own (λ k. counted && taken k) old new → (at : ℕ) → taken_in new at slot ≡ taken_in old at slot + cond ((at == rack) && (needs && taken slot)) 1 0
links_taken own rack slot counted needs taken old new within own_is counted_is took at =
    took at slot within
    ∙ (ap (λ (r : ℕ). taken_in old at slot + cond ((at == r) && (counted && taken slot)) 1 0) own_is
    ∙ ap (λ (b : Bool). taken_in old at slot + cond ((at == rack) && (b && taken slot)) 1 0) counted_is)
