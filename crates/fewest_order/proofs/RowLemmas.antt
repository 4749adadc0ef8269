-- Batches of one rack of four hosts, the first with two entries that open flows of endpoint 0, and the later ones with none.
use Rattle.std.proofs.Common.{◌≡◌, ◌<◌, ◌^◌, ℕ, List, [], ◌++◌, All, sym, ap, ◌∙◌, subst}
use Rattle.std.proofs.lemmas.List.{append-nil}
use Rattle.greedy_rules.specs.declared.flows.Item.{Item}
use Rattle.greedy_rules.specs.declared.flows.Entry.{Entry}
use Rattle.greedy_rules.specs.declared.limits.Limits.{Limits}
use Rattle.greedy_rules.specs.Batches.{entry_of}
use Rattle.greedy_rules.specs.Demands.{AreBelow, need_with, opened, after_batch_by}
use Rattle.greedy_rules.specs.Limits.{is_barred}
use Rattle.greedy_rules.specs.Allocation.{list_after_slots_by}
use Rattle.greedy_rules.specs.Examples.{remaining}

abbrev pub Fits : Item → Type 0
Fits item = item.need < 2 ^ 32

-- what such a batch leaves by need
abbrev pub left_by_need : ℕ → ℕ → Limits → List Entry → List Item → List Item
left_by_need first b limits entries list = list_after_slots_by remaining (is_barred limits) first b (after_batch_by remaining entries list)

abbrev pub one_rack : Limits
one_rack = record { hosts = 4; cores = 1 }

pub left_is : (first b : ℕ) (limits : Limits) (entries are : List Entry) (list was left : List Item) → limits ≡ one_rack → entries ≡ are → list ≡ was
    → left ≡ left_by_need first b limits entries list → left ≡ left_by_need first b one_rack are was
left_is first b limits entries are list was left in_rack those there is =
    is
    ∙ (ap (λ (l : Limits). left_by_need first b l entries list) in_rack
    ∙ (ap (λ (es : List Entry). left_by_need first b one_rack es list) those
    ∙ ap (left_by_need first b one_rack are) there))

-- a batch of no entries may follow
pub fits_next : (entries : List Entry) (list is : List Item) → entries ≡ [] → list ≡ is → All Fits is → All (λ item. need_with (entry_of entries item.flow) item.need < 2 ^ 32) list
fits_next entries list is none left fits =
    subst (λ (es : List Entry). All (λ (item : Item). need_with (entry_of es item.flow) item.need < 2 ^ 32) list) (sym none) (subst (All Fits) (sym left) fits)

pub below_next : (endpoints now : ℕ) (entries : List Entry) (list : List Item) → entries ≡ [] → now ≡ endpoints → AreBelow endpoints list → AreBelow now (list ++ opened entries)
below_next endpoints now entries list none same below =
    subst (λ (es : List Entry). AreBelow now (list ++ opened es)) (sym none)
    (subst (AreBelow now) (sym (append-nil list)) (subst (λ (n : ℕ). AreBelow n list) (sym same) below))
