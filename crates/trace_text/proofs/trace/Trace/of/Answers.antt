use Rattle.std.proofs.Common.{◌≡◌, ℕ, List, sum_by, length, refl, sym, ap, subst, ◌∙◌, arith}
use Rattle.std.proofs.lemmas.List.Sorted.{length_permutation}
use Rattle.clos_topology.specs.Network.{endpoints_of}
use Rattle.trace_text.specs.Puts.{puts_in}
use Rattle.trace_text.specs.Asks.{slots_asked}
use Rattle.trace_text.specs.Events.{events_kept}
use Rattle.trace_text.specs.Trace.{content_by, each_below, with_puts}
use Rattle.trace_text.specs.Valid.{IsTrace}
use Rattle.trace_text.proofs.AskFacts.{rising-sorted, among-more}
use Rattle.trace_text.proofs.ContentFacts.{content_by-same}
use Rattle.trace_text.proofs.EventFacts.{among-permuted, events-ordered}
use Rattle.trace_text.proofs.ValidFacts.{content_by-sound, with_puts-sound}
use Rattle.trace_text.proofs.trace.Trace.of.Goals as goal

pub settle-requires-clause-small : goal.settle-requires-clause-small
settle-requires-clause-small c = among-more (endpoints_of c.args.net) 256 c.args.asks.items c.requires.net.most_endpoints c.requires.among

pub settle-requires-clause-bounded : goal.settle-requires-clause-bounded
settle-requires-clause-bounded c = λ round src dst. omega (arith, c.requires.small round src dst)

pub starts_of-requires-clause-sorted : goal.starts_of-requires-clause-sorted
starts_of-requires-clause-sorted c = rw c.deref.ensures.value (rising-sorted 0 c.in_ok-asks.asks.items c.in_ok-asks.ensures.rising)

pub starts_of-requires-2-clause-sorted : goal.starts_of-requires-2-clause-sorted
starts_of-requires-2-clause-sorted c = rw c.deref-2.ensures.value c.in_ok-sort.ensures.sorted

pub returns-clause-content : goal.returns-clause-content
returns-clause-content c =
    let events = c.args.events in
    let puts : List (List (List ℕ)) = each_below (endpoints_of c.args.net) (puts_in c.args.puts) in
    let put : c.in_ok-puts.puts ≡ puts = c.in_ok-puts.ensures ∙ ap (λ (n : ℕ). each_below n (puts_in c.args.puts)) c.endpoints.ensures.number in
    ap (λ (own : List (List (List ℕ))). with_puts own (content_by c.args.net c.args.rounds (λ round src dst. sum_by (slots_asked round src dst) c.in_ok-asks.asks.items) (events_kept c.sort.new.items.items c.sort-2.new.items.items c.sort-3.new.items.items events.bytes.items))) put
    ∙ ap (with_puts puts) (content_by-same c.args.net c.args.rounds _ _ _ _
    c.in_ok-asks.ensures.sums
    (events-ordered events.fates.items c.sort.new.items.items events.boots.items c.sort-2.new.items.items events.raws.items c.sort-3.new.items.items events.bytes.items
    c.in_ok-sort.ensures.stable c.in_ok-sort-2.ensures.stable c.in_ok-sort-3.ensures.stable))

pub returns-clause-sound : goal.returns-clause-sound
returns-clause-sound c =
    let events = c.args.events in
    subst IsTrace (sym (returns-clause-content c))
    (with_puts-sound (endpoints_of c.args.net) c.args.puts _
    (content_by-sound c.args.net c.args.rounds c.args.asks.items events.fates.items events.boots.items events.raws.items events.bytes.items c.requires.net c.requires.some c.requires.few c.requires.among
    c.requires.bounded c.requires.events c.requires.boots (rw (← c.deref-5.ensures.value) c.bytes_are_below_256.ensures))
    refl c.requires.puts (rw (← c.deref-6.ensures.value) c.bytes_are_below_256-2.ensures))

pub invariant_of-result : goal.invariant_of-result
invariant_of-result c =
    let few = c.requires.net.most_endpoints in
    let events = c.args.events in
    let boots : length c.sort-2.new.items.items ≡ length events.boots.items = length_permutation events.boots.items c.sort-2.new.items.items c.sort-2.ensures.same in
    let puts : List (List (List ℕ)) = each_below (endpoints_of c.args.net) (puts_in c.args.puts) in
    let put : c.in_ok-puts.puts ≡ puts = c.in_ok-puts.ensures ∙ ap (λ (n : ℕ). each_below n (puts_in c.args.puts)) c.endpoints.ensures.number in
    let raws : length c.sort-3.new.items.items ≡ length events.raws.items = length_permutation events.raws.items c.sort-3.new.items.items c.sort-3.ensures.same in (
      record {
        few = few;
        rising = c.in_ok-asks.ensures.rising;
        among = c.in_ok-asks.ensures.among (endpoints_of c.args.net) c.requires.among;
        begin = rw c.deref.ensures.value at c.in_ok-ask_starts.ensures;
      },
      record {
        among = among-permuted (endpoints_of c.args.net) events.fates.items c.sort.new.items.items events.boots.items c.sort-2.new.items.items events.raws.items c.sort-3.new.items.items events.bytes.items
            c.sort.ensures.same c.sort-2.ensures.same c.sort-3.ensures.same c.requires.events;
        fates_rise = c.in_ok-sort.ensures.sorted;
        fates_begin = rw c.deref-2.ensures.value at c.in_ok-fate_starts.ensures;
        boots_rise = c.in_ok-sort-2.ensures.sorted;
        boots_begin = rw c.deref-3.ensures.value at c.in_ok-boot_starts.ensures;
        raws_rise = c.in_ok-sort-3.ensures.sorted;
        raws_begin = rw c.deref-4.ensures.value at c.in_ok-raw_starts.ensures;
        few = omega (arith, boots, c.requires.boots);
        few_raws = omega (arith, raws, c.requires.raws);
      },
      subst IsTrace
          (sym
          (ap (λ (own : List (List (List ℕ))). with_puts own (content_by c.args.net c.args.rounds (λ round src dst. sum_by (slots_asked round src dst) c.in_ok-asks.asks.items) (events_kept c.sort.new.items.items c.sort-2.new.items.items c.sort-3.new.items.items events.bytes.items))) put
          ∙ ap (with_puts puts) (content_by-same c.args.net c.args.rounds _ _ _ _
          c.in_ok-asks.ensures.sums
          (events-ordered events.fates.items c.sort.new.items.items events.boots.items c.sort-2.new.items.items events.raws.items c.sort-3.new.items.items events.bytes.items
          c.in_ok-sort.ensures.stable c.in_ok-sort-2.ensures.stable c.in_ok-sort-3.ensures.stable))))
          (with_puts-sound (endpoints_of c.args.net) c.args.puts _
          (content_by-sound c.args.net c.args.rounds c.args.asks.items events.fates.items events.boots.items events.raws.items events.bytes.items c.requires.net c.requires.some c.requires.few
          c.requires.among c.requires.bounded c.requires.events c.requires.boots (rw (← c.deref-5.ensures.value) c.bytes_are_below_256.ensures))
          refl c.requires.puts (rw (← c.deref-6.ensures.value) c.bytes_are_below_256-2.ensures)),
    )
