-- All rounds of a text were played.
use Rattle.std.proofs.Common.{◌≡◌, ◌<◌, ◌≤◌, ◌+◌, ◌*◌, ◌^◌, nat_lt, ℕ, suc, List, [], ◌∷◌, ◌++◌, length, take, drop, get_or, cond, Bool, Option, Some, None, All, refl, sym, ap, ◌∙◌, subst, arith, append-nil}
use Rattle.std.specs.Prelude.{option_map}
use Rattle.std.specs.List.{cons_option}
use Rattle.std.proofs.Math.Nat.{mul-le-mul_right}
use Rattle.std.proofs.lemmas.List.{take_all, take_more, drop_more}
use Rattle.std.proofs.lemmas.List.Sums.{sum_by-take-drop}
use Rattle.list_facts.specs.Order.{sort_by}
use Rattle.greedy_rules.specs.declared.flows.Flow.{Flow}
use Rattle.greedy_rules.specs.Batches.{DemandBatch}
use Rattle.greedy_rules.specs.Demands.{item_of, need_in}
use Rattle.greedy_rules.specs.Slot.{has_flow}
use Rattle.greedy_rules.specs.SlotTable.{IsSlotOf}
use Rattle.greedy_rules.specs.Allocation.{slots_of}
use Rattle.greedy_rules.specs.Schedule.{schedule, rest}
use Rattle.greedy_rules.specs.Fronts.{FrontsAreFronts}
use Rattle.greedy_rules.specs.Matching.{EverySlotIsInRange, EverySlotsFlowsAreOfEntries}
use Rattle.greedy_rules.specs.Recorded.{AreRecorded}
use Rattle.clos_topology.specs.Network.{Network, endpoints_of}
use Rattle.report_text.specs.declared.line.Line.{Line}
use Rattle.schedule_audit.specs.declared.rounds.Rounds.{Rounds}
use Rattle.schedule_audit.specs.declared.judges.Judges.{Judges}
use Rattle.schedule_audit.specs.Lines.{Path, path_of, sent_by_line, paths, records}
use Rattle.schedule_audit.specs.Wrong.{Expected, expected_of, expected_of_batches, slot_places_from, added_in_all, allocated_since, is_wrong}
use Rattle.schedule_audit.specs.Entered.{IsCleared}
use Rattle.schedule_audit.specs.BadLines.{first_from, first_wrong}
use Rattle.schedule_audit.specs.Numbered.{Numbered, at_line, numbered_lines}
use Rattle.schedule_audit.specs.Totals.{total_in_line, is_wrong_total, first_total}
use Rattle.schedule_audit.specs.FlowNumbers.{Numbers, flow_number_of}
use Rattle.schedule_audit.specs.Judged.{first_path, earlier, first_missed}
use Rattle.schedule_audit.specs.Judging.{AreSmall}
use Rattle.schedule_audit.specs.Played.{AuditIsPlayed}
use Rattle.schedule_audit.specs.Summed.{AreFigures}
use Rattle.schedule_audit.proofs.ReadBatches.{ReadOff}
use Rattle.schedule_audit.proofs.Counts.{counts_begin}
use Rattle.schedule_audit.proofs.PlaySteps.{among-front}
use Rattle.schedule_audit.proofs.RoundSteps.{counted-places}
use Rattle.schedule_audit.proofs.SendOrder.{number, missed-sort}
use Rattle.schedule_audit.proofs.FirstWrong.{first-of-all}

-- ---- the rounds one after the other

pub next-batch : (batches : List DemandBatch) (k : ℕ) (d : DemandBatch) → k < length batches → (drop k batches ≡ get_or batches k d ∷ drop (k + 1) batches) × (take k batches ++ get_or batches k d ∷ [] ≡ take (k + 1) batches)
next-batch batches k d within = (drop_more batches k d within, sym (take_more batches k d within))

pub numbers-fit : (round rounds b : ℕ) → round < rounds → rounds ≤ 100000 → b ≤ 255 → round * b + b + 1 ≤ 2 ^ 32
numbers-fit round rounds b less few small = let most = mul-le-mul_right b (low less few) in omega (arith, most, small)
  where
    low : round < rounds → rounds ≤ 100000 → round ≤ 100000
    low less' few' = omega (arith, less', few')

drop-whole : {X : Type 0} (xs : List X) → drop (length xs) xs ≡ []
drop-whole [] = refl
drop-whole (x ∷ xs) = drop-whole xs

pub all-played : (net : Network) (b n : ℕ) (batches : List DemandBatch) (rounds : Rounds) (judges : Judges) → length batches ≡ n → AuditIsPlayed net b (take n batches) (drop n batches) rounds judges → AuditIsPlayed net b batches [] rounds judges
all-played net b n batches rounds judges many played =
    subst (λ xs. AuditIsPlayed net b batches xs rounds judges) (ap (λ m. drop m batches) (sym many) ∙ drop-whole batches)
    (subst (λ xs. AuditIsPlayed net b xs (drop n batches) rounds judges) (take_all n batches (omega (arith, many))) played)

-- ---- how many `slot` lines there are

count-one : (n : ℕ) (o : Option Path) (rest : List (Numbered Path)) (ps : List Path) → length rest ≡ length ps → length (cons_option (option_map (at_line n) o) rest) ≡ length (cons_option o ps)
count-one n None rest ps same = same
count-one n (Some p) rest ps same = ap suc same

count-numbered : (n : ℕ) (lines : List (Option Line)) → length (numbered_lines path_of n lines) ≡ length (paths lines)
count-numbered n [] = refl
count-numbered n (l ∷ lines) = count-one n (path_of l) (numbered_lines path_of (n + 1) lines) (paths lines) (count-numbered (n + 1) lines)

module _ (net : Network) (b : ℕ) (lines : List (Option Line)) (off : ReadOff net lines) where
  abbrev pub told : Expected
  told = expected_of_batches b (records lines) off.batches

  told-is : expected_of net b lines ≡ told
  told-is = ap (λ xs. expected_of_batches b (records lines) xs) off.same

  -- ---- what sums the text up

  pub figures-are : FrontsAreFronts → EverySlotIsInRange → EverySlotsFlowsAreOfEntries → (rounds : Rounds) (judges : Judges) (left : Numbers) → AuditIsPlayed net b off.batches [] rounds judges
      → ((flow : Flow) → flow_number_of left flow ≡ need_in (item_of rounds.demand.items flow)) → AreFigures b told rounds.ledger.added judges.slots rounds.ledger.cleared left
  figures-are fronts ranged flows rounds judges left played needs = record {
    all = λ flow. played.played.ledger.added flow ∙ ap (λ rs. added_in_all flow rs) off.is;
    allocated = allocated;
    since = λ flow. allocated flow ∙ since flow (played.played.ledger.cleared flow);
    rest = λ flow. needs flow ∙ ap (λ items. need_in (item_of items flow)) played.played.list;
  }
    where
      slots-are : All (IsSlotOf (endpoints_of net)) (schedule b off.batches)
      slots-are = ranged (endpoints_of net) b off.batches
          (among-front (endpoints_of net) (record { hosts = net.hosts; cores = net.cores }) [] off.batches [] (subst (AreRecorded (endpoints_of net) (record { hosts = net.hosts; cores = net.cores })) (sym (append-nil off.batches)) off.are))

      allocated : (flow : Flow) → flow_number_of judges.slots flow ≡ slots_of flow (schedule b off.batches)
      allocated flow = played.judged.slots flow ∙ counted-places (endpoints_of net) 1 flow (schedule b off.batches) slots-are

      since : (flow : Flow) → IsCleared b off.batches flow (flow_number_of rounds.ledger.cleared flow) → slots_of flow (schedule b off.batches) ≡ flow_number_of rounds.ledger.cleared flow + allocated_since b told flow
      since flow (place, at, before) =
          let later : allocated_since b told flow ≡ slots_of flow (drop (place * b) (schedule b off.batches)) =
          ap (λ rs. allocated_since b (expected_of_batches b rs off.batches) flow) (sym off.is)
          ∙ counts_begin fronts flows (endpoints_of net) b (record { hosts = net.hosts; cores = net.cores }) off.batches flow place off.are at in
          let both = sum_by-take-drop (λ (slot : List Flow). cond (has_flow slot flow) 1 0) (schedule b off.batches) (place * b) in
          omega (arith, later, both, before)

  -- ---- the first wrong line

  pub found-is : AreSmall lines → (judges : Judges) (path send total : Option ℕ) → judges.paths.lines.items ≡ numbered_lines path_of 1 lines → judges.sends.lines.items ≡ sort_by number (numbered_lines sent_by_line 1 lines)
      → path ≡ first_path net (slot_places_from 1 (schedule b off.batches)) [] judges.paths.lines.items → send ≡ first_missed (slot_places_from 1 (schedule b off.batches)) [] judges.sends.lines.items
      → total ≡ first_total (is_wrong_total b told (length (paths lines))) (numbered_lines total_in_line 1 lines) → earlier path (earlier send total) ≡ first_wrong net b lines
  found-is small judges path send total ps ss is_path is_send is_total =
      let places = slot_places_from 1 (schedule b off.batches) in
      let P : path ≡ first_path net places [] (numbered_lines path_of 1 lines) = is_path ∙ ap (λ xs. first_path net places [] xs) ps in
      let S : send ≡ first_missed places [] (numbered_lines sent_by_line 1 lines) = is_send ∙ (ap (λ xs. first_missed places [] xs) ss ∙ missed-sort places [] (numbered_lines sent_by_line 1 lines)) in
      ap (λ o. earlier o (earlier send total)) P
      ∙ (ap (λ o. earlier (first_path net places [] (numbered_lines path_of 1 lines)) (earlier o total)) S
      ∙ (ap (λ o. earlier (first_path net places [] (numbered_lines path_of 1 lines)) (earlier (first_missed places [] (numbered_lines sent_by_line 1 lines)) o)) is_total
      ∙ (sym (first-of-all net b told lines small) ∙ ap (λ (e : Expected). first_from (is_wrong net b e lines) 1 [] lines) (sym told-is))))

  pub short-is : (rounds : Rounds) (judges : Judges) (short : Bool) (count : ℕ) → AuditIsPlayed net b off.batches [] rounds judges → count ≡ length (numbered_lines path_of 1 lines) → short ≡ nat_lt count judges.places → short ≡ nat_lt (length (paths lines)) (length told.places)
  short-is rounds judges short count played is so = so ∙ (ap (λ n. nat_lt n judges.places) (is ∙ count-numbered 1 lines) ∙ ap (λ n. nat_lt (length (paths lines)) n) played.judged.count)
