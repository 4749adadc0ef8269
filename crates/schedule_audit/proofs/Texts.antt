-- A text of recorded batches has no bad line.
use Rattle.std.proofs.Common.{◌≡◌, ℕ, List, [], length, refl, sym, ap, ◌∙◌, subst, arith}
use Rattle.std.proofs.lemmas.List.{length-map}
use Rattle.greedy_rules.specs.Batches.{DemandBatch}
use Rattle.clos_topology.specs.Network.{endpoints_of}
use Rattle.schedule_audit.specs.Lines.{Recorded, Place, Path, paths, sends_in_lines}
use Rattle.schedule_audit.specs.Misplaced.{is_bad_end}
use Rattle.schedule_audit.specs.Wrong.{Expected, expected_of_batches, batches_of_records}
use Rattle.schedule_audit.specs.Laws.{read, GoodRecords, GoodPaths, GoodSends, AreGoodLines, expected_of_text}
use Rattle.schedule_audit.specs.Texts.{records_of, ATextOfBatchesHasNoBadLine}
use Rattle.schedule_audit.proofs.Walk.{a_good_text}
use Rattle.schedule_audit.proofs.Batches.{batches_again}
use Rattle.schedule_audit.proofs.Records.{good_records, good_end}
use Rattle.schedule_audit.proofs.Places.{good_paths, good_sends}

pub a_text_of_batches : ATextOfBatchesHasNoBadLine
a_text_of_batches net b batches body is =
    let n : ℕ = length batches in
    let expected : Expected = expected_of_batches b (records_of 0 batches) batches in
    let same : expected_of_text net b body n ≡ expected =
    ap (λ (rs : List Recorded). expected_of_batches b rs (batches_of_records net n rs)) is.records
    ∙ ap (λ (bs : List DemandBatch). expected_of_batches b (records_of 0 batches) bs) (batches_again net (endpoints_of net) batches is.recorded) in
    let ps : List Path = paths (read body) in
    a_good_text net b body n (record {
      inner = is.inner;
      records = subst (GoodRecords (endpoints_of net) []) (sym is.records) (good_records (endpoints_of net) (record { hosts = net.hosts; cores = net.cores }) batches is.recorded is.say is.few);
      last = ap (λ (rs : List Recorded). is_bad_end rs n) is.records ∙ good_end batches is.some_round is.most_rounds;
      paths = subst (λ (t : Expected). GoodPaths net t [] ps) (sym same) (good_paths net expected [] [] ps (sym is.places) refl is.cores is.apart (λ k d within. absurd (omega arith)));
      count = sym (length-map ps (λ (p : Path). p.place)) ∙ (ap (λ (xs : List Place). length xs) is.places ∙ ap (λ (t : Expected). length t.places) (sym same));
      sends = subst (λ (t : Expected). GoodSends t [] (sends_in_lines (read body))) (sym same) (good_sends expected [] (sends_in_lines (read body)) is.scheduled is.once (λ k d within. absurd (omega arith)));
      lines = subst (λ (t : Expected). AreGoodLines b t body) (sym same) is.lines;
    })
