use Rattle.std.proofs.Common.{◌≡◌, ◌++◌, sym, subst}
use Rattle.csv.specs.Records.{fields_of}
use Rattle.trace_text.specs.Lines.{BeginsLong, records_in}
use Rattle.trace_text.proofs.records.begins_too_long.Goals as goal

pub returns-then-branch : goal.returns-then-branch
returns-then-branch c _ =
    let all : c.args.text.now ≡ c.split_at.result.0.now ++ c.split_at.result.1.now = c.split_at.ensures.by_index.0 in
    subst (λ text. BeginsLong (records_in text) (fields_of c.has_long_record.new.fields)) (sym all) (c.in_ok-has_long_record.ensures c.if-branch.true c.split_at.result.1.now)
