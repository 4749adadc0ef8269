use Rattle.std.proofs.Common.{◌≡◌, ◌∷◌, ◌++◌, Some, refl, sym, ap, ◌∙◌}
use Rattle.std.specs.Prelude.{option_map}
use Rattle.csv.specs.Reading.{reader_state, strip_bom}
use Rattle.trace_text.specs.Records.{TextReader, text_left}
use Rattle.trace_text.proofs.LineFacts.{marked}
use Rattle.trace_text.proofs.csv_records.CsvRecords.new.Goals as goal

pub returns-in-Ok : goal.returns-in-Ok
returns-in-Ok c =
    let text = c.args.text.now in
    let left : text_left c.set_byte_headers.new.self ≡ Some text =
    ap text_left c.in-Ok.ensures.same ∙ c.from_reader-reader.ensures.source ∙ ap (option_map strip_bom) (c.chain-marked.ensures.bytes ∙ ap (λ mark. Some (mark ++ text)) c.as_slice.ensures)
    ∙ ap Some (sym (marked (239 ∷ 187 ∷ 191 ∷ text) text refl)) in
    rw (left, ap (λ (reader : TextReader). reader_state reader) c.in-Ok.ensures.same ∙ c.from_reader-reader.ensures.state) refl
