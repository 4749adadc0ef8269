use Rattle.csv.specs.Records.{fields_of}
use Rattle.trace_text.proofs.ReaderFacts.{read-step}
use Rattle.trace_text.proofs.csv_records.CsvRecords.read.Goals as goal

pub invariant_of-self-2 : goal.invariant_of-self-2
invariant_of-self-2 c =
    let reading = c.self.invariant c.if-self.false in
    let read = c.in-Ok.ensures.reads reading.untrimmed reading.ready in
    (read-step c.in-Ok.found c.self.inside.reader c.read_byte_record.new.self (fields_of c.read_byte_record.new.row) reading read (c.in-Ok.ensures.ready reading.untrimmed) c.in-Ok.ensures.flexible).0

pub returns : goal.returns
returns c =
    let reading = c.self.invariant c.if-self.false in
    let read = c.in-Ok.ensures.reads reading.untrimmed reading.ready in
    rw (← c.self.view_is, c.if-self.false)
    (read-step c.in-Ok.found c.self.inside.reader c.read_byte_record.new.self (fields_of c.read_byte_record.new.row) reading read (c.in-Ok.ensures.ready reading.untrimmed) c.in-Ok.ensures.flexible).1
