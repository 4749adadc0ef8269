-- What one read of a record does to the records that a reader has left.
use Rattle.std.proofs.Common.{◌≡◌, ℕ, List, [], ◌∷◌, Bool, true, false, Option, Some, None, IsSome, refl, sym, ◌∙◌, inl, not}
use Rattle.std.specs.Prelude.{if◌then◌else◌}
use Rattle.std.specs.Bool.{MatchBool}
use Rattle.std.proofs.lemmas.Bool.{false≢true}
use Rattle.csv.specs.Machine.{Read, ends_at_end, next_record}
use Rattle.csv.specs.Reading.{NextIs, ReadRecord, ReadsNext, default_config, is_flexible, pending_of, took_first}
use Rattle.csv.specs.declared.parser.State.{State}
use Rattle.trace_text.specs.Fields.{Record}
use Rattle.trace_text.specs.Records.{TextReader, IsReading, bytes_of_marked, records_left, records_of_rest, text_left}
use Rattle.trace_text.proofs.CsvFacts.{next-facts, records_from-next, records_from-none}

-- once the start of the text was read, what is left is what was not read yet
pending : (b : TextReader) → b.bom_checked ≡ true → text_left b ≡ pending_of (bytes_of_marked b.rdr) b
pending b e = rw e refl

more : (s s2 : State) (text rest : Option (List ℕ)) (fields : Record) → IsSome text → ends_at_end s ≡ false → ReadsNext default_config s text rest true fields s2
    → (ends_at_end s2 ≡ false) × IsSome rest × (records_of_rest s text ≡ fields ∷ records_of_rest s2 rest)
more s s2 None rest fields known between reads = absurd (false≢true known)
more s s2 (Some xs) None fields known between reads = absurd reads
more s s2 (Some xs) (Some ys) fields known between reads = by (next_record default_config s [] [] xs) refl reads
  where
    by : (o : Option Read) → next_record default_config s [] [] xs ≡ o → NextIs o true fields s2 ys
        → (ends_at_end s2 ≡ false) × IsSome {T = List ℕ} (Some ys) × (records_of_rest s (Some xs) ≡ fields ∷ records_of_rest s2 (Some ys))
    by None e is = absurd (false≢true (sym is))
    by (Some r) e is = rw (is.1, is.2, is.3) ((next-facts s [] [] xs r e).0, refl, records_from-next s xs r between e)

none : (s s2 : State) (text rest : Option (List ℕ)) (fields : Record) → IsSome text → ReadsNext default_config s text rest false fields s2 → records_of_rest s text ≡ []
none s s2 None rest fields known reads = refl
none s s2 (Some xs) None fields known reads = absurd reads
none s s2 (Some xs) (Some ys) fields known reads = by (next_record default_config s [] [] xs) refl reads
  where
    by : (o : Option Read) → next_record default_config s [] [] xs ≡ o → NextIs o false fields s2 ys → records_of_rest s (Some xs) ≡ []
    by None e is = records_from-none s xs e
    by (Some r) e is = absurd (false≢true is.0)

-- a record was found
read-found : (a b : TextReader) (fields : Record) → IsReading a → ReadRecord bytes_of_marked a b true fields → took_first b ≡ true → is_flexible b ≡ is_flexible a
    → IsReading b × (records_left a ≡ fields ∷ records_left b)
read-found a b fields reading read first flexible =
    let step = more a.state b.state (text_left a) (pending_of (bytes_of_marked b.rdr) b) fields reading.known reading.between (rw reading.config at read.0) in
    let left = pending b read.1 in (
      record {
        untrimmed = read.3 ∙ reading.untrimmed;
        ready = inl first;
        flexible = flexible ∙ reading.flexible;
        config = read.2 ∙ reading.config;
        between = step.0;
        known = rw left step.1;
      },
      rw left step.2,
    )

-- none was found
read-none : (a b : TextReader) (fields : Record) → IsReading a → ReadRecord bytes_of_marked a b false fields → records_left a ≡ []
read-none a b fields reading read =
    none a.state b.state (text_left a) (pending_of (bytes_of_marked b.rdr) b) fields reading.known (rw reading.config at read.0)

-- a read, as it answers whether there was a record
pub read-step : (found : Bool) (a b : TextReader) (fields : Record) → IsReading a → ReadRecord bytes_of_marked a b found fields → took_first b ≡ true → is_flexible b ≡ is_flexible a
    → (not found ≡ false → IsReading b) × MatchBool found (records_left a ≡ fields ∷ (if not found then [] else records_left b)) (records_left a ≡ [])
read-step true a b fields reading read first flexible = let step = read-found a b fields reading read first flexible in (λ _. step.0, step.1)
read-step false a b fields reading read first flexible = (λ e. absurd (false≢true (sym e)), read-none a b fields reading read)
