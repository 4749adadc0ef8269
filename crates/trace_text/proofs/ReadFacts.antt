-- Rows that give a fate, raw rows, and rows that put a packet.
use Rattle.std.proofs.Common.{◌≡◌, ℕ, ◌<◌, ◌≤◌, List, length, true, false, Result, Ok, Err, inl, inr, refl, sym, ap, ◌∙◌, arith}
use Rattle.std.specs.Prelude.{◌&&◌, ◌||◌, nat_le, nat_lt, is_some}
use Rattle.std.specs.List.{filter_map}
use Rattle.std.proofs.lemmas.Bool.Decides.{nat_tests}
use Rattle.std.proofs.Math.Bool.{and-false}
use Rattle.loss_world.specs.declared.fate.Fate.TheVariants.{Lose, Twice}
use Rattle.trace_text.specs.Fields.{Record, field, has_number, field_number_at, is_hex, bytes_of}
use Rattle.trace_text.specs.Rows.{Row, Raw, Put, may_have}
use Rattle.trace_text.specs.Stage.{takes_kind}
use Rattle.clos_topology.specs.Network.{endpoints_of}
use Rattle.trace_text.specs.Earlier.{net_of, end_of, greatest_round, put_in}
use Rattle.trace_text.specs.Faults.{checked, is_round, read_kind}
use Rattle.trace_text.specs.Standing.{MeetsFate, ReadsKind, ReadsPacket}
use Rattle.trace_text.specs.declared.command.Command.{Command}
use Rattle.trace_text.specs.declared.kind.Kind.TheVariants as kind
use Rattle.trace_text.specs.declared.fault.Fault.{Fault}
use Rattle.trace_text.specs.declared.fault.Fault.TheVariants as fault
use Rattle.trace_text.specs.declared.taken_row.TakenRow.{TakenRow}
use Rattle.trace_text.proofs.HexFacts.{hex-bytes}

pub reads-lose : (command : Command) (fields : Record) (r : Result TakenRow Fault) → takes_kind command kind.Lose ≡ true → may_have kind.Lose (length fields) ≡ true → MeetsFate fields Lose r → ReadsKind command kind.Lose fields r
unfolding read_kind
reads-lose command fields (Ok row) takes four is = (takes, four, is.0, refl, is.1, is.2)
reads-lose command fields (Err why) takes four is = λ before. rw (takes, four, is.0, is.1) refl

pub reads-twice : (command : Command) (fields : Record) (r : Result TakenRow Fault) → takes_kind command kind.Twice ≡ true → may_have kind.Twice (length fields) ≡ true → MeetsFate fields Twice r → ReadsKind command kind.Twice fields r
unfolding read_kind
reads-twice command fields (Ok row) takes four is = (takes, four, is.0, refl, is.1, is.2)
reads-twice command fields (Err why) takes four is = λ before. rw (takes, four, is.0, is.1) refl

-- a packet of too many digits is out of range
long-packet : (command : Command) (before : List Row) (fields : Record) → takes_kind command kind.Raw ≡ true → length fields ≡ 3 → has_number fields 1 ≡ true → is_hex (field fields 2) ≡ true → 4096 < length (field fields 2)
    → read_kind command before fields kind.Raw ≡ Err fault.Range
unfolding read_kind checked
long-packet command before fields takes three number hex long =
    let bytes = hex-bytes (field fields 2) hex in
    let many : nat_le (length (bytes_of (field fields 2))) 2048 ≡ false = let half = bytes.1 in grind (arith, nat_tests) in
    let out : (is_round (field_number_at fields 1) && nat_le (length (bytes_of (field fields 2))) 2048) ≡ false = rw many (and-false (is_round (field_number_at fields 1))) in
    rw (takes, three, number, hex, out) refl

long-put : (command : Command) (before : List Row) (fields : Record) → takes_kind command kind.Put ≡ true → length fields ≡ 3 → has_number fields 1 ≡ true → is_hex (field fields 2) ≡ true → 4096 < length (field fields 2)
    → read_kind command before fields kind.Put ≡ Err fault.Range
unfolding read_kind checked
long-put command before fields takes three number hex long =
    let bytes = hex-bytes (field fields 2) hex in
    let many : nat_le (length (bytes_of (field fields 2))) 2048 ≡ false = let half = bytes.1 in grind (arith, nat_tests) in
    let out : (nat_lt (field_number_at fields 1) (endpoints_of (net_of before)) && nat_le (length (bytes_of (field fields 2))) 2048) ≡ false = rw many (and-false (nat_lt (field_number_at fields 1) (endpoints_of (net_of before)))) in
    rw (takes, three, number, hex, out) refl

-- a row whose packet can't be read
pub raw-refused : (command : Command) (fields : Record) (why : Fault) → takes_kind command kind.Raw ≡ true → length fields ≡ 3 → has_number fields 1 ≡ true → ReadsPacket fields (Err why) → ReadsKind command kind.Raw fields (Err why)
unfolding read_kind
raw-refused command fields why takes three number (inl hex) = λ before. rw (takes, three, number, hex.0, hex.1) refl
raw-refused command fields why takes three number (inr long) = λ before. long-packet command before fields takes three number long.0 long.1 ∙ ap Err (sym long.2)

pub put-refused : (command : Command) (fields : Record) (why : Fault) → takes_kind command kind.Put ≡ true → length fields ≡ 3 → has_number fields 1 ≡ true → ReadsPacket fields (Err why) → ReadsKind command kind.Put fields (Err why)
unfolding read_kind
put-refused command fields why takes three number (inl hex) = λ before. rw (takes, three, number, hex.0, hex.1) refl
put-refused command fields why takes three number (inr long) = λ before. long-put command before fields takes three number long.0 long.1 ∙ ap Err (sym long.2)

-- a row that puts a packet of an endpoint stands after the end, is one too many, or is taken
pub put-late : (before : List Row) (endpoint : ℕ) (bytes : List ℕ) → endpoint < endpoints_of (net_of before) → length bytes ≤ 2048 → is_some (end_of before) ≡ true → checked before (Put endpoint bytes) ≡ Err fault.Order
unfolding checked
put-late before endpoint bytes low short late =
    let first : nat_lt endpoint (endpoints_of (net_of before)) ≡ true = grind (arith, nat_tests) in
    let second : nat_le (length bytes) 2048 ≡ true = grind (arith, nat_tests) in
    rw (first, second, late) refl

pub put-many : (before : List Row) (endpoint : ℕ) (bytes : List ℕ) → endpoint < endpoints_of (net_of before) → length bytes ≤ 2048 → is_some (end_of before) ≡ false → 1024 ≤ length (filter_map (put_in endpoint) before)
    → checked before (Put endpoint bytes) ≡ Err fault.Sum
unfolding checked
put-many before endpoint bytes low short late many =
    let first : nat_lt endpoint (endpoints_of (net_of before)) ≡ true = grind (arith, nat_tests) in
    let second : nat_le (length bytes) 2048 ≡ true = grind (arith, nat_tests) in
    let third : nat_le 1024 (length (filter_map (put_in endpoint) before)) ≡ true = grind (arith, nat_tests) in
    rw (first, second, late, third) refl

pub put-taken : (before : List Row) (endpoint : ℕ) (bytes : List ℕ) → endpoint < endpoints_of (net_of before) → length bytes ≤ 2048 → is_some (end_of before) ≡ false → length (filter_map (put_in endpoint) before) < 1024
    → checked before (Put endpoint bytes) ≡ Ok (Put endpoint bytes)
unfolding checked
put-taken before endpoint bytes low short late few =
    let first : nat_lt endpoint (endpoints_of (net_of before)) ≡ true = grind (arith, nat_tests) in
    let second : nat_le (length bytes) 2048 ≡ true = grind (arith, nat_tests) in
    let third : nat_le 1024 (length (filter_map (put_in endpoint) before)) ≡ false = grind (arith, nat_tests) in
    rw (first, second, late, third) refl

-- a raw row within its range comes late, or is taken
pub raw-late : (before : List Row) (round : ℕ) (bytes : List ℕ) → round ≤ 99999 → length bytes ≤ 2048 → (is_some (end_of before) || nat_lt round (greatest_round before)) ≡ true → checked before (Raw round bytes) ≡ Err fault.Order
unfolding checked
raw-late before round bytes low short late =
    let first : nat_le round 99999 ≡ true = grind (arith, nat_tests) in
    let second : nat_le (length bytes) 2048 ≡ true = grind (arith, nat_tests) in
    rw (first, second, late) refl

pub raw-taken : (before : List Row) (round : ℕ) (bytes : List ℕ) → round ≤ 99999 → length bytes ≤ 2048 → (is_some (end_of before) || nat_lt round (greatest_round before)) ≡ false → checked before (Raw round bytes) ≡ Ok (Raw round bytes)
unfolding checked
raw-taken before round bytes low short late =
    let first : nat_le round 99999 ≡ true = grind (arith, nat_tests) in
    let second : nat_le (length bytes) 2048 ≡ true = grind (arith, nat_tests) in
    rw (first, second, late) refl
