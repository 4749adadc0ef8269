-- Texts that are traces and texts that are none, by computation.
use Rattle.std.proofs.Common.{◌≡◌, [], ◌∷◌, codes, refl, length, Option, Some, None, Ok, Err}
use Rattle.csv.specs.Machine.{next_record}
use Rattle.csv.specs.Reading.{records_from, strip_bom}
use Rattle.hex.specs.Hex.{decode_pairs}
use Rattle.loss_world.specs.declared.fate.Fate.{Fate}
use Rattle.loss_world.specs.declared.fate.Fate.TheVariants.{Lose, Hold, Twice}
use Rattle.trace_text.specs.Fields.{is_number, number_of, is_hex}
use Rattle.trace_text.specs.Faults.{read_row, read_kind, checked}
use Rattle.trace_text.specs.Trace.{trace_of, rows_after}
use Rattle.trace_text.specs.Made.{drawn, made_asks, next_state, state_after}
use Rattle.trace_text.proofs.MadeFacts.{asks-count}
use Rattle.trace_text.specs.declared.command.Command.TheVariants.{Plan, Replay, Receive}
use Rattle.trace_text.specs.declared.fault.Fault.TheVariants as fault

-- no packet of an endpoint has a fate
abbrev none : Option Fate × Option Fate
none = (None, None)

-- two asks of one flow in one round add up
asks_add_up : trace_of Plan (codes "net,1,3,1\nask,0,0,2,4\nask,0,0,1,1\nask,0,0,2,3\nend,1\n")
    ≡ Ok (record { net = record { racks = 1; hosts = 3; cores = 1 }; rounds = 1; asked = (((1, 1) ∷ (2, 7) ∷ []) ∷ [] ∷ [] ∷ []) ∷ []; fates = (none ∷ none ∷ none ∷ []) ∷ []; boots = ([] ∷ [] ∷ [] ∷ []) ∷ []; raw = [] ∷ []; puts = [] ∷ [] ∷ [] ∷ [] })
unfolding next_record records_from strip_bom is_number number_of is_hex read_row read_kind checked trace_of rows_after
asks_add_up = refl

-- the endpoints of a net are those of all its racks
several_racks : trace_of Plan (codes "net,3,2,2\nask,0,0,5,4\nend,1\n")
    ≡ Ok (record { net = record { racks = 3; hosts = 2; cores = 2 }; rounds = 1; asked = (((5, 4) ∷ []) ∷ [] ∷ [] ∷ [] ∷ [] ∷ [] ∷ []) ∷ []; fates = (none ∷ none ∷ none ∷ none ∷ none ∷ none ∷ []) ∷ []; boots = ([] ∷ [] ∷ [] ∷ [] ∷ [] ∷ [] ∷ []) ∷ []; raw = [] ∷ []; puts = [] ∷ [] ∷ [] ∷ [] ∷ [] ∷ [] ∷ [] })
unfolding next_record records_from strip_bom is_number number_of is_hex read_row read_kind checked trace_of rows_after
several_racks = refl

-- fates of both ways, boots with and without a version, and raw packets, one of them of no bytes
all_kinds : trace_of Replay (codes "net,1,2,1\nhold,0,0,up,3\nraw,0,0aF0\nboot,0,1\nlose,0,1,down\nboot,0,1,2\nraw,0,\ntwice,0,0,down\nend,1\n")
    ≡ Ok (record {
      net = record { racks = 1; hosts = 2; cores = 1 };
      rounds = 1;
      asked = ([] ∷ [] ∷ []) ∷ [];
      fates = ((Some (Hold 3), Some Twice) ∷ (None, Some Lose) ∷ []) ∷ [];
      boots = ([] ∷ (1 ∷ 2 ∷ []) ∷ []) ∷ [];
      raw = ((10 ∷ 240 ∷ []) ∷ [] ∷ []) ∷ [];
      puts = [] ∷ [] ∷ [];
    })
unfolding next_record records_from strip_bom is_number number_of is_hex read_row read_kind checked trace_of rows_after decode_pairs
all_kinds = refl

-- packets that endpoints put, one of them of no bytes
packets_put : trace_of Receive (codes "net,1,3,1\nput,2,0a\nput,0,\nput,2,F0f1\nend,1\n")
    ≡ Ok (record {
      net = record { racks = 1; hosts = 3; cores = 1 };
      rounds = 1;
      asked = ([] ∷ [] ∷ [] ∷ []) ∷ [];
      fates = (none ∷ none ∷ none ∷ []) ∷ [];
      boots = ([] ∷ [] ∷ [] ∷ []) ∷ [];
      raw = [] ∷ [];
      puts = ([] ∷ []) ∷ [] ∷ ((10 ∷ []) ∷ (240 ∷ 241 ∷ []) ∷ []) ∷ [];
    })
unfolding next_record records_from strip_bom is_number number_of is_hex read_row read_kind checked trace_of rows_after decode_pairs
packets_put = refl

-- packets are received in one round, and put in no replay
two_rounds : trace_of Receive (codes "net,1,2,1\nend,2\n") ≡ Err (record { row = 2; fault = fault.Range })
unfolding next_record records_from strip_bom is_number number_of is_hex read_row read_kind checked trace_of rows_after
two_rounds = refl

put_in_replay : trace_of Replay (codes "net,1,2,1\nput,0,\n") ≡ Err (record { row = 2; fault = fault.NotHere })
unfolding next_record records_from strip_bom is_number number_of is_hex read_row read_kind checked trace_of rows_after
put_in_replay = refl

-- a packet has one fate
two_fates : trace_of Replay (codes "net,1,2,1\nlose,0,0,up\ntwice,0,0,up\n") ≡ Err (record { row = 3; fault = fault.TwoFates })
unfolding next_record records_from strip_bom is_number number_of is_hex read_row read_kind checked trace_of rows_after
two_fates = refl

-- there may be more hosts in a rack than cores
few_cores : trace_of Plan (codes "net,2,3,2\n") ≡ Err (record { row = 2; fault = fault.NoEnd })
unfolding next_record records_from strip_bom is_number number_of is_hex read_row read_kind checked trace_of rows_after
few_cores = refl

too_many_endpoints : trace_of Plan (codes "net,64,64,63\n") ≡ Err (record { row = 1; fault = fault.Range })
unfolding next_record records_from strip_bom is_number number_of is_hex read_row read_kind checked trace_of rows_after
too_many_endpoints = refl

late_net : trace_of Plan (codes "net,1,2,1\nnet,2,2,2\n") ≡ Err (record { row = 2; fault = fault.Order })
unfolding next_record records_from strip_bom is_number number_of is_hex read_row read_kind checked trace_of rows_after
late_net = refl

-- the first fault of the first faulty row
first_fault : trace_of Plan (codes "net,1,2,1\nask,3,0,1,1\nask,2,0,0,1\n") ≡ Err (record { row = 3; fault = fault.SelfFlow })
unfolding next_record records_from strip_bom is_number number_of is_hex read_row read_kind checked trace_of rows_after
first_fault = refl

-- no row is faulty, and the last is not the end
no_end : trace_of Plan (codes "net,1,2,1") ≡ Err (record { row = 2; fault = fault.NoEnd })
unfolding next_record records_from strip_bom is_number number_of is_hex read_row read_kind checked trace_of rows_after
no_end = refl

-- an empty text lacks a net
no_net : trace_of Plan [] ≡ Err (record { row = 1; fault = fault.NoNet })
unfolding next_record records_from strip_bom is_number number_of is_hex read_row read_kind checked trace_of rows_after
no_net = refl

-- the first draws of the trace that 0 makes, in a net of 128 endpoints
first_source : drawn (state_after 1 0) 128 ≡ 63
unfolding next_state
first_source = refl

-- 400 rounds have five asks each
two_thousand_asks : length (made_asks 7 128 400) ≡ 2000
two_thousand_asks = asks-count 7 128 400
