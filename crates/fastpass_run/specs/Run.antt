-- What a run comes to: the words, the bytes read, the text written, the status and the note (this project's own profile).
use Rattle.std.specs.Prelude.{◌≡◌, ◌⊎◌, ℕ, ◌+◌, ◌≤◌, ◌<◌, List, [], ◌∷◌, ◌++◌, length, All, Some, None, Result, Ok, Err, codes, decimal}
use Rattle.std.specs.Io.KnownBytes.{Appends}
use Rattle.clos_topology.specs.NetSlots.{SlotCores}
use Rattle.fp_edge.specs.Faults.{Rose}
use Rattle.trace_text.specs.declared.command.Command.TheVariants.{Plan, Replay}
use Rattle.trace_text.specs.declared.fault.Fault.{Fault}
use Rattle.trace_text.specs.FaultNumbers.{fault_number}
use Rattle.trace_text.specs.Trace.{TraceContent, FaultyRow, trace_of}
use Rattle.window_engine.specs.Batches.{plan_batches}
use Rattle.window_engine.specs.Counts.{AllIsAllocatedOrPending}
use Rattle.trace_run.specs.Run.{replayed}
use Rattle.trace_run.specs.Shown.{IsShown}
use Rattle.replay_rounds.specs.Setting.{setting_of}
use Rattle.window_engine.specs.Scheduled.{EverySlotIsScheduled}
use Rattle.text_output.specs.Content.{SinkContent}
use Rattle.text_output.specs.Transfer.{AppendsFront}
use Rattle.run_text.specs.PlanText.{plan_lines, plan_text}
use Rattle.run_text.specs.ReplayText.{replay_lines, replay_text}
use Rattle.run_text.specs.Ledger.{IsBalanced, LedgerIsKept}
use Rattle.run_text.specs.Sends.{SendsAreScheduled}
use Rattle.run_text.specs.Made.{trace_of_number, made_run, made_sums, made_text, SumsBalance}
use Rattle.fastpass_run.specs.Audits.{Audits, HasBadLine, AuditEnds}
use Rattle.fastpass_run.specs.ByNeed.{PlansByNeed}
use Rattle.fastpass_run.specs.Receives.{Receives}
use Rattle.fastpass_run.specs.Takeovers.{TakesOver}
use Rattle.fastpass_run.specs.Rows.{Rows, IsReadAs, AsksToRead, first_faulty}
use Rattle.fastpass_run.specs.Outside.{Outside, Growth, IsUnread, IsUnwritten}
use Rattle.fastpass_run.specs.Statuses.{IsStatusAmong}
use Rattle.fastpass_run.specs.Transfer.{Takes, input_limit}
use Rattle.fastpass_run.specs.Words.{Asked, AskedOfTrace, asked_by_words}
use Rattle.fastpass_run.specs.Words.Asked.{writes}
use Rattle.fastpass_run.specs.declared.words.Input.TheVariants.{Read, Made}
use Rattle.fastpass_run.specs.declared.outcome.Failure.{Failure}
use Rattle.fastpass_run.specs.declared.outcome.Failure.TheVariants as failure

-- ---- what is written

-- The output grew by the plan of a trace, with cores that make each slot of the schedule clean.
pub record Plans (grew : Growth) (words : List (List ℕ)) (old new : Outside) : Type 0 where
  pub asked : AskedOfTrace
  pub accepted : asked_by_words words ≡ Some (writes asked)
  pub command : asked.input ≡ Read Plan
  pub trace : TraceContent
  pub read : IsReadAs (λ bytes. trace_of Plan bytes ≡ Ok trace) old new
  pub cores : SlotCores
  pub written : grew old.sink.held new.sink.held (plan_text cores asked.b trace)
  -- each slot is a matching that no waiting demand could join, on paths that share no link
  pub slots : EverySlotIsScheduled asked.b trace.net (plan_batches trace) cores
  -- each flow's demand is allocated or pending, in the schedule and in its `flow` line
  pub ledger : AllIsAllocatedOrPending asked.b (plan_batches trace)
  pub balanced : All IsBalanced (plan_lines cores asked.b trace)

-- The output grew by the replay of a trace, with cores that make each slot of the schedule clean.
pub record RunsReplay (grew : Growth) (words : List (List ℕ)) (old new : Outside) : Type 0 where
  pub asked : AskedOfTrace
  pub accepted : asked_by_words words ≡ Some (writes asked)
  pub command : asked.input ≡ Read Replay
  pub trace : TraceContent
  pub read : IsReadAs (λ bytes. trace_of Replay bytes ≡ Ok trace) old new
  pub cores : SlotCores
  pub written : grew old.sink.held new.sink.held (replay_text cores asked.b asked.g trace)
  -- each slot is a matching that no waiting demand could join, on paths that share no link
  pub slots : EverySlotIsScheduled asked.b trace.net (replayed (setting_of trace asked.b asked.g cores) trace.rounds).batches cores
  -- what the run shows of its slots, its sends and its counts
  pub shown : IsShown (setting_of trace asked.b asked.g cores) trace.rounds
  -- each `sent` line is of a slot that the schedule gives its flow, and no two are of one slot and source
  pub sends : SendsAreScheduled (setting_of trace asked.b asked.g cores) trace.rounds (replay_lines cores (setting_of trace asked.b asked.g cores) trace)
  -- each `count` line balances, and the `batch` lines add what it says is demanded and lost
  pub ledger : LedgerIsKept (setting_of trace asked.b asked.g cores) trace.rounds (replay_lines cores (setting_of trace asked.b asked.g cores) trace)

-- Nothing was read, and the output grew by the sums of the counts of a made trace's replay: they are the same whichever cores are
-- named, and balance.
pub record Makes (grew : Growth) (words : List (List ℕ)) (old new : Outside) : Type 0 where
  pub asked : AskedOfTrace
  pub number : ℕ
  pub accepted : asked_by_words words ≡ Some (writes asked)
  pub command : asked.input ≡ Made number
  pub unread : IsUnread old new
  pub written : (cores : SlotCores) → grew old.sink.held new.sink.held (made_text number asked.b asked.g cores)
  pub balanced : (cores : SlotCores) → SumsBalance (made_sums number asked.b asked.g cores)
  pub shown : (cores : SlotCores) → IsShown (made_run number asked.b asked.g cores) (trace_of_number number).rounds

-- the output grew so by the text that the words ask for
abbrev pub Performs : Growth → List (List ℕ) → Outside → Outside → Type 0
Performs grew words old new =
    Plans grew words old new ⊎ (PlansByNeed grew words old new ⊎ (RunsReplay grew words old new ⊎ (Makes grew words old new
    ⊎ (Audits grew words old new ⊎ (Receives grew words old new ⊎ TakesOver grew words old new)))))

-- nothing was written, or a front of the text that the words ask for
abbrev pub PerformsAtMost : List (List ℕ) → Outside → Outside → Type 0
PerformsAtMost words old new = IsUnwritten old new ⊎ Performs AppendsFront words old new

-- ---- what the words ask for

-- something
abbrev pub HasWords : List (List ℕ) → Type 0
HasWords words = (asked : Asked) × (asked_by_words words ≡ Some asked)

-- the replay of the trace that this number makes
abbrev pub AsksToMake : List (List ℕ) → ℕ → Type 0
AsksToMake words number = (asked : AskedOfTrace) × (asked_by_words words ≡ Some (writes asked)) × (asked.input ≡ Made number)

-- a row of the text is faulty for what the words ask for, and the first such row is this one
pub record HasFaultyRow (words : List (List ℕ)) (old new : Outside) (row : ℕ) (fault : Fault) : Type 0 where
  pub rows : Rows
  pub accepted : AsksToRead words rows
  pub read : IsReadAs (λ bytes. first_faulty rows bytes ≡ Some (record { row = row; fault = fault })) old new

-- ---- how a run ends

abbrev pub Ending : Type 0
Ending = Result (Unit {0}) Failure

abbrev pub status_of : Ending → ℕ
status_of (Ok done) = 0
status_of (Err failure.Words) = 1
status_of (Err (failure.Row row fault)) = 2
status_of (Err failure.Read) = 3
status_of (Err failure.Write) = 4
status_of (Err failure.Memory) = 5
status_of (Err failure.Big) = 6
status_of (Err (failure.Bad line)) = 7

-- the one line of the notes, none where all was done
abbrev pub note_of : Ending → List ℕ
note_of (Ok done) = []
note_of (Err failure.Words) = codes "words" ++ 10 ∷ []
note_of (Err (failure.Row row fault)) = (codes "row," ++ decimal row ++ 44 ∷ decimal (fault_number fault)) ++ 10 ∷ []
note_of (Err failure.Read) = codes "read" ++ 10 ∷ []
note_of (Err failure.Write) = codes "write" ++ 10 ∷ []
note_of (Err failure.Memory) = codes "memory" ++ 10 ∷ []
note_of (Err failure.Big) = codes "big" ++ 10 ∷ []
note_of (Err (failure.Bad line)) = (codes "bad," ++ decimal line) ++ 10 ∷ []

-- What each end tells. Up to 2 and with 3, 5, 6 and 7 no more is taken than the limit, or with 6 one byte more.
abbrev pub EndsBy : List (List ℕ) → Outside → Outside → Ending → Type 0
EndsBy words old new (Ok done) = Performs Appends words old new
EndsBy words old new (Err failure.Words) = (asked_by_words words ≡ None) × IsUnread old new × IsUnwritten old new
EndsBy words old new (Err (failure.Row row fault)) = HasFaultyRow words old new row fault × IsUnwritten old new
EndsBy words old new (Err failure.Read) = HasWords words × Rose old.faults new.faults × Takes old.left new.left (λ n. n ≤ input_limit) × IsUnwritten old new
EndsBy words old new (Err failure.Write) = Rose old.sink.faults new.sink.faults × Performs AppendsFront words old new
EndsBy words old new (Err failure.Memory) = HasWords words × Takes old.left new.left (λ n. n ≤ input_limit) × PerformsAtMost words old new
EndsBy words old new (Err failure.Big) = HasWords words × Takes old.left new.left (λ n. n ≡ input_limit + 1) × IsUnwritten old new
EndsBy words old new (Err (failure.Bad line)) = HasBadLine words old new line × IsUnwritten old new

-- ---- when a run may end so

-- the words ask for these bytes to be read as such rows, and nothing else is in the source
pub record GivesBytes (words : List (List ℕ)) (old : Outside) (rows : Rows) (bytes : List ℕ) : Type 0 where
  pub accepted : AsksToRead words rows
  pub told : old.left ≡ Some bytes

-- an accepted text within the limit: it is done, or a read or a write failed, or memory is wanting
abbrev pub Completes : List (List ℕ) → Outside → ℕ → Type 0
Completes words old status =
    (rows : Rows) (bytes : List ℕ) → GivesBytes words old rows bytes → length bytes ≤ input_limit → first_faulty rows bytes ≡ None
    → IsStatusAmong status (0 ∷ 3 ∷ 4 ∷ 5 ∷ [])

-- a text within the limit that has a faulty row: so says the status, or a read failed, or memory is wanting
abbrev pub TellsFaults : List (List ℕ) → Outside → ℕ → Type 0
TellsFaults words old status =
    (rows : Rows) (bytes : List ℕ) (faulty : FaultyRow) → GivesBytes words old rows bytes → length bytes ≤ input_limit → first_faulty rows bytes ≡ Some faulty
    → IsStatusAmong status (2 ∷ 3 ∷ 5 ∷ [])

-- more bytes than the limit: the same
abbrev pub TellsExcess : List (List ℕ) → Outside → ℕ → Type 0
TellsExcess words old status = (rows : Rows) (bytes : List ℕ) → GivesBytes words old rows bytes → input_limit < length bytes → IsStatusAmong status (6 ∷ 3 ∷ 5 ∷ [])

-- a number makes the trace: nothing is read, and it is done, or a write failed, or memory is wanting
abbrev pub ReadsNothing : List (List ℕ) → Outside → Outside → ℕ → Type 0
ReadsNothing words old new status = (number : ℕ) → AsksToMake words number → IsUnread old new × IsStatusAmong status (0 ∷ 4 ∷ 5 ∷ [])

-- ---- a run

-- What a run comes to, by what source and output tell before and after, what the notes tell before and after, and the status.
pub record RunsWords (words : List (List ℕ)) (old new : Outside) (notes notes' : SinkContent) (status : ℕ) : Type 0 where
  -- it ends in one of eight ways, each with a status of its own
  pub ending : Ending
  pub status_is : status ≡ status_of ending
  -- what this end tells: of the words, of what was read and written, and why a read or a write failed
  pub tells : EndsBy words old new ending
  -- where the notes have no fault, they got its one line
  pub noted : ¬ Rose notes.faults notes'.faults → Appends notes.held notes'.held (note_of ending)
  -- where the source tells its bytes, an accepted trace or script is done, unless a fault rose or memory is wanting
  pub completes : Completes words old status
  -- a faulty one is told, and so are too many bytes, unless a read failed or memory is wanting
  pub tells_faults : TellsFaults words old status
  pub tells_excess : TellsExcess words old status
  -- a made trace is done with nothing read, unless a write failed or memory is wanting
  pub reads_nothing : ReadsNothing words old new status
  -- where the source tells a text to audit, it is done without a bad line, and else told the first one
  pub audit_ends : AuditEnds words old status
