-- Which words are accepted, and what they set (this project's own profile).
use Rattle.std.specs.Prelude.{◌<◌, ◌≤◌, ℕ, Bool, ◌&&◌, ◌||◌, nat_le, List, [], ◌∷◌, Option, Some, None, IfSome, is_none, is_some, option_map, unwrap_or, if◌then◌else◌, slice_index, codes, map, Result, Ok, Err}
use Rattle.std.specs.Borrow.{Bor}
use Rattle.std.specs.Str.{bytes_eq, all_ascii_digits}
use Rattle.std.specs.Str.Parse.{digits_value}
use Rattle.clos_topology.specs.Network.{Network}
use Rattle.clos_topology.specs.Limits.{network_of}
use Rattle.clos_topology.specs.declared.net.NetRefused.{NetRefused}
use Rattle.run_text.specs.Sizes.{AreSizes}
use Rattle.run_text.specs.declared.sizes.Sizes.{Sizes}
use Rattle.trace_text.specs.declared.command.Command.TheVariants.{Plan, Replay, Receive}
use Rattle.fastpass_run.specs.declared.words.Input.{Input}
use Rattle.fastpass_run.specs.declared.words.Input.TheVariants.{Read, Made}
use Rattle.fastpass_run.specs.declared.words.Policy.{Policy}
use Rattle.fastpass_run.specs.declared.words.Policy.TheVariants.{Last, Fewest}
use Rattle.fastpass_run.specs.declared.words.Options.{Options}
use Rattle.fastpass_run.specs.declared.words.Task.{Task}
use Rattle.fastpass_run.specs.declared.words.Task.TheVariants as task

-- words as lists of bytes
abbrev pub texts : List (Bor (List ℕ)) → List (List ℕ)
texts words = map (λ word. word.now) words

-- a number from 1 to most, in plain decimal without a leading zero
abbrev pub plain_up_to : ℕ → List ℕ → Option ℕ
plain_up_to most word =
    if nat_le 49 (slice_index word 0) && nat_le (slice_index word 0) 57 && all_ascii_digits word && nat_le (digits_value 10 word) most
    then Some (digits_value 10 word) else None

abbrev pub is_word : List ℕ → List ℕ → Bool
is_word name word = bytes_eq word name

-- a number of 32 bits in plain decimal: 0, or one without a leading zero
abbrev pub any_number : List ℕ → Option ℕ
any_number word = if is_word (codes "0") word then Some 0 else plain_up_to 4294967295 word

abbrev pub policy_of : List ℕ → Option Policy
policy_of word = if is_word (codes "last") word then Some Last else (if is_word (codes "fewest") word then Some Fewest else None)

-- one pair of a name and its value more, of a name that was not there before
abbrev pub with_option : List ℕ → List ℕ → Options → Option Options
with_option name value options =
    if is_word (codes "--batch") name && is_none options.batch then option_map (λ n. record options { batch = Some n }) (plain_up_to 64 value)
    else (if is_word (codes "--window") name && is_none options.window then option_map (λ n. record options { window = Some n }) (plain_up_to 16 value)
    else (if is_word (codes "--workers") name && is_none options.workers then option_map (λ n. record options { workers = Some n }) (plain_up_to 16 value)
    else (if is_word (codes "--paths") name && is_none options.paths then option_map (λ n. record options { paths = Some n }) (plain_up_to 16 value)
    else (if is_word (codes "--policy") name && is_none options.policy then option_map (λ p. record options { policy = Some p }) (policy_of value)
    else (if is_word (codes "--racks") name && is_none options.racks then option_map (λ n. record options { racks = Some n }) (plain_up_to 64 value)
    else (if is_word (codes "--hosts") name && is_none options.hosts then option_map (λ n. record options { hosts = Some n }) (plain_up_to 64 value)
    else (if is_word (codes "--cores") name && is_none options.cores then option_map (λ n. record options { cores = Some n }) (plain_up_to 64 value)
    else None)))))))

abbrev pub options_then : (Options → Option Options) → Option Options → Option Options
options_then more None = None
options_then more (Some options) = more options

-- the pairs of a name and its value after the command, in any order
abbrev pub options_of : List (List ℕ) → Options → Option Options
options_of [] options = Some options
options_of (name ∷ []) options = None
options_of (name ∷ (value ∷ words)) options = options_then (options_of words) (with_option name value options)

abbrev pub no_options : Options
no_options = record { batch = None; window = None; workers = None; paths = None; policy = None; racks = None; hosts = None; cores = None }

-- one is named that tells how a trace is run, or one that tells a network
abbrev pub names_a_run : Options → Bool
names_a_run options = is_some options.window || is_some options.workers || is_some options.paths

abbrev pub names_a_net : Options → Bool
names_a_net options = is_some options.racks || is_some options.hosts || is_some options.cores

-- the sizes of a run, where options are named, and else 8 slots in a batch, 8 rounds in a window, 4 workers and 2 path workers
abbrev pub sizes_of : Options → Sizes
sizes_of options = record { b = unwrap_or options.batch 8; g = unwrap_or options.window 8; workers = unwrap_or options.workers 4; paths = unwrap_or options.paths 2 }

-- what is asked of a trace: where it comes from, the slots of a batch, the rounds of a window, and how many workers and path
-- workers there are
pub record AskedOfTrace : Type 0 where
  pub input : Input
  pub b : ℕ
  pub g : ℕ
  pub workers : ℕ
  pub paths : ℕ

abbrev pub asked_by_input : Input → Sizes → AskedOfTrace
asked_by_input input sizes = record { input = input; b = sizes.b; g = sizes.g; workers = sizes.workers; paths = sizes.paths }

-- what the words ask for: the text of a trace; its plan by need; the audit of a text of a network, with so many slots in a batch; or
-- the text of a script's takeover
pub data Asked : Type 0 where
  writes : AskedOfTrace → Asked
  plans_by_need : Sizes → Asked
  audits : Network → ℕ → Asked
  takes_over : Asked

abbrev pub asked_with : Option Input → Option Options → Option Asked
asked_with None options = None
asked_with (Some input) None = None
asked_with (Some input) (Some options) = if names_a_net options || is_some options.policy then None else Some (writes (asked_by_input input (sizes_of options)))

-- by the flow that was served least recently, where no policy is named
abbrev pub planned_by : Option Policy → Sizes → Asked
planned_by None sizes = writes (asked_by_input (Read Plan) sizes)
planned_by (Some Last) sizes = writes (asked_by_input (Read Plan) sizes)
planned_by (Some Fewest) sizes = plans_by_need sizes

abbrev pub asked_to_plan : Option Options → Option Asked
asked_to_plan None = None
asked_to_plan (Some options) = if names_a_net options then None else Some (planned_by options.policy (sizes_of options))

-- a number and then pairs
abbrev pub asked_to_make : List (List ℕ) → Option Asked
asked_to_make [] = None
asked_to_make (number ∷ pairs) = asked_with (option_map Made (any_number number)) (options_of pairs no_options)

-- the network of three numbers that are all named
abbrev pub accepted_net : Result Network NetRefused → Option Network
accepted_net (Ok net) = Some net
accepted_net (Err refused) = None

abbrev pub net_named : Option ℕ → Option ℕ → Option ℕ → Option Network
net_named (Some racks) (Some hosts) (Some cores) = accepted_net (network_of racks hosts cores)
net_named _ _ _ = None

abbrev pub net_of_options : Options → Option Network
net_of_options options = net_named options.racks options.hosts options.cores

abbrev pub asked_to_audit : Option Options → Option Asked
asked_to_audit None = None
asked_to_audit (Some options) = if names_a_run options || is_some options.policy then None else option_map (λ net. audits net (unwrap_or options.batch 8)) (net_of_options options)

-- packets that a desk receives, as the rows of a trace; no size shows in what it answers
abbrev pub asked_to_receive : Asked
asked_to_receive = writes (asked_by_input (Read Receive) (sizes_of no_options))

-- a word with none after it
abbrev pub asked_alone : Asked → List (List ℕ) → Option Asked
asked_alone asked [] = Some asked
asked_alone asked (word ∷ words) = None

-- what words ask for, where they are accepted: `plan`, `replay`, or `make` and a number, and then pairs; `audit` and then pairs; or
-- `receive` or `takeover` alone
abbrev pub asked_by_words : List (List ℕ) → Option Asked
asked_by_words [] = None
asked_by_words (word ∷ words) =
    if is_word (codes "plan") word then asked_to_plan (options_of words no_options)
    else (if is_word (codes "replay") word then asked_with (Some (Read Replay)) (options_of words no_options)
    else (if is_word (codes "make") word then asked_to_make words
    else (if is_word (codes "audit") word then asked_to_audit (options_of words no_options)
    else (if is_word (codes "receive") word then asked_alone asked_to_receive words
    else (if is_word (codes "takeover") word then asked_alone takes_over words
    else None)))))

-- the same of a task
abbrev pub asked_by_task : Task → Asked
asked_by_task (task.Write input sizes) = writes (asked_by_input input sizes)
asked_by_task (task.PlanByNeed sizes) = plans_by_need sizes
asked_by_task (task.Audit net b) = audits net b
asked_by_task task.TakeOver = takes_over

-- a run has sizes, and an audit a size of a batch
abbrev pub HasSizes : Task → Type 0
HasSizes (task.Write input sizes) = AreSizes sizes
HasSizes (task.PlanByNeed sizes) = AreSizes sizes
HasSizes (task.Audit net b) = b ≤ 64
HasSizes task.TakeOver = Unit {0}

-- the options that are named are within their limits
pub record OptionsAreWithin (options : Options) : Type 0 where
  pub some_slots : IfSome options.batch (λ n. (0 < n) × (n ≤ 64))
  pub some_rounds : IfSome options.window (λ n. (0 < n) × (n ≤ 16))
  pub some_workers : IfSome options.workers (λ n. (0 < n) × (n ≤ 16))
  pub some_paths : IfSome options.paths (λ n. (0 < n) × (n ≤ 16))
