-- The bytes of each output line, without its line feed (this project's own profile): its name, and then its fields, each
-- after a comma; number_fields are plain decimal.
use Rattle.std.specs.Prelude.{ℕ, ◌+◌, ◌≤◌, ⊤, List, [], ◌∷◌, ◌++◌, Bool, true, false, Option, Some, None, IfSome, codes, decimal, map, slice_index}
use Rattle.report_text.specs.declared.line.Line.{Line}
use Rattle.report_text.specs.declared.line.Line.TheVariants as line
use Rattle.report_text.specs.Names.{answer_name, event_name, IsRefusal, IsAnswer, IsEventRefusal}

-- each field after a comma
abbrev pub fields : List (List ℕ) → List ℕ
fields [] = []
fields (field ∷ more) = 44 ∷ field ++ fields more

abbrev pub number_fields : List ℕ → List ℕ
number_fields ns = fields (map decimal ns)

-- a packet that stays in its rack takes no core
abbrev pub core_field : Option ℕ → List ℕ
core_field None = codes "-"
core_field (Some core) = decimal core

abbrev pub bit : Bool → ℕ
bit false = 0
bit true = 1

abbrev pub line_bytes : Line → List ℕ
line_bytes (line.Batch batch src dst clear add) = codes "batch" ++ number_fields (batch ∷ src ∷ dst ∷ bit clear ∷ add ∷ [])
line_bytes (line.Slot slot src dst core) = codes "slot" ++ number_fields (slot ∷ src ∷ dst ∷ []) ++ fields (core_field core ∷ [])
line_bytes (line.Sent slot src dst) = codes "sent" ++ number_fields (slot ∷ src ∷ dst ∷ [])
line_bytes (line.Refused round number) = codes "refused" ++ number_fields (round ∷ []) ++ fields (answer_name number ∷ [])
line_bytes (line.Flow src dst demanded allocated pending) = codes "flow" ++ number_fields (src ∷ dst ∷ demanded ∷ allocated ∷ pending ∷ [])
line_bytes (line.Count src dst demanded acknowledged flight pending lost sent missed) =
    codes "count" ++ number_fields (src ∷ dst ∷ demanded ∷ acknowledged ∷ flight ∷ pending ∷ lost ∷ sent ∷ missed ∷ [])
line_bytes (line.End rounds) = codes "end" ++ number_fields (rounds ∷ [])
line_bytes (line.Made number flows demanded acknowledged flight pending lost sent missed) =
    codes "made" ++ number_fields (number ∷ flows ∷ demanded ∷ acknowledged ∷ flight ∷ pending ∷ lost ∷ sent ∷ missed ∷ [])
line_bytes (line.Answer endpoint place number) = codes "answer" ++ number_fields (endpoint ∷ place ∷ []) ++ fields (answer_name number ∷ [])
line_bytes (line.Granted message node generation first) = codes "granted" ++ number_fields (message ∷ node ∷ generation ∷ first ∷ [])
line_bytes (line.Published node batch) = codes "published" ++ number_fields (node ∷ batch ∷ [])
line_bytes (line.Declined row place) = codes "refused" ++ number_fields (row ∷ []) ++ fields (event_name place ∷ [])
line_bytes (line.Total src dst asked sent) = codes "total" ++ number_fields (src ∷ dst ∷ asked ∷ sent ∷ [])

-- ---- the range of each field

-- the most that an endpoint's or a core's field holds, which has 16 bits, a sum's, which has 64, and any other number's, which has 32
abbrev pub endpoint_most : ℕ
endpoint_most = 65535

abbrev pub sum_most : ℕ
sum_most = 18446744073709551615

abbrev pub number_most : ℕ
number_most = 4294967295

-- from place i on, each number is at most what its field holds
abbrev pub WithinFrom : ℕ → List ℕ → List ℕ → Type 0
WithinFrom i [] ns = ⊤
WithinFrom i (most ∷ mosts) ns = (slice_index ns i ≤ most) × WithinFrom (i + 1) mosts ns

abbrev pub AreWithin : List ℕ → List ℕ → Type 0
AreWithin mosts ns = WithinFrom 0 mosts ns

-- a line of a plan or a replay, or of a made trace: each number fits its field, and a refusal has a name; the other lines are only
-- written
abbrev pub IsLine : Line → Type 0
IsLine (line.Batch batch src dst clear add) = AreWithin (number_most ∷ endpoint_most ∷ endpoint_most ∷ 1 ∷ number_most ∷ []) (batch ∷ src ∷ dst ∷ bit clear ∷ add ∷ [])
IsLine (line.Slot slot src dst core) = AreWithin (number_most ∷ endpoint_most ∷ endpoint_most ∷ []) (slot ∷ src ∷ dst ∷ []) × IfSome core (λ c. c ≤ endpoint_most)
IsLine (line.Sent slot src dst) = AreWithin (number_most ∷ endpoint_most ∷ endpoint_most ∷ []) (slot ∷ src ∷ dst ∷ [])
IsLine (line.Refused round number) = AreWithin (number_most ∷ []) (round ∷ []) × IsRefusal number
IsLine (line.Flow src dst demanded allocated pending) =
    AreWithin (endpoint_most ∷ endpoint_most ∷ number_most ∷ number_most ∷ number_most ∷ []) (src ∷ dst ∷ demanded ∷ allocated ∷ pending ∷ [])
IsLine (line.Count src dst demanded acknowledged flight pending lost sent missed) =
    AreWithin (endpoint_most ∷ endpoint_most ∷ number_most ∷ number_most ∷ number_most ∷ number_most ∷ number_most ∷ number_most ∷ number_most ∷ [])
    (src ∷ dst ∷ demanded ∷ acknowledged ∷ flight ∷ pending ∷ lost ∷ sent ∷ missed ∷ [])
IsLine (line.End rounds) = AreWithin (number_most ∷ []) (rounds ∷ [])
IsLine (line.Made number flows demanded acknowledged flight pending lost sent missed) =
    AreWithin (number_most ∷ number_most ∷ sum_most ∷ sum_most ∷ sum_most ∷ sum_most ∷ sum_most ∷ sum_most ∷ sum_most ∷ [])
    (number ∷ flows ∷ demanded ∷ acknowledged ∷ flight ∷ pending ∷ lost ∷ sent ∷ missed ∷ [])
IsLine (line.Answer endpoint place number) = ⊥
IsLine (line.Granted message node generation first) = ⊥
IsLine (line.Published node batch) = ⊥
IsLine (line.Declined row place) = ⊥
IsLine (line.Total src dst asked sent) = ⊥

-- what a line must keep to be written, beside the types of its number_fields
abbrev pub HasName : Line → Type 0
HasName (line.Refused round number) = IsRefusal number
HasName (line.Answer endpoint place number) = IsAnswer number
HasName (line.Declined row place) = IsEventRefusal place
HasName _ = ⊤
