-- What one read does to its buffer, and how much one write takes, by this project's own profile.
use Rattle.std.specs.Prelude.{◌≡◌, ℕ, ◌<◌, ◌≤◌, List, length, take, drop, Result, IfOk, MatchResult}
use Rattle.std.specs.Io.KnownBytes.{Appends}
use Rattle.std.specs.declared.option.Option.{Option}

-- only the first n bytes of the buffer are written at `Ok(n)`, and none at `Err`
abbrev pub WritesFrontOnly : {E : Type 0} → List ℕ → List ℕ → Result ℕ E → Type 0
WritesFrontOnly old new result = MatchResult result (λ n. drop n new ≡ drop n old) (λ _. new ≡ old)

-- the number of bytes is at most the length of these
abbrev pub AtMostAll : {E : Type 0} → Result ℕ E → List ℕ → Type 0
AtMostAll result bytes = IfOk result (λ n. n ≤ length bytes)

-- at least one byte is taken where there is one
abbrev pub TakesSome : {E : Type 0} → Result ℕ E → List ℕ → Type 0
TakesSome result bytes = IfOk result (λ n. 0 < length bytes → 0 < n)

-- known bytes grew by a front of these, at most once
abbrev pub GrowsByFront : Option (List ℕ) → Option (List ℕ) → List ℕ → Type 0
GrowsByFront old new bytes = (n : ℕ) × (n ≤ length bytes) × Appends old new (take n bytes)
