-- Refusals that are passed on, and readers that have read nothing.
use Rattle.std.proofs.Common.{◌≡◌, ◌+◌, ◌≤◌, ℕ, List, [], ◌∷◌, length, Result, Ok, Err, IsErrAnd, IsErrOf, refl, sym, ap, ◌∙◌, subst, arith}
use Rattle.trace_text.specs.declared.command.Command.{Command}
use Rattle.trace_text.specs.declared.reader.TraceReader.{TraceReader}
use Rattle.trace_text.specs.Reader.{HasRead, MayRead}
use Rattle.fastpass_run.specs.Transfer.{input_limit}
use Rattle.fastpass_run.specs.declared.transfer.ReadRefused.{ReadRefused}

abbrev err_in : {A : Type 0} → ReadRefused → Result A ReadRefused → ReadRefused
err_in other (Ok done) = other
err_in other (Err e) = e

-- what was passed on is what it was
pub passed_on : {A : Type 0} (e f : ReadRefused) (r : Result A ReadRefused) → IsErrAnd r (λ x. x ≡ e) → IsErrOf r f → e ≡ f
passed_on e f (Ok done) is was = absurd is
passed_on e f (Err x) is was = sym is ∙ ap (err_in e) was

-- a reader that may read as much as an input may have has read nothing
pub has_read_nothing : (reader : TraceReader) → MayRead input_limit reader → (command : Command) × HasRead command [] reader
has_read_nothing reader (command, text, has, room) = (command, subst (λ (bytes : List ℕ). HasRead command bytes reader) (empty text room) has)
  where
    empty : (bytes : List ℕ) → length bytes + input_limit ≤ input_limit → bytes ≡ []
    empty [] few = refl
    empty (byte ∷ bytes) few = absurd (omega (arith, few))
