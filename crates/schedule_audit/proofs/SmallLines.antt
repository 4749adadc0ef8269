-- The endpoints of lines that are read fit 16 bits.
use Rattle.std.proofs.Common.{◌++◌, ℕ, List, [], ◌∷◌, Option, Some, None, sym, subst}
use Rattle.std.specs.List.{AllZip}
use Rattle.report_text.specs.declared.line.Line.{Line}
use Rattle.report_text.specs.declared.line.Line.TheVariants as line
use Rattle.report_text.specs.Lines.{IsLine}
use Rattle.schedule_audit.specs.Reading.{Reads, unformed_line, ReadsLines}
use Rattle.schedule_audit.specs.Judging.{IsSmall, AreSmall}

one-small : (l : Line) → IsLine l → IsSmall (Some l)
one-small (line.Sent slot src dst) is = is.1.0
one-small l is = tt

rest-small : (rest : List ℕ) → AreSmall (unformed_line rest)
rest-small [] = tt
rest-small (b ∷ rest) = (tt, tt)

formed-small : (pieces : List (List ℕ)) (formed : List (Option Line)) (rest : List ℕ) → AllZip Reads pieces formed → AreSmall (formed ++ unformed_line rest)
formed-small [] [] rest read = rest-small rest
formed-small [] (l ∷ formed) rest read = absurd read
formed-small (piece ∷ pieces) [] rest read = absurd read
formed-small (piece ∷ pieces) (None ∷ formed) rest read = (tt, formed-small pieces formed rest read.1)
formed-small (piece ∷ pieces) (Some l ∷ formed) rest read = (one-small l read.0.0, formed-small pieces formed rest read.1)

pub small-lines : (bytes : List ℕ) (lines : List (Option Line)) → ReadsLines bytes lines → AreSmall lines
small-lines bytes lines (pieces, rest, formed, cut, read, is) = subst AreSmall (sym is) (formed-small pieces formed rest read)
