-- What an audit answers.
use Rattle.std.proofs.Common.{◌≡◌, ℕ, List, Option, Some, None, sym, ap, ◌∙◌}
use Rattle.clos_topology.specs.Network.{Network, endpoints_of}
use Rattle.report_text.specs.declared.line.Line.{Line}
use Rattle.schedule_audit.specs.BadLines.{or_else, first_misplaced, first_wrong, first_bad_line}
use Rattle.schedule_audit.specs.Shown.{NoMisplacedLineMakesMatchings}
use Rattle.schedule_audit.specs.Audited.{ShowsACleanSchedule}
use Rattle.schedule_audit.proofs.Shown.{or_else-none, shows_its_schedule}
use Rattle.schedule_audit.proofs.ReadBatches.{no_misplaced_line_is_recorded}

module _ (net : Network) (b : ℕ) (lines : List (Option Line)) where
  pub misplaced-line : (found : Option ℕ) (n : ℕ) → found ≡ first_misplaced (endpoints_of net) lines → found ≡ Some n → first_bad_line net b lines ≡ Some n
  misplaced-line found n is some = ap (λ o. or_else o (first_wrong net b lines)) (sym is ∙ some)

  pub wrong-line : (misplaced found : Option ℕ) → misplaced ≡ first_misplaced (endpoints_of net) lines → misplaced ≡ None → found ≡ first_wrong net b lines → first_bad_line net b lines ≡ found
  wrong-line misplaced found is none wrong = ap (λ o. or_else o (first_wrong net b lines)) (sym is ∙ none) ∙ sym wrong

  pub clean : NoMisplacedLineMakesMatchings → first_bad_line net b lines ≡ None → ShowsACleanSchedule net b lines
  clean matchings none =
      let first = (or_else-none (first_misplaced (endpoints_of net) lines) (first_wrong net b lines) none).0 in
      record { recorded = no_misplaced_line_is_recorded net lines first; shown = shows_its_schedule net b lines none; slots = matchings net b lines first }
