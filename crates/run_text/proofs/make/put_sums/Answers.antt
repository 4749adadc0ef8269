use Rattle.std.proofs.Common.{◌≡◌, ℕ, List, sym, ◌∙◌, subst, rules}
use Rattle.std.proofs.lemmas.List.{append-nil}
use Rattle.run_lines.specs.Output.{EndsText}
use Rattle.run_lines.specs.Text.{line_text}
use Rattle.run_text.specs.Made.{made_text}
use Rattle.run_text.proofs.MadeLemmas.{text_is}
use Rattle.run_text.proofs.make.put_sums.Goals as goal

pub returns-in_err-trace : goal.returns-in_err-trace
returns-in_err-trace g c = λ cores. c.texts_follow.ensures.unwritten c.from_residual.ensures.1

pub returns-in_err-sums : goal.returns-in_err-sums
returns-in_err-sums g c = λ cores. c.texts_follow.ensures.unwritten c.from_residual-in_err-sums.ensures.1

pub returns-in_err-gathered : goal.returns-in_err-gathered
returns-in_err-gathered g c = λ cores. c.texts_follow.ensures.unwritten c.from_residual-in_err-gathered.ensures.1

pub returns : goal.returns
returns g c = λ cores.
    let sizes = c.args.sizes in
    let is : line_text c.line.result ≡ made_text c.args.number sizes.b sizes.g cores =
    sym (append-nil (line_text c.line.result)) ∙ text_is c.args.number sizes.b sizes.g cores c.in_ok-trace.trace c.in_ok-sums.sums c.line.result c.in_ok-trace.ensures.trace (c.in_ok-sums.ensures cores) c.line.ensures in
    c.texts_follow.ensures.whole c.new-output.ensures.told (search rules) (c.new-output.ensures.gathered ∙ c.in_ok-gathered.ensures)
    (subst (λ (text : List ℕ). EndsText c.new-output.result c.put_last_line-written.new.self text c.put_last_line-written.result) is c.put_last_line-written.ensures)
