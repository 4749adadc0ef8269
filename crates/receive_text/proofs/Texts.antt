-- The text of what was received, part by part.
use Rattle.std.proofs.Common.{◌≡◌, ℕ, ◌+◌, ◌<◌, List, [], ◌∷◌, ◌++◌, get_or, map, take, drop, Some, slice_get, sym, ap, ◌∙◌, arith}
use Rattle.std.specs.List.{flat_map, range_with_len}
use Rattle.std.proofs.lemmas.List.{append_assoc, append-nil, take-append-drop}
use Rattle.std.proofs.lemmas.List.Concat.{flat_map-append}
use Rattle.std.proofs.lemmas.List.FromFn.{get_or-range_with_len, length-range_with_len}
use Rattle.std.proofs.lemmas.Option.{slice_get-get_or}
use Rattle.report_text.specs.declared.line.Line.{Line}
use Rattle.report_text.specs.declared.line.Line.TheVariants as line
use Rattle.text_output.specs.Text.{entry_line, line_text, text_of}
use Rattle.text_output.proofs.TextLemmas.{text_more, text_rest}
use Rattle.trace_text.specs.Trace.{TraceContent}
use Rattle.receive_text.specs.ReceiveText.{answer_lines, endpoints_in, receive_text, recorded_in}

-- ---- numbers below a bound

at-range : (n i : ℕ) → i < n → slice_get (range_with_len 0 n) i ≡ Some i
at-range n i low =
    let here : get_or (range_with_len 0 n) i 0 ≡ i = get_or-range_with_len 0 n i 0 low ∙ omega arith in
    slice_get-get_or (range_with_len 0 n) i 0 (omega (arith, length-range_with_len 0 n, low)) ∙ ap (λ k. Some k) here

-- a line for each, one more
pub lines_more : (f : ℕ → Line) (n i : ℕ) → i < n → text_of (map f (take (i + 1) (range_with_len 0 n))) ≡ text_of (map f (take i (range_with_len 0 n))) ++ line_text (f i)
lines_more f n i low = text_more f (range_with_len 0 n) i i (omega (arith, length-range_with_len 0 n, low)) (at-range n i low)

pub lines_rest : (f : ℕ → Line) (n i : ℕ) → text_of (map f (range_with_len 0 n)) ≡ text_of (map f (take i (range_with_len 0 n))) ++ text_of (map f (drop i (range_with_len 0 n)))
lines_rest f n i = text_rest f (range_with_len 0 n) i

pub parts_rest : (f : ℕ → List Line) (n i : ℕ) → text_of (flat_map f (range_with_len 0 n)) ≡ text_of (flat_map f (take i (range_with_len 0 n))) ++ text_of (flat_map f (drop i (range_with_len 0 n)))
parts_rest f n i =
    ap (λ (l : List ℕ). text_of (flat_map f l)) (sym (take-append-drop i (range_with_len 0 n)))
    ∙ (ap text_of (flat_map-append f (take i (range_with_len 0 n)) (drop i (range_with_len 0 n)))
    ∙ flat_map-append line_text (flat_map f (take i (range_with_len 0 n))) (flat_map f (drop i (range_with_len 0 n))))

-- ---- the whole

abbrev pub answers_text : TraceContent → List ℕ
answers_text trace = text_of (flat_map (answer_lines trace) (endpoints_in trace))

abbrev pub entries_text : TraceContent → List ℕ
entries_text trace = text_of (map (entry_line 0) (recorded_in trace))

abbrev pub end_text : List ℕ
end_text = line_text (line.End 1)

pub whole_text : (trace : TraceContent) → receive_text trace ≡ answers_text trace ++ (entries_text trace ++ end_text)
whole_text trace =
    flat_map-append line_text (flat_map (answer_lines trace) (endpoints_in trace) ++ map (entry_line 0) (recorded_in trace)) (line.End 1 ∷ [])
    ∙ (ap (λ (t : List ℕ). text_of (flat_map (answer_lines trace) (endpoints_in trace) ++ map (entry_line 0) (recorded_in trace)) ++ t) (append-nil end_text)
    ∙ (ap (λ (t : List ℕ). t ++ end_text) (flat_map-append line_text (flat_map (answer_lines trace) (endpoints_in trace)) (map (entry_line 0) (recorded_in trace)))
    ∙ append_assoc (answers_text trace) (entries_text trace) end_text))
