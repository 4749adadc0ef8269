-- The text of a list of lines, part by part.
use Rattle.std.proofs.Common.{◌≡◌, ◌<◌, ◌+◌, ℕ, List, [], ◌∷◌, ◌++◌, length, get_or, map, take, drop, Some, slice_get, sym, ap, ◌∙◌}
use Rattle.std.proofs.lemmas.List.{append-nil, map-append, map_more, take-append-drop}
use Rattle.std.proofs.lemmas.List.Concat.{flat_map-append}
use Rattle.std.proofs.lemmas.Option.{get_or_from_slice_get}
use Rattle.report_text.specs.declared.line.Line.{Line}
use Rattle.report_text.specs.declared.line.Line.TheVariants as line
use Rattle.text_output.specs.Text.{line_text, text_of}
use Rattle.std.specs.Bool.{⊤}

-- a line for each element, one more
pub text_more : {X : Type 0} (f : X → Line) (xs : List X) (i : ℕ) (x : X) → i < length xs → slice_get xs i ≡ Some x
    → text_of (map f (take (i + 1) xs)) ≡ text_of (map f (take i xs)) ++ line_text (f x)
text_more f xs i x below is =
    ap text_of (map_more f xs i x below)
    ∙ (flat_map-append line_text (map f (take i xs)) (f (get_or xs i x) ∷ [])
    ∙ ap (λ (t : List ℕ). text_of (map f (take i xs)) ++ t) (append-nil (line_text (f (get_or xs i x))) ∙ ap (λ (l : Line). line_text l) (ap f (get_or_from_slice_get xs i x x is))))

pub text_rest : {X : Type 0} (f : X → Line) (xs : List X) (i : ℕ) → text_of (map f xs) ≡ text_of (map f (take i xs)) ++ text_of (map f (drop i xs))
text_rest f xs i =
    ap (λ ys. text_of (map f ys)) (sym (take-append-drop i xs))
    ∙ (ap text_of (map-append f (take i xs) (drop i xs)) ∙ flat_map-append line_text (map f (take i xs)) (map f (drop i xs)))

abbrev pub IsNoSend : Line → Type 0
IsNoSend (line.Sent slot src dst) = ⊥
IsNoSend _ = ⊤
