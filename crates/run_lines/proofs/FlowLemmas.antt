-- The lines of flows, by source and destination.
use Rattle.std.proofs.Common.{◌≡◌, ◌<◌, ◌+◌, ◌-◌, ℕ, zero, suc, List, ◌++◌, sym, ap, ◌∙◌, arith}
use Rattle.std.proofs.lemmas.List.{append_assoc, append-nil}
use Rattle.std.proofs.lemmas.List.Concat.{flat_map-append}
use Rattle.greedy_rules.specs.declared.flows.Flow.{Flow}
use Rattle.greedy_rules.specs.Cells.{flow_of}
use Rattle.report_text.specs.declared.line.Line.{Line}
use Rattle.run_lines.specs.Text.{line_text, text_of, each_destination, each_source}

each_destination-plus : (lines : Flow → List Line) (src dst m n : ℕ) → each_destination lines src dst (m + n) ≡ each_destination lines src dst m ++ each_destination lines src (dst + m) n
each_destination-plus lines src dst zero n =
    let none : dst ≡ dst + 0 = omega arith in
    ap (λ (k : ℕ). each_destination lines src dst k) (omega arith) ∙ ap (λ (k : ℕ). each_destination lines src k n) none
each_destination-plus lines src dst (suc m) n =
    let on : suc m + n ≡ suc (m + n) = omega arith in
    let next : dst + 1 + m ≡ dst + suc m = omega arith in
    ap (λ (k : ℕ). each_destination lines src dst k) on
    ∙ (ap (λ (ls : List Line). lines (flow_of src dst) ++ ls) (each_destination-plus lines src (dst + 1) m n)
    ∙ (ap (λ (k : ℕ). lines (flow_of src dst) ++ (each_destination lines src (dst + 1) m ++ each_destination lines src k n)) next
    ∙ sym (append_assoc (lines (flow_of src dst)) (each_destination lines src (dst + 1) m) (each_destination lines src (dst + suc m) n))))

each_source-plus : (lines : Flow → List Line) (endpoints src m n : ℕ) → each_source lines endpoints src (m + n) ≡ each_source lines endpoints src m ++ each_source lines endpoints (src + m) n
each_source-plus lines endpoints src zero n =
    let none : src ≡ src + 0 = omega arith in
    ap (λ (k : ℕ). each_source lines endpoints src k) (omega arith) ∙ ap (λ (k : ℕ). each_source lines endpoints k n) none
each_source-plus lines endpoints src (suc m) n =
    let on : suc m + n ≡ suc (m + n) = omega arith in
    let next : src + 1 + m ≡ src + suc m = omega arith in
    ap (λ (k : ℕ). each_source lines endpoints src k) on
    ∙ (ap (λ (ls : List Line). each_destination lines src 0 endpoints ++ ls) (each_source-plus lines endpoints (src + 1) m n)
    ∙ (ap (λ (k : ℕ). each_destination lines src 0 endpoints ++ (each_source lines endpoints (src + 1) m ++ each_source lines endpoints k n)) next
    ∙ sym (append_assoc (each_destination lines src 0 endpoints) (each_source lines endpoints (src + 1) m) (each_source lines endpoints (src + suc m) n))))

pub destination_more : (lines : Flow → List Line) (src dst : ℕ) → text_of (each_destination lines src 0 (dst + 1)) ≡ text_of (each_destination lines src 0 dst) ++ text_of (lines (flow_of src dst))
destination_more lines src dst =
    let at : 0 + dst ≡ dst = omega arith in
    ap text_of (each_destination-plus lines src 0 dst 1 ∙ ap (λ (ls : List Line). each_destination lines src 0 dst ++ ls) (append-nil (lines (flow_of src (0 + dst))) ∙ ap (λ (n : ℕ). lines (flow_of src n)) at))
    ∙ flat_map-append line_text (each_destination lines src 0 dst) (lines (flow_of src dst))

pub source_more : (lines : Flow → List Line) (endpoints src : ℕ) → text_of (each_source lines endpoints 0 (src + 1)) ≡ text_of (each_source lines endpoints 0 src) ++ text_of (each_destination lines src 0 endpoints)
source_more lines endpoints src =
    let at : 0 + src ≡ src = omega arith in
    ap text_of (each_source-plus lines endpoints 0 src 1
    ∙ ap (λ (ls : List Line). each_source lines endpoints 0 src ++ ls) (append-nil (each_destination lines (0 + src) 0 endpoints) ∙ ap (λ (n : ℕ). each_destination lines n 0 endpoints) at))
    ∙ flat_map-append line_text (each_source lines endpoints 0 src) (each_destination lines src 0 endpoints)

pub destinations_whole : (lines : Flow → List Line) (endpoints src dst : ℕ) → dst < endpoints
    → text_of (each_destination lines src 0 endpoints) ≡ (text_of (each_destination lines src 0 dst) ++ text_of (lines (flow_of src dst))) ++ text_of (each_destination lines src (0 + (dst + 1)) (endpoints - (dst + 1)))
destinations_whole lines endpoints src dst below =
    let parts : endpoints ≡ (dst + 1) + (endpoints - (dst + 1)) = omega arith in
    ap (λ (n : ℕ). text_of (each_destination lines src 0 n)) parts
    ∙ (ap text_of (each_destination-plus lines src 0 (dst + 1) (endpoints - (dst + 1)))
    ∙ (flat_map-append line_text (each_destination lines src 0 (dst + 1)) (each_destination lines src (0 + (dst + 1)) (endpoints - (dst + 1)))
    ∙ ap (λ (t : List ℕ). t ++ text_of (each_destination lines src (0 + (dst + 1)) (endpoints - (dst + 1)))) (destination_more lines src dst)))

pub sources_whole : (lines : Flow → List Line) (endpoints src : ℕ) → src < endpoints
    → text_of (each_source lines endpoints 0 endpoints) ≡ (text_of (each_source lines endpoints 0 src) ++ text_of (each_destination lines src 0 endpoints)) ++ text_of (each_source lines endpoints (0 + (src + 1)) (endpoints - (src + 1)))
sources_whole lines endpoints src below =
    let parts : endpoints ≡ (src + 1) + (endpoints - (src + 1)) = omega arith in
    ap (λ (n : ℕ). text_of (each_source lines endpoints 0 n)) parts
    ∙ (ap text_of (each_source-plus lines endpoints 0 (src + 1) (endpoints - (src + 1)))
    ∙ (flat_map-append line_text (each_source lines endpoints 0 (src + 1)) (each_source lines endpoints (0 + (src + 1)) (endpoints - (src + 1)))
    ∙ ap (λ (t : List ℕ). t ++ text_of (each_source lines endpoints (0 + (src + 1)) (endpoints - (src + 1)))) (source_more lines endpoints src)))
