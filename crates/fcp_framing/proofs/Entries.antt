-- The lines of a request and of an allocation: they are read as they were written, and written as they were read.
use Rattle.std.proofs.Common.{◌≡◌, ℕ, zero, suc, ◌+◌, ◌*◌, ◌^◌, ◌<◌, List, [], ◌∷◌, ◌++◌, length, map, take, drop, refl, sym, ap, ◌∙◌, append_assoc, arith}
use Rattle.std.specs.Int.{w16, w32, to_be_bytes}
use Rattle.std.specs.List.{flat_map, AllByRecursion}
use Rattle.std.specs.Simd.{first_chunks}
use Rattle.std.proofs.lemmas.List.{take-append-drop, length-append, length-take, length-drop, nil_from_length}
use Rattle.std.proofs.lemmas.List.Concat.{flat_map-cons}
use Rattle.std.proofs.lemmas.Nat.{from_be_bytes-to_be_bytes_2, from_be_bytes-to_be_bytes_4}
use Rattle.fcp_framing.specs.declared.packet.Demand.{Demand}
use Rattle.fcp_framing.specs.declared.packet.Told.{Told}
use Rattle.fcp_framing.specs.Spelling.{demand_bytes, told_bytes}
use Rattle.fcp_framing.specs.Fields.{number_at, demand_in, told_in_bytes}
use Rattle.fcp_framing.proofs.Numbers.{AreBytes, AreBytes-drop, AreBytes-take, field16, field32, number_at-splits}

-- ---- lines of any kind

-- a line is as long as it is to be, and each way leads back
pub record IsLine (X : Type 0) (size : ℕ) (write : X → List ℕ) (read : List ℕ → X) (Fits : X → Type 0) : Type 0 where
  pub len : (x : X) → length (write x) ≡ size
  pub written : (entry : List ℕ) → AreBytes entry → length entry ≡ size → write (read entry) ≡ entry
  pub taken : (x : X) (more : List ℕ) → take size (write x ++ more) ≡ write x
  pub left : (x : X) (more : List ℕ) → drop size (write x ++ more) ≡ more
  pub again : (x : X) → Fits x → read (write x) ≡ x

pub lines_written : {X : Type 0} (size : ℕ) (write : X → List ℕ) (read : List ℕ → X) (Fits : X → Type 0) (line : IsLine X size write read Fits) (k : ℕ) (bytes : List ℕ)
    → AreBytes bytes → length bytes ≡ k * size → flat_map write (map read (first_chunks size k bytes)) ≡ bytes
lines_written size write read Fits line zero bytes fits len = sym (nil_from_length bytes (omega arith))
lines_written size write read Fits line (suc k) bytes fits len =
    let more : suc k * size ≡ size + k * size = grind arith in
    let first = line.written (take size bytes) (AreBytes-take size bytes fits) (omega (arith, length-take size bytes)) in
    let rest = lines_written size write read Fits line k (drop size bytes) (AreBytes-drop size bytes fits) (omega (arith, length-drop size bytes)) in
    flat_map-cons write (read (take size bytes)) (map read (first_chunks size k (drop size bytes))) ∙ rw (first, rest) (take-append-drop size bytes)

pub lines_again : {X : Type 0} (size : ℕ) (write : X → List ℕ) (read : List ℕ → X) (Fits : X → Type 0) (line : IsLine X size write read Fits) (xs : List X) (more : List ℕ)
    → AllByRecursion Fits xs → map read (first_chunks size (length xs) (flat_map write xs ++ more)) ≡ xs
lines_again size write read Fits line [] more fits = refl
lines_again size write read Fits line (x ∷ xs) more fits =
    let parts : flat_map write (x ∷ xs) ++ more ≡ write x ++ (flat_map write xs ++ more) =
    ap (λ (t : List ℕ). t ++ more) (flat_map-cons write x xs) ∙ append_assoc (write x) (flat_map write xs) more in
    rw (parts, line.taken x (flat_map write xs ++ more), line.left x (flat_map write xs ++ more), line.again x fits.0, lines_again size write read Fits line xs more fits.1) refl

pub length-lines : {X : Type 0} (size : ℕ) (write : X → List ℕ) (read : List ℕ → X) (Fits : X → Type 0) (line : IsLine X size write read Fits) (xs : List X)
    → length (flat_map write xs) ≡ length xs * size
length-lines size write read Fits line [] = omega arith
length-lines size write read Fits line (x ∷ xs) =
    let more : suc (length xs) * size ≡ size + length xs * size = grind arith in
    let rest = length-lines size write read Fits line xs in
    let first = line.len x in
    ap length (flat_map-cons write x xs) ∙ omega (arith, length-append (write x) (flat_map write xs))

-- ---- the two kinds of lines

pub record FitsDemand (demand : Demand) : Type 0 where
  pub dst : demand.dst < 2 ^ 16
  pub total : demand.total < 2 ^ 32

demand_written : (entry : List ℕ) → AreBytes entry → length entry ≡ 6 → demand_bytes (demand_in entry) ≡ entry
demand_written entry fits len =
    let dst : entry ≡ to_be_bytes w16 (number_at w16 0 entry) ++ drop 2 entry = number_at-splits w16 field16 0 entry fits (omega arith) in
    let total : drop 2 entry ≡ to_be_bytes w32 (number_at w32 2 entry) ++ drop 6 entry = number_at-splits w32 field32 2 entry fits (omega arith) in
    let nothing : drop 6 entry ≡ [] = nil_from_length (drop 6 entry) (omega (arith, length-drop 6 entry)) in
    sym (dst ∙ ap (λ (t : List ℕ). to_be_bytes w16 (number_at w16 0 entry) ++ t) (total ∙ ap (λ (t : List ℕ). to_be_bytes w32 (number_at w32 2 entry) ++ t) nothing))

demand_again : (demand : Demand) → FitsDemand demand → demand_in (demand_bytes demand) ≡ demand
unfolding number_at
demand_again demand fits = λ i. record { dst = from_be_bytes-to_be_bytes_2 demand.dst fits.dst i; total = from_be_bytes-to_be_bytes_4 demand.total fits.total i }

pub demand_line : IsLine Demand 6 demand_bytes demand_in FitsDemand
demand_line = record { len = λ x. refl; written = demand_written; taken = λ x more. refl; left = λ x more. refl; again = demand_again }

abbrev pub FitsTold : Told → Type 0
FitsTold told = told.dst < 2 ^ 16

told_written : (entry : List ℕ) → AreBytes entry → length entry ≡ 4 → told_bytes (told_in_bytes entry) ≡ entry
told_written [] fits len = absurd (omega arith)
told_written (a ∷ []) fits len = absurd (omega arith)
told_written (offset ∷ core ∷ rest) fits len =
    let dst : rest ≡ to_be_bytes w16 (number_at w16 2 (offset ∷ core ∷ rest)) ++ drop 2 rest = number_at-splits w16 field16 2 (offset ∷ core ∷ rest) fits (omega arith) in
    let nothing : drop 2 rest ≡ [] = nil_from_length (drop 2 rest) (omega (arith, length-drop 2 rest)) in
    sym (ap (λ (t : List ℕ). offset ∷ core ∷ t) (dst ∙ ap (λ (t : List ℕ). to_be_bytes w16 (number_at w16 2 (offset ∷ core ∷ rest)) ++ t) nothing))

told_again : (told : Told) → FitsTold told → told_in_bytes (told_bytes told) ≡ told
unfolding number_at
told_again told fits = λ i. record { offset = told.offset; core = told.core; dst = from_be_bytes-to_be_bytes_2 told.dst fits i }

pub told_line : IsLine Told 4 told_bytes told_in_bytes FitsTold
told_line = record { len = λ x. refl; written = told_written; taken = λ x more. refl; left = λ x more. refl; again = told_again }
