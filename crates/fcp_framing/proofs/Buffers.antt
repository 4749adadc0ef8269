-- Bytes written into a buffer, one piece behind the other.
use Rattle.std.proofs.Common.{◌≡◌, ℕ, suc, ◌+◌, ◌*◌, ◌≤◌, ◌<◌, List, [], ◌∷◌, ◌++◌, length, take, drop, get_or, sym, ap, ◌∙◌, append_assoc, arith}
use Rattle.std.specs.Prelude.{slice_set}
use Rattle.std.proofs.lemmas.List.{take-append-drop, take_all, take_at, drop_at, drop-drop, set_split, length-append, length-take, length-drop, append-nil, nil_from_length}
use borrow.Rule.Slice.PartMut.{put_mid}
use Rattle.std.specs.List.{flat_map}
use Rattle.std.proofs.lemmas.List.{flat_map_more, take_more}
use Rattle.fcp_framing.specs.Writing.{with_bytes}
use Rattle.fcp_framing.proofs.Entries.{IsLine, length-lines}

pub length-with_bytes : (at : ℕ) (bytes buf : List ℕ) → at + length bytes ≤ length buf → length (with_bytes at bytes buf) ≡ length buf
unfolding with_bytes
length-with_bytes at bytes buf room =
    omega (arith, length-append (take at buf) (bytes ++ drop (at + length bytes) buf), length-append bytes (drop (at + length bytes) buf), length-take at buf, length-drop (at + length bytes) buf)

pub with_bytes-none : (at : ℕ) (buf : List ℕ) → with_bytes at [] buf ≡ buf
unfolding with_bytes
with_bytes-none at buf =
    let same : at + length {A = ℕ} [] ≡ at = omega arith in
    rw same (take-append-drop at buf)

-- one byte
pub set-with_bytes : (at n : ℕ) (buf : List ℕ) → at < length buf → slice_set buf at n ≡ with_bytes at (n ∷ []) buf
unfolding with_bytes
set-with_bytes at n buf within =
    let next : suc at ≡ at + 1 = omega arith in
    set_split buf at n within ∙ ap (λ (k : ℕ). take at buf ++ n ∷ drop k buf) next

-- a write at the front of what lies from a place on
pub put_mid-with_bytes : (at k n : ℕ) (bytes buf part : List ℕ) → length buf ≡ at + k → length bytes ≡ n → part ≡ bytes ++ drop n (take k (drop at buf)) → put_mid at k buf part ≡ with_bytes at bytes buf
unfolding with_bytes
put_mid-with_bytes at k n bytes buf part len few is =
    let whole : take k (drop at buf) ≡ drop at buf = take_all k (drop at buf) (omega (arith, length-drop at buf)) in
    let nothing : drop k (drop at buf) ≡ [] = nil_from_length (drop k (drop at buf)) (omega (arith, length-drop k (drop at buf), length-drop at buf)) in
    let rest : drop n (drop at buf) ≡ drop (at + length bytes) buf = drop-drop n at buf ∙ ap (λ (m : ℕ). drop (at + m) buf) (sym few) in
    let now : part ≡ bytes ++ drop (at + length bytes) buf = is ∙ ap (λ (t : List ℕ). bytes ++ drop n t) whole ∙ ap (λ (t : List ℕ). bytes ++ t) rest in
    ap (λ (t : List ℕ). take at buf ++ (part ++ t)) nothing ∙ ap (λ (t : List ℕ). take at buf ++ t) (append-nil part ∙ now)

-- one piece behind the other
pub with_bytes-more : (at place : ℕ) (xs ys buf : List ℕ) → place ≡ at + length xs → place ≤ length buf → with_bytes place ys (with_bytes at xs buf) ≡ with_bytes at (xs ++ ys) buf
unfolding with_bytes
with_bytes-more at place xs ys buf is room =
    let front = take at buf ++ xs in
    let written : take at buf ++ (xs ++ drop (at + length xs) buf) ≡ front ++ drop place buf = sym (append_assoc (take at buf) xs (drop (at + length xs) buf)) ∙ ap (λ (k : ℕ). front ++ drop k buf) (sym is) in
    let len : length front ≡ place = omega (arith, length-append (take at buf) xs, length-take at buf) in
    let before : take place (front ++ drop place buf) ≡ front = take_at front (drop place buf) place len in
    let behind : drop (place + length ys) (front ++ drop place buf) ≡ drop (at + length (xs ++ ys)) buf =
    sym (drop-drop (length ys) place (front ++ drop place buf)) ∙ ap (drop (length ys)) (drop_at front (drop place buf) place len) ∙ drop-drop (length ys) place buf
    ∙ ap (λ (k : ℕ). drop k buf) (omega (arith, length-append xs ys)) in
    rw (written, before, behind) (append_assoc (take at buf) xs (ys ++ drop (at + length (xs ++ ys)) buf) ∙ ap (λ (t : List ℕ). take at buf ++ t) (sym (append_assoc xs ys (drop (at + length (xs ++ ys)) buf))))

pub take-with_bytes : (n : ℕ) (bytes buf : List ℕ) → n ≡ length bytes → take n (with_bytes 0 bytes buf) ≡ bytes
unfolding with_bytes
take-with_bytes n bytes buf is = take_at bytes (drop (0 + length bytes) buf) n (sym is)

pub drop-with_bytes : (n : ℕ) (bytes buf : List ℕ) → n ≡ length bytes → drop n (with_bytes 0 bytes buf) ≡ drop n buf
unfolding with_bytes
drop-with_bytes n bytes buf is = drop_at bytes (drop (0 + length bytes) buf) n (sym is) ∙ ap (λ (k : ℕ). drop k buf) (omega arith)

-- two writes, one behind the other
pub wrote_then : (at place : ℕ) (xs ys buf mid new : List ℕ) → mid ≡ with_bytes at xs buf → new ≡ with_bytes place ys mid → place ≡ at + length xs → place ≤ length buf → new ≡ with_bytes at (xs ++ ys) buf
wrote_then at place xs ys buf mid new first second is room = second ∙ ap (with_bytes place ys) first ∙ with_bytes-more at place xs ys buf is room

-- one line more of a list behind a header
pub wrote_line : {X : Type 0} (header size end : ℕ) (write : X → List ℕ) (read : List ℕ → X) (Fits : X → Type 0) (line : IsLine X size write read Fits) (xs : List X) (k : ℕ) (d : X) (buf mid new : List ℕ)
    → k < length xs → end ≡ header + k * size → end ≤ length buf → mid ≡ with_bytes header (flat_map write (take k xs)) buf → new ≡ with_bytes end (write (get_or xs k d)) mid
    → new ≡ with_bytes header (flat_map write (take (k + 1) xs)) buf
wrote_line header size end write read Fits line xs k d buf mid new lt place room first second =
    let count : length (take k xs) ≡ k = omega (arith, length-take k xs) in
    let len : length (flat_map write (take k xs)) ≡ k * size = length-lines size write read Fits line (take k xs) ∙ ap (λ (n : ℕ). n * size) count in
    let lines : flat_map write (take k xs) ++ write (get_or xs k d) ≡ flat_map write (take (k + 1) xs) =
    flat_map_more write [] (take k xs) (get_or xs k d) ∙ ap (flat_map write) (sym (take_more xs k d lt)) in
    wrote_then header end (flat_map write (take k xs)) (write (get_or xs k d)) buf mid new first second (omega (arith, len)) room ∙ ap (λ (t : List ℕ). with_bytes header t buf) lines
