-- A read moves the front of what is left to the front of the buffer.
use Rattle.std.proofs.Common.{◌≡◌, ℕ, ◌+◌, ◌<◌, ◌≤◌, min, List, [], ◌++◌, length, take, drop, sym, ap, subst, ◌∙◌, arith, length-drop}
use Rattle.std.proofs.lemmas.List.{drop-drop, drop_all, take-append-drop}
use Rattle.std.proofs.Math.Seq.{take-append_seam}

pub take-front : (bytes front tail : List ℕ) (at n : ℕ) → length front ≡ n → front ≡ take n (drop at bytes)
    → drop at bytes ≡ take n (front ++ tail) ++ drop (at + n) bytes
take-front bytes front tail at n len is =
    let moved : take n (front ++ tail) ≡ take n (drop at bytes) =
    subst (λ k. take k (front ++ tail) ≡ take n (drop at bytes)) len (take-append_seam front tail ∙ is) in
    sym (take-append-drop n (drop at bytes)) ∙ ap (λ l. l ++ drop n (drop at bytes)) (sym moved)
    ∙ ap (λ l. take n (front ++ tail) ++ l) (drop-drop n at bytes)

-- a read into some room that moves nothing finds nothing left
pub drop-end : (bytes : List ℕ) (at n most room : ℕ) → 1 ≤ most → n ≡ min (min most (length (drop at bytes))) room
    → n ≡ 0 → 0 < room → drop (at + n) bytes ≡ []
drop-end bytes at n most room some is none wide =
    drop_all (at + n) bytes (omega (arith, length-drop at bytes))
