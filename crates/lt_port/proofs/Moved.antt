-- What a copy to the front of a room leaves.
use Rattle.std.proofs.Common.{◌≡◌, ℕ, ◌+◌, ◌-◌, ◌≤◌, ◌<◌, min, List, [], ◌++◌, length, take, drop, sym, ◌∙◌, ap}
use Rattle.std.proofs.Common.{arith, length-append, length-drop, length-take}
use Rattle.std.proofs.lemmas.List.{take_at, take-append-drop, drop_all, drop-drop}

-- the front of the room has what the source lost, and nothing only at the end or with no room
pub gives_front : (left bytes room new : List ℕ) (read piece count : ℕ)
    → left ≡ drop read bytes
    → 1 ≤ piece
    → count ≡ min (min (length bytes - read) (length room)) piece
    → new ≡ take count (drop read bytes)
    → (left ≡ take count (new ++ drop count room) ++ drop (read + count) bytes)
    × (count ≡ 0 → 0 < length (new ++ drop count room) → drop (read + count) bytes ≡ [])
gives_front left bytes room new read piece count left_is some counted new_is =
    let size : length (drop read bytes) ≡ length bytes - read = length-drop read bytes in
    let long : length new ≡ count = omega (arith, ap length new_is, length-take count (drop read bytes), size) in
    let rest : drop (read + count) bytes ≡ drop count (drop read bytes) = sym (drop-drop count read bytes) in
    let whole : new ++ drop count (drop read bytes) ≡ left = ap (λ l. l ++ drop count (drop read bytes)) new_is ∙ take-append-drop count (drop read bytes) ∙ sym left_is in (
      rw (take_at new (drop count room) count long, rest) (sym whole),
      λ none more. rest ∙ drop_all count (drop read bytes) (omega (arith, length-append new (drop count room), length-drop count room, size)),
    )
