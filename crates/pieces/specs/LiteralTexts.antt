-- The reader of a literal, at a printed text.
use Rattle.std.specs.List.{flat_map}
use Rattle.std.proofs.Common.{◌≡◌, ℕ, ◌+◌, false, List, [], ◌∷◌, ◌++◌, length, Ok, inl, inr, refl, arith, append_assoc}
use Rattle.std.proofs.lemmas.Bool.{cases_eq, ne_eqb}
use Rattle.std.proofs.lemmas.List.{append-nil, length-append}
use Rattle.pieces.specs.Literal.{escape, rest_at}

-- a byte as it is printed is read as the byte
escape_again : (byte : ℕ) (content rest : List ℕ) (place : ℕ)
    → rest_at false content (escape byte ++ rest) place ≡ rest_at false (content ++ byte ∷ []) rest
    (place + length (escape byte))
unfolding rest_at
escape_again byte content rest place =
    let two : place + 1 + 1 ≡ place + 2 = omega arith in
    elim (cases_eq byte 34) [
      | inl quote ↦ rw (quote, two) refl
      | inr no_quote ↦ elim (cases_eq byte 92) [
        | inl backslash ↦ rw (backslash, two) refl
        | inr no_backslash ↦ elim (cases_eq byte 10) [
          | inl line ↦ rw (line, two) refl
          | inr no_line ↦ elim (cases_eq byte 13) [
            | inl return ↦ rw (return, two) refl
            | inr no_return ↦ elim (cases_eq byte 9) [
              | inl tab ↦ rw (tab, two) refl
              | inr no_tab ↦
                  let itself : escape byte ≡ byte ∷ [] =
                  rw (
                    ne_eqb byte 34 no_quote,
                    ne_eqb byte 92 no_backslash,
                    ne_eqb byte 10 no_line,
                    ne_eqb byte 13 no_return,
                    ne_eqb byte 9 no_tab,
                  ) refl in
                  rw itself
                  (rw (
                    ne_eqb byte 34 no_quote,
                    ne_eqb byte 92 no_backslash,
                    ne_eqb byte 10 no_line,
                    ne_eqb byte 13 no_return,
                    ne_eqb byte 9 no_tab,
                  ) refl)
            ]
          ]
        ]
      ]
    ]

-- a printed text up to its closing quote is read as the text
pub rest_again : (text content rest : List ℕ) (place : ℕ)
    → rest_at false content (flat_map escape text ++ 34 ∷ rest) place
    ≡ Ok (content ++ text, place + length (flat_map escape text) + 1)
unfolding rest_at
rest_again [] content rest place = let none : place + 0 ≡ place = omega arith in rw (append-nil content, none) refl
rest_again (byte ∷ text) content rest place =
    let others = rest_again text (content ++ byte ∷ []) rest (place + length (escape byte)) in
    let size : place + length (escape byte ++ flat_map escape text) ≡ place + length (escape byte) + length
    (flat_map escape text) = omega (arith, length-append (escape byte) (flat_map escape text)) in
    rw (
      append_assoc (escape byte) (flat_map escape text) (34 ∷ rest),
      escape_again byte content
          (flat_map escape text ++ 34 ∷ rest) place,
      others,
      size,
      append_assoc content (byte ∷ []) text,
    ) refl
