-- Truth values, bytes and texts agree with their spellings.
use Rattle.std.proofs.Common.{◌≡◌, ℕ, zero, suc, ◌+◌, ◌-◌, ◌≤◌, List, [], ◌∷◌, ◌++◌, length, drop, slice_get}
use Rattle.std.proofs.Common.{slice_range, Bool, true, false, Option, Some, None, Ok, nat_lt, inl, inr, refl, sym, ap}
use Rattle.std.proofs.Common.{ap₂, subst, ◌∙◌, ltb-false, le-ltb, eqb-true, arith}
use Rattle.std.specs.Prelude.{ℤ, pos, negsuc, ◌==◌}
use Rattle.std.specs.Str.{is_utf8, IsUtf8}
use Rattle.std.proofs.lemmas.List.{length-drop, length-append, drop_more}
use Rattle.std.proofs.lemmas.Option.{slice_get_within, get_or_from_slice_get}
use Rattle.std.proofs.lemmas.Str.{IsUtf8-from_is_utf8, is_utf8-from_IsUtf8}
use Rattle.words.specs.Reading.{map_refusal}
use Rattle.words.specs.Grammar.{Joined}
use Rattle.avro_wire.specs.Number.{long, SpellsNumber}
use Rattle.avro_wire.specs.Reading.{number_at, range_behind, bytes_at}
use Rattle.avro_wire.specs.Blocks.{SpellsBytes}
use Rattle.avro_wire.specs.ReadingLaws.{bytes_again}
use Rattle.datum_reading.specs.declared.cursor.Cursor.{Cursor}
use Rattle.datum_tree.specs.declared.datum.Datum.{Datum}
use Rattle.datum_tree.specs.declared.datum.Datum.TheVariants as datums
use Rattle.datum_reading.specs.declared.refusal.DatumRefusal.TheVariants.{Utf8}
use Rattle.datum_reading.specs.Refusal.{wire_refusal}
use Rattle.datum_reading.specs.Reading.{moved, flag_of, flag_at, raw_at, sized_at, text_at}
use Rattle.datum_tree.specs.Spelling.{SpellsFlag, SpellsRaw, SpellsText, flag_byte}
use Rattle.datum_tree.specs.Value.{items_in, most_items}
use Rattle.words.specs.Parts.{Stand, Took, behind_is, range_is, enough_are, enough_stand, stand_first, stand_second}
use Rattle.words.specs.Parts.{took_then, took_as}
use Rattle.words.specs.Steps.{bind_ok, value_ok, map_ok, test_passed, test_failed, cond_is, ok_is}
use Rattle.datum_reading.specs.Agreeing.{Passes, ReadTook, Agrees, no_items}
use Rattle.avro_wire.specs.TookLaws.{number_took}
use Rattle.datum_reading.proofs.SpelledNumber.{moved_is}
use Rattle.datum_tree.specs.Counts.{counts-Flag, counts-Raw}

-- ---- bytes behind their length

-- so many bytes behind their number
bytes_are : (value all : List ℕ) (n : ℕ) → length value ≡ n → Joined (λ front. SpellsNumber long front (pos n)) (λ bytes. bytes ≡ value) all → SpellsBytes value all
bytes_are value all n many joined = record { front = joined.front; rest = joined.rest; parts = joined.parts; first = subst (λ (k : ℕ). SpellsNumber long joined.front (pos k)) (sym many) joined.first; second = joined.second }

-- what lies behind a length
behind_took : (input : List ℕ) (place : ℕ) (value : ℤ) (start : ℕ) (range : ℕ × ℕ) → Took input place start (λ bytes. SpellsNumber long bytes value) → range_behind place input (value, start) ≡ Ok range
    → Took input place range.1 (SpellsBytes (slice_range input range.0 range.1))
behind_took input place (negsuc n) start range first read = absurd cc
behind_took input place (pos n) start range first read =
    let passed = test_failed _ _ _ range read in
    let enough = ltb-false _ _ passed.0 in
    let value = slice_range input start (start + n) in
    let bytes : Took input start (start + n) (λ bytes. bytes ≡ value) = record { bytes = value; stand = enough_stand input start n enough; such = refl } in
    let whole = took_as input place (start + n) (λ all. bytes_are value all n (enough_are input start n enough)) (took_then input place start (start + n) first bytes) in
    subst (λ (r : ℕ × ℕ). Took input place r.1 (SpellsBytes (slice_range input r.0 r.1))) (ok_is (start, start + n) range passed.1) whole

-- bytes behind their length that are read are spelled so
sized_took : (input : List ℕ) (at : Cursor) (range : ℕ × ℕ) → map_refusal wire_refusal (bytes_at input at.place) ≡ Ok range → Took input at.place range.1 (SpellsBytes (slice_range input range.0 range.1))
unfolding bytes_at
sized_took input at range read =
    let steps = bind_ok (number_at long input at.place) (range_behind at.place input) range (map_ok wire_refusal (bytes_at input at.place) range read) in
    behind_took input at.place steps.0.0 steps.0.1 range (number_took long input at.place steps.0 steps.1) steps.2

-- bytes behind their length that are spelled so are read
sized_again : (input : List ℕ) (at after : Cursor) (value bytes : List ℕ) → SpellsBytes value bytes → Passes input at after bytes 0 → sized_at input at ≡ Ok (value, after)
unfolding sized_at
sized_again input at after value bytes spelled passes =
    let both : bytes ≡ spelled.front ++ value = spelled.parts ∙ ap (λ (x : List ℕ). spelled.front ++ x) spelled.second in
    let stand = subst (Stand input at.place after.place) both passes.stand in
    let first = stand_first input at.place after.place spelled.front value stand in
    let second = stand_second input at.place after.place spelled.front value stand in
    let again = bytes_again input at.place spelled.front first.rest (length value) first.parts spelled.first (omega (arith, ap length second.parts, length-append value second.rest, ap length (behind_is input at.place spelled.front first.rest first.parts))) in
    let ends : at.place + length spelled.front + length value ≡ after.place = omega (arith, second.ends) in
    let range : slice_range input (at.place + length spelled.front) after.place ≡ value = range_is input (at.place + length spelled.front) after.place value second in
    rw (again, ends, range) (ap (λ (c : Cursor). Ok (value, c)) (moved_is at after after.place refl passes.counts))

-- bytes behind their length agree with their spelling
pub agrees_sized : Agrees sized_at SpellsBytes no_items
unfolding sized_at
agrees_sized = record {
  sound = λ input at read few is.
      let inner = value_ok (λ taken. (slice_range input taken.0 taken.1, moved at taken.1)) (map_refusal wire_refusal (bytes_at input at.place)) read is in
      subst (ReadTook SpellsBytes no_items input at) inner.2 (record { took = sized_took input at inner.0 inner.1; counts = omega arith; few = few });
  complete = sized_again;
}

-- texts agree with their spelling
pub agrees_text : Agrees text_at SpellsText no_items
unfolding text_at
agrees_text = record {
  sound = λ input at read few is.
      let steps = bind_ok (sized_at input at) _ read is in
      let test = test_passed (is_utf8 steps.0.0) (Ok steps.0) (Utf8 at.place) read steps.2 in
      let took = agrees_sized.sound input at steps.0 few steps.1 in
      let text : IsUtf8 steps.0.0 = IsUtf8-from_is_utf8 steps.0.0 test.0 in
      subst (ReadTook SpellsText no_items input at) (ok_is steps.0 read test.1) (record {
        took = took_as input at.place steps.0.1.place (λ bytes spelled. record { is_text = text; spelled = spelled }) took.took;
        counts = took.counts;
        few = took.few;
      });
  complete = λ input at after text bytes spelled passes.
      let read = sized_again input at after text bytes spelled.spelled passes in
      let test : is_utf8 text ≡ true = is_utf8-from_IsUtf8 text spelled.is_text in
      rw (read, test) refl;
}

-- ---- bytes as they are

-- so many bytes that are spelled are read
raw_again : (size : ℕ) (input : List ℕ) (at after : Cursor) (datum : Datum) (bytes : List ℕ) → SpellsRaw size datum bytes → Passes input at after bytes (items_in datum) → raw_at size input at ≡ Ok (datum, after)
unfolding raw_at
raw_again size input at after datum bytes spelled passes =
    let none : items_in datum ≡ 0 = ap items_in spelled.value ∙ counts-Raw bytes in
    let ends : at.place + size ≡ after.place = omega (arith, passes.stand.ends, spelled.many) in
    let enough : nat_lt (length input - at.place) size ≡ false = le-ltb _ _ (omega (arith, spelled.many, length-drop at.place input, ap length passes.stand.parts, length-append bytes passes.stand.rest)) in
    let range : slice_range input at.place after.place ≡ bytes = range_is input at.place after.place bytes passes.stand in
    let is : (datums.Raw bytes, moved at after.place) ≡ (datum, after) = ap₂ (λ (d : Datum) (c : Cursor). (d, c)) (sym spelled.value) (moved_is at after after.place refl (omega (arith, passes.counts, none))) in
    rw (enough, ends, range) (ap (λ (read : Datum × Cursor). Ok read) is)

-- so many bytes agree with their spelling
pub agrees_raw : (size : ℕ) → Agrees (raw_at size) (SpellsRaw size) items_in
unfolding raw_at
agrees_raw size = record {
  sound = λ input at read few is.
      let passed = test_failed _ _ _ read is in
      let enough = ltb-false _ _ passed.0 in
      let bytes = slice_range input at.place (at.place + size) in
      subst (ReadTook (SpellsRaw size) items_in input at) (ok_is (datums.Raw bytes, moved at (at.place + size)) read passed.1) (record {
        took = record { bytes = bytes; stand = enough_stand input at.place size enough; such = record { value = refl; many = enough_are input at.place size enough } };
        counts = omega (arith, counts-Raw bytes);
        few = few;
      });
  complete = raw_again size;
}

-- ---- truth values

-- the byte of a truth value
flag_is : (byte : ℕ) (at : Cursor) (read : Datum × Cursor) → flag_of byte at ≡ Ok read → (flag : Bool) × (byte ≡ flag_byte flag) × (read ≡ (datums.Flag flag, moved at (at.place + 1)))
flag_is byte at read is =
    elim (cond_is (byte == 0) _ _ _ is) [
      | inl none ↦ (false, eqb-true byte 0 none.0, sym (ok_is _ read none.1))
      | inr some ↦
          let passed = test_passed (byte == 1) _ _ read some.1 in
          (true, eqb-true byte 1 passed.0, sym (ok_is _ read passed.1))
    ]

-- a byte that is there
byte_took : (input : List ℕ) (at : Cursor) (byte : ℕ) (read : Datum × Cursor) → slice_get input at.place ≡ Some byte → flag_of byte at ≡ Ok read → at.items ≤ most_items → ReadTook SpellsFlag items_in input at read
byte_took input at byte read there is few =
    let flag = flag_is byte at read is in
    let here : drop at.place input ≡ byte ∷ drop (at.place + 1) input = drop_more input at.place byte (slice_get_within input at.place byte there) ∙ ap (λ (b : ℕ). b ∷ drop (at.place + 1) input) (get_or_from_slice_get input at.place byte byte there) in
    subst (ReadTook SpellsFlag items_in input at) (sym flag.2) (record {
      took = record { bytes = byte ∷ []; stand = record { rest = drop (at.place + 1) input; parts = here; ends = omega arith }; such = record { flag = flag.0; value = refl; spelled = ap (λ (b : ℕ). b ∷ []) flag.1 } };
      counts = omega (arith, counts-Flag flag.0);
      few = few;
    })

-- a truth value that is read is spelled so
flag_took : (input : List ℕ) (at : Cursor) (byte : Option ℕ) (read : Datum × Cursor) → slice_get input at.place ≡ byte → flag_at byte at ≡ Ok read → at.items ≤ most_items → ReadTook SpellsFlag items_in input at read
flag_took input at None read there is few = absurd cc
flag_took input at (Some byte) read there is few = byte_took input at byte read there is few

-- the first of the bytes at a place
first_is : (input : List ℕ) (place byte : ℕ) (rest : List ℕ) → drop place input ≡ byte ∷ rest → slice_get input place ≡ Some byte
first_is [] zero byte rest is = absurd cc
first_is [] (suc place) byte rest is = absurd cc
first_is (b ∷ input) zero byte rest is =
    let same : b ≡ byte = cc in
    ap (λ (x : ℕ). Some x) same
first_is (b ∷ input) (suc place) byte rest is = first_is input place byte rest is

-- the byte of a truth value is read as it
flag_read : (flag : Bool) (at : Cursor) → flag_of (flag_byte flag) at ≡ Ok (datums.Flag flag, moved at (at.place + 1))
flag_read false at = refl
flag_read true at = refl

-- a truth value that is spelled is read
flag_again : (input : List ℕ) (at after : Cursor) (datum : Datum) (bytes : List ℕ) → SpellsFlag datum bytes → Passes input at after bytes (items_in datum) → flag_at (slice_get input at.place) at ≡ Ok (datum, after)
flag_again input at after datum bytes spelled passes =
    let none : items_in datum ≡ 0 = ap items_in spelled.value ∙ counts-Flag spelled.flag in
    let whole : drop at.place input ≡ flag_byte spelled.flag ∷ passes.stand.rest = passes.stand.parts ∙ ap (λ (x : List ℕ). x ++ passes.stand.rest) spelled.spelled in
    let there : slice_get input at.place ≡ Some (flag_byte spelled.flag) = first_is input at.place (flag_byte spelled.flag) passes.stand.rest whole in
    let ends : at.place + 1 ≡ after.place = omega (arith, passes.stand.ends, ap length spelled.spelled) in
    let is : (datums.Flag spelled.flag, moved at (at.place + 1)) ≡ (datum, after) = ap₂ (λ (d : Datum) (c : Cursor). (d, c)) (sym spelled.value) (moved_is at after (at.place + 1) ends (omega (arith, passes.counts, none))) in
    rw there (flag_read spelled.flag at ∙ ap (λ (read : Datum × Cursor). Ok read) is)

-- truth values agree with their spelling
pub agrees_flag : Agrees (λ input at. flag_at (slice_get input at.place) at) SpellsFlag items_in
agrees_flag = record {
  sound = λ input at read few is. flag_took input at (slice_get input at.place) read refl is few;
  complete = flag_again;
}
