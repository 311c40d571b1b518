-- The header of a file by the relation: what is read is spelled so, and what is spelled so is read.
use Rattle.std.proofs.Common.{◌≡◌, ℕ, ◌+◌, ◌≤◌, true, List, [], ◌++◌, length, drop, Option, Some, None, Ok, refl, sym}
use Rattle.std.proofs.Common.{ap, subst, ◌∙◌, arith}
use Rattle.std.specs.Prelude.{IfSome, codes}
use Rattle.std.specs.Str.{bytes_eq}
use Rattle.std.proofs.lemmas.List.{length-append}
use Rattle.std.proofs.lemmas.Slice.Eq.{bytes_eq-Decides}
use Rattle.avro_container.specs.declared.refusal.ContainerRefusal.TheVariants.{Header, Codec}
use Rattle.avro_container.specs.Header.{Pair, has_key, bound_to, magic, schema_key, codec_key, magic_at, map_at}
use Rattle.avro_container.specs.Header.{check_codec, checked, header_at}
use Rattle.avro_container.specs.Format.{SpellsMap, IsHeader}
use Rattle.words.specs.Parts.{Took, behind_is}
use Rattle.words.specs.Steps.{bind_then, test_passed, ok_is}
use Rattle.avro_container.proofs.Keys.{IsSoFar, so_far_none}
use Rattle.avro_container.proofs.SpelledMap.{MapTook, map_took, map_again}
use Rattle.avro_container.proofs.SpelledMagic.{magic_took, magic_is, four_within, magic_again}

-- the codec that the format names, or none
codec_is : (codec : Option (List ℕ)) (x : List ℕ) → check_codec codec ≡ Ok x → IfSome codec (λ name. name ≡ codes "null")
codec_is None x read = tt
codec_is (Some name) x read =
    let test = test_passed (bytes_eq name (codes "null")) (Ok []) (Codec name) x read in
    (bytes_eq-Decides name (codes "null")).0 test.0

-- such a codec is let through
codec_again : (codec : Option (List ℕ)) → IfSome codec (λ name. name ≡ codes "null") → check_codec codec ≡ Ok []
codec_again None is = refl
codec_again (Some name) is = rw ((bytes_eq-Decides name (codes "null")).1 is) refl

-- what the pairs need to have
record IsChecked (map header : List Pair × ℕ) : Type 0 where
  schema : has_key map.0 schema_key ≡ true
  codec : IfSome (bound_to map.0 codec_key) (λ name. name ≡ codes "null")
  same : map ≡ header

-- pairs that were let through have it
checked_is : (map header : List Pair × ℕ) → checked map ≡ Ok header → IsChecked map header
unfolding checked
checked_is map header read =
    let test = test_passed (has_key map.0 schema_key) _ (Header map.1) header read in
    bind_then (check_codec (bound_to map.0 codec_key)) _ header test.1 (λ found first second.
    record { schema = test.0; codec = codec_is (bound_to map.0 codec_key) found first; same = ok_is map header second })

-- a header that is read, with the bytes of its map
pub record HeaderTook (input : List ℕ) (taken : List Pair × ℕ) : Type 0 where
  pub map : List ℕ
  pub rest : List ℕ
  pub whole : input ≡ magic ++ (map ++ rest)
  pub ends : taken.1 ≡ 4 + length map
  pub header : IsHeader taken.0
  pub maps : SpellsMap taken.0 map

-- of the first bytes and the map
header_is : (input : List ℕ) (map : List Pair × ℕ) → Took input 0 4 (λ bytes. bytes ≡ magic) → MapTook [] input 4 map
    → has_key map.0 schema_key ≡ true → IfSome (bound_to map.0 codec_key) (λ name. name ≡ codes "null")
    → HeaderTook input map
header_is input map first took schema codec =
    let start : input ≡ magic ++ first.stand.rest = first.stand.parts ∙ ap (λ (x : List ℕ). x ++ first.stand.rest) first.such in
    let map_stand = took.took.stand in
    let behind : first.stand.rest ≡ took.took.bytes ++ map_stand.rest = sym (behind_is input 0 magic first.stand.rest start) ∙ map_stand.parts in
    record {
      map = took.took.bytes;
      rest = map_stand.rest;
      whole = start ∙ ap (λ (x : List ℕ). magic ++ x) behind;
      ends = map_stand.ends;
      header = record { few = took.few; texts = took.kept.texts; distinct = took.kept.distinct; schema = schema; codec = codec };
      maps = record { blocks = took.blocks; together = sym took.grown; spelled = took.took.such };
    }

-- what is read is spelled so
pub header_took : (input : List ℕ) (header : List Pair × ℕ) → header_at input ≡ Ok header → HeaderTook input header
unfolding header_at
header_took input header read =
    bind_then (magic_at input) _ header read (λ start start_read behind.
    bind_then (map_at (length input) [] input start) _ header behind (λ map map_read tested.
    let four = magic_is input start start_read in
    let first = rw four at (magic_took input start start_read) in
    let is = checked_is map header tested in
    let took = map_took (length input) [] input 4 map (rw four at map_read) (omega (arith, four_within input first)) so_far_none (omega arith) in
    subst (HeaderTook input) is.same (header_is input map first took is.schema is.codec)))

-- what is spelled so is read, whatever follows
pub header_again : (input : List ℕ) (pairs : List Pair) (map rest : List ℕ) → input ≡ magic ++ (map ++ rest)
    → IsHeader pairs → SpellsMap pairs map → header_at input ≡ Ok (pairs, 4 + length map)
unfolding header_at checked
header_again input pairs map rest whole header maps =
    let start = magic_again input (map ++ rest) whole in
    let behind : drop 4 input ≡ map ++ rest = behind_is input 0 magic (map ++ rest) whole in
    let enough : length map ≤ length input = omega (arith, ap length whole, length-append magic (map ++ rest), length-append map rest) in
    let kept : IsSoFar pairs = record { texts = header.texts; distinct = header.distinct } in
    let read = map_again maps.blocks (length input) [] input 4 map rest behind maps.spelled enough (rw maps.together kept) (rw maps.together header.few) in
    rw (start, read, maps.together, header.schema, codec_again (bound_to pairs codec_key) header.codec) refl
