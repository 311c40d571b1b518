-- A whole file by the relation: what is read is spelled so, and what is spelled so is read.
use Rattle.std.proofs.Common.{◌≡◌, ℕ, ◌+◌, ◌≤◌, false, List, ◌++◌, length, drop, slice_range, Result, Ok, Err, nat_lt}
use Rattle.std.proofs.Common.{refl, sym, ap, subst, ◌∙◌, arith}
use Rattle.std.specs.Prelude.{IfOk}
use Rattle.std.proofs.lemmas.Bool.{le-ltb}
use Rattle.std.proofs.lemmas.List.{length-append}
use Rattle.words.specs.Reading.{Gives}
use Rattle.words.specs.Laws.{refused_so}
use Rattle.avro_container.specs.declared.container.Block.{Block}
use Rattle.avro_container.specs.declared.container.Container.{Container}
use Rattle.avro_container.specs.declared.refusal.ContainerRefusal.{ContainerRefusal}
use Rattle.avro_container.specs.declared.refusal.ContainerRefusal.TheVariants.{Limit}
use Rattle.avro_container.specs.Refusal.{is_memory}
use Rattle.avro_container.specs.Header.{Pair, magic, part_at, header_at}
use Rattle.avro_container.specs.Block.{blocks_at}
use Rattle.avro_container.specs.Container.{most_bytes, container_at}
use Rattle.avro_container.specs.Format.{SpellsBlocks, IsContainer}
use Rattle.words.specs.Parts.{behind_is}
use Rattle.words.specs.Steps.{bind_then, test_failed, ok_is}
use Rattle.avro_container.proofs.SpelledItem.{slice_is, range_took, part_took, part_again}
use Rattle.avro_container.proofs.SpelledBlocks.{blocks_took, blocks_again}
use Rattle.avro_container.proofs.SpelledMagic.{behind_map}
use Rattle.avro_container.proofs.SpelledHeader.{HeaderTook, header_took, header_again}

-- a container is made of its header, its marker and its blocks
container_is : (input : List ℕ) (header : List Pair × ℕ) (first : ℕ) (blocks : List Block) → HeaderTook input header
    → part_at 16 input header.1 ≡ Ok first → SpellsBlocks (slice_range input header.1 first) blocks (drop first input)
    → IsContainer input (record { meta = header.0; sync = slice_range input header.1 first; blocks = blocks })
container_is input header first blocks took marker_read spelled =
    let part = part_took 16 input header.1 first marker_read in
    let marker = range_took input header.1 16 part.1 in
    let there : drop header.1 input ≡ took.rest = ap (λ (n : ℕ). drop n input) took.ends ∙ behind_map input took.map took.rest took.whole in
    let sync_is : marker.bytes ≡ slice_range input header.1 first = marker.such.0 ∙ ap (slice_range input header.1) (sym part.0) in
    let stand = marker.stand in
    let behind : drop first input ≡ stand.rest =
    ap (λ (n : ℕ). drop n input) (part.0 ∙ stand.ends) ∙ behind_is input header.1 marker.bytes stand.rest stand.parts in
    let sync = slice_range input header.1 first in
    let rest_is : took.rest ≡ sync ++ drop first input =
    sym there ∙ stand.parts ∙ ap (λ (x : List ℕ). x ++ stand.rest) sync_is ∙ ap (λ (x : List ℕ). sync ++ x) (sym behind) in
    record {
      map = took.map;
      blocks = drop first input;
      whole = took.whole ∙ ap (λ (x : List ℕ). magic ++ (took.map ++ x)) rest_is;
      header = took.header;
      maps = took.maps;
      marker = sym (ap length sync_is) ∙ marker.such.1;
      spelled = spelled;
    }

-- the bytes are the file of what is read
pub container_found : (input : List ℕ) (container : Container) → container_at input ≡ Ok container → IsContainer input container
unfolding container_at
container_found input container read =
    let few = test_failed (nat_lt most_bytes (length input)) _ (Limit (length input)) container read in
    bind_then (header_at input) _ container few.1 (λ header header_read others.
    bind_then (part_at 16 input header.1) _ container others (λ first first_read others.
    bind_then (blocks_at (length input) (slice_range input header.1 first) 1 input first) _ container others (λ blocks blocks_read made.
    let spelled = blocks_took (length input) (slice_range input header.1 first) 1 input first blocks blocks_read (omega arith) in
    subst (IsContainer input) (ok_is _ container made) (container_is input header first blocks (header_took input header header_read) first_read spelled))))

-- the container whose file the bytes are is read
pub container_again : (input : List ℕ) (container : Container) → IsContainer input container → length input ≤ most_bytes → container_at input ≡ Ok container
unfolding container_at
container_again input container is few =
    let header = header_again input container.meta is.map (container.sync ++ is.blocks) is.whole is.header is.maps in
    let front : drop (4 + length is.map) input ≡ container.sync ++ is.blocks = behind_map input is.map (container.sync ++ is.blocks) is.whole in
    let behind_map_is = container.sync ++ is.blocks in
    let counts : length input ≡ 4 + (length is.map + (16 + length is.blocks)) =
    omega (
      arith,
      is.marker,
      ap length is.whole,
      length-append magic (is.map ++ behind_map_is),
      length-append is.map behind_map_is,
      length-append container.sync is.blocks,
    ) in
    let first = part_again 16 input (4 + length is.map) (omega arith) in
    let mark = 4 + length is.map in
    let marker : slice_range input mark (mark + 16) ≡ container.sync =
    ap (λ (n : ℕ). slice_range input mark (mark + n)) (sym is.marker) ∙ slice_is input mark container.sync is.blocks front in
    let behind : drop (mark + 16) input ≡ is.blocks =
    ap (λ (n : ℕ). drop (mark + n) input) (sym is.marker) ∙ behind_is input mark container.sync is.blocks front in
    let blocks = blocks_again container.blocks (length input) container.sync 1 input (4 + length is.map + 16) is.blocks is.marker behind is.spelled (omega arith) in
    let fits : nat_lt most_bytes (length input) ≡ false = le-ltb _ _ few in
    rw (fits, header, first, marker, blocks) refl

-- ---- the clauses, of whatever is answered

-- the bytes are the file of what is answered
pub is_found : {X : Type 0} (view : X → Container) (input : List ℕ) (r : Result X ContainerRefusal)
    → Gives is_memory view r (container_at input) → IfOk r (λ x. IsContainer input (view x))
is_found view input (Ok x) given = container_found input (view x) given
is_found view input (Err e) given = tt

-- and what they are the file of is answered
pub is_only : {X : Type 0} (view : X → Container) (input : List ℕ) (r : Result X ContainerRefusal)
    → Gives is_memory view r (container_at input) → (container : Container) → IsContainer input container
    → length input ≤ most_bytes → Gives is_memory view r (Ok container)
is_only view input (Ok x) given container is few = sym (container_again input container is few) ∙ given
is_only view input (Err e) given container is few =
    refused_so (is_memory e) (λ refused. sym (container_again input container is few) ∙ refused) given
