-- A file as it is written is the file of the container.
use Rattle.std.proofs.Common.{◌≡◌, ℕ, ◌+◌, ◌<◌, ◌^◌, List, ◌++◌, length, All, refl, ◌∙◌, append_assoc, arith}
use Rattle.std.specs.List.{flat_map}
use Rattle.std.proofs.lemmas.List.{length-append}
use Rattle.avro_wire.specs.Writing.{list_text}
use Rattle.avro_wire.specs.WritingLaws.{items_spelled}
use Rattle.avro_container.specs.declared.container.Container.{Container}
use Rattle.avro_container.specs.Header.{magic}
use Rattle.avro_container.specs.Format.{SpellsBlock, IsContainer}
use Rattle.avro_container.specs.Writing.{pair_text, block_text, container_text, HasTextKey, HasLongCount, IsWritable}
use Rattle.avro_container.proofs.WrittenMap.{map_spelled}
use Rattle.avro_container.proofs.WrittenBlocks.{blocks_spelled}

-- the parts, one behind the other
pub file_is : (container : Container) (first second third fourth : List ℕ) → first ≡ magic
    → second ≡ first ++ list_text pair_text container.meta → third ≡ second ++ container.sync
    → fourth ≡ third ++ flat_map (block_text container.sync) container.blocks → fourth ≡ container_text container
unfolding container_text
file_is container first second third fourth a b c d =
    let map = list_text pair_text container.meta in
    let blocks = flat_map (block_text container.sync) container.blocks in
    rw (d, c, b, a) (append_assoc (magic ++ map) container.sync blocks ∙ append_assoc magic map (container.sync ++ blocks))

-- a container that has a file has the one that is written, where that fits the memory
pub container_spelled : (container : Container) → IsWritable container → All HasTextKey container.meta → All HasLongCount container.blocks
    → length container.sync ≡ 16 → length (container_text container) < 2 ^ 63 → IsContainer (container_text container) container
unfolding container_text
container_spelled container is texts counts marker below =
    let sync = container.sync in
    let map = list_text pair_text container.meta in
    let blocks = flat_map (block_text sync) container.blocks in
    let whole : length (magic ++ (map ++ (sync ++ blocks))) ≡ 4 + (length map + (length sync + length blocks)) = omega (arith, length-append magic (map ++ (sync ++ blocks)), length-append map (sync ++ blocks), length-append sync blocks) in
    record {
      map = map;
      blocks = blocks;
      whole = refl;
      header = record { few = is.few; texts = texts; distinct = is.distinct; schema = is.schema; codec = is.codec };
      maps = map_spelled container.meta is.few (omega (arith, whole));
      marker = marker;
      spelled = items_spelled (SpellsBlock sync) (block_text sync) container.blocks (blocks_spelled sync container.blocks (omega (arith, whole)) is.counts counts);
    }
