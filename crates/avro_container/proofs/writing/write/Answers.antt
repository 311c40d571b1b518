use Rattle.std.proofs.Common.{◌≡◌, ◌<◌, ◌^◌, length, rules, sym, subst, ◌∙◌, All}
use Rattle.avro_container.specs.Format.{IsContainer}
use Rattle.avro_container.specs.Writing.{container_text, HasTextKey, HasLongCount}
use Rattle.avro_container.proofs.SpelledFile.{container_again}
use Rattle.avro_container.proofs.WrittenFile.{file_is, container_spelled}
use Rattle.avro_container.proofs.writing.write.Goals as goal

pub returns-clause-found : goal.returns-clause-found
returns-clause-found c = λ is.
    let file = c.args.value.now in
    let out = c.put_blocks.new.out.items in
    let text : out ≡ container_text file = file_is file c.extend_from_slice.new.self.items c.put_map.new.out.items c.extend_from_slice-2.new.self.items out (search rules) (search rules) c.in_ok-extend_from_slice-2.ensures.items (search rules) in
    let texts : All HasTextKey file.meta = subst (All HasTextKey) c.as_slice.ensures c.in_ok-put_map.ensures.texts in
    let counts : All HasLongCount file.blocks = subst (All HasLongCount) c.as_slice-2.ensures c.in_ok-put_blocks.ensures.counts in
    let below : length out < 2 ^ 63 = search rules in
    let marker : length file.sync ≡ 16 = search rules in
    subst (λ bytes. IsContainer bytes file) (sym (c.from_vec.ensures ∙ text)) (container_spelled file is texts counts marker (subst (λ bytes. length bytes < 2 ^ 63) text below))

pub returns-clause-reads_back : goal.returns-clause-reads_back
returns-clause-reads_back c = λ is few. container_again c.from_vec.result c.args.value.now (returns-clause-found c is) few
