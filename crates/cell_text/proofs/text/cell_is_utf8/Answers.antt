use Rattle.cell_text.proofs.TextLemmas.{null_is_text, flag_is_text, hex_is_text}
use Rattle.cell_text.proofs.text.cell_is_utf8.Goals as goal

pub returns-in-Null : goal.returns-in-Null
returns-in-Null c = rw c.in-Null.is null_is_text

pub returns-in-Flag : goal.returns-in-Flag
returns-in-Flag c = rw c.in-Flag.is (flag_is_text c.in-Flag.field-0)

pub returns-in-Bytes : goal.returns-in-Bytes
returns-in-Bytes c = rw c.in-Bytes.is (hex_is_text c.in-Bytes.field-0.now)
