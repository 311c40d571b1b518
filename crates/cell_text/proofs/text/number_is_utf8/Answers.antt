use Rattle.std.proofs.lemmas.Str.{IsUtf8-from_ascii}
use Rattle.itoa.proofs.Decimal.{IsAscii-signed_decimal}
use Rattle.cell_text.proofs.text.number_is_utf8.Goals as goal

pub returns : goal.returns
returns c = IsUtf8-from_ascii _ (IsAscii-signed_decimal c.args.number c.ranges.number)
