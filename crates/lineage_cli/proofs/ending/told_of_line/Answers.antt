use Rattle.std.proofs.Common.{◌∙◌, ◌<◌, ◌^◌, rules, sym}
use Rattle.std.specs.Prelude.{decimal}
use Rattle.std.proofs.lemmas.Fmt.{decimal_nonempty}
use Rattle.lineage_cli.proofs.LineLemmas.{spaced_some}
use Rattle.lineage_cli.proofs.ending.told_of_line.Goals as goal

pub returns : goal.returns
returns c =
    let fits : c.args.line < 2 ^ 64 = search rules in
    c.number.ensures ∙ sym (spaced_some (decimal c.args.line) (decimal_nonempty c.args.line fits))
