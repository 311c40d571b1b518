use Rattle.std.proofs.Common.{◌≡◌, rules}
use Rattle.history_log.specs.Request.{request_text}
use Rattle.history_log.proofs.RequestLaws.{text_again}
use Rattle.history_log.proofs.request.print_request.Goals as goal

pub returns-clause-reads_back : goal.returns-clause-reads_back
returns-clause-reads_back c =
    let is : c.from_string.result ≡ request_text c.args.request.now = search rules in
    λ columns fit. text_again columns c.args.request.now c.from_string.result is fit
