use Rattle.std.proofs.Common.{◌^◌, ◌<◌, rules}
use Rattle.dayfile_encode.proofs.encode_reserve.Goals as goal

pub returns-clause-back : goal.returns-clause-back
returns-clause-back c =
    let fits : c.args.reserve.real_time < 2 ^ 32 = search (rules, c.well_formed.0) in
    search rules
