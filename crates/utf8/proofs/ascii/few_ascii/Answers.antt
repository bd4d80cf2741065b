use Rattle.std.proofs.Common.{rules, ℕ, ◌<◌, length, get_or}
use Rattle.std.specs.Bool.{Decides}
use Rattle.utf8.proofs.Runs.{all_ascii}
use Rattle.utf8.proofs.ascii.few_ascii.Goals as goal

pub returns : goal.returns
returns c =
    let each : Decides c.all.result ((k : ℕ) → k < length c.args.s.now → get_or c.args.s.now k 0 < 0x80) = search rules in
    all_ascii _ _ each
