use Rattle.std.proofs.Common.{arith}
use Rattle.mjai_lines.proofs.Rows.{no_row}
use Rattle.mjai_lines.proofs.yaku.yaku_name.Goals as goal

pub returns-in_default : goal.returns-in_default
returns-in_default c = no_row c.args.row (omega arith)
