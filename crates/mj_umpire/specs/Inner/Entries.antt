-- The entries that an umpire keeps.
use Rattle.mj_ports.specs.declared.entry.Entry.{Entry}
use Rattle.mj_ports.specs.declared.entry.Entry.TheVariants.{Sat, Back, Said, Gone, Expired}
use Rattle.mj_deeds.specs.declared.answer.Answer.{Answer}
use Rattle.mj_umpire.specs.declared.entered.CompactEntry.{CompactEntry}
use Rattle.mj_umpire.specs.declared.entered.CompactEntry.TheVariants as kept

-- The entry that is kept.
abbrev pub entry_of : CompactEntry → Entry Answer
entry_of (kept.Sat author join) = Sat author join.value.name join.value.key
entry_of (kept.Back author seat) = Back author seat
entry_of (kept.Said author seat answer) = Said author seat answer
entry_of (kept.Gone author seat) = Gone author seat
entry_of (kept.Expired author spent) = Expired author spent.value.window spent.value.t1 spent.value.t2
