use Rattle.std.proofs.Common.{◌≡◌, false, rules, sym, ◌∙◌}
use Rattle.mj_judge.proofs.FirstDiscards.{discards_first}
use Rattle.mj_judge.proofs.choice.possible_at.Goals as goal

pub returns-in-Some : goal.returns-in-Some
returns-in-Some c =
    let fails : c.may_pass.result ≡ false = search rules in
    sym (discards_first c.args.table.now.rules c.args.table.now.deeds c.args.seat c.args.k c.in-Some.discard (sym c.may_pass.ensures ∙ fails) (sym c.in_ok-discard.ensures ∙ c.in-Some.is))
