use Rattle.std.proofs.Common.{◌≡◌, false, true, length, rules, sym, ◌∙◌}
use Rattle.mj_judge.proofs.Tried.{pass_fails, pass_stands, pass_alone}
use Rattle.mj_judge.proofs.listing.set_after_pass.Goals as goal

pub returns-then-not-may_pass-clause-ok : goal.returns-then-not-may_pass-clause-ok
returns-then-not-may_pass-clause-ok c =
    let fails : c.may_pass.result ≡ false = search rules in
    c.from_vec.ensures ∙ pass_fails c.args.table.now.rules c.args.table.now.deeds c.args.seat c.args.items.items (sym c.may_pass.ensures ∙ fails)

pub returns-then-is_empty-clause-ok : goal.returns-then-is_empty-clause-ok
returns-then-is_empty-clause-ok c =
    let lawful : c.may_pass.result ≡ true = search rules in
    let none : length c.args.items.items ≡ 0 = search rules in
    c.set_pass.ensures ∙ pass_alone c.args.table.now.rules c.args.table.now.deeds c.args.seat c.args.items.items (sym c.may_pass.ensures ∙ lawful) none

pub returns-clause-ok : goal.returns-clause-ok
returns-clause-ok c =
    let lawful : c.may_pass.result ≡ true = search rules in
    c.from_vec-2.ensures ∙ c.in_ok-insert.ensures.items ∙ pass_stands c.args.table.now.rules c.args.table.now.deeds c.args.seat c.args.items.items (sym c.may_pass.ensures ∙ lawful)
