use Rattle.mjai_lines.proofs.choices.push_list.Goals as goal

pub returns-then-is_pass_alone : goal.returns-then-is_pass_alone
returns-then-is_pass_alone c = rw (c.is_pass_alone.ensures c.if-is_pass_alone.true) c.push_pass_alone.ensures
