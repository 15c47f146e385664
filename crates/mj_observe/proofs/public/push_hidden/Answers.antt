use Rattle.std.proofs.Common.{◌≤◌, sym, arith}
use Rattle.mj_forms.specs.Lines.{bracketed}
use Rattle.mjai_lines.proofs.Chains.{◌▸◌, as_piece}
use Rattle.mj_observe.proofs.Pieces.{bracketed_hidden}
use Rattle.mj_observe.proofs.public.push_hidden.Goals as goal

pub returns-then-number-eq0 : goal.returns-then-number-eq0
unfolding bracketed
returns-then-number-eq0 c = rw c.if-number-eq0.true c.push_all.ensures.ok

pub returns : goal.returns
returns c =
    let some : 1 ≤ c.args.number = omega arith in
    as_piece (sym (bracketed_hidden c.args.number some))
    (c.in_ok-push_all.ensures.ok ▸ c.in_ok-push_more_hidden.ensures ▸ c.in_ok-push_all-2.ensures.ok)
