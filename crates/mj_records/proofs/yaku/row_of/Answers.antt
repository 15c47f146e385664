use Rattle.std.proofs.Common.{sym, ◌∙◌, ap, arith}
use Rattle.std.proofs.lemmas.Slice.Eq.{slice_eq-Decides}
use Rattle.std.proofs.lemmas.Bool.Decides.{Decides-eqb}
use Rattle.mj_records.specs.Inner.Lists.{row_of}
use Rattle.mj_records.proofs.RowLaws.{row_named, row_of-none}
use Rattle.mj_records.proofs.yaku.row_of.Goals as goal

pub returns-then-eq-clause-value : goal.returns-then-eq-clause-value
returns-then-eq-clause-value c =
    sym (row_named _ c.loop-row-test.true)
    ∙ ap row_of (sym c.yaku_name.ensures ∙ (slice_eq-Decides Decides-eqb _ _ c.eq.result c.eq.ensures).0 c.if-eq.true)

pub returns-clause-value : goal.returns-clause-value
returns-clause-value c = sym (row_of-none _ (λ row within named. c.loop-row.invariant row (omega arith) named))
