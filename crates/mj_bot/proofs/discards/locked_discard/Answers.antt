use Rattle.std.proofs.Common.{Some, sym, subst, ◌∙◌}
use Rattle.std.specs.Prelude.{is_none, IsTrue}
use Rattle.mj_rules.specs.Broken.{broken_by}
use Rattle.mj_rules.specs.Default.{discard_of}
use Rattle.mj_rules.specs.View.{view_of}
use Rattle.mj_bot.proofs.discards.locked_discard.Goals as goal

pub returns-in-Some : goal.returns-in-Some
unfolding view_of
returns-in-Some c = λ tile some.
    (let found = c.if_lawful.ensures tile some in record {
      accepted = sym c.is_in_riichi.ensures ∙ c.if-not-is_in_riichi.false;
      drawn = sym c.drawn.ensures ∙ c.in-Some.is ∙ (λ i. Some (sym found.0 i));
      face = found.1.0;
      lawful = subst (λ t. IsTrue (is_none (broken_by c.args.table.now.rules c.args.seat (view_of c.args.table.now.deeds c.args.seat)
          (discard_of c.args.seat (view_of c.args.table.now.deeds c.args.seat) t)))) (sym found.0) found.1.1;
    })
