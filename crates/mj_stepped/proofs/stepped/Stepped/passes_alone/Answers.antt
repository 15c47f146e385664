use Rattle.std.proofs.Common.{◌≡◌, false, rules, sym, subst, ◌∙◌}
use Rattle.std.specs.Prelude.{None}
use Rattle.mj_deeds.specs.declared.answer.Answer.TheVariants.{Pass}
use Rattle.mj_rules.specs.View.{view_of}
use Rattle.mj_rules.specs.Possible.{is_lawful}
use Rattle.mj_table.specs.Plays.{Play}
use Rattle.mj_core.specs.Calls.{after_of}
use Rattle.mj_stepped.proofs.Acting.{acts}
use Rattle.mj_stepped.proofs.stepped.Stepped.passes_alone.Goals as goal

pub returns-then-not-may_pass : goal.returns-then-not-may_pass
returns-then-not-may_pass c =
    let fails : c.may_pass.result ≡ false = search rules in
    rw (← c.self.view_is)
    (sym (acts c.self.inside.umpire.setting.rules (after_of c.self.inside.umpire).deeds c.args.seat
    (subst (λ (play : Play). is_lawful play.rules c.args.seat (view_of play.deeds c.args.seat) (Pass None) ≡ false) c.table.ensures (sym c.may_pass.ensures ∙ fails))))
