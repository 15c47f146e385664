use Rattle.std.proofs.Common.{◌≡◌, false, true, [], ◌∷◌, rules, sym, ◌∙◌}
use Rattle.std.specs.Prelude.{filter}
use Rattle.mj_tiles.specs.declared.meld.Meld.{Meld}
use Rattle.mj_deeds.specs.Facts.{is_pon}
use Rattle.mj_rules.specs.Possible.{added_kans_of}
use Rattle.mj_judge.proofs.Tried.{none_added, no_triplet, one_triplet}
use Rattle.mj_judge.proofs.turning.push_added_kan.Goals as goal

pub returns-then-not-is_pon : goal.returns-then-not-is_pon
returns-then-not-is_pon c =
    let other : c.is_pon.result ≡ false = search rules in
    none_added c.args.table.now.rules c.args.table.now.deeds c.args.seat (added_kans_of c.args.seat c.args.tile (filter (λ (m : Meld). is_pon m.form) (c.args.meld.now ∷ []))) _
    (no_triplet c.args.table.now.rules c.args.table.now.deeds c.args.seat c.args.tile c.args.meld.now (sym c.is_pon.ensures ∙ other))

pub returns : goal.returns
returns c =
    let pon : c.is_pon.result ≡ true = search rules in
    one_triplet c.args.table.now.rules c.args.table.now.deeds c.args.seat c.args.tile c.args.meld.now _ _ (sym c.is_pon.ensures ∙ pon) c.in_ok-push_lawful.ensures
