-- Safe tiles are safe in whichever game agrees.
use Rattle.std.proofs.Common.{◌≡◌, ℕ, ◌≤◌, true, List, [], ◌∷◌, ◌++◌, length, sym, ◌∙◌, subst, arith}
use Rattle.std.specs.Prelude.{IsTrue}
use Rattle.mj_ports.specs.declared.entry.Entry.{Entry}
use Rattle.mj_tiles.specs.Faces.{kind_of}
use Rattle.mj_wall.specs.Places.{is_wall}
use Rattle.mj_wall.specs.declared.setting.Setting.{Setting}
use Rattle.mj_deeds.specs.declared.answer.Answer.{Answer}
use Rattle.mj_deeds.specs.declared.deed.Deed.{Deed}
use Rattle.mj_deeds.specs.declared.deed.Deed.TheVariants.{Discard}
use Rattle.mj_rules.specs.Outcome.{wall_of}
use Rattle.mj_rules.specs.Played.{IsLawful, IsPlayed}
use Rattle.mj_rules.proofs.Playing.{each_is_wall}
use Rattle.mj_safety.proofs.Winless.{safe_tiles_are_safe}
use Rattle.mj_history.specs.After.{after}
use Rattle.mj_history.specs.Legal.{has_wall, IsLegal}
use Rattle.mj_history.proofs.Fitting.{legal_games_are_played}
use Rattle.mj_secrecy.specs.Safe.{SafeInEveryGame}
use Rattle.mj_secrecy.proofs.Follows.{same_facts}

some_walls : (walls : List (List ℕ)) → IsTrue (has_wall walls) → 1 ≤ length walls
some_walls [] h = cc
some_walls (wall ∷ walls) h = omega arith

-- Where there is a deed there is an entry, so the wall of each hand is whole.
whole_walls : (setting : Setting) (entries : List (Entry Answer)) (ds : List Deed) (d : Deed) → IsLegal setting entries → (after setting entries).deeds ≡ ds ++ d ∷ [] →
    (number : ℕ) → is_wall setting.rules.red (wall_of setting.walls number) ≡ true
whole_walls setting [] ds d legal e = absurd (none ds d e)
  where
    none : (ds : List Deed) (d : Deed) → [] ≡ ds ++ d ∷ [] → ⊥
    none [] d e = cc
    none (x ∷ ds) d e = cc
whole_walls setting (entry ∷ entries) ds d legal e = each_is_wall setting.rules.red setting.walls (some_walls setting.walls legal.ground) legal.whole

pub safe_in_every_game : SafeInEveryGame
safe_in_every_game seat against reason g h later tile drawn answer small low s win lawful =
    let facts = same_facts seat g h small s.agree in
    let rules = later.setting.rules in
    let walls = later.setting.walls in
    safe_tiles_are_safe rules walls (after h.setting h.entries).deeds seat against tile drawn reason answer low
    (whole_walls later.setting later.entries (after h.setting h.entries).deeds (Discard seat tile drawn) s.legal s.goes_on)
    (subst (λ (ds : List Deed). IsPlayed rules walls ds) s.goes_on (legal_games_are_played later.setting later.entries s.legal))
    (sym facts.discards ∙ s.turn) (sym (facts.safe against (kind_of tile)) ∙ s.why) win
    (subst (λ (ds : List Deed). IsLawful rules ds against answer) s.goes_on lawful)
