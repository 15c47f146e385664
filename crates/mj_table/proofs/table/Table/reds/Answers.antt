use Rattle.std.proofs.Common.{◌≡◌, ℕ, ◌<◌, [], ◌∷◌, get_or, ltb, arith}
use Rattle.mj_tiles.specs.Faces.{number_in}
use Rattle.mj_deeds.specs.Facts.{concealed_tiles}
use Rattle.mj_deeds.specs.Hand.{hand}
use Rattle.mj_table.proofs.FacesHeld.{told, has_one}
use Rattle.mj_table.proofs.table.Table.reds.Goals as goal

pub returns : goal.returns
returns c = λ i. one 34 (omega arith) i ∷ one 35 (omega arith) i ∷ one 36 (omega arith) i ∷ []
  where
    one : (face : ℕ) → face < 37 → ltb 0 (get_or c.at-held.result.now face 0) ≡ ltb 0 (number_in (concealed_tiles (hand c.args.self.now.deeds) c.args.seat) face)
    one face small =
        has_one (hand c.args.self.now.deeds) c.args.seat face c.at-held.result.now
        (told c.self.inside.rules c.self.inside.past.items c.args.self.now c.self.inside.held c.args.seat c.at-held.result.now c.requires
        c.self.invariant.fit c.self.invariant.concealed c.self.view_is c.at-held.ensures).1 small
