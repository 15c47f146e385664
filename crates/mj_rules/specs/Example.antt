-- A first hand whose dealer holds four of three kinds, and the answers that it may give to its first draw.
use Rattle.std.specs.Prelude.{ℕ, true, false, List, [], ◌∷◌}
use Rattle.mj_deeds.specs.declared.answer.Pai.TheVariants.{Known}
use Rattle.mj_deeds.specs.declared.answer.Answer.{Answer}
use Rattle.mj_deeds.specs.declared.answer.Answer.TheVariants.{Discard, ClosedKan, Reach}
use Rattle.mj_deeds.specs.declared.deed.Deed.{Deed}
use Rattle.mj_deeds.specs.declared.deed.Deed.TheVariants as deeds
use Rattle.mj_wall.specs.declared.setting.Rules.{Rules}

-- The rules of a game without draw reasons and without red fives.
abbrev pub plain_rules : Rules
plain_rules = record { limit = 20000; draws = false; red = false }

-- The deeds up to the dealer's first draw, which gives it a tile of which it holds none.
abbrev pub first_draw : List Deed
first_draw =
    deeds.StartGame (record { first = 97 ∷ []; second = 98 ∷ []; third = 99 ∷ []; fourth = 100 ∷ [] })
    ∷ deeds.StartHand 27 1 0 0 0 32 (record {
      first = 0 ∷ 0 ∷ 0 ∷ 0 ∷ 1 ∷ 1 ∷ 1 ∷ 1 ∷ 2 ∷ 2 ∷ 2 ∷ 2 ∷ 3 ∷ [];
      second = 3 ∷ 3 ∷ 3 ∷ 4 ∷ 4 ∷ 4 ∷ 4 ∷ 5 ∷ 5 ∷ 5 ∷ 5 ∷ 6 ∷ 6 ∷ [];
      third = 6 ∷ 6 ∷ 7 ∷ 7 ∷ 7 ∷ 7 ∷ 8 ∷ 8 ∷ 8 ∷ 8 ∷ 9 ∷ 9 ∷ 9 ∷ [];
      fourth = 9 ∷ 10 ∷ 10 ∷ 10 ∷ 10 ∷ 11 ∷ 11 ∷ 11 ∷ 11 ∷ 12 ∷ 12 ∷ 12 ∷ 12 ∷ [];
    })
    ∷ deeds.Draw 0 13 false
    ∷ []

-- A kan of four concealed tiles of a face.
abbrev pub four_of : ℕ → Answer
four_of face = ClosedKan 0 (Known face) (Known face) (Known face) (Known face)

-- What the dealer may answer.
abbrev pub first_answers : List Answer
first_answers =
    Discard 0 (Known 0) false ∷ Discard 0 (Known 1) false ∷ Discard 0 (Known 2) false ∷ Discard 0 (Known 3) false ∷ Discard 0 (Known 13) true
    ∷ four_of 0 ∷ four_of 1 ∷ four_of 2 ∷ Reach 0 ∷ []
