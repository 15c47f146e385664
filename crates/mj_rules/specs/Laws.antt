-- The laws over played deeds.
use Rattle.std.specs.Prelude.{◌≡◌, ◌≢◌, ◌↔◌, Contains, AllPairs, ℕ, ◌*◌, Bool, true, List, [], ◌∷◌, ◌++◌, length, ◌≤◌, ◌<◌, Some, is_some, pos, ◌+ℤ◌, ◌+◌}
use Rattle.std.specs.List.{list_all}
use Rattle.mj_deeds.specs.declared.four.Four.{Four}
use Rattle.mj_deeds.specs.declared.answer.Answer.{Answer}
use Rattle.mj_deeds.specs.declared.deed.Deed.{Deed}
use Rattle.mj_deeds.specs.Fits.{fits, all_fit}
use Rattle.mj_deeds.specs.Hand.{hand}
use Rattle.mj_deeds.specs.Points.{points, deposits}
use Rattle.mj_pay.specs.Payments.{total_change}
use Rattle.mj_wall.specs.declared.setting.Rules.{Rules}
use Rattle.mj_wall.specs.Places.{is_wall}
use Rattle.mj_rules.specs.Default.{default_answer, can_discard}
use Rattle.mj_deeds.specs.Facts.{newest, live_draws, kans, seat_melds}
use Rattle.mj_rules.specs.Outcome.{wall_of, outcome, goes_on}
use Rattle.mj_tiles.specs.Faces.{kind_of}
use Rattle.mj_rules.specs.View.{view_of}
use Rattle.mj_rules.specs.Possible.{is_plain, names_faces, triplets, key_of, comes_before, possible}
use Rattle.mj_rules.specs.Played.{IsLawful, AllLawful, IsPlayedBehind, IsPlayed}

-- Where there is a wall and all are whole, the wall of each hand is whole.
abbrev pub EachIsWall : Type 0
EachIsWall = (red : Bool) (walls : List (List ℕ)) → 1 ≤ length walls → list_all (is_wall red) walls ≡ true → (hand : ℕ) → is_wall red (wall_of walls hand) ≡ true

-- Deeds are played with one more exactly where they are played and the one is played after them.
abbrev pub PlayedWithOneMore : Type 0
PlayedWithOneMore = (rules : Rules) (walls : List (List ℕ)) (deeds : List Deed) (deed : Deed) → IsPlayed rules walls deeds →
    IsPlayedBehind rules walls deeds deed → IsPlayed rules walls (deeds ++ deed ∷ [])

abbrev pub PlayedWithoutTheLast : Type 0
PlayedWithoutTheLast = (rules : Rules) (walls : List (List ℕ)) (deeds : List Deed) (deed : Deed) → IsPlayed rules walls (deeds ++ deed ∷ []) →
    IsPlayed rules walls deeds × IsPlayedBehind rules walls deeds deed

-- Every played deed fits after those before it, where the wall of the hand is a wall.
abbrev pub PlayedDeedsFit : Type 0
PlayedDeedsFit =
    (rules : Rules) (walls : List (List ℕ)) (deeds : List Deed) → ((number : ℕ) → is_wall rules.red (wall_of walls number) ≡ true) → IsPlayed rules walls deeds →
    all_fit rules.red [] deeds ≡ true

-- What four lawful answers give after played deeds fits there, and the deeds are played with it too.
abbrev pub NextOfPlayedFits : Type 0
NextOfPlayedFits =
    (rules : Rules) (walls : List (List ℕ)) (deeds : List Deed) (given : Four Answer) (deed : Deed) → ((number : ℕ) → is_wall rules.red (wall_of walls number) ≡ true) → IsPlayed rules walls deeds →
    AllLawful rules deeds given → outcome rules walls deeds given ≡ Some deed → (fits rules.red deeds deed ≡ true) × IsPlayed rules walls (deeds ++ deed ∷ [])

-- In played deeds some discard of a seat that has to discard right after its own reach or call breaks no rule.
abbrev pub SomeDiscardIsLawful : Type 0
SomeDiscardIsLawful = (rules : Rules) (walls : List (List ℕ)) (deeds : List Deed) (seat : ℕ) → seat < 4 →
    ((number : ℕ) → is_wall rules.red (wall_of walls number) ≡ true) → IsPlayed rules walls deeds → can_discard rules deeds seat ≡ true

-- The default answer of a seat is lawful in deeds each of which fits after those before it, as long as some discard
-- right after its own reach or call breaks none.
abbrev pub FittingDefaultIsLawful : Type 0
FittingDefaultIsLawful =
    (rules : Rules) (deeds : List Deed) (seat : ℕ) → seat < 4 → all_fit rules.red [] deeds ≡ true → can_discard rules deeds seat ≡ true →
    IsLawful rules deeds seat (default_answer rules deeds seat)

-- In played deeds it always is.
abbrev pub PlayedDefaultIsLawful : Type 0
PlayedDefaultIsLawful =
    (rules : Rules) (walls : List (List ℕ)) (deeds : List Deed) (seat : ℕ) → seat < 4 → ((number : ℕ) → is_wall rules.red (wall_of walls number) ≡ true) → IsPlayed rules walls deeds →
    IsLawful rules deeds seat (default_answer rules deeds seat)

-- Some deed follows: after played deeds, of which there are some and the last isn't the end of the game, four lawful
-- answers give a deed.
abbrev pub SomeDeedFollows : Type 0
SomeDeedFollows =
    (rules : Rules) (walls : List (List ℕ)) (deeds : List Deed) (given : Four Answer) → ((number : ℕ) → is_wall rules.red (wall_of walls number) ≡ true) → IsPlayed rules walls deeds →
    AllLawful rules deeds given → goes_on (newest deeds) ≡ true → is_some (outcome rules walls deeds given) ≡ true

-- In played deeds the points of the four seats and 1,000 for each deposit on the table are 120,000 together.
abbrev pub TotalStays : Type 0
TotalStays =
    (rules : Rules) (walls : List (List ℕ)) (deeds : List Deed) → ((number : ℕ) → is_wall rules.red (wall_of walls number) ≡ true) → IsPlayed rules walls deeds →
    total_change (points deeds) +ℤ pos (1000 * deposits deeds) ≡ pos 120000

-- In played deeds a hand has at most 300 deeds, and a game at most 60,002.
abbrev pub FewDeeds : Type 0
FewDeeds =
    (rules : Rules) (walls : List (List ℕ)) (deeds : List Deed) → ((number : ℕ) → is_wall rules.red (wall_of walls number) ≡ true) → IsPlayed rules walls deeds →
    (length (hand deeds) ≤ 300) × (length deeds ≤ 60002)

-- A plain answer is listed exactly where it is lawful, and no other answer is listed.
abbrev pub PlainIsListed : Type 0
PlainIsListed =
    (rules : Rules) (deeds : List Deed) (seat : ℕ) (answer : Answer) → is_plain answer ≡ true → names_faces answer ≡ true →
    Contains (possible rules deeds seat) answer ↔ IsLawful rules deeds seat answer

abbrev pub ListedIsPlain : Type 0
ListedIsPlain = (rules : Rules) (deeds : List Deed) (seat : ℕ) → list_all is_plain (possible rules deeds seat) ≡ true

-- The listed answers stand in turn, and so none stands there twice, where no two triplets of the seat are of one kind.
abbrev pub ListedInTurn : Type 0
ListedInTurn =
    (rules : Rules) (deeds : List Deed) (seat : ℕ) → AllPairs (λ one other. kind_of one.a ≢ kind_of other.a) (triplets (view_of deeds seat)) →
    AllPairs (λ one other. comes_before (key_of one) (key_of other) ≡ true) (possible rules deeds seat)

-- After played deeds they always do: no two triplets of a seat are of one kind there.
abbrev pub PlayedInTurn : Type 0
PlayedInTurn =
    (rules : Rules) (walls : List (List ℕ)) (deeds : List Deed) (seat : ℕ) → ((number : ℕ) → is_wall rules.red (wall_of walls number) ≡ true) → IsPlayed rules walls deeds →
    AllPairs (λ one other. comes_before (key_of one) (key_of other) ≡ true) (possible rules deeds seat)

-- In played deeds the live draws and the kans of a hand are at most 70 together, the kans at most four, and so are the melds of a
-- seat.
pub record IsWithin (deeds : List Deed) : Type 0 where
  pub draws : live_draws (hand deeds) + kans (hand deeds) ≤ 70
  pub kans_four : kans (hand deeds) ≤ 4
  pub melds : (seat : ℕ) → length (seat_melds (hand deeds) seat) ≤ 4

abbrev pub FewDraws : Type 0
FewDraws = (rules : Rules) (walls : List (List ℕ)) (deeds : List Deed) → ((number : ℕ) → is_wall rules.red (wall_of walls number) ≡ true) → IsPlayed rules walls deeds → IsWithin deeds
