-- The answers that a seat may give: the list that stands beside a line.
use Rattle.std.specs.Prelude.{ℕ, ◌==◌, ◌&&◌, ◌||◌, if◌then◌else◌, Bool, true, false, is_none, nat_lt, List, [], ◌∷◌, ◌++◌, map, filter, flat_map, None}
use Rattle.std.specs.List.{list_all}
use Rattle.mj_tiles.specs.Faces.{kind_of, tile_order}
use Rattle.mj_tiles.specs.declared.meld.Meld.{Meld}
use Rattle.mj_deeds.specs.declared.answer.Pai.{Pai}
use Rattle.mj_deeds.specs.declared.answer.Pai.TheVariants.{Known, Hidden}
use Rattle.mj_deeds.specs.declared.answer.Answer.{Answer}
use Rattle.mj_deeds.specs.declared.answer.Answer.TheVariants.{Unread, Pass, Discard, Chi, Pon, OpenKan, ClosedKan, AddedKan, Reach, Win, NineKinds}
use Rattle.mj_deeds.specs.declared.deed.Deed.{Deed}
use Rattle.mj_deeds.specs.Answers.{is_in_form, place_of}
use Rattle.mj_deeds.specs.Facts.{is_pon}
use Rattle.mj_wall.specs.declared.setting.Rules.{Rules}
use Rattle.mj_rules.specs.View.{WindowTurn, Drew, Discarded, Added, SeatView, view_of}
use Rattle.mj_rules.specs.Broken.{named_tiles, broken_by}

-- An answer is plain: what need not be named isn't.
abbrev pub is_plain : Answer → Bool
is_plain (Pass actor) = is_none actor
is_plain (Win actor target tile) = is_none tile
is_plain other = true

-- An answer is lawful by what its seat may know: it is in form and breaks no rule.
unfoldable pub is_lawful : Rules → ℕ → SeatView → Answer → Bool
is_lawful rules seat view answer = is_in_form answer && is_none (broken_by rules seat view answer)

-- The faces of a kind, in tile order: a five has two.
unfoldable pub faces_of : ℕ → List ℕ
faces_of kind = filter (λ face. kind_of face == kind) tile_order

-- Each discard: of every face, unmarked and marked as the drawn tile.
abbrev pub discards_of : ℕ → ℕ → List Answer
discards_of seat face = Discard seat (Known face) false ∷ Discard seat (Known face) true ∷ []

unfoldable pub all_discards : ℕ → List Answer
all_discards seat = flat_map (discards_of seat) tile_order

-- Each chi of a discard: with any two faces.
abbrev pub chis_with : ℕ → ℕ → ℕ → ℕ → List Answer
chis_with seat target tile a = map (λ b. Chi seat target (Known tile) (Known a) (Known b)) tile_order

unfoldable pub all_chis : ℕ → ℕ → ℕ → List Answer
all_chis seat target tile = flat_map (chis_with seat target tile) tile_order

-- Each pon of a discard: with any two faces of its kind.
abbrev pub pons_of : ℕ → ℕ → ℕ → List ℕ → List Answer
pons_of seat target tile faces = flat_map (λ a. map (λ b. Pon seat target (Known tile) (Known a) (Known b)) faces) faces

-- Each kan of a discard: with any three.
abbrev pub open_kans_of : ℕ → ℕ → ℕ → List ℕ → List Answer
open_kans_of seat target tile faces =
    flat_map (λ a. flat_map (λ b. map (λ c. OpenKan seat target (Known tile) (Known a) (Known b) (Known c)) faces) faces) faces

-- Each call of the discard that the turn is about.
abbrev pub all_calls : ℕ → WindowTurn → List Answer
all_calls seat (Discarded who tile) =
    all_chis seat who tile
    ++ (pons_of seat who tile (faces_of (kind_of tile))
    ++ open_kans_of seat who tile (faces_of (kind_of tile)))
all_calls seat other = []

-- Each kan of four concealed tiles: of every face, with any three faces of its kind.
abbrev pub closed_kans_of : ℕ → ℕ → List ℕ → List Answer
closed_kans_of seat a faces = flat_map (λ b. flat_map (λ c. map (λ d. ClosedKan seat (Known a) (Known b) (Known c) (Known d)) faces) faces) faces

unfoldable pub all_closed_kans : ℕ → List Answer
all_closed_kans seat = flat_map (λ a. closed_kans_of seat a (faces_of (kind_of a))) tile_order

-- Each tile that is added to one of these triplets: of every face.
abbrev pub added_kans_of : ℕ → ℕ → List Meld → List Answer
added_kans_of seat face triplets = map (λ meld. AddedKan seat (Known face) (Known meld.a) (Known meld.b) (Known meld.c)) triplets

unfoldable pub all_added_kans : ℕ → List Meld → List Answer
all_added_kans seat triplets = flat_map (λ face. added_kans_of seat face triplets) tile_order

-- The triplets that the seat has taken.
abbrev pub triplets : SeatView → List Meld
triplets view = filter (λ meld. is_pon meld.form) view.melds

-- The win that the turn offers: of the seat itself at its draw, else from the seat that discarded or added the tile.
abbrev pub all_wins : ℕ → WindowTurn → List Answer
all_wins seat (Drew who) = Win seat who None ∷ []
all_wins seat (Discarded who tile) = Win seat who None ∷ []
all_wins seat (Added who tile) = Win seat who None ∷ []
all_wins seat other = []

-- What may be tried, by type and within a type by the tiles in tile order: none, dahai, chi, pon, daiminkan, ankan, kakan,
-- reach, hora, ryukyoku.
abbrev pub candidates : ℕ → SeatView → List Answer
candidates seat view =
    (Pass None ∷ [])
    ++ (all_discards seat
    ++ (all_calls seat view.turn
    ++ (all_closed_kans seat
    ++ (all_added_kans seat (triplets view)
    ++ ((Reach seat ∷ [])
    ++ (all_wins seat view.turn
    ++ (NineKinds seat ∷ [])))))))

-- The plain answers that are lawful, by what the seat may know.
unfoldable pub possible_by : Rules → ℕ → SeatView → List Answer
possible_by rules seat view = filter (is_lawful rules seat view) (candidates seat view)

-- The plain answers that are lawful for a seat in the window on the newest deed.
abbrev pub possible : Rules → List Deed → ℕ → List Answer
possible rules deeds seat = possible_by rules seat (view_of deeds seat)

-- A named tile is hidden or one of the 37 faces.
abbrev pub is_hidden_or_face : Pai → Bool
is_hidden_or_face Hidden = true
is_hidden_or_face (Known tile) = nat_lt tile 37

abbrev pub names_faces : Answer → Bool
names_faces answer = list_all is_hidden_or_face (named_tiles answer)

-- Where an answer stands among the plain ones of its seat: by its type, within a type by its tiles in tile order, item by
-- item, and unmarked before marked.
abbrev pub key_of : Answer → List ℕ
key_of Unread = []
key_of (Pass actor) = 0 ∷ []
key_of (Discard actor tile drawn) = 1 ∷ place_of tile ∷ (if drawn then 1 else 0) ∷ []
key_of (Chi actor target tile a b) = 2 ∷ place_of tile ∷ place_of a ∷ place_of b ∷ []
key_of (Pon actor target tile a b) = 3 ∷ place_of tile ∷ place_of a ∷ place_of b ∷ []
key_of (OpenKan actor target tile a b c) = 4 ∷ place_of tile ∷ place_of a ∷ place_of b ∷ place_of c ∷ []
key_of (ClosedKan actor a b c d) = 5 ∷ place_of a ∷ place_of b ∷ place_of c ∷ place_of d ∷ []
key_of (AddedKan actor tile a b c) = 6 ∷ place_of tile ∷ place_of a ∷ place_of b ∷ place_of c ∷ []
key_of (Reach actor) = 7 ∷ []
key_of (Win actor target tile) = 8 ∷ []
key_of (NineKinds actor) = 9 ∷ []

-- A list of numbers stands before another: at the first place where they differ it has the smaller number.
abbrev pub comes_before : List ℕ → List ℕ → Bool
comes_before (x ∷ xs) (y ∷ ys) = nat_lt x y || (x == y && comes_before xs ys)
comes_before xs ys = false
