-- Which deed fits after a list of deeds: what each deed of a game owes to those before it.
use Rattle.std.specs.Prelude.{ℕ, ◌+◌, ◌-◌, ◌==◌, ◌&&◌, ◌||◌, not, Bool, true, false, nat_lt, nat_le, if◌then◌else◌, List}
use Rattle.std.specs.Prelude.{[], ◌∷◌, ◌++◌, length, Option, Some, None, is_none, flat_map, ℤ, pos, neg_ℤ, ◌+ℤ◌, int_le}
use Rattle.std.specs.Option.{option_map_or}
use Rattle.std.specs.List.{list_any, list_all, slice_index_or}
use Rattle.mj_tiles.specs.Faces.{kind_of, number_in}
use Rattle.mj_tiles.specs.Counts.{has_no_fifth}
use Rattle.mj_tiles.specs.declared.meld.Meld.{Meld}
use Rattle.mj_rounds.specs.declared.rounds.Standing.{Standing}
use Rattle.mj_rounds.specs.Rounds.{first_standing}
use Rattle.mj_deeds.specs.declared.bid.Bid.{Bid}
use Rattle.mj_deeds.specs.declared.bid.Bid.TheVariants as bids
use Rattle.mj_deeds.specs.declared.deed.Deed.{Deed}
use Rattle.mj_deeds.specs.declared.deed.Deed.TheVariants.{StartGame, StartHand, Draw, Discard, Chi, Pon, OpenKan, ClosedKan, AddedKan, Dora, Reach, ReachAccepted, Win, DrawnHand, EndHand, EndGame}
use Rattle.mj_deeds.specs.Hand.{hand, before_in}
use Rattle.mj_deeds.specs.Shown.{tiles_shown}
use Rattle.mj_deeds.specs.Facts.{newest, before_newest, tiles_gained, tiles_lost, losses_by, seat_melds, makes_by, is_pon, is_kan, kans, live_tiles}
use Rattle.mj_deeds.specs.Riichi.{is_in_riichi}
use Rattle.mj_deeds.specs.Points.{points, deposits, change_by}
use Rattle.mj_deeds.specs.Standings.{standing}
use Rattle.mj_deeds.specs.Ends.{standing_after}

-- What a deed is held against: the newest deed, the deeds of its hand, the standing of that hand, and the points and
-- deposits so far.
pub record Ground : Type 0 where
  pub newest : Option Deed
  pub hand : List Deed
  pub standing : Standing
  pub points : List ℤ
  pub deposits : ℕ

-- The newest deed shows an indicator.
abbrev pub is_after_dora : Option Deed → Bool
is_after_dora None = false
is_after_dora (Some (Dora tile)) = true
is_after_dora (Some other) = false

-- The newest deed is a kan.
abbrev pub is_after_kan : Option Deed → Bool
is_after_kan None = false
is_after_kan (Some deed) = is_kan deed

-- The newest deed is a win or the draw of a hand, or the end of a hand.
abbrev pub is_after_result : Option Deed → Bool
is_after_result None = false
is_after_result (Some (Win who target tile unders hand yaku fu han value deltas points rest)) = true
is_after_result (Some (DrawnHand reason hands ready deltas points)) = true
is_after_result (Some other) = false

abbrev pub is_after_hand : Option Deed → Bool
is_after_hand None = false
is_after_hand (Some EndHand) = true
is_after_hand (Some other) = false

-- The newest deed is a start of a game.
abbrev pub is_after_start : Option Deed → Bool
is_after_start None = false
is_after_start (Some (StartGame names)) = true
is_after_start (Some other) = false

-- A hand is under way: it was started, and has not ended.
abbrev pub is_in_hand : Option Deed → Bool
is_in_hand None = false
is_in_hand (Some (StartGame names)) = false
is_in_hand (Some EndHand) = false
is_in_hand (Some (EndGame points deposits)) = false
is_in_hand (Some other) = true

-- The newest deed is that discard.
abbrev pub is_discard_of : Option Deed → ℕ → ℕ → Bool
is_discard_of (Some (Discard who tile drawn)) target called = who == target && tile == called
is_discard_of other target called = false

-- The discard that may be taken: the newest deed, or the one before it where the newest is a reach that was accepted.
abbrev pub taken_from : List Deed → Option Deed → Option Deed
taken_from hand (Some (ReachAccepted who points bid)) = before_newest hand
taken_from hand other = other

-- A deed is a start of a hand with this standing and so many deposits.
abbrev pub starts_with : Standing → ℕ → Deed → Bool
starts_with now lying (StartHand round number honba deposits dealer indicator hands) =
    round == now.round && number == now.dealer + 1 && honba == now.honba && deposits == lying && dealer == now.dealer
starts_with now lying other = false

-- The start of the first hand follows the start of a game, and each later one the end of a hand, with the standing that
-- follows that of the hand before, and the deposits that lie on the table.
abbrev pub starts_hand : Ground → Deed → Bool
starts_hand past deed =
    (is_after_start past.newest && starts_with first_standing 0 deed)
    || (is_after_hand past.newest && option_map_or (λ next. starts_with next past.deposits deed) (standing_after past.standing past.hand) false)

-- A deed stands in its place: a start of a game is the first deed; a hand starts after it or after the end of a hand,
-- which stands after a win or the draw of the hand; the end of a game stands after the end of a hand. Every other deed
-- stands within a hand; a replacement is drawn right after an indicator was shown, which is shown right after a kan; a call
-- takes the newest discard, after which at most its reach was accepted.
abbrev pub is_in_place : Ground → Deed → Bool
is_in_place past (StartGame names) = is_none past.newest
is_in_place past (StartHand round number honba deposits dealer indicator hands) = starts_hand past (StartHand round number honba deposits dealer indicator hands)
is_in_place past (Draw who tile replacement) = is_in_hand past.newest && (if replacement then is_after_dora past.newest else not (is_after_dora past.newest))
is_in_place past (Discard who tile drawn) = is_in_hand past.newest
is_in_place past (Chi who target tile a b) = is_discard_of (taken_from past.hand past.newest) target tile
is_in_place past (Pon who target tile a b) = is_discard_of (taken_from past.hand past.newest) target tile
is_in_place past (OpenKan who target tile a b c) = is_discard_of (taken_from past.hand past.newest) target tile
is_in_place past (ClosedKan who a b c d) = is_in_hand past.newest
is_in_place past (AddedKan who tile a b c) = is_in_hand past.newest
is_in_place past (Dora tile) = is_after_kan past.newest
is_in_place past (Reach who) = is_in_hand past.newest
is_in_place past (ReachAccepted who points bid) = is_in_hand past.newest
is_in_place past (Win who target tile unders hand yaku fu han value deltas points rest) = is_in_hand past.newest
is_in_place past (DrawnHand reason hands ready deltas points) = is_in_hand past.newest
is_in_place past EndHand = is_after_result past.newest
is_in_place past (EndGame points deposits) = is_after_hand past.newest

-- The seats, and the tiles, that stand in a bid.
abbrev pub seats_in_bid : Bid → List ℕ
seats_in_bid bids.NoBid = []
seats_in_bid (bids.Chi who target tile a b) = who ∷ target ∷ []
seats_in_bid (bids.Pon who target tile a b) = who ∷ target ∷ []
seats_in_bid (bids.OpenKan who target tile a b c) = who ∷ target ∷ []

abbrev pub faces_in_bid : Bid → List ℕ
faces_in_bid bids.NoBid = []
faces_in_bid (bids.Chi who target tile a b) = tile ∷ a ∷ b ∷ []
faces_in_bid (bids.Pon who target tile a b) = tile ∷ a ∷ b ∷ []
faces_in_bid (bids.OpenKan who target tile a b c) = tile ∷ a ∷ b ∷ c ∷ []

-- The seats that stand in a deed.
abbrev pub seats_in : Deed → List ℕ
seats_in (StartGame names) = []
seats_in (StartHand round number honba deposits dealer indicator hands) = dealer ∷ []
seats_in (Draw who tile replacement) = who ∷ []
seats_in (Discard who tile drawn) = who ∷ []
seats_in (Chi who target tile a b) = who ∷ target ∷ []
seats_in (Pon who target tile a b) = who ∷ target ∷ []
seats_in (OpenKan who target tile a b c) = who ∷ target ∷ []
seats_in (ClosedKan who a b c d) = who ∷ []
seats_in (AddedKan who tile a b c) = who ∷ []
seats_in (Dora tile) = []
seats_in (Reach who) = who ∷ []
seats_in (ReachAccepted who points bid) = who ∷ seats_in_bid bid
seats_in (Win who target tile unders hand yaku fu han value deltas points rest) = who ∷ target ∷ rest
seats_in (DrawnHand reason hands ready deltas points) = []
seats_in EndHand = []
seats_in (EndGame points deposits) = []

abbrev pub has_seats : Deed → Bool
has_seats deed = list_all (λ seat. nat_lt seat 4) (seats_in deed)

-- The tiles that a seat puts down are among its concealed ones.
abbrev pub are_held : List ℕ → List ℕ → List ℕ → Bool
are_held got gone tiles = list_all (λ face. nat_le (number_in tiles face) (number_in got face - number_in gone face)) tiles

abbrev pub has_held_by : List Deed → Deed → ℕ → Bool
has_held_by deeds deed seat = are_held (tiles_gained deeds seat) (tiles_lost deeds seat) (losses_by seat deed)

abbrev pub has_held : List Deed → Deed → Bool
has_held deeds deed = list_all (has_held_by deeds deed) (0 ∷ 1 ∷ 2 ∷ 3 ∷ [])

-- An own triplet of these tiles, of the kind of the added one.
abbrev pub is_triplet_of : ℕ → ℕ → ℕ → ℕ → Meld → Bool
is_triplet_of tile a b c meld = is_pon meld.form && meld.a == a && meld.b == b && meld.c == c && kind_of tile == kind_of a

abbrev pub has_triplet : List Deed → Deed → Bool
has_triplet deeds (AddedKan who tile a b c) = list_any (is_triplet_of tile a b c) (seat_melds deeds who)
has_triplet deeds other = true

-- The tiles that a deed brings into a hand: those that are dealt and drawn, and the indicators.
abbrev pub brought_by : Deed → List ℕ
brought_by (StartHand round number honba deposits dealer indicator hands) = indicator ∷ hands.first ++ hands.second ++ hands.third ++ hands.fourth
brought_by (Draw who tile replacement) = tile ∷ []
brought_by (Dora tile) = tile ∷ []
brought_by other = []

-- The tiles that are named in a deed.
abbrev pub faces_in : Deed → List ℕ
faces_in (StartGame names) = []
faces_in (StartHand round number honba deposits dealer indicator hands) = indicator ∷ hands.first ++ hands.second ++ hands.third ++ hands.fourth
faces_in (Draw who tile replacement) = tile ∷ []
faces_in (Discard who tile drawn) = tile ∷ []
faces_in (Chi who target tile a b) = tile ∷ a ∷ b ∷ []
faces_in (Pon who target tile a b) = tile ∷ a ∷ b ∷ []
faces_in (OpenKan who target tile a b c) = tile ∷ a ∷ b ∷ c ∷ []
faces_in (ClosedKan who a b c d) = a ∷ b ∷ c ∷ d ∷ []
faces_in (AddedKan who tile a b c) = tile ∷ a ∷ b ∷ c ∷ []
faces_in (Dora tile) = tile ∷ []
faces_in (Reach who) = []
faces_in (ReachAccepted who points bid) = faces_in_bid bid
faces_in (Win who target tile unders hand yaku fu han value deltas points rest) = tile ∷ unders ++ hand
faces_in (DrawnHand reason hands ready deltas points) = tiles_shown hands.first ++ tiles_shown hands.second ++ tiles_shown hands.third ++ tiles_shown hands.fourth
faces_in EndHand = []
faces_in (EndGame points deposits) = []

-- A face that the game has: a plain one, and with red fives also one of these.
abbrev pub is_face : Bool → ℕ → Bool
is_face red face = nat_lt face (if red then 37 else 34)

-- Each tile that is named is one that the game has.
abbrev pub has_tiles : Bool → Deed → Bool
has_tiles red deed = list_all (is_face red) (faces_in deed)

-- No kind stands more than four times among the tiles that were brought in.
abbrev pub keeps_kinds : List Deed → Deed → Bool
keeps_kinds deeds deed = has_no_fifth (flat_map brought_by (deeds ++ deed ∷ []))

-- No seat has a fifth meld.
abbrev pub has_room_for : List Deed → Deed → ℕ → Bool
has_room_for deeds deed seat = nat_le (length (seat_melds deeds seat) + length (makes_by seat deed)) 4

abbrev pub has_room : List Deed → Deed → Bool
has_room deeds deed = list_all (has_room_for deeds deed) (0 ∷ 1 ∷ 2 ∷ 3 ∷ [])

-- There is no fifth kan, and a kan needs a live tile; so does a live draw.
abbrev pub has_live : List Deed → Deed → Bool
has_live deeds (Draw who tile replacement) = replacement || nat_lt 0 (live_tiles deeds)
has_live deeds deed = not (is_kan deed) || (nat_lt (kans deeds) 4 && nat_lt 0 (live_tiles deeds))

-- A seat's reach is accepted once in a hand at most.
abbrev pub is_first_riichi : List Deed → Deed → Bool
is_first_riichi deeds (ReachAccepted who points bid) = not (is_in_riichi deeds who)
is_first_riichi deeds other = true

-- Two whole numbers are the same, and one lies between 100,000,000 below and above zero.
abbrev pub is_same : ℤ → ℤ → Bool
is_same x y = int_le x y && int_le y x

abbrev pub is_small : ℤ → Bool
is_small x = int_le (neg_ℤ (pos 100000000)) x && int_le x (pos 100000000)

-- The points that a deed says of a seat are those before it, changed as it says, and no greater than a game can have.
abbrev pub are_points_of : List ℤ → Deed → List ℤ → ℕ → Bool
are_points_of before deed said seat =
    is_same (slice_index_or said seat (pos 0)) (slice_index_or before seat (pos 0) +ℤ change_by seat deed) && is_small (slice_index_or said seat (pos 0))

abbrev pub are_points : List ℤ → Deed → List ℤ → Bool
are_points before deed said = list_all (are_points_of before deed said) (0 ∷ 1 ∷ 2 ∷ 3 ∷ [])

abbrev pub has_points : List ℤ → Deed → Bool
has_points before (ReachAccepted who points bid) = are_points before (ReachAccepted who points bid) points
has_points before (Win who target tile unders hand yaku fu han value deltas points rest) = are_points before (Win who target tile unders hand yaku fu han value deltas points rest) points
has_points before (DrawnHand reason hands ready deltas points) = are_points before (DrawnHand reason hands ready deltas points) points
has_points before (EndGame points deposits) = are_points before (EndGame points deposits) points
has_points before other = true

-- A deed fits after the deeds before it in its own hand.
unfoldable pub fits_in : Bool → List Deed → Deed → Bool
fits_in red hand deed =
    has_seats deed && has_held hand deed && has_triplet hand deed && has_tiles red deed && keeps_kinds hand deed && has_room hand deed && has_live hand deed && is_first_riichi hand deed

-- A deed fits where it is held against what came before: it stands in its place, fits in its hand, and says the right
-- points.
unfoldable pub fits_behind : Bool → Ground → Deed → Bool
fits_behind red past deed = is_in_place past deed && fits_in red (before_in past.hand deed) deed && has_points past.points deed

-- What all deeds of a game come to for the next one.
unfoldable pub ground_of : List Deed → Ground
ground_of deeds = record { newest = newest deeds; hand = hand deeds; standing = standing deeds; points = points deeds; deposits = deposits deeds }

-- A deed fits after the deeds of a game, with red fives or without.
abbrev pub fits : Bool → List Deed → Deed → Bool
fits red deeds deed = fits_behind red (ground_of deeds) deed

-- Each deed fits after those before it.
abbrev pub all_fit : Bool → List Deed → List Deed → Bool
all_fit red before [] = true
all_fit red before (deed ∷ deeds) = fits red before deed && all_fit red (before ++ deed ∷ []) deeds
