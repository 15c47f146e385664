-- Facts that are read off a list of deeds of one hand, the oldest first.
use Rattle.std.specs.Prelude.{ℕ, ◌-◌, ◌==◌, ◌&&◌, Bool, true, false, not, nat_lt, if◌then◌else◌, List, [], ◌∷◌, length, map}
use Rattle.std.specs.Prelude.{take, Option, Some, None, slice_get, slice_index, count_by, flat_map, option_and_then}
use Rattle.mj_tiles.specs.Faces.{number_in, less, in_tile_order, kind_of}
use Rattle.mj_tiles.specs.declared.meld.Meld.{Meld}
use Rattle.mj_tiles.specs.declared.meld.Form.{Form}
use Rattle.mj_tiles.specs.declared.meld.Form.TheVariants as forms
use Rattle.mj_deeds.specs.declared.deed.Deed.{Deed}
use Rattle.mj_deeds.specs.declared.deed.Deed.TheVariants.{StartHand, Draw, Discard, Chi, Pon, OpenKan, ClosedKan, AddedKan, Dora, Reach}
use Rattle.mj_deeds.specs.Four.{at_seat}

-- The newest deed.
abbrev pub newest : List Deed → Option Deed
newest deeds = slice_get deeds (length deeds - 1)

-- What one seat has of a deed that another may have done.
abbrev pub of_seat : {A : Type 0} → ℕ → ℕ → List A → List A
of_seat seat who xs = if who == seat then xs else []

-- The tiles that a deed gives to a seat: those dealt to it, and the one that it draws.
abbrev pub gains_by : ℕ → Deed → List ℕ
gains_by seat (StartHand round number honba deposits dealer indicator hands) = at_seat hands seat
gains_by seat (Draw who tile replacement) = of_seat seat who (tile ∷ [])
gains_by seat other = []

-- The tiles that a seat puts down by a deed: the one that it discards, and its own tiles of the melds that it makes.
abbrev pub losses_by : ℕ → Deed → List ℕ
losses_by seat (Discard who tile drawn) = of_seat seat who (tile ∷ [])
losses_by seat (Chi who target tile a b) = of_seat seat who (a ∷ b ∷ [])
losses_by seat (Pon who target tile a b) = of_seat seat who (a ∷ b ∷ [])
losses_by seat (OpenKan who target tile a b c) = of_seat seat who (a ∷ b ∷ c ∷ [])
losses_by seat (ClosedKan who a b c d) = of_seat seat who (a ∷ b ∷ c ∷ d ∷ [])
losses_by seat (AddedKan who tile a b c) = of_seat seat who (tile ∷ [])
losses_by seat other = []

-- All tiles that a seat was given.
abbrev pub tiles_gained : List Deed → ℕ → List ℕ
tiles_gained deeds seat = flat_map (gains_by seat) deeds

-- All tiles that a seat put down.
abbrev pub tiles_lost : List Deed → ℕ → List ℕ
tiles_lost deeds seat = flat_map (losses_by seat) deeds

-- The concealed tiles of a seat, in tile order: those given to it, less those that it put down.
abbrev pub concealed_tiles : List Deed → ℕ → List ℕ
concealed_tiles deeds seat = less (tiles_gained deeds seat) (tiles_lost deeds seat)

-- Whether a seat has the red five of characters, of circles and of bamboo among its concealed tiles.
abbrev pub reds : List Deed → ℕ → List Bool
reds deeds seat = map (λ face. nat_lt 0 (number_in (concealed_tiles deeds seat) face)) (34 ∷ 35 ∷ 36 ∷ [])

-- What a deed adds to the river of a seat: its discard.
abbrev pub discards_by : ℕ → Deed → List ℕ
discards_by seat (Discard who tile drawn) = of_seat seat who (tile ∷ [])
discards_by seat other = []

-- A deed is a discard.
abbrev pub is_discard : Deed → Bool
is_discard (Discard who tile drawn) = true
is_discard other = false

-- A deed is a discard of a seat.
abbrev pub is_discard_by : ℕ → Deed → Bool
is_discard_by seat (Discard who tile drawn) = who == seat
is_discard_by seat other = false

-- The river of a seat: all its discards, in order, called ones included.
abbrev pub river_tiles : List Deed → ℕ → List ℕ
river_tiles deeds seat = flat_map (discards_by seat) deeds

-- A meld of three or four tiles, which stand in tile order.
unfoldable pub meld_of_three : Form → ℕ → ℕ → ℕ → Meld
meld_of_three form x y z =
    let tiles = in_tile_order (x ∷ y ∷ z ∷ []) in
    record { form = form; a = slice_index tiles 0; b = slice_index tiles 1; c = slice_index tiles 2; d = None }

unfoldable pub meld_of_four : Form → ℕ → ℕ → ℕ → ℕ → Meld
meld_of_four form w x y z =
    let tiles = in_tile_order (w ∷ x ∷ y ∷ z ∷ []) in
    record { form = form; a = slice_index tiles 0; b = slice_index tiles 1; c = slice_index tiles 2; d = Some (slice_index tiles 3) }

-- The meld that a seat makes by a deed, other than a tile added to one.
abbrev pub makes_by : ℕ → Deed → List Meld
makes_by seat (Chi who target tile a b) = of_seat seat who (meld_of_three forms.Chi tile a b ∷ [])
makes_by seat (Pon who target tile a b) = of_seat seat who (meld_of_three forms.Pon tile a b ∷ [])
makes_by seat (OpenKan who target tile a b c) = of_seat seat who (meld_of_four forms.OpenKan tile a b c ∷ [])
makes_by seat (ClosedKan who a b c d) = of_seat seat who (meld_of_four forms.ClosedKan a b c d ∷ [])
makes_by seat other = []

-- The tile that a seat adds to a triplet by a deed.
abbrev pub adds_by : ℕ → Deed → List ℕ
adds_by seat (AddedKan who tile a b c) = of_seat seat who (tile ∷ [])
adds_by seat other = []

-- A triplet that was taken is a kan once the fourth tile of its kind was added, and every other meld stays.
abbrev pub is_pon : Form → Bool
is_pon forms.Pon = true
is_pon other = false

unfoldable pub with_added : Meld → List ℕ → Meld
with_added meld [] = meld
with_added meld (tile ∷ tiles) =
    if is_pon meld.form && (kind_of tile == kind_of meld.a)
    then meld_of_four forms.AddedKan tile meld.a meld.b meld.c
    else with_added meld tiles

-- The melds of a seat, in the order in which they were made.
abbrev pub seat_melds : List Deed → ℕ → List Meld
seat_melds deeds seat = map (λ meld. with_added meld (flat_map (adds_by seat) deeds)) (flat_map (makes_by seat) deeds)

-- A kan.
abbrev pub is_kan : Deed → Bool
is_kan (OpenKan who target tile a b c) = true
is_kan (ClosedKan who a b c d) = true
is_kan (AddedKan who tile a b c) = true
is_kan other = false

-- A call: a chi, a pon or a kan.
abbrev pub is_call : Deed → Bool
is_call (Chi who target tile a b) = true
is_call (Pon who target tile a b) = true
is_call other = is_kan other

-- How many kans were made, by all seats.
abbrev pub kans : List Deed → ℕ
kans deeds = count_by is_kan deeds

-- The seat of a kan.
abbrev pub kan_seats_by : Deed → List ℕ
kan_seats_by (OpenKan who target tile a b c) = who ∷ []
kan_seats_by (ClosedKan who a b c d) = who ∷ []
kan_seats_by (AddedKan who tile a b c) = who ∷ []
kan_seats_by other = []

-- The seats of the kans, in order.
abbrev pub kan_seats : List Deed → List ℕ
kan_seats deeds = flat_map kan_seats_by deeds

-- The indicator that a deed shows.
abbrev pub indicators_by : Deed → List ℕ
indicators_by (StartHand round number honba deposits dealer indicator hands) = indicator ∷ []
indicators_by (Dora tile) = tile ∷ []
indicators_by other = []

-- The indicators that are shown, in order.
abbrev pub indicators : List Deed → List ℕ
indicators deeds = flat_map indicators_by deeds

-- A draw from the live wall.
abbrev pub is_live_draw : Deed → Bool
is_live_draw (Draw who tile replacement) = not replacement
is_live_draw other = false

-- How many live tiles were drawn.
abbrev pub live_draws : List Deed → ℕ
live_draws deeds = count_by is_live_draw deeds

-- How many live tiles are left: there are 70 when the dealer draws first, and each kan takes one away.
abbrev pub live_tiles : List Deed → ℕ
live_tiles deeds = 70 - live_draws deeds - kans deeds

-- The tile that a seat draws by a deed.
abbrev pub drawn_by : ℕ → Deed → Option ℕ
drawn_by seat (Draw who tile replacement) = if who == seat then Some tile else None
drawn_by seat other = None

-- The deed before the newest one.
abbrev pub before_newest : List Deed → Option Deed
before_newest deeds = newest (take (length deeds - 1) deeds)

-- The tile that a seat holds as drawn after a deed, the one before it given: the tile of its draw, and after its reach
-- still that of the draw before.
abbrev pub holds_drawn : ℕ → Option Deed → Deed → Option ℕ
holds_drawn seat before (Reach who) = if who == seat then option_and_then (drawn_by seat) before else None
holds_drawn seat before other = drawn_by seat other

-- The drawn tile of a seat: that of the newest deed, where it is the seat's draw, or its reach after it.
abbrev pub drawn_tile : List Deed → ℕ → Option ℕ
drawn_tile deeds seat = option_and_then (holds_drawn seat (before_newest deeds)) (newest deeds)
