-- Which rule an answer breaks, out of what its seat may know: the questions in the order of refusal, by subject.
use Rattle.std.specs.Prelude.{ℕ, ◌==◌, ◌&&◌, ◌||◌, Bool, true, false, not, nat_lt, nat_le, List, [], ◌∷◌, ◌++◌, length}
use Rattle.std.specs.Prelude.{count_by, Option, Some, None, option_to_list, flat_map, pos, int_lt, if◌then◌else◌}
use Rattle.std.specs.List.{list_any, list_all}
use Rattle.std.specs.Option.{option_map_or}
use Rattle.mj_tiles.specs.Faces.{is_red, number_in, kind_of, tile_order, less}
use Rattle.mj_tiles.specs.Counts.{all_kinds, number_of, kind_counts}
use Rattle.mj_tiles.specs.Kinds.{kinds_that}
use Rattle.mj_tiles.specs.Terminals.{is_terminal_or_honour}
use Rattle.mj_tiles.specs.declared.meld.Meld.{Meld}
use Rattle.mj_calls.specs.Shapes.{makes_run, are_alike}
use Rattle.mj_calls.specs.Bans.{banned_by_chi, is_banned}
use Rattle.mj_calls.specs.RiichiKans.{is_riichi_kan}
use Rattle.mj_readings.specs.Tests.{complete}
use Rattle.mj_readings.specs.AllReadings.{readings_of}
use Rattle.mj_waits.specs.Waits.{is_wait, is_ready}
use Rattle.mj_waits.specs.Furiten.{is_furiten}
use Rattle.mj_yaku.specs.Hands.{are_concealed}
use Rattle.mj_yaku.specs.SomeYaku.{gives_yaku}
use Rattle.mj_deeds.specs.declared.answer.Pai.{Pai}
use Rattle.mj_deeds.specs.declared.answer.Pai.TheVariants.{Known, Hidden}
use Rattle.mj_deeds.specs.declared.answer.Answer.{Answer}
use Rattle.mj_deeds.specs.declared.answer.Answer.TheVariants.{Unread, Pass, Discard, Chi, Pon, OpenKan, ClosedKan, AddedKan, Reach, Win, NineKinds}
use Rattle.mj_deeds.specs.declared.rule.Rule.{Rule}
use Rattle.mj_deeds.specs.declared.rule.Rule.TheVariants as refusal
use Rattle.mj_deeds.specs.declared.deed.Deed.{Deed}
use Rattle.mj_wall.specs.declared.setting.Rules.{Rules}
use Rattle.mj_deeds.specs.Four.{next_seat}
use Rattle.mj_deeds.specs.Pais.{face_in}
use Rattle.mj_deeds.specs.Facts.{is_pon}
use Rattle.mj_rules.specs.View.{WindowTurn, Drew, Discarded, Added, Reached, Called, Nobodys, SeatView, view_of, held_count, concealed, room}

-- An option that has this number.
abbrev pub is_that : Option ℕ → ℕ → Bool
is_that None number = false
is_that (Some other) number = other == number

-- whose answer it is, and whether its turn: Unreadable, NotYours, NotNow

-- The line is no answer.
abbrev pub is_unreadable : Answer → Bool
is_unreadable Unread = true
is_unreadable other = false

-- The seat that an answer names as its actor.
abbrev pub actor_of : Answer → Option ℕ
actor_of Unread = None
actor_of (Pass actor) = actor
actor_of (Discard actor tile drawn) = Some actor
actor_of (Chi actor target tile a b) = Some actor
actor_of (Pon actor target tile a b) = Some actor
actor_of (OpenKan actor target tile a b c) = Some actor
actor_of (ClosedKan actor a b c d) = Some actor
actor_of (AddedKan actor tile a b c) = Some actor
actor_of (Reach actor) = Some actor
actor_of (Win actor target tile) = Some actor
actor_of (NineKinds actor) = Some actor

abbrev pub is_another : ℕ → Option ℕ → Bool
is_another seat None = false
is_another seat (Some actor) = not (actor == seat)

-- The answer names an actor, and another than the seat.
abbrev pub is_not_yours : ℕ → Answer → Bool
is_not_yours seat answer = is_another seat (actor_of answer)

-- Who drew may discard, reach unless it is in riichi already, make a kan of concealed tiles or by adding one, win, and where
-- the rules have draw reasons show nine kinds.
abbrev pub is_own_act : Rules → Bool → Answer → Bool
is_own_act rules accepted (Discard actor tile drawn) = true
is_own_act rules accepted (Reach actor) = not accepted
is_own_act rules accepted (ClosedKan actor a b c d) = true
is_own_act rules accepted (AddedKan actor tile a b c) = true
is_own_act rules accepted (Win actor target tile) = true
is_own_act rules accepted (NineKinds actor) = rules.draws
is_own_act rules accepted other = false

abbrev pub is_discard : Answer → Bool
is_discard (Discard actor tile drawn) = true
is_discard other = false

abbrev pub is_pass : Answer → Bool
is_pass (Pass actor) = true
is_pass other = false

abbrev pub is_win : Answer → Bool
is_win (Win actor target tile) = true
is_win other = false

-- Whoever did not discard may pass, win, or take the tile for a chi, a pon or a kan.
abbrev pub is_pass_or_call : Answer → Bool
is_pass_or_call (Pass actor) = true
is_pass_or_call (Win actor target tile) = true
is_pass_or_call (Chi actor target tile a b) = true
is_pass_or_call (Pon actor target tile a b) = true
is_pass_or_call (OpenKan actor target tile a b c) = true
is_pass_or_call other = false

-- Such an answer is open to the seat in this window, where the seat is in riichi or not.
abbrev pub is_open : Rules → ℕ → WindowTurn → Bool → Answer → Bool
is_open rules seat (Drew who) accepted answer = if who == seat then is_own_act rules accepted answer else is_pass answer
is_open rules seat (Discarded who tile) accepted answer = if who == seat then is_pass answer else is_pass_or_call answer
is_open rules seat (Added who tile) accepted answer = if who == seat then is_pass answer else is_pass answer || is_win answer
is_open rules seat (Reached who) accepted answer = if who == seat then is_discard answer else is_pass answer
is_open rules seat (Called who banned) accepted answer = if who == seat then is_discard answer else is_pass answer
is_open rules seat Nobodys accepted answer = is_pass answer

-- It is not open to the seat.
abbrev pub is_not_now : Rules → ℕ → SeatView → Answer → Bool
is_not_now rules seat view answer = not (is_open rules seat view.turn view.accepted answer)

-- the tiles that it names, and from whom: NoSuchTile, WrongTarget, LastTile, NotHeld, NotDrawn

-- All tiles that an answer names.
abbrev pub named_tiles : Answer → List Pai
named_tiles (Discard actor tile drawn) = tile ∷ []
named_tiles (Chi actor target tile a b) = tile ∷ a ∷ b ∷ []
named_tiles (Pon actor target tile a b) = tile ∷ a ∷ b ∷ []
named_tiles (OpenKan actor target tile a b c) = tile ∷ a ∷ b ∷ c ∷ []
named_tiles (ClosedKan actor a b c d) = a ∷ b ∷ c ∷ d ∷ []
named_tiles (AddedKan actor tile a b c) = tile ∷ a ∷ b ∷ c ∷ []
named_tiles (Win actor target tile) = option_to_list tile
named_tiles other = []

-- A tile that the game doesn't have: a hidden one, or a red five where there are none.
abbrev pub is_no_tile : Bool → Pai → Bool
is_no_tile red Hidden = true
is_no_tile red (Known tile) = is_red tile && not red

-- A named tile is one that the game doesn't have.
abbrev pub is_no_such_tile : Bool → Answer → Bool
is_no_such_tile red answer = list_any (is_no_tile red) (named_tiles answer)

-- The tile is that one.
abbrev pub is_tile : ℕ → Pai → Bool
is_tile tile Hidden = false
is_tile tile (Known other) = other == tile

-- A call names the discarder and the tile that was discarded.
abbrev pub misses_discard : WindowTurn → ℕ → Pai → Bool
misses_discard (Discarded who discarded) target tile = not (target == who && is_tile discarded tile)
misses_discard other target tile = true

-- A tile need not be named, but may not be another.
abbrev pub is_other_tile : ℕ → Option Pai → Bool
is_other_tile tile None = false
is_other_tile tile (Some pai) = not (is_tile tile pai)

-- A win names the seat that discarded or added the tile, or at its own draw the winner; and no other tile.
abbrev pub misses_winning : ℕ → SeatView → ℕ → Option Pai → WindowTurn → Bool
misses_winning seat view target tile (Drew who) = not (target == seat) || option_map_or (λ drawn. is_other_tile drawn tile) view.drawn true
misses_winning seat view target tile (Discarded who discarded) = not (target == who) || is_other_tile discarded tile
misses_winning seat view target tile (Added who added) = not (target == who) || is_other_tile added tile
misses_winning seat view target tile other = true

-- A call or a win names another seat or another tile than the one that is offered.
abbrev pub is_wrong_target : ℕ → SeatView → Answer → Bool
is_wrong_target seat view (Chi actor target tile a b) = misses_discard view.turn target tile
is_wrong_target seat view (Pon actor target tile a b) = misses_discard view.turn target tile
is_wrong_target seat view (OpenKan actor target tile a b c) = misses_discard view.turn target tile
is_wrong_target seat view (Win actor target tile) = misses_winning seat view target tile view.turn
is_wrong_target seat view other = false

-- A call takes another's discard.
abbrev pub is_call_answer : Answer → Bool
is_call_answer (Chi actor target tile a b) = true
is_call_answer (Pon actor target tile a b) = true
is_call_answer (OpenKan actor target tile a b c) = true
is_call_answer other = false

-- A discard is called with no live tile left.
abbrev pub is_last_tile : SeatView → Answer → Bool
is_last_tile view answer = is_call_answer answer && view.live == 0

-- The own tiles that an answer names: of an added kan the added one alone.
abbrev pub own_tiles : Answer → List Pai
own_tiles (Discard actor tile drawn) = tile ∷ []
own_tiles (Chi actor target tile a b) = a ∷ b ∷ []
own_tiles (Pon actor target tile a b) = a ∷ b ∷ []
own_tiles (OpenKan actor target tile a b c) = a ∷ b ∷ c ∷ []
own_tiles (ClosedKan actor a b c d) = a ∷ b ∷ c ∷ d ∷ []
own_tiles (AddedKan actor tile a b c) = tile ∷ []
own_tiles other = []

-- The faces of the own tiles that an answer names.
abbrev pub own_faces : Answer → List ℕ
own_faces answer = flat_map face_in (own_tiles answer)

-- The named own tiles aren't all among the concealed ones: of some face more are named than are held.
abbrev pub is_not_held : SeatView → Answer → Bool
is_not_held view answer = list_any (λ face. nat_lt (held_count view face) (number_in (own_faces answer) face)) (own_faces answer)

-- The discard is marked as the drawn tile and isn't that one; or it isn't marked so, and the drawn tile is the only one
-- held of its face.
abbrev pub is_wrongly_marked : SeatView → Pai → Bool → Bool
is_wrongly_marked view Hidden drawn = false
is_wrongly_marked view (Known tile) true = not (is_that view.drawn tile)
is_wrongly_marked view (Known tile) false = is_that view.drawn tile && held_count view tile == 1

-- A discard is marked wrongly.
abbrev pub is_not_drawn : SeatView → Answer → Bool
is_not_drawn view (Discard actor tile drawn) = is_wrongly_marked view tile drawn
is_not_drawn view other = false

-- a hand in riichi: Locked

-- What a seat in riichi may not do: discard another tile than the drawn one, or call a discard.
abbrev pub is_locked_answer : Answer → Bool
is_locked_answer (Discard actor tile drawn) = not drawn
is_locked_answer answer = is_call_answer answer

-- In riichi the answer would change the hand.
abbrev pub is_locked : SeatView → Answer → Bool
is_locked view answer = view.accepted && is_locked_answer answer

-- the sets of calls and kans: BadSet, NotLeft

-- Two tiles are known and pass a test.
abbrev pub both_are : (ℕ → ℕ → Bool) → Pai → Pai → Bool
both_are test (Known a) (Known b) = test a b
both_are test other another = false

-- Three tiles are known and make a run.
abbrev pub is_known_run : Pai → Pai → Pai → Bool
is_known_run (Known tile) (Known a) (Known b) = makes_run tile a b
is_known_run other another third = false

abbrev pub is_alike : Pai → Pai → Bool
is_alike a b = both_are are_alike a b

-- The meld is a triplet that was taken, of just these tiles, and the tile is of its kind.
abbrev pub is_own_pon : Pai → Pai → Pai → Pai → Meld → Bool
is_own_pon tile a b c meld = is_pon meld.form && is_tile meld.a a && is_tile meld.b b && is_tile meld.c c && is_alike tile a

-- The tiles make no such meld; a tile is added to no own triplet.
abbrev pub is_bad_set : SeatView → Answer → Bool
is_bad_set view (Chi actor target tile a b) = not (is_known_run tile a b)
is_bad_set view (Pon actor target tile a b) = not (is_alike tile a && is_alike tile b)
is_bad_set view (OpenKan actor target tile a b c) = not (is_alike tile a && is_alike tile b && is_alike tile c)
is_bad_set view (ClosedKan actor a b c d) = not (is_alike a b && is_alike a c && is_alike a d)
is_bad_set view (AddedKan actor tile a b c) = not (list_any (is_own_pon tile a b c) view.melds)
is_bad_set view other = false

-- The seat is the next one after the discarder.
abbrev pub is_before : WindowTurn → ℕ → Bool
is_before (Discarded who tile) seat = next_seat who == seat
is_before other seat = false

-- A chi takes the discard of another seat than the one before.
abbrev pub is_not_left : ℕ → WindowTurn → Answer → Bool
is_not_left seat turn (Chi actor target tile a b) = not (is_before turn seat)
is_not_left seat turn other = false

-- swap calling: SwapCall, StuckCall

-- A tile of a banned kind.
abbrev pub is_banned_tile : List ℕ → Pai → Bool
is_banned_tile banned Hidden = false
is_banned_tile banned (Known tile) = is_banned banned (kind_of tile)

-- The kinds that the seat may not discard in this turn.
abbrev pub banned_in : WindowTurn → List ℕ
banned_in (Called who banned) = banned
banned_in other = []

-- A discard that swap calling forbids.
abbrev pub is_swap_call : WindowTurn → Answer → Bool
is_swap_call turn (Discard actor tile drawn) = is_banned_tile (banned_in turn) tile
is_swap_call turn other = false

-- What a call would ban.
abbrev pub bans_of_chi : Pai → Pai → Pai → List ℕ
bans_of_chi (Known tile) (Known a) (Known b) = banned_by_chi (kind_of tile) (kind_of a) (kind_of b)
bans_of_chi other another third = []

abbrev pub bans_of_pon : Pai → List ℕ
bans_of_pon Hidden = []
bans_of_pon (Known tile) = kind_of tile ∷ []

-- Every tile that is held besides these is of a banned kind.
unfoldable pub has_nothing_else : SeatView → List ℕ → List ℕ → Bool
has_nothing_else view used banned = list_all (λ face. nat_le (held_count view face) (number_in used face) || is_banned banned (kind_of face)) tile_order

-- After the call every discard would be forbidden.
abbrev pub is_stuck_call : SeatView → Answer → Bool
is_stuck_call view (Chi actor target tile a b) = has_nothing_else view (own_faces (Chi actor target tile a b)) (bans_of_chi tile a b)
is_stuck_call view (Pon actor target tile a b) = has_nothing_else view (own_faces (Pon actor target tile a b)) (bans_of_pon tile)
is_stuck_call view other = false

-- kans: KanFull, KanDry, RiichiKan

-- A kan by whichever way.
abbrev pub is_kan_answer : Answer → Bool
is_kan_answer (OpenKan actor target tile a b c) = true
is_kan_answer (ClosedKan actor a b c d) = true
is_kan_answer (AddedKan actor tile a b c) = true
is_kan_answer other = false

-- Four kans stand already.
abbrev pub is_kan_full : SeatView → Answer → Bool
is_kan_full view answer = is_kan_answer answer && nat_le 4 view.kans

-- A kan at one's own draw.
abbrev pub is_own_kan : Answer → Bool
is_own_kan (ClosedKan actor a b c d) = true
is_own_kan (AddedKan actor tile a b c) = true
is_own_kan other = false

-- A kan at one's own draw with no live tile left.
abbrev pub is_kan_dry : SeatView → Answer → Bool
is_kan_dry view answer = is_own_kan answer && view.live == 0

-- A kan of this tile would change the hand: its waits, or how it is read.
abbrev pub is_changing_kan : SeatView → Pai → Bool
is_changing_kan view Hidden = false
is_changing_kan view (Known tile) =
    option_map_or (λ drawn. not (is_riichi_kan (kind_counts (less (concealed view) (drawn ∷ []))) (room view) view.melds (kind_of drawn) (kind_of tile))) view.drawn true

-- A seat in riichi makes a concealed kan that would change its hand.
abbrev pub is_riichi_kan_broken : SeatView → Answer → Bool
is_riichi_kan_broken view (ClosedKan actor a b c d) = view.accepted && is_changing_kan view a
is_riichi_kan_broken view other = false

-- reaches: ReachOpen, ReachPoor, ReachLate, ReachUnready

-- A reach.
abbrev pub is_reach : Answer → Bool
is_reach (Reach actor) = true
is_reach other = false

-- A reach with a meld other than a concealed kan.
abbrev pub is_reach_open : SeatView → Answer → Bool
is_reach_open view answer = is_reach answer && not (are_concealed view.melds)

-- A reach with fewer than 1,000 points.
abbrev pub is_reach_poor : SeatView → Answer → Bool
is_reach_poor view answer = is_reach answer && int_lt view.points (pos 1000)

-- A reach with fewer than four live tiles left.
abbrev pub is_reach_late : SeatView → Answer → Bool
is_reach_late view answer = is_reach answer && nat_lt view.live 4

-- The hand is ready once a tile of this face is discarded.
unfoldable pub is_ready_without : SeatView → ℕ → Bool
is_ready_without view face = is_ready (kind_counts (less (concealed view) (face ∷ []))) (room view) (length view.melds)

-- The discard of a reach leaves the hand not ready.
abbrev pub discards_unready : SeatView → WindowTurn → Pai → Bool
discards_unready view (Reached who) (Known tile) = not (is_ready_without view tile)
discards_unready view turn tile = false

-- A reach while no discard leaves the hand ready, or a discard of a reach that does not.
abbrev pub is_reach_unready : SeatView → Answer → Bool
is_reach_unready view (Reach actor) = not (list_any (is_ready_without view) (concealed view))
is_reach_unready view (Discard actor tile drawn) = discards_unready view view.turn tile
is_reach_unready view other = false

-- wins: NotComplete, Furiten, NoYaku

-- The tile of another seat that may be won on.
abbrev pub offered_in : WindowTurn → List ℕ
offered_in (Discarded who tile) = tile ∷ []
offered_in (Added who tile) = tile ∷ []
offered_in other = []

-- The concealed tiles with the one that is won on.
abbrev pub won_tiles : SeatView → List ℕ
won_tiles view = concealed view ++ offered_in view.turn

-- A win with tiles that are not complete.
abbrev pub is_not_complete : SeatView → Answer → Bool
is_not_complete view answer = is_win answer && not (complete (kind_counts (won_tiles view)) (length view.melds))

-- The kinds on which the concealed tiles wait.
unfoldable pub waits_of : SeatView → ℕ
waits_of view = kinds_that (is_wait (kind_counts (concealed view)) (room view) (length view.melds))

-- A win on the tile of another seat while furiten: a wait is among the own discards or was let pass.
abbrev pub is_furiten_win : SeatView → Answer → Bool
is_furiten_win view answer =
    is_win answer && nat_lt 0 (length (offered_in view.turn))
    && is_furiten (record { waits = waits_of view; own = view.own; passed = view.passed; passed_in_riichi = view.passed_in_riichi })

-- The kind of the tile that is won on: the drawn one, or that of the other seat.
abbrev pub winning_kinds : SeatView → List ℕ
winning_kinds view = flat_map (λ tile. kind_of tile ∷ []) (option_to_list view.drawn ++ offered_in view.turn)

-- No reading of the hand, won on a tile of this kind, has a yaku.
unfoldable pub has_no_yaku : SeatView → ℕ → Bool
has_no_yaku view winning = list_all (λ reading. not (gives_yaku view.melds view.case reading)) (readings_of (kind_counts (won_tiles view)) view.melds winning)

-- A win without a yaku.
abbrev pub is_no_yaku : SeatView → Answer → Bool
is_no_yaku view answer = is_win answer && list_all (has_no_yaku view) (winning_kinds view)

-- nine kinds: NotNine

-- Nine kinds are shown.
abbrev pub is_nine : Answer → Bool
is_nine (NineKinds actor) = true
is_nine other = false

-- How many kinds of terminals and honours are held.
abbrev pub outer_kinds : SeatView → ℕ
outer_kinds view = count_by (λ kind. is_terminal_or_honour kind && nat_lt 0 (number_of (concealed view) kind)) all_kinds

-- Nine kinds are shown after the seat's first turn, or fewer than nine are held.
abbrev pub is_not_nine : SeatView → Answer → Bool
is_not_nine view answer = is_nine answer && not (view.case.first && nat_le 9 (outer_kinds view))

-- all questions, in the order of refusal

-- The first rule of a list that is broken.
abbrev pub first_broken : List (Bool × Rule) → Option Rule
first_broken [] = None
first_broken (rule ∷ rules) = if rule.0 then Some rule.1 else first_broken rules

-- What the rules ask of an answer of a seat, in the order of refusal: a rule is broken where its question is answered by yes.
abbrev pub questions : Rules → ℕ → SeatView → Answer → List (Bool × Rule)
questions rules seat view answer =
    (is_unreadable answer, refusal.Unreadable)
    ∷ (is_not_yours seat answer, refusal.NotYours)
    ∷ (is_not_now rules seat view answer, refusal.NotNow)
    ∷ (is_no_such_tile rules.red answer, refusal.NoSuchTile)
    ∷ (is_wrong_target seat view answer, refusal.WrongTarget)
    ∷ (is_last_tile view answer, refusal.LastTile)
    ∷ (is_not_held view answer, refusal.NotHeld)
    ∷ (is_not_drawn view answer, refusal.NotDrawn)
    ∷ (is_locked view answer, refusal.Locked)
    ∷ (is_bad_set view answer, refusal.BadSet)
    ∷ (is_not_left seat view.turn answer, refusal.NotLeft)
    ∷ (is_swap_call view.turn answer, refusal.SwapCall)
    ∷ (is_stuck_call view answer, refusal.StuckCall)
    ∷ (is_kan_full view answer, refusal.KanFull)
    ∷ (is_kan_dry view answer, refusal.KanDry)
    ∷ (is_riichi_kan_broken view answer, refusal.RiichiKan)
    ∷ (is_reach_open view answer, refusal.ReachOpen)
    ∷ (is_reach_poor view answer, refusal.ReachPoor)
    ∷ (is_reach_late view answer, refusal.ReachLate)
    ∷ (is_reach_unready view answer, refusal.ReachUnready)
    ∷ (is_not_complete view answer, refusal.NotComplete)
    ∷ (is_furiten_win view answer, refusal.Furiten)
    ∷ (is_no_yaku view answer, refusal.NoYaku)
    ∷ (is_not_nine view answer, refusal.NotNine)
    ∷ []

-- The first rule that an answer of a seat breaks, by what the seat may know.
unfoldable pub broken_by : Rules → ℕ → SeatView → Answer → Option Rule
broken_by rules seat view answer = first_broken (questions rules seat view answer)

-- The first rule that an answer of a seat breaks in the window on the newest deed.
abbrev pub broken_rule : Rules → List Deed → ℕ → Answer → Option Rule
broken_rule rules deeds seat answer = broken_by rules seat (view_of deeds seat) answer
