-- The laws by which a game is one that workers play by entries, over what it shows.
use Rattle.std.specs.Prelude.{◌≡◌, ◌<◌, ℕ, ◌+◌, ◌==◌, if◌then◌else◌, true, List, [], ◌∷◌, ◌++◌, length, map, Option, Some, None}
use Rattle.mj_ports.specs.declared.entry.Entry.{Entry}
use Rattle.mj_ports.specs.declared.entry.Entry.TheVariants.{Sat, Back, Said, Gone, Expired}
use Rattle.mj_ports.specs.Entries.{is_sat, next_seat, IsAside}
use Rattle.mj_ports.specs.SeatCalls.{IsRefused}
use Rattle.mj_ports.specs.Seats.{Stays, StaysEnded, Unmoved, Begins, Answers, Leaves, Adds, script, hello, replay}
use Rattle.mj_deeds.specs.declared.answer.Answer.{Answer}
use Rattle.mj_wall.specs.declared.setting.Setting.{Setting}
use Rattle.mj_history.specs.After.{Chair, Connection, connections}
use Rattle.mj_history.specs.Legal.{IsLegal}
use Rattle.mj_history.specs.Shown.{shown_of, sits_of, hears_of, control_line}

-- What was legal stays legal when later entries are left out.
abbrev pub BeginningsAreLegal : Type 0
BeginningsAreLegal = (setting : Setting) (entries more : List (Entry Answer)) → IsLegal setting (entries ++ more) → IsLegal setting entries

-- Lines stay, and the game's end.
abbrev pub LinesStay : Type 0
LinesStay = (setting : Setting) (entries : List (Entry Answer)) (entry : Entry Answer) → IsLegal setting (entries ++ entry ∷ []) →
    Stays (shown_of setting entries) (shown_of setting (entries ++ entry ∷ []))

-- A connection that has ended is told nothing more.
abbrev pub EndedConnectionsStay : Type 0
EndedConnectionsStay = (setting : Setting) (entries : List (Entry Answer)) (entry : Entry Answer) (place : ℕ) → IsLegal setting (entries ++ entry ∷ []) → place < length entries →
    (shown_of setting entries).seat_of place ≡ None → StaysEnded place (shown_of setting entries) (shown_of setting (entries ++ entry ∷ []))

-- An entry of another author or seat leaves a present seat alone.
abbrev pub OthersLeaveAlone : Type 0
OthersLeaveAlone = (setting : Setting) (entries : List (Entry Answer)) (entry : Entry Answer) (author seat : ℕ) →
    IsLegal setting (entries ++ entry ∷ []) → (shown_of setting entries).present seat ≡ Some author →
    IsAside author seat entries entry → Unmoved seat (shown_of setting entries) (shown_of setting (entries ++ entry ∷ []))

-- A seat that is taken begins a connection with the hello line.
abbrev pub SeatsBegin : Type 0
SeatsBegin = (setting : Setting) (entries : List (Entry Answer)) (author : ℕ) (name : List ℕ) (key : Option (List ℕ)) → IsLegal setting (entries ++ Sat author name key ∷ []) →
    Begins author (next_seat entries) (length entries) 0 (hello control_line) (shown_of setting (entries ++ Sat author name key ∷ []))

-- A seat that is taken back begins one with the hello line, the replay head, and the lines before its due deed.
abbrev pub ReturnsBegin : Type 0
ReturnsBegin = (setting : Setting) (entries : List (Entry Answer)) (author seat : ℕ) → IsLegal setting (entries ++ Back author seat ∷ []) →
    Begins author seat (length entries) ((shown_of setting (entries ++ Back author seat ∷ [])).due seat) (replay control_line (shown_of setting (entries ++ Back author seat ∷ [])) seat)
    (shown_of setting (entries ++ Back author seat ∷ []))

-- An answer of a seat goes by its verdict.
abbrev pub AnswersGoByVerdict : Type 0
AnswersGoByVerdict = (setting : Setting) (entries : List (Entry Answer)) (author seat : ℕ) (answer : Answer) → IsLegal setting (entries ++ Said author seat answer ∷ []) →
    Answers control_line (hears_of setting entries seat answer) seat (shown_of setting entries) (shown_of setting (entries ++ Said author seat answer ∷ []))

-- A seat that is gone leaves, and its connection is told nothing but what was pending.
abbrev pub SeatsLeave : Type 0
SeatsLeave = (setting : Setting) (entries : List (Entry Answer)) (author seat : ℕ) → IsLegal setting (entries ++ Gone author seat ∷ []) →
    Leaves seat (shown_of setting entries) (shown_of setting (entries ++ Gone author seat ∷ [])) × Adds seat [] (shown_of setting entries) (shown_of setting (entries ++ Gone author seat ∷ []))

-- Once the game is over, each line that wants a seat is refused.
abbrev pub SeatsAreClosed : Type 0
SeatsAreClosed = (setting : Setting) (entries : List (Entry Answer)) (text : List ℕ) → (shown_of setting entries).over ≡ true → IsRefused (sits_of setting entries text)

-- Where the connections of a seat began, by what the entries come to: the oldest first.
abbrev pub places_at : Chair → List ℕ
places_at chair = map (λ (c : Connection). c.place) chair.earlier ++ chair.place ∷ []

-- The place of an entry by which a seat sits down, after so many others, or comes back.
abbrev pub begins : ℕ → ℕ → ℕ → Entry Answer → List ℕ
begins seat place taken (Sat author name key) = if taken == seat then place ∷ [] else []
begins seat place taken (Back author who) = if who == seat then place ∷ [] else []
begins seat place taken (Said author who answer) = []
begins seat place taken (Gone author who) = []
begins seat place taken (Expired author window t1 t2) = []

-- The places of the entries by which a seat sits down or comes back, the oldest first, from some place on.
abbrev pub begun_from : ℕ → ℕ → ℕ → List (Entry Answer) → List ℕ
begun_from seat place taken [] = []
begun_from seat place taken (entry ∷ entries) = begins seat place taken entry ++ begun_from seat (place + 1) (if is_sat entry then taken + 1 else taken) entries

-- The places of a seat's connections.
abbrev pub begun_by : ℕ → List (Entry Answer) → List ℕ
begun_by seat entries = begun_from seat 0 0 entries

-- The script of a connection, found by its place, is what the seat is told in it.
abbrev pub ScriptsByPlace : Type 0
ScriptsByPlace = (seat : ℕ) (setting : Setting) (entries : List (Entry Answer)) → IsLegal setting entries → map (script (shown_of setting entries))
    (begun_by seat entries) ≡ connections seat setting entries
