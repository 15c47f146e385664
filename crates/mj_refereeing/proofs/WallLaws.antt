-- The lines of walls, and the first line after them.
use Rattle.std.proofs.Common.{◌≡◌, ℕ, suc, ◌==◌, ◌&&◌, ◌+◌, ◌<◌, ◌≤◌, Bool, true, false, List, [], ◌∷◌, ◌++◌, length, refl, ap, sym, ◌∙◌, subst, arith}
use Rattle.std.specs.Prelude.{Option, Some, None, nat_lt, if◌then◌else◌}
use Rattle.std.specs.List.{list_all}
use Rattle.std.proofs.lemmas.Bool.Decides.{nat_tests}
use Rattle.std.proofs.lemmas.List.{length-append}
use Rattle.mj_ports.specs.declared.entry.Entry.{Entry}
use Rattle.mj_deeds.specs.declared.answer.Answer.{Answer}
use Rattle.mj_wall.specs.declared.setting.Rules.{Rules}
use Rattle.mj_wall.specs.Places.{is_wall}
use Rattle.mj_history.specs.Legal.{Game}
use Rattle.mj_history.specs.Arrivals.{ArrivalForm, Header, WallOf, Sit, Say, Leave, Expire, NoForm, form_of, Intake, setting_of, game_of, Arrival, Leads, Bad, sit_arrives}
use Rattle.mj_history.specs.Arrivals.{say_arrives, gone_arrives, expiry_arrives, wall_arrives, behind_header, arrives, Input, BadAt, intake_on, intake_from}
use Rattle.mj_refereeing.specs.declared.intake.End.{End}
use Rattle.mj_refereeing.specs.declared.intake.Question.{Question}
use Rattle.mj_refereeing.specs.Referee.{ending}
use Rattle.mj_refereeing.specs.Inner.Intake.{answer_to, intake_of, intake_with_walls, is_wall_form, begin_with_wall, HasNothing, HearsAll, Tells}

-- a wall more, after a header and walls
wall-by : (reading : Intake) (tiles : List ℕ) (whole few : Bool) → is_wall (setting_of reading).rules.red tiles ≡ whole → nat_lt (length reading.walls) 200 ≡ few → reading.begun ≡ false
    → wall_arrives reading tiles ≡ (if whole && few then Leads (record reading { walls = reading.walls ++ tiles ∷ [] }) else Bad)
unfolding wall_arrives
wall-by reading tiles true few p q r = rw (p, q, r)
wall-by reading tiles false few p q r = rw p

arrives-wall : (rules : Rules) (walls : List (List ℕ)) (line tiles : List ℕ) → WallOf tiles ≡ form_of line → arrives (intake_with_walls rules walls)
    line ≡ wall_arrives (intake_with_walls rules walls) tiles
unfolding arrives
arrives-wall rules walls line tiles e = ap (behind_header (intake_with_walls rules walls)) (sym e)

below-many : (n : ℕ) → nat_lt n 200 ≡ true → n < 200
below-many n q = grind (arith, nat_tests, q)

pub wall-more : (rules : Rules) (walls : List (List ℕ)) (line tiles wall : List ℕ) → WallOf tiles ≡ form_of line →
    Some wall ≡ (if is_wall rules.red tiles && nat_lt (length walls) 200 then Some tiles else None)
    → (arrives (intake_with_walls rules walls) line ≡ Leads (intake_with_walls rules (walls ++ wall ∷ []))) × (is_wall rules.red wall ≡ true) × (length walls < 200)
wall-more rules walls line tiles wall e h = by_tests (is_wall rules.red tiles) (nat_lt (length walls) 200) refl refl h
  where
    by_tests : (whole few : Bool) → is_wall rules.red tiles ≡ whole → nat_lt (length walls) 200 ≡ few → Some wall ≡ (if whole && few then Some tiles else None)
        → (arrives (intake_with_walls rules walls) line ≡ Leads (intake_with_walls rules (walls ++ wall ∷ []))) × (is_wall rules.red wall ≡ true) × (length walls < 200)
    by_tests true true p q k = let same : wall ≡ tiles = cc k in (
      arrives-wall rules walls line tiles e ∙ wall-by (intake_with_walls rules walls) tiles true true p q refl
          ∙ ap (λ (given : List ℕ). Leads (intake_with_walls rules (walls ++ given ∷ []))) (sym same),
      ap (is_wall rules.red) same ∙ p,
      below-many (length walls) q,
    )
    by_tests true false p q k = cc k
    by_tests false few p q k = cc k

pub wall-none : (rules : Rules) (walls : List (List ℕ)) (line tiles : List ℕ) → WallOf tiles ≡ form_of line → None ≡ (if is_wall rules.red tiles && nat_lt (length walls) 200 then Some tiles else None)
    → arrives (intake_with_walls rules walls) line ≡ Bad
wall-none rules walls line tiles e h = by_tests (is_wall rules.red tiles) (nat_lt (length walls) 200) refl refl h
  where
    by_tests : (whole few : Bool) → is_wall rules.red tiles ≡ whole → nat_lt (length walls) 200 ≡ few →
        None ≡ (if whole && few then Some tiles else None) → arrives (intake_with_walls rules walls) line ≡ Bad
    by_tests true true p q k = cc k
    by_tests true false p q k = arrives-wall rules walls line tiles e ∙ wall-by (intake_with_walls rules walls) tiles true false p q refl
    by_tests false few p q k = arrives-wall rules walls line tiles e ∙ wall-by (intake_with_walls rules walls) tiles false few p q refl

pub all-walls : (red : Bool) (walls : List (List ℕ)) (wall : List ℕ) → list_all (is_wall red) walls ≡ true → is_wall red wall ≡ true → list_all (is_wall red) (walls ++ wall ∷ []) ≡ true
all-walls red [] wall h w = rw w
all-walls red (first ∷ walls) wall h w = by_first (is_wall red first) h (λ k. all-walls red walls wall k w)
  where
    by_first : (b : Bool) → (b && list_all (is_wall red) walls) ≡ true →
        (list_all (is_wall red) walls ≡ true → list_all (is_wall red) (walls ++ wall ∷ []) ≡ true) →
        (b && list_all (is_wall red) (walls ++ wall ∷ [])) ≡ true
    by_first true k more = more k
    by_first false k more = cc k

-- what was read of a line that is a wall by its form
pub record IsWallLine (red : Bool) (walls : List (List ℕ)) (lines texts : List (List ℕ)) (given : Option (List ℕ)) : Type 0 where
  pub line : List ℕ
  pub tiles : List ℕ
  pub before : ℕ
  pub seen : List ℕ
  pub lines_are : lines ≡ line ∷ texts
  pub form : WallOf tiles ≡ form_of line
  pub many : before ≡ length walls
  pub same : seen ≡ tiles
  pub read : given ≡ (if is_wall red seen && nat_lt before 200 then Some seen else None)

pub read-wall : (red : Bool) (walls lines texts : List (List ℕ)) (given : Option (List ℕ)) → (w : IsWallLine red walls lines texts given) →
    given ≡ (if is_wall red w.tiles && nat_lt (length walls) 200 then Some w.tiles else None)
read-wall red walls lines texts given w = rw (← w.many, ← w.same) w.read

-- one wall more
pub heard-wall : (rules : Rules) (walls after lines texts : List (List ℕ)) (wall rest unread : List ℕ) (number : ℕ) →
    IsWallLine rules.red walls lines texts (Some wall) → unread ≡ rest → after ≡ walls ++ wall ∷ []
    → intake_from (intake_with_walls rules walls) number lines unread ≡ intake_from (intake_with_walls rules after) (number + 1) texts rest
heard-wall rules walls after lines texts wall rest unread number w u a =
    ap (λ (ls : List (List ℕ)). intake_from (intake_with_walls rules walls) number ls unread) w.lines_are
    ∙ ap (λ (arrival : Arrival). intake_on arrival (λ next. intake_from next (number + 1) texts unread) (intake_with_walls rules walls) number)
    (wall-more rules walls w.line w.tiles wall w.form (read-wall rules.red walls lines texts (Some wall) w)).0
    ∙ ap (λ (rs : List ℕ). intake_from (intake_with_walls rules (walls ++ wall ∷ [])) (number + 1) texts rs) u
    ∙ ap (λ (ws : List (List ℕ)). intake_from (intake_with_walls rules ws) (number + 1) texts rest) (sym a)

pub few-more : (rules : Rules) (walls after lines texts : List (List ℕ)) (wall : List ℕ) → IsWallLine rules.red walls lines texts (Some wall) → after ≡ walls ++ wall ∷ [] → length after ≤ 200
few-more rules walls after lines texts wall w a =
    let below : length walls < 200 = (wall-more rules walls w.line w.tiles wall w.form (read-wall rules.red walls lines texts (Some wall) w)).2 in
    let long : length after ≡ length walls + 1 = ap length a ∙ length-append walls (wall ∷ []) in
    omega arith

pub whole-more : (rules : Rules) (walls after lines texts : List (List ℕ)) (wall : List ℕ) → IsWallLine rules.red walls lines texts (Some wall) →
    after ≡ walls ++ wall ∷ [] → list_all (is_wall rules.red) walls ≡ true → list_all (is_wall rules.red) after ≡ true
whole-more rules walls after lines texts wall w a h =
    ap (list_all (is_wall rules.red)) a ∙ all-walls rules.red walls wall h (wall-more rules walls w.line w.tiles wall w.form (read-wall rules.red walls lines texts (Some wall) w)).1

-- the lines stay counted
pub counted : (number rest others all : ℕ) → number + rest ≤ all → others < rest → number + 1 + others ≤ all
counted number rest others all h k = omega arith

-- tiles that are no wall, or one wall too many
pub nothing-bad_wall : (number : ℕ) (end : End) (rules : Rules) (walls lines texts : List (List ℕ)) (unread : List ℕ) (input : Input) →
    input ≡ intake_from (intake_with_walls rules walls) number lines unread
    → IsWallLine rules.red walls lines texts None → BadAt number ≡ ending end → HasNothing input end
nothing-bad_wall number end rules walls lines texts unread input h w e =
    let same : input ≡ record { reading = intake_with_walls rules walls; ending = BadAt number } =
    h ∙ ap (λ (ls : List (List ℕ)). intake_from (intake_with_walls rules walls) number ls unread) w.lines_are
    ∙ ap (λ (arrival : Arrival). intake_on arrival (λ next. intake_from next (number + 1) texts unread) (intake_with_walls rules walls) number)
    (wall-none rules walls w.line w.tiles w.form (read-wall rules.red walls lines texts None w)) in
    record {
      ends = ap (λ (input : Input). input.ending) same ∙ e;
      nothing = ap (λ (input : Input). input.reading.entries) same;
    }

-- after a header without a wall only a wall may stand
alone : (rules : Rules) (form : ArrivalForm) → is_wall_form form ≡ false → behind_header (intake_with_walls rules []) form ≡ Bad
unfolding sit_arrives say_arrives gone_arrives expiry_arrives
alone rules (WallOf tiles) h = cc
alone rules (Header given) h = refl
alone rules (Sit text) h = refl
alone rules (Say seat text) h = refl
alone rules (Leave seat) h = refl
alone rules (Expire window t1 t2) h = refl
alone rules NoForm h = refl

pub arrives-alone : (rules : Rules) (line : List ℕ) → is_wall_form (form_of line) ≡ false → arrives (intake_with_walls rules []) line ≡ Bad
unfolding arrives
arrives-alone rules line h = alone rules (form_of line) h

pub no-walls : (walls : List (List ℕ)) (many : ℕ) → (many == 0) ≡ true → many ≡ length walls → walls ≡ []
no-walls [] many none e = refl
no-walls (wall ∷ walls) many none e = absurd (some (length walls) e)
  where
    some : (n : ℕ) → many ≡ suc n → ⊥
    some n k = grind (arith, nat_tests, none, k)

pub nothing-no_wall : (number : ℕ) (end : End) (rules : Rules) (walls lines : List (List ℕ)) (rest : List ℕ) → walls ≡ [] →
    (length lines == 0) ≡ false → begin_with_wall lines ≡ false → BadAt number ≡ ending end
    → HasNothing (intake_from (intake_with_walls rules walls) number lines rest) end
nothing-no_wall number end rules walls [] rest w none other e = cc
nothing-no_wall number end rules walls (line ∷ lines) rest w none other e =
    let same : intake_from (intake_with_walls rules walls) number (line ∷ lines) rest ≡ record { reading = intake_with_walls rules []; ending = BadAt number } =
    ap (λ (given : List (List ℕ)). intake_from (intake_with_walls rules given) number (line ∷ lines) rest) w
    ∙ ap (λ (arrival : Arrival). intake_on arrival (λ next. intake_from next (number + 1) lines rest) (intake_with_walls rules []) number) (arrives-alone rules line other) in
    record {
      ends = ap (λ (input : Input). input.ending) same ∙ e;
      nothing = ap (λ (input : Input). input.reading.entries) same;
    }

-- After a header and its walls it makes no difference to what follows whether an arrival came already, where the next line is
-- no wall.
begun_with : Rules → List (List ℕ) → Intake
begun_with rules walls = record (intake_with_walls rules walls) { begun = true }

begun-form : (rules : Rules) (walls : List (List ℕ)) (form : ArrivalForm) → is_wall_form form ≡ false → behind_header (intake_with_walls rules walls) form ≡ behind_header (begun_with rules walls) form
unfolding begun_with sit_arrives say_arrives gone_arrives expiry_arrives
begun-form rules walls (WallOf tiles) h = cc
begun-form rules walls (Header given) h = refl
begun-form rules walls (Sit text) h = refl
begun-form rules walls (Say seat text) h = refl
begun-form rules walls (Leave seat) h = refl
begun-form rules walls (Expire window t1 t2) h = refl
begun-form rules walls NoForm h = refl

-- two inputs end alike, and their games are the same
record Alike (a b : Input) : Type 0 where
  ends : a.ending ≡ b.ending
  game : game_of a.reading ≡ game_of b.reading

alike-on : (rules : Rules) (walls : List (List ℕ)) (number : ℕ) (onwards : Intake → Input) (arrival : Arrival) →
    Alike (intake_on arrival onwards (intake_with_walls rules walls) number) (intake_on arrival onwards (begun_with rules walls) number)
unfolding begun_with
alike-on rules walls number onwards (Leads next) = record { ends = refl; game = refl }
alike-on rules walls number onwards Bad = record { ends = refl; game = refl }

begun-line : (rules : Rules) (walls : List (List ℕ)) (line : List ℕ) → is_wall_form (form_of line) ≡ false → arrives (intake_with_walls rules walls) line ≡ arrives (begun_with rules walls) line
unfolding begun_with arrives
begun-line rules walls line h = begun-form rules walls (form_of line) h

begun-alike : (rules : Rules) (walls : List (List ℕ)) (number : ℕ) (lines : List (List ℕ)) (rest : List ℕ) → (length lines == 0) ≡ false → begin_with_wall lines ≡ false →
    Alike (intake_from (intake_with_walls rules walls) number lines rest) (intake_from (begun_with rules walls) number lines rest)
begun-alike rules walls number [] rest some h = cc some
begun-alike rules walls number (line ∷ lines) rest some h =
    subst (λ (arrival : Arrival). Alike (intake_on arrival (λ next. intake_from next (number + 1) lines rest) (intake_with_walls rules walls) number)
    (intake_from (begun_with rules walls) number (line ∷ lines) rest))
    (sym (begun-line rules walls line h))
    (alike-on rules walls number (λ next. intake_from next (number + 1) lines rest) (arrives (begun_with rules walls) line))

-- after a header and its walls the game is in play
begun-game : (rules : Rules) (walls : List (List ℕ)) (start : Game) → start ≡ record { setting = record { walls = walls; rules = rules }; entries = [] } → begun_with rules walls ≡ intake_of start
unfolding begun_with
begun-game rules walls start s = rw s

-- A game without an entry is its setting alone.
pub unbegun : (game : Game) → game.entries ≡ [] → game ≡ record { setting = record { walls = game.setting.walls; rules = game.setting.rules }; entries = [] }
unbegun game none = let with : List (Entry Answer) → Game = λ entries. record { setting = game.setting; entries = entries } in ap with none

pub tells-walls : (question : Question) (seat heard number : ℕ) (end : End) (rules : Rules) (walls : List (List ℕ)) (start game : Game) (lines : List (List ℕ)) (rest told all : List ℕ) →
    start ≡ record { setting = record { walls = walls; rules = rules }; entries = [] } → (length lines == 0) ≡ false → begin_with_wall lines ≡ false →
    HearsAll (intake_from (intake_of start) number lines rest) heard end game told → all ≡ answer_to question seat game →
    Tells question (intake_from (intake_with_walls rules walls) number lines rest) seat end all
tells-walls question seat heard number end rules walls start game lines rest told all s some other h is =
    let alike = begun-alike rules walls number lines rest some other in
    let same : intake_from (begun_with rules walls) number lines rest ≡ intake_from (intake_of start) number lines rest =
    ap (λ (reading : Intake). intake_from reading number lines rest) (begun-game rules walls start s) in
    record {
      ends = alike.ends ∙ ap (λ (input : Input). input.ending) same ∙ h.ends;
      told = is ∙ ap (answer_to question seat) (sym (alike.game ∙ ap (λ (input : Input). game_of input.reading) same ∙ ap game_of h.reading));
    }
