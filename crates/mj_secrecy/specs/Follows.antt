-- What follows from what a seat learns: in two games that agree for a seat the facts that it may know, the verdicts on its
-- answers and its lines are the same.
use Rattle.std.specs.Prelude.{◌≡◌, ◌<◌, ◌==◌, ℕ, if◌then◌else◌, List, [], ◌∷◌, ◌++◌, length, map, take, Option, option_map, option_to_list, slice_get}
use Rattle.mj_ports.specs.declared.entry.Entry.{Entry}
use Rattle.mj_ports.specs.declared.entry.Entry.TheVariants.{Said}
use Rattle.mj_deeds.specs.declared.reason.Reason.{Reason}
use Rattle.mj_deeds.specs.declared.four.Four.{Four}
use Rattle.mj_deeds.specs.Four.{at_seat}
use Rattle.mj_deeds.specs.Shown.{Shown}
use Rattle.mj_deeds.specs.declared.answer.Answer.{Answer}
use Rattle.mj_deeds.specs.declared.deed.Deed.{Deed}
use Rattle.mj_deeds.specs.declared.token.Token.{Token}
use Rattle.mj_deeds.specs.Hand.{hand}
use Rattle.mj_deeds.specs.Facts.{concealed_tiles, drawn_tile, river_tiles, seat_melds, kans, live_tiles, indicators}
use Rattle.mj_deeds.specs.Riichi.{has_reached, is_ippatsu}
use Rattle.mj_deeds.specs.Passed.{passed_kinds, passed_in_riichi}
use Rattle.mj_deeds.specs.Points.{points, deposits}
use Rattle.mj_deeds.specs.Course.{before_wins}
use Rattle.mj_deeds.specs.Standings.{standing}
use Rattle.mj_wall.specs.declared.setting.Rules.{Rules}
use Rattle.mj_wall.specs.declared.setting.Setting.{Setting}
use Rattle.mj_view.specs.Tokens.{token}
use Rattle.mj_rules.specs.View.{view_of}
use Rattle.mj_rules.specs.Broken.{questions, broken_rule}
use Rattle.mj_rules.specs.Default.{default_answer}
use Rattle.mj_rules.specs.Wins.{riichi_of, case_of, Shows, extra_of, for_first, win_shown}
use Rattle.mj_rules.specs.Draws.{draw_shown}
use Rattle.mj_sights.specs.Seen.{seen_tiles}
use Rattle.mj_safety.specs.Safe.{has_to_discard, safe_reason, safe_kinds}
use Rattle.mj_history.specs.After.{After, Chair, Verdict, before_all, is_present, lines_for, pending, step, after}
use Rattle.mj_history.specs.Shown.{verdict_at}
use Rattle.mj_secrecy.specs.Trace.{Item, Saw, trace, Agree}
use Rattle.mj_history.specs.Legal.{IsLegal, Game}

-- A fact of a seat that is held; none of one that isn't.
abbrev pub of_chair : {A : Type 0} → (Chair → A) → After → ℕ → Option A
of_chair fact now seat = option_map fact (slice_get now.chairs seat)

-- The facts that a seat may know are the same of two games, each under its rules, as far as their entries have come.
pub record SameFacts (seat : ℕ) (rules others : Rules) (one other : After) : Type 0 where
  -- of the game: how many deeds there are, the points of the four seats, the deposits on the table, and how it stands
  pub number : length one.deeds ≡ length other.deeds
  pub points : points one.deeds ≡ points other.deeds
  pub deposits : deposits one.deeds ≡ deposits other.deeds
  pub honba : (standing one.deeds).honba ≡ (standing other.deeds).honba
  pub dealer : (standing one.deeds).dealer ≡ (standing other.deeds).dealer
  pub round : (standing one.deeds).round ≡ (standing other.deeds).round
  pub hand_number : (standing one.deeds).hand ≡ (standing other.deeds).hand
  -- of the newest hand: the live tiles left, the kans, the indicators, and of whichever seat its river, its melds, whether
  -- it has reached, its riichi, and whether that is in its first round
  pub live : live_tiles (hand one.deeds) ≡ live_tiles (hand other.deeds)
  pub kans : kans (hand one.deeds) ≡ kans (hand other.deeds)
  pub indicators : indicators (hand one.deeds) ≡ indicators (hand other.deeds)
  pub river : (who : ℕ) → river_tiles (hand one.deeds) who ≡ river_tiles (hand other.deeds) who
  pub melds : (who : ℕ) → seat_melds (hand one.deeds) who ≡ seat_melds (hand other.deeds) who
  pub reached : (who : ℕ) → has_reached (hand one.deeds) who ≡ has_reached (hand other.deeds) who
  pub riichi : (who : ℕ) → riichi_of (hand one.deeds) who ≡ riichi_of (hand other.deeds) who
  pub ippatsu : (who : ℕ) → is_ippatsu (hand one.deeds) who ≡ is_ippatsu (hand other.deeds) who
  -- the kinds that it let pass since its last discard, and since its reach
  pub passed : (who : ℕ) → passed_kinds (hand one.deeds) who ≡ passed_kinds (hand other.deeds) who
  pub passed_in_riichi : (who : ℕ) → passed_in_riichi (hand one.deeds) who ≡ passed_in_riichi (hand other.deeds) who
  -- the seat's own: its concealed tiles, and the one that it has drawn
  pub own : concealed_tiles (hand one.deeds) seat ≡ concealed_tiles (hand other.deeds) seat
  pub drawn : drawn_tile one.deeds seat ≡ drawn_tile other.deeds seat
  -- the tiles that it sees, whether it has to discard, why a kind is safe for it against another, and which it holds are
  pub seen : seen_tiles (hand one.deeds) seat ≡ seen_tiles (hand other.deeds) seat
  pub discards : has_to_discard one.deeds seat ≡ has_to_discard other.deeds seat
  pub safe : (against kind : ℕ) → safe_reason one.deeds seat against kind ≡ safe_reason other.deeds seat against kind
  pub safe_kinds : (against : ℕ) → safe_kinds one.deeds seat against ≡ safe_kinds other.deeds seat against
  -- and all that decides over its own answers
  pub view : view_of one.deeds seat ≡ view_of other.deeds seat
  -- of its entries: the answer in its slot, whether it is present, the deed that it answers next, the prompt that is due to
  -- it, and how many of its answers to that were refused
  pub slot : at_seat one.slots seat ≡ at_seat other.slots seat
  pub present : of_chair is_present one seat ≡ of_chair is_present other seat
  pub due : of_chair (λ (chair : Chair). chair.progress.due) one seat ≡ of_chair (λ (chair : Chair). chair.progress.due) other seat
  pub prompt : of_chair (λ (chair : Chair). pending (lines_for rules seat one.deeds) chair.progress) one seat ≡ of_chair
      (λ (chair : Chair). pending (lines_for others seat other.deeds) chair.progress) other seat
  pub refused : of_chair (λ (chair : Chair). chair.progress.refused) one seat ≡ of_chair (λ (chair : Chair). chair.progress.refused) other seat

-- Facts follow: whichever two games agree for a seat, the facts that it may know are the same of both.
abbrev pub FactsFollow : Type 0
FactsFollow = (seat : ℕ) (g h : Game) → seat < 4 → Agree seat g h → SameFacts seat g.setting.rules h.setting.rules (after g.setting g.entries) (after h.setting h.entries)

-- The verdict on what a seat says by an entry.
abbrev pub verdict_in : Setting → ℕ → After → Entry Answer → List Verdict
verdict_in setting seat now (Said author who answer) = if who == seat then option_to_list (verdict_at setting.rules now seat answer) else []
verdict_in setting seat now other = []

-- The verdicts on what a seat says from some point on, in order.
abbrev pub verdicts_from : Setting → ℕ → After → List (Entry Answer) → List Verdict
verdicts_from setting seat now [] = []
verdicts_from setting seat now (entry ∷ entries) = verdict_in setting seat now entry ++ verdicts_from setting seat (step setting now entry) entries

-- The verdicts on all that a seat said in a game.
abbrev pub verdicts : ℕ → Game → List Verdict
verdicts seat game = verdicts_from game.setting seat before_all game.entries

-- The verdicts on whatever a seat may say are the same of two games, each under its rules, as far as their entries have come.
pub record SameVerdicts (seat : ℕ) (rules others : Rules) (one other : After) : Type 0 where
  -- of each rule, whether an answer breaks it; and the first that it breaks
  pub each : (answer : Answer) → questions rules seat (view_of one.deeds seat) answer ≡ questions others seat (view_of other.deeds seat) answer
  pub first : (answer : Answer) → broken_rule rules one.deeds seat answer ≡ broken_rule others other.deeds seat answer
  -- whether it is late, refused by which rule, refused for good, or taken
  pub verdict : (answer : Answer) → verdict_at rules one seat answer ≡ verdict_at others other seat answer
  -- the answer that stands where the seat gives none
  pub default : default_answer rules one.deeds seat ≡ default_answer others other.deeds seat

-- Of two games the verdicts on all that a seat said are the same, and so are those on whatever it may say next.
pub record SameJudgement (seat : ℕ) (g h : Game) : Type 0 where
  pub said : verdicts seat g ≡ verdicts seat h
  pub next : SameVerdicts seat g.setting.rules h.setting.rules (after g.setting g.entries) (after h.setting h.entries)

-- Verdicts follow: whichever two games agree for a seat, the answers of the seat have the same verdicts in both.
abbrev pub VerdictsFollow : Type 0
VerdictsFollow = (seat : ℕ) (g h : Game) → seat < 4 → Agree seat g h → SameJudgement seat g h

-- What the numbers of a deed are made of, beside what its token tells, is the same after two lists of deeds.
pub record SameArguments (ds es : List Deed) : Type 0 where
  -- of what a win of whichever seat is worth: its melds, its circumstances, and its dora by what the winner shows
  pub melds : (who : ℕ) → seat_melds (before_wins (hand ds)) who ≡ seat_melds (before_wins (hand es)) who
  pub case : (who : ℕ) → case_of (standing ds) (before_wins (hand ds)) who ≡ case_of (standing es) (before_wins (hand es)) who
  pub extra : (who : ℕ) (shows : Shows) → extra_of (before_wins (hand ds)) who shows ≡ extra_of (before_wins (hand es)) who shows
  -- of payments: the dealer, the honba and the deposits that a winner takes, and the points before
  pub dealer : (standing ds).dealer ≡ (standing es).dealer
  pub honba : for_first (hand ds) (standing ds).honba ≡ for_first (hand es) (standing es).honba
  pub deposits : for_first (hand ds) (deposits ds) ≡ for_first (hand es) (deposits es)
  pub points : points ds ≡ points es
  -- and so the numbers of a win by what the winner shows, and of a drawn hand by what is seen of the hands
  pub win : (who target : ℕ) (shows : Shows) (rest : List ℕ) → win_shown ds who target shows rest ≡ win_shown es who target shows rest
  pub drawn_hand : (reason : Reason) (hands : Four Shown) → draw_shown ds reason hands ≡ draw_shown es reason hands

-- The lines of deeds for a seat, with the answers that each lists, are the same of two lists of deeds, each under its rules, and
-- so are their tokens; and after any number of deeds the numbers of the next one are made of the same.
pub record SameLines (seat : ℕ) (rules others : Rules) (ds es : List Deed) : Type 0 where
  pub lines : lines_for rules seat ds ≡ lines_for others seat es
  pub tokens : map (token seat) ds ≡ map (token seat) es
  pub arguments : (n : ℕ) → SameArguments (take n ds) (take n es)

-- Lines follow: whichever two games agree for a seat, the seat's line of each deed is the same in both.
abbrev pub LinesFollow : Type 0
LinesFollow = (seat : ℕ) (g h : Game) → seat < 4 → Agree seat g h → SameLines seat g.setting.rules h.setting.rules (after g.setting g.entries).deeds (after h.setting h.entries).deeds

-- Two games of which a seat learns the same up to some deed, whatever it learns of each later: both are legal, under the
-- same switches.
pub record AgreeUpTo (seat : ℕ) (items : List Item) (t : Token) (g h : Game) : Type 0 where
  pub legal : IsLegal g.setting g.entries
  pub other_legal : IsLegal h.setting h.entries
  pub draws : g.setting.rules.draws ≡ h.setting.rules.draws
  pub red : g.setting.rules.red ≡ h.setting.rules.red
  pub later : List Item
  pub begins : trace seat g.setting g.entries ≡ items ++ Saw t ∷ later
  pub other_later : List Item
  pub other_begins : trace seat h.setting h.entries ≡ items ++ Saw t ∷ other_later

-- The first entries of a game, of which a seat learns just this.
pub record Beginning (seat : ℕ) (items : List Item) (game : Game) : Type 0 where
  pub first : List (Entry Answer)
  pub later : List (Entry Answer)
  pub are : game.entries ≡ first ++ later
  pub learnt : trace seat game.setting first ≡ items

-- Two games begin with games that agree for a seat and of which it learns just this.
pub record BeginAlike (seat : ℕ) (items : List Item) (g h : Game) : Type 0 where
  pub one : Beginning seat items g
  pub other : Beginning seat items h
  pub agree : Agree seat (record { setting = g.setting; entries = one.first }) (record { setting = h.setting; entries = other.first })

-- Until a deed whose token differs all laws of games that agree hold: games of which a seat learns the same up to some deed
-- begin with games that agree up to that deed.
abbrev pub BeginningsAgree : Type 0
BeginningsAgree = (seat : ℕ) (items : List Item) (t : Token) (g h : Game) → AgreeUpTo seat items t g h → BeginAlike seat (items ++ Saw t ∷ []) g h
