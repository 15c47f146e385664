-- The laws over the history of a game.
use Rattle.std.specs.Prelude.{◌≡◌, ℕ, List, [], ◌∷◌, ◌++◌, true, Some}
use Rattle.mj_ports.specs.declared.entry.Entry.{Entry}
use Rattle.mj_deeds.specs.declared.answer.Answer.{Answer}
use Rattle.mj_deeds.specs.declared.deed.Deed.{Deed}
use Rattle.mj_deeds.specs.Fits.{fits, all_fit}
use Rattle.mj_wall.specs.declared.setting.Setting.{Setting}
use Rattle.mj_rules.specs.Played.{AllLawful, IsPlayed}
use Rattle.mj_history.specs.After.{After, after, own_part, next_deed, answers_in, AreLawfulIn}
use Rattle.mj_history.specs.Legal.{IsLegal, is_permitted, says_in_form}
use Rattle.mj_history.specs.Arrivals.{setting_of, input_of}

-- The game that an input gives is legal, whatever the input.
abbrev pub ReadGamesAreLegal : Type 0
ReadGamesAreLegal = (input : List ℕ) → IsLegal (setting_of (input_of input).reading) (input_of input).reading.entries

-- The deeds of a legal game are played.
abbrev pub LegalGamesArePlayed : Type 0
LegalGamesArePlayed = (setting : Setting) (entries : List (Entry Answer)) → IsLegal setting entries → IsPlayed setting.rules setting.walls (after setting entries).deeds

-- Each answer in a slot of a legal game is lawful for its seat.
abbrev pub TakenAnswersAreLawful : Type 0
TakenAnswersAreLawful = (setting : Setting) (entries : List (Entry Answer)) → IsLegal setting entries → AreLawfulIn setting.rules (after setting entries).deeds (after setting entries).slots

-- What is true where a deed may be added: the deeds are played and the answers in the slots lawful, and so are all four with
-- the default answer in each empty slot.
pub record CanGoOn (setting : Setting) (now : After) : Type 0 where
  pub played : IsPlayed setting.rules setting.walls now.deeds
  pub taken : AreLawfulIn setting.rules now.deeds now.slots
  pub ready : AllLawful setting.rules now.deeds (answers_in setting.rules now.deeds now.slots)

-- So it is in a legal game once an entry whose answer is in form has changed what is its own seat's, whether or not that
-- entry is permitted.
abbrev pub OwnPartCanGoOn : Type 0
OwnPartCanGoOn =
    (setting : Setting) (entries : List (Entry Answer)) (entry : Entry Answer) → IsLegal setting entries → says_in_form entry ≡ true →
    CanGoOn setting (own_part setting (after setting entries) entry)

-- The deeds of a legal game are played with the deed that a permitted entry adds.
abbrev pub NextDeedIsPlayed : Type 0
NextDeedIsPlayed = (setting : Setting) (entries : List (Entry Answer)) (entry : Entry Answer) (d : Deed) → IsLegal setting entries → is_permitted setting (after setting entries) entry ≡ true →
    next_deed setting (own_part setting (after setting entries) entry) entry ≡ Some d → IsPlayed setting.rules setting.walls ((after setting entries).deeds ++ d ∷ [])

-- Every deed of a legal game fits after those before it.
abbrev pub LegalDeedsFit : Type 0
LegalDeedsFit = (setting : Setting) (entries : List (Entry Answer)) → IsLegal setting entries → all_fit setting.rules.red [] (after setting entries).deeds ≡ true

-- The deed that a permitted entry adds to a legal game fits after the game's deeds.
abbrev pub NextDeedFits : Type 0
NextDeedFits = (setting : Setting) (entries : List (Entry Answer)) (entry : Entry Answer) (d : Deed) → IsLegal setting entries → is_permitted setting (after setting entries) entry ≡ true →
    next_deed setting (own_part setting (after setting entries) entry) entry ≡ Some d → fits setting.rules.red (after setting entries).deeds d ≡ true
