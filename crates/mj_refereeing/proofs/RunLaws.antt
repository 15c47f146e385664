-- What is written of what is asked of a game for a seat.
use Rattle.std.proofs.Common.{◌≡◌, ℕ, ◌<◌, ◌≤◌, cond, eqb, List, [], ◌∷◌, ◌++◌, sym, subst, arith}
use Rattle.std.specs.Prelude.{Option, codes, flat_map}
use Rattle.std.specs.Io.KnownBytes.{Appends}
use Rattle.mj_links.specs.Sinks.{WritesPrefix}
use Rattle.mj_history.specs.Arrivals.{input_of, game_of}
use Rattle.mj_bytes.specs.Numbers.{number_text}
use Rattle.mj_hand.specs.Text.{kinds_or_dash}
use Rattle.mj_wall.specs.declared.setting.Rules.{Rules}
use Rattle.mj_history.specs.After.{After, after}
use Rattle.mj_secrecy.specs.Follows.{SameFacts}
use Rattle.mj_secrecy.proofs.Follows.{same_facts}
use Rattle.mj_secrecy.proofs.Safer.{safe_in_every_game}
use Rattle.mj_secrecy.proofs.OneWorld.{agreeing_scripts}
use Rattle.mj_history.proofs.Legality.{read_game_is_legal}
use Rattle.mj_history.proofs.Fitting.{legal_games_are_played}
use Rattle.mj_history.proofs.Windows.{windows_decide}
use Rattle.mj_refereeing.specs.declared.intake.End.{End}
use Rattle.mj_refereeing.specs.declared.intake.Question.{Question}
use Rattle.mj_refereeing.specs.declared.intake.Question.TheVariants.{Script, SafeKinds}
use Rattle.mj_refereeing.specs.Inner.Intake.{Tells}
use Rattle.mj_refereeing.specs.Questions.{said_by}
use Rattle.mj_refereeing.specs.Safe.{IsSafeTold, safe_text}
use Rattle.mj_refereeing.specs.Referee.{IsTold, TellsAll, ending}

-- the bytes that the seat is told are written, whole or in part
pub told : (IsWritten : List ℕ → Type 0) (seat : ℕ) (input bytes : List ℕ) (end : End) → Tells Script (input_of input) seat end bytes →
    IsWritten bytes → IsTold IsWritten seat (game_of (input_of input).reading)
told IsWritten seat input bytes end tells written =
    let game = game_of (input_of input).reading in
    let legal = read_game_is_legal input in
    record {
      bytes = subst IsWritten tells.told written;
      same = λ other agree. sym (agreeing_scripts seat game other agree);
      legal = legal;
      played = legal_games_are_played game.setting game.entries legal;
      decided = windows_decide game.setting game.entries legal;
    }

-- The lines on the others are the same where a seat that is one of the four learns the same.
same-lines : (seat : ℕ) (rules others : Rules) (one other : After) → SameFacts seat rules others one other → safe_text one.deeds seat ≡ safe_text other.deeds seat
same-lines seat rules others one other facts = λ i.
    cond (facts.discards i)
    (flat_map (λ against. cond (eqb against seat) [] (codes "against " ++ (number_text against ++ (kinds_or_dash (facts.safe_kinds against i) ++ codes "\n")))) (0 ∷ 1 ∷ 2 ∷ 3 ∷ []))
    (codes "not to discard\n")

-- the kinds that are safe for the seat are written, whole or in part
safe-told : (IsWritten : List ℕ → Type 0) (seat : ℕ) (input bytes : List ℕ) (end : End) → seat ≤ 3 → Tells SafeKinds (input_of input) seat end bytes →
    IsWritten bytes → IsSafeTold IsWritten seat (game_of (input_of input).reading)
safe-told IsWritten seat input bytes end low tells written =
    let game = game_of (input_of input).reading in
    let legal = read_game_is_legal input in
    let small : seat < 4 = omega (arith, low) in
    record {
      bytes = subst IsWritten tells.told written;
      same = λ other agree. sym (same-lines seat game.setting.rules other.setting.rules (after game.setting game.entries) (after other.setting other.entries) (same_facts seat game other small agree));
      safe = λ against reason other later tile drawn answer within goes win lawful. safe_in_every_game seat against reason game other later tile drawn answer small within goes win lawful;
      legal = legal;
      played = legal_games_are_played game.setting game.entries legal;
    }

said : (question : Question) (IsWritten : List ℕ → Type 0) (seat : ℕ) (input bytes : List ℕ) (end : End) → seat ≤ 3 → Tells question (input_of input) seat end bytes → IsWritten bytes →
    said_by question IsWritten seat (game_of (input_of input).reading)
said Script IsWritten seat input bytes end low tells written = told IsWritten seat input bytes end tells written
said SafeKinds IsWritten seat input bytes end low tells written = safe-told IsWritten seat input bytes end low tells written

-- what is asked is written whole
pub said-all : (question : Question) (seat : ℕ) (input bytes : List ℕ) (end : End) (old new : Option (List ℕ)) → seat ≤ 3 → Tells question (input_of input) seat end bytes → Appends old new bytes →
    TellsAll (said_by question) (ending end) seat input old new
said-all question seat input bytes end old new low tells written = record { ends = tells.ends; told = said question (Appends old new) seat input bytes end low tells written }

-- a part of it is written
pub said-part : (question : Question) (seat : ℕ) (input bytes : List ℕ) (end : End) (old new : Option (List ℕ)) → seat ≤ 3 →
    Tells question (input_of input) seat end bytes → WritesPrefix old new bytes →
    said_by question (WritesPrefix old new) seat (game_of (input_of input).reading)
said-part question seat input bytes end old new low tells written = said question (WritesPrefix old new) seat input bytes end low tells written
