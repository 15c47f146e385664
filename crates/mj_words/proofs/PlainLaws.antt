-- Words that are values as they stand.
use Rattle.std.proofs.Common.{◌≡◌, ℕ, ◌==◌, Bool, true, false, not, List, [], ◌∷◌, refl, codes}
use Rattle.std.specs.Prelude.{Some, None}
use Rattle.clap.specs.Lexer.{short_of}
use Rattle.clap.proofs.OnLiterals.{clap_on_literals}
use Rattle.mj_words.specs.Lines.{referee_line, self_play_line, is_taken, value_in}
use Rattle.mj_words.specs.Laws.{is_plain}

turned : (b : Bool) → not b ≡ true → b ≡ false
turned true h = cc
turned false h = refl

no_short : (byte : ℕ) (bytes : List ℕ) → (byte == 45) ≡ false → short_of (byte ∷ bytes) ≡ None
no_short byte bytes other = rw other refl

pub seat : (word : List ℕ) → is_plain word ≡ true → value_in referee_line (codes "seat") (codes "referee" ∷ word ∷ []) ≡ Some word
unfolding clap_on_literals referee_line is_taken value_in
seat [] plain = refl
seat (byte ∷ bytes) plain = rw (turned (byte == 45) plain, no_short byte bytes (turned (byte == 45) plain)) refl

pub marked_seat : (word : List ℕ) → value_in referee_line (codes "seat") (codes "referee" ∷ codes "--" ∷ word ∷ []) ≡ Some word
unfolding clap_on_literals referee_line is_taken value_in
marked_seat word = refl

pub number : (word : List ℕ) → is_plain word ≡ true → value_in self_play_line (codes "n") (codes "selfplay" ∷ word ∷ []) ≡ Some word
unfolding clap_on_literals self_play_line is_taken value_in
number [] plain = refl
number (byte ∷ bytes) plain = rw (turned (byte == 45) plain, no_short byte bytes (turned (byte == 45) plain)) refl

pub marked_number : (word : List ℕ) → value_in self_play_line (codes "n") (codes "selfplay" ∷ codes "--" ∷ word ∷ []) ≡ Some word
unfolding clap_on_literals self_play_line is_taken value_in
marked_number word = refl
