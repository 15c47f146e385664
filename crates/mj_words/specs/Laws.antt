-- Some words, and what they ask for.
use Rattle.std.specs.Prelude.{◌≡◌, ℕ, ◌==◌, Bool, true, false, not, List, [], ◌∷◌, ◌++◌, replicate, codes, Some}
use Rattle.mj_words.specs.Lines.{referee_line, self_play_line, value_in}
use Rattle.mj_words.specs.Asked.{asked_by, RefereeOf, ServingOf, SummaryOfRecord, HandOf, SelfPlayOf, ViewOfRecord, KeepOf, SafeOf, TablesOf, Nothing}

-- A seed of 32 bytes, of which the last two are 170 and 255, and the word that names it.
abbrev pub some_hex : List ℕ
some_hex = codes "000000000000000000000000000000000000000000000000000000000000aaFf"

abbrev pub some_seed : List ℕ
some_seed = replicate 30 0 ++ 170 ∷ 255 ∷ []

-- Each command has its words and no others; a word that begins with a hyphen is a value after `--` alone.
pub record WordsAreRead : Type 0 where
  pub none : asked_by [] ≡ Nothing
  pub no_command : asked_by (codes "judge" ∷ codes "0" ∷ []) ≡ Nothing
  pub referee : asked_by (codes "referee" ∷ codes "3" ∷ []) ≡ RefereeOf 3
  pub referee_marked : asked_by (codes "referee" ∷ codes "--" ∷ codes "3" ∷ []) ≡ RefereeOf 3
  pub referee_of_none : asked_by (codes "referee" ∷ []) ≡ Nothing
  pub referee_of_two : asked_by (codes "referee" ∷ codes "0" ∷ codes "1" ∷ []) ≡ Nothing
  pub referee_of_the_fifth : asked_by (codes "referee" ∷ codes "4" ∷ []) ≡ Nothing
  pub referee_with_help : asked_by (codes "referee" ∷ codes "0" ∷ codes "--help" ∷ []) ≡ Nothing
  pub serve : asked_by (codes "serve" ∷ codes "--seed" ∷ some_hex ∷ []) ≡ ServingOf (record { seed = some_seed; limit = 10000; port = 11600; draws = false; red = false })
  pub serve_with_all :
      asked_by (codes "serve" ∷ codes "--draws" ∷ codes "--red" ∷ codes "--port=65535" ∷ codes "--limit" ∷ codes "3600000" ∷ codes "--seed" ∷ some_hex ∷ [])
      ≡ ServingOf (record { seed = some_seed; limit = 3600000; port = 65535; draws = true; red = true })
  pub serve_with_red_fives : asked_by (codes "serve" ∷ codes "--seed" ∷ some_hex ∷ codes "--red" ∷ []) ≡ ServingOf (record { seed = some_seed; limit = 10000; port = 11600; draws = false; red = true })
  pub serve_of_none : asked_by (codes "serve" ∷ []) ≡ Nothing
  pub serve_of_a_shorter_seed : asked_by (codes "serve" ∷ codes "--seed" ∷ codes "07" ∷ []) ≡ Nothing
  pub serve_without_a_limit : asked_by (codes "serve" ∷ codes "--seed" ∷ some_hex ∷ codes "--limit" ∷ codes "0" ∷ []) ≡ Nothing
  pub serve_with_a_longer_limit : asked_by (codes "serve" ∷ codes "--seed" ∷ some_hex ∷ codes "--limit" ∷ codes "3600001" ∷ []) ≡ Nothing
  pub serve_at_no_port : asked_by (codes "serve" ∷ codes "--seed" ∷ some_hex ∷ codes "--port" ∷ codes "0" ∷ []) ≡ Nothing
  pub serve_at_a_higher_port : asked_by (codes "serve" ∷ codes "--seed" ∷ some_hex ∷ codes "--port" ∷ codes "65536" ∷ []) ≡ Nothing
  pub serve_twice : asked_by (codes "serve" ∷ codes "--seed" ∷ some_hex ∷ codes "--draws" ∷ codes "--draws" ∷ []) ≡ Nothing
  pub serve_with_a_value : asked_by (codes "serve" ∷ codes "--seed" ∷ some_hex ∷ codes "--draws=true" ∷ []) ≡ Nothing
  pub serve_of_a_word : asked_by (codes "serve" ∷ codes "--seed" ∷ some_hex ∷ codes "0" ∷ []) ≡ Nothing
  pub replay : asked_by (codes "replay" ∷ []) ≡ SummaryOfRecord
  pub replay_of_a_word : asked_by (codes "replay" ∷ codes "0" ∷ []) ≡ Nothing
  pub replay_with_help : asked_by (codes "replay" ∷ codes "-h" ∷ []) ≡ Nothing
  pub hand : asked_by (codes "hand" ∷ codes "1m" ∷ codes "E" ∷ []) ≡ HandOf (codes "1m" ∷ codes "E" ∷ [])
  pub hand_marked : asked_by (codes "hand" ∷ codes "1m" ∷ codes "--" ∷ codes "-E" ∷ []) ≡ HandOf (codes "1m" ∷ codes "-E" ∷ [])
  pub hand_of_none : asked_by (codes "hand" ∷ []) ≡ Nothing
  pub hand_with_an_option : asked_by (codes "hand" ∷ codes "1m" ∷ codes "-E" ∷ []) ≡ Nothing
  pub self_play : asked_by (codes "selfplay" ∷ codes "70" ∷ []) ≡ SelfPlayOf 70
  pub keep : asked_by (codes "keep" ∷ codes "2" ∷ []) ≡ KeepOf 2
  pub keep_of_none : asked_by (codes "keep" ∷ []) ≡ Nothing
  pub keep_of_the_fifth : asked_by (codes "keep" ∷ codes "4" ∷ []) ≡ Nothing
  pub self_play_of_none : asked_by (codes "selfplay" ∷ []) ≡ Nothing
  pub self_play_of_a_longer_number : asked_by (codes "selfplay" ∷ codes "07" ∷ []) ≡ Nothing
  pub observe : asked_by (codes "observe" ∷ []) ≡ ViewOfRecord
  pub observe_of_a_seat : asked_by (codes "observe" ∷ codes "0" ∷ []) ≡ Nothing
  pub safe : asked_by (codes "safe" ∷ codes "2" ∷ []) ≡ SafeOf 2
  pub safe_of_none : asked_by (codes "safe" ∷ []) ≡ Nothing
  pub safe_of_the_fifth : asked_by (codes "safe" ∷ codes "4" ∷ []) ≡ Nothing
  pub tables : asked_by (codes "tables" ∷ codes "--seed" ∷ some_hex ∷ codes "--rooms" ∷ codes "2" ∷ []) ≡ TablesOf 2
      (record { seed = some_seed; limit = 10000; port = 11600; draws = false; red = false })
  pub tables_with_all :
      asked_by (codes "tables" ∷ codes "--red" ∷ codes "--rooms=8" ∷ codes "--draws" ∷ codes "--port" ∷ codes "65535" ∷ codes "--limit=3600000" ∷ codes "--seed" ∷ some_hex ∷ [])
      ≡ TablesOf 8 (record { seed = some_seed; limit = 3600000; port = 65535; draws = true; red = true })
  pub tables_without_rooms : asked_by (codes "tables" ∷ codes "--seed" ∷ some_hex ∷ []) ≡ Nothing
  pub tables_of_no_room : asked_by (codes "tables" ∷ codes "--seed" ∷ some_hex ∷ codes "--rooms" ∷ codes "0" ∷ []) ≡ Nothing
  pub tables_of_nine_rooms : asked_by (codes "tables" ∷ codes "--seed" ∷ some_hex ∷ codes "--rooms" ∷ codes "9" ∷ []) ≡ Nothing
  pub tables_of_a_longer_number : asked_by (codes "tables" ∷ codes "--seed" ∷ some_hex ∷ codes "--rooms" ∷ codes "02" ∷ []) ≡ Nothing
  pub tables_twice : asked_by (codes "tables" ∷ codes "--seed" ∷ some_hex ∷ codes "--rooms" ∷ codes "2" ∷ codes "--rooms" ∷ codes "2" ∷ []) ≡ Nothing
  pub tables_without_a_seed : asked_by (codes "tables" ∷ codes "--rooms" ∷ codes "2" ∷ []) ≡ Nothing
  pub serve_with_rooms : asked_by (codes "serve" ∷ codes "--seed" ∷ some_hex ∷ codes "--rooms" ∷ codes "2" ∷ []) ≡ Nothing

-- A word doesn't begin with a hyphen.
abbrev pub is_plain : List ℕ → Bool
is_plain [] = true
is_plain (byte ∷ bytes) = not (byte == 45)

-- Such a word is a value, and so is any word after `--`.
pub record PlainWordsAreValues : Type 0 where
  pub seats : (word : List ℕ) → is_plain word ≡ true → value_in referee_line (codes "seat") (codes "referee" ∷ word ∷ []) ≡ Some word
  pub marked_seats : (word : List ℕ) → value_in referee_line (codes "seat") (codes "referee" ∷ codes "--" ∷ word ∷ []) ≡ Some word
  pub numbers : (word : List ℕ) → is_plain word ≡ true → value_in self_play_line (codes "n") (codes "selfplay" ∷ word ∷ []) ≡ Some word
  pub marked_numbers : (word : List ℕ) → value_in self_play_line (codes "n") (codes "selfplay" ∷ codes "--" ∷ word ∷ []) ≡ Some word
