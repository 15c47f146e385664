-- What words ask for.
use Rattle.std.specs.Prelude.{ℕ, ◌&&◌, nat_le, Bool, true, false, if◌then◌else◌, List, [], ◌∷◌, codes, bytes_eq, Option, Some, None, Result, Ok, Err, option_and_then}
use Rattle.hex.specs.Hex.{decode_sized}
use Rattle.mj_bytes.specs.Numbers.{decimal_of}
use Rattle.mj_words.specs.Lines.{referee_line, keep_line, serve_line, replay_line, hand_line, self_play_line, observe_line, safe_line, tables_line, is_taken, value_in, values_in}

-- What a game is served with: the 32 bytes of its seed, the limit of a window in milliseconds, the port, whether the draw
-- reasons are in force, and whether one five of each suit is red.
pub record ServedWith : Type 0 where
  pub seed : List ℕ
  pub limit : ℕ
  pub port : ℕ
  pub draws : Bool
  pub red : Bool

-- The referee of a seat, a game that is served, the summary of a record, the lines of the hand that further words name, the
-- self-played game of a number, the public view of a record, the referee of a seat whose game is kept on a disk, the kinds that are
-- safe for a seat, a game in each of some rooms, all of them served with the same, or nothing that there is.
pub data Asked : Type 0 where
  RefereeOf : (seat : ℕ) → Asked
  ServingOf : (with : ServedWith) → Asked
  SummaryOfRecord : Asked
  HandOf : (words : List (List ℕ)) → Asked
  SelfPlayOf : (number : ℕ) → Asked
  ViewOfRecord : Asked
  KeepOf : (seat : ℕ) → Asked
  SafeOf : (seat : ℕ) → Asked
  TablesOf : (rooms : ℕ) (with : ServedWith) → Asked
  Nothing : Asked

-- The seat that a word names.
abbrev pub seat_named : List ℕ → Option ℕ
seat_named word =
    if bytes_eq word (codes "0") then Some 0 else
    (if bytes_eq word (codes "1") then Some 1 else
    (if bytes_eq word (codes "2") then Some 2 else
    (if bytes_eq word (codes "3") then Some 3 else None)))

-- Words whose first is `referee` ask for the referee of the seat that their value names.
abbrev pub referee_by : Option ℕ → Asked
referee_by None = Nothing
referee_by (Some seat) = RefereeOf seat

abbrev pub referee_asked : List (List ℕ) → Asked
referee_asked words = referee_by (option_and_then seat_named (value_in referee_line (codes "seat") words))

-- Those whose first is `keep` ask for the kept game of that seat.
abbrev pub keep_by : Option ℕ → Asked
keep_by None = Nothing
keep_by (Some seat) = KeepOf seat

abbrev pub keep_asked : List (List ℕ) → Asked
keep_asked words = keep_by (option_and_then seat_named (value_in keep_line (codes "seat") words))

-- Those whose first is `safe` ask for the kinds that are safe for that seat.
abbrev pub safe_by : Option ℕ → Asked
safe_by None = Nothing
safe_by (Some seat) = SafeOf seat

abbrev pub safe_asked : List (List ℕ) → Asked
safe_asked words = safe_by (option_and_then seat_named (value_in safe_line (codes "seat") words))

-- The bytes that a word writes as 64 hex digits of either case, two a byte.
abbrev pub bytes_by : {E : Type 0} → Result (List ℕ) E → Option (List ℕ)
bytes_by (Ok bytes) = Some bytes
bytes_by (Err error) = None

abbrev pub seed_named : List ℕ → Option (List ℕ)
seed_named word = bytes_by (decode_sized word 32)

-- The number that a word writes in decimal digits without a leading zero, where it lies between two others.
abbrev pub within : ℕ → ℕ → ℕ → Option ℕ
within least most number = if (nat_le least number && nat_le number most) then Some number else None

abbrev pub number_named : ℕ → ℕ → List ℕ → Option ℕ
number_named least most word = option_and_then (within least most) (decimal_of word)

-- Those whose first is `serve` ask for the game of the seed, the limit and the port that their values name.
abbrev pub serving_by : Option (List ℕ) → Option ℕ → Option ℕ → Bool → Bool → Asked
serving_by None limit port draws red = Nothing
serving_by (Some seed) None port draws red = Nothing
serving_by (Some seed) (Some limit) None draws red = Nothing
serving_by (Some seed) (Some limit) (Some port) draws red = ServingOf (record { seed = seed; limit = limit; port = port; draws = draws; red = red })

abbrev pub is_on : Option (List ℕ) → Bool
is_on None = false
is_on (Some word) = bytes_eq word (codes "true")

abbrev pub serve_asked : List (List ℕ) → Asked
serve_asked words =
    serving_by (option_and_then seed_named (value_in serve_line (codes "seed") words))
    (option_and_then (number_named 1 3600000) (value_in serve_line (codes "limit") words))
    (option_and_then (number_named 1 65535) (value_in serve_line (codes "port") words))
    (is_on (value_in serve_line (codes "draws") words))
    (is_on (value_in serve_line (codes "red") words))

-- Those whose first is `replay` ask for the summary of a record.
abbrev pub replay_by : Bool → Asked
replay_by false = Nothing
replay_by true = SummaryOfRecord

abbrev pub replay_asked : List (List ℕ) → Asked
replay_asked words = replay_by (is_taken replay_line words)

-- Those whose first is `hand` ask for the lines of the hand that their values name.
abbrev pub hand_by : Option (List (List ℕ)) → Asked
hand_by None = Nothing
hand_by (Some words) = HandOf words

abbrev pub hand_asked : List (List ℕ) → Asked
hand_asked words = hand_by (values_in hand_line (codes "words") words)

-- Those whose first is `selfplay` ask for the game of the number that their value writes in decimal digits, below 2^64 and
-- without a leading zero.
abbrev pub self_play_by : Option ℕ → Asked
self_play_by None = Nothing
self_play_by (Some number) = SelfPlayOf number

abbrev pub self_play_asked : List (List ℕ) → Asked
self_play_asked words = self_play_by (option_and_then decimal_of (value_in self_play_line (codes "n") words))

-- Those whose first is `observe` ask for the public view of a record.
abbrev pub observe_by : Bool → Asked
observe_by false = Nothing
observe_by true = ViewOfRecord

abbrev pub observe_asked : List (List ℕ) → Asked
observe_asked words = observe_by (is_taken observe_line words)

-- Those whose first is `tables` ask for games in as many rooms as their value names, 1 to 8, of the seed, the limit and the port
-- that their other values name.
abbrev pub tables_by : Option ℕ → Option (List ℕ) → Option ℕ → Option ℕ → Bool → Bool → Asked
tables_by None seed limit port draws red = Nothing
tables_by (Some rooms) None limit port draws red = Nothing
tables_by (Some rooms) (Some seed) None port draws red = Nothing
tables_by (Some rooms) (Some seed) (Some limit) None draws red = Nothing
tables_by (Some rooms) (Some seed) (Some limit) (Some port) draws red = TablesOf rooms (record { seed = seed; limit = limit; port = port; draws = draws; red = red })

abbrev pub tables_asked : List (List ℕ) → Asked
tables_asked words =
    tables_by (option_and_then (number_named 1 8) (value_in tables_line (codes "rooms") words))
    (option_and_then seed_named (value_in tables_line (codes "seed") words))
    (option_and_then (number_named 1 3600000) (value_in tables_line (codes "limit") words))
    (option_and_then (number_named 1 65535) (value_in tables_line (codes "port") words))
    (is_on (value_in tables_line (codes "draws") words))
    (is_on (value_in tables_line (codes "red") words))

-- Other words ask for nothing, and so do words that clap refuses.
abbrev pub asked_by : List (List ℕ) → Asked
asked_by [] = Nothing
asked_by (command ∷ words) =
    if bytes_eq command (codes "referee") then referee_asked (command ∷ words) else
    (if bytes_eq command (codes "serve") then serve_asked (command ∷ words) else
    (if bytes_eq command (codes "replay") then replay_asked (command ∷ words) else
    (if bytes_eq command (codes "hand") then hand_asked (command ∷ words) else
    (if bytes_eq command (codes "selfplay") then self_play_asked (command ∷ words) else
    (if bytes_eq command (codes "observe") then observe_asked (command ∷ words) else
    (if bytes_eq command (codes "keep") then keep_asked (command ∷ words) else
    (if bytes_eq command (codes "safe") then safe_asked (command ∷ words) else
    (if bytes_eq command (codes "tables") then tables_asked (command ∷ words) else Nothing))))))))
