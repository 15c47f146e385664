-- What clap found in words.
use Rattle.std.specs.Prelude.{◌≡◌, ℕ, true, false, List, codes, Option, MatchOption, option_map, option_and_then}
use Rattle.clap.specs.Words.{App, Rule, found_of, matches_of, rows_of, rule_of, with_rule}
use Rattle.clap.specs.declared.builder.arg.Arg.{Arg}
use Rattle.clap.specs.declared.parser.matches.ArgMatches.{ArgMatches}
use Rattle.mj_words.specs.declared.parsing.ServeWords.{ServeWords}
use Rattle.mj_words.specs.declared.parsing.TablesWords.{TablesWords}
use Rattle.mj_words.specs.Lines.{option_or, flag, tables_line, is_taken, value_in}
use Rattle.mj_words.specs.Asked.{Asked, seed_named, number_named, is_on, serving_by, tables_by}

-- An argument of one command, by what clap reads of it.
abbrev pub Reads : Arg → Rule → Type 0
Reads arg rule = (rule_of arg ≡ rule) × (arg.global ≡ false)

-- A line, and after it what the lines of `serve` and of `tables` end with.
abbrev pub with_settings : App → App
with_settings line =
    with_rule (with_rule (with_rule (with_rule line
    (option_or (codes "limit") (codes "10000"))) (option_or (codes "port") (codes "11600"))) (flag (codes "draws"))) (flag (codes "red"))

-- It takes the words, and found what they have.
pub record IsParse (line : App) (words : List (List ℕ)) (found : ArgMatches) : Type 0 where
  pub taken : is_taken line words ≡ true
  pub rows : rows_of (found_of found) ≡ matches_of line words

-- What clap says of words: nothing where it refuses them, else what it found.
abbrev pub Says : App → List (List ℕ) → Option ArgMatches → Type 0
Says line words found = MatchOption found (is_taken line words ≡ false) (IsParse line words)

-- The values of the options and of the flags that `serve` and `tables` have in common, where a line takes the words.
pub record HasServeWords (line : App) (found : ServeWords) (words : List (List ℕ)) : Type 0 where
  pub seed : option_map (λ w. w.now) found.seed ≡ value_in line (codes "seed") words
  pub limit : option_map (λ w. w.now) found.limit ≡ value_in line (codes "limit") words
  pub port : option_map (λ w. w.now) found.port ≡ value_in line (codes "port") words
  pub draws : option_map (λ w. w.now) found.draws ≡ value_in line (codes "draws") words
  pub red : option_map (λ w. w.now) found.red ≡ value_in line (codes "red") words

-- Those of `tables`.
pub record HasTablesWords (found : TablesWords) (words : List (List ℕ)) : Type 0 where
  pub rooms : option_map (λ w. w.now) found.rooms ≡ value_in tables_line (codes "rooms") words
  pub serving : HasServeWords tables_line found.serving words

-- What they ask for.
abbrev pub serving_of_words : ServeWords → Asked
serving_of_words found =
    serving_by (option_and_then seed_named (option_map (λ w. w.now) found.seed))
    (option_and_then (number_named 1 3600000) (option_map (λ w. w.now) found.limit))
    (option_and_then (number_named 1 65535) (option_map (λ w. w.now) found.port))
    (is_on (option_map (λ w. w.now) found.draws))
    (is_on (option_map (λ w. w.now) found.red))

abbrev pub tables_of_words : TablesWords → Asked
tables_of_words found =
    tables_by (option_and_then (number_named 1 8) (option_map (λ w. w.now) found.rooms))
    (option_and_then seed_named (option_map (λ w. w.now) found.serving.seed))
    (option_and_then (number_named 1 3600000) (option_map (λ w. w.now) found.serving.limit))
    (option_and_then (number_named 1 65535) (option_map (λ w. w.now) found.serving.port))
    (is_on (option_map (λ w. w.now) found.serving.draws))
    (is_on (option_map (λ w. w.now) found.serving.red))
