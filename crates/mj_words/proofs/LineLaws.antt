-- What clap reads in words, by its own definitions.
use Rattle.std.proofs.Common.{◌≡◌, ℕ, List, [], ◌∷◌, true, false, refl, ap, ap₂, sym, subst, ◌∙◌, inl, inr}
use Rattle.std.specs.Prelude.{Option, Some, None, is_some, option_map, IsSomeAnd}
use Rattle.std.proofs.lemmas.Bool.{and_parts}
use Rattle.clap.specs.Lexer.{usize_max}
use Rattle.clap.specs.Words.{AddsArg, App, HasKind, HasMatchesOf, Kinds, Rule, all_of, app_of, fault_of, first_of, first_value, found_of}
use Rattle.clap.specs.Words.{is_simple, is_simple_and_free, kind_of, matched_of, new_app, raw_values, rule_of, with_rule}
use Rattle.clap.specs.Simple.{built}
use Rattle.clap.specs.Faults.{is_free_app}
use Rattle.clap.specs.declared.builder.arg.Arg.{Arg}
use Rattle.clap.specs.declared.builder.command.Command.{Command}
use Rattle.clap.specs.declared.builder.range.ValueRange.{ValueRange}
use Rattle.clap.specs.declared.error.Error.{Error}
use Rattle.clap.specs.declared.error.kind.ErrorKind.TheVariants.{OutOfMemory}
use Rattle.clap.specs.declared.parser.matches.ArgMatches.{ArgMatches}
use Rattle.clap.proofs.OnLiterals.{clap_on_literals}
use Rattle.clap.proofs.WalkLemmas.{first_value-rows, raw_values-rows}
use Rattle.mj_words.specs.Lines.{wanted, wanted_often, serve_line, tables_line, replay_line, hand_line, observe_line, are_none, is_taken, value_in, values_in}
use Rattle.mj_words.specs.Inner.Parsing.{IsParse, Says}

-- Each line is simple: clap's definitions tell its matches and its faults.
pub serve_is_simple : is_simple_and_free serve_line ≡ true
unfolding clap_on_literals serve_line
serve_is_simple = refl

pub tables_is_simple : is_simple_and_free tables_line ≡ true
unfolding clap_on_literals tables_line
tables_is_simple = refl

pub replay_is_simple : is_simple_and_free replay_line ≡ true
unfolding clap_on_literals replay_line
replay_is_simple = refl

pub hand_is_simple : is_simple_and_free hand_line ≡ true
unfolding clap_on_literals hand_line
hand_is_simple = refl

pub observe_is_simple : is_simple_and_free observe_line ≡ true
unfolding clap_on_literals observe_line
observe_is_simple = refl

-- A command to which one argument more is added, and one to which the first is.
pub with_more : (start command : Command) (arg : Arg) (line : App) (rule : Rule) → app_of start ≡ line → rule_of arg ≡ rule → arg.global ≡ false → AddsArg start arg command
    → app_of command ≡ with_rule line rule
with_more start command arg line rule s r g added = added.shape g ∙ ap₂ with_rule s r

pub with_one : (start command : Command) (arg : Arg) (name : List ℕ) (rule : Rule) → app_of start ≡ new_app name → rule_of arg ≡ rule → arg.global ≡ false → AddsArg start arg command
    → app_of command ≡ with_rule (new_app name) rule
with_one start command arg name rule s r g added = with_more start command arg (new_app name) rule s r g added

-- An argument of one value or more.
some_range : (o : Option ValueRange) (range : ValueRange) → IsSomeAnd o (λ r. r ≡ range) → o ≡ Some range
some_range None range h = absurd h
some_range (Some r) range h = ap Some h

abbrev from_one : ValueRange
from_one = record { start_inclusive = 1; end_inclusive = usize_max }

pub often : (old arg : Arg) (id : List ℕ) → rule_of old ≡ wanted id → (arg ≡ record old { num_vals = arg.num_vals }) × IsSomeAnd arg.num_vals (λ r. r ≡ from_one) → rule_of arg ≡ wanted_often id
often old arg id r h = ap rule_of h.0 ∙ ap₂ (λ (rule : Rule) (range : Option ValueRange). record rule { range = range }) r (some_range arg.num_vals from_one h.1)

-- What clap takes, it reads as it says.
pub parse_found : (line : App) (words : List (List ℕ)) (found : ArgMatches) → is_simple_and_free line ≡ true → fault_of line words ≡ [] → HasMatchesOf line words found → IsParse line words found
unfolding is_taken
parse_found line words found simple none has = record {
  taken = ap are_none none;
  rows = (has (and_parts (is_simple line) (is_free_app (built line)) simple).0).0;
}

-- What it refuses for another cause than memory has a fault.
some_fault : (kinds : Kinds) (error : Error) → (kind_of error ≡ OutOfMemory → ⊥) → HasKind kinds error → are_none kinds ≡ false
some_fault kinds error other (inl memory) = absurd (other memory)
some_fault [] error other (inr among) = absurd among
some_fault (kind ∷ kinds) error other (inr among) = refl

pub parse_refused : (line : App) (words : List (List ℕ)) (error : Error) → (kind_of error ≡ OutOfMemory → ⊥) → HasKind (fault_of line words) error → is_taken line words ≡ false
unfolding is_taken
parse_refused line words error other kinds = some_fault (fault_of line words) error other kinds

-- The value of an argument is the one that is found.
pub value_found : (line : App) (name : List ℕ) (words : List (List ℕ)) (said : Option ArgMatches) (found : ArgMatches) (value : Option (List ℕ)) →
    said ≡ Some found → value ≡ first_value (found_of found) name → Says line words said → value ≡ value_in line name words
unfolding value_in
value_found line name words said found value is e says =
    let p : IsParse line words found = subst (λ (o : Option ArgMatches). Says line words o) is says in
    rw p.taken (e ∙ first_value-rows (found_of found) name ∙ ap (first_of name) p.rows)

pub value_refused : (line : App) (name : List ℕ) (words : List (List ℕ)) (said : Option ArgMatches) → said ≡ None → Says line words said → None ≡ value_in line name words
unfolding value_in
value_refused line name words said is says =
    let refused : is_taken line words ≡ false = subst (λ (o : Option ArgMatches). Says line words o) is says in
    rw refused refl

-- So are all of them.
pub values_found : (line app : App) (name : List ℕ) (words : List (List ℕ)) (said : Option ArgMatches) (found : ArgMatches) (values : Option (List (List ℕ))) →
    app ≡ line → Says app words said → said ≡ Some found → values ≡ option_map raw_values (matched_of (found_of found) name) → values ≡ values_in line name words
unfolding values_in
values_found line app name words said found values same says is e =
    let p : IsParse line words found = subst (λ (o : Option ArgMatches). Says line words o) is (subst (λ (a : App). Says a words said) same says) in
    rw p.taken (e ∙ raw_values-rows (found_of found) name ∙ ap (all_of name) p.rows)

pub values_refused : (line app : App) (name : List ℕ) (words : List (List ℕ)) (said : Option ArgMatches) → app ≡ line → Says app words said → said ≡ None → None ≡ values_in line name words
unfolding values_in
values_refused line app name words said same says is =
    let refused : is_taken line words ≡ false = subst (λ (o : Option ArgMatches). Says line words o) is (subst (λ (a : App). Says a words said) same says) in
    rw refused refl

-- Whether clap takes them.
pub taken_by : (line app : App) (words : List (List ℕ)) (said : Option ArgMatches) → app ≡ line → Says app words said → is_some said ≡ is_taken line words
taken_by line app words None same says = sym (subst (λ (a : App). is_taken a words ≡ false) same says)
taken_by line app words (Some found) same says = sym (subst (λ (a : App). is_taken a words ≡ true) same says.taken)
