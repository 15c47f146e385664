use Rattle.std.proofs.Common.{refl}
use Rattle.clap.proofs.OnLiterals.{clap_on_literals}
use Rattle.hex.proofs.OnLiterals.{hex_on_literals}
use Rattle.mj_words.specs.Lines.{referee_line, keep_line, serve_line, replay_line, hand_line, self_play_line, observe_line, safe_line, tables_line, is_taken, value_in, values_in}
use Rattle.mj_words.proofs.laws.words_are_read.Goals as goal

pub returns : goal.returns
unfolding clap_on_literals hex_on_literals referee_line keep_line serve_line replay_line hand_line self_play_line observe_line safe_line tables_line is_taken value_in values_in
returns c = record {
  none = refl;
  no_command = refl;
  referee = refl;
  referee_marked = refl;
  referee_of_none = refl;
  referee_of_two = refl;
  referee_of_the_fifth = refl;
  referee_with_help = refl;
  serve = refl;
  serve_with_all = refl;
  serve_with_red_fives = refl;
  serve_of_none = refl;
  serve_of_a_shorter_seed = refl;
  serve_without_a_limit = refl;
  serve_with_a_longer_limit = refl;
  serve_at_no_port = refl;
  serve_at_a_higher_port = refl;
  serve_twice = refl;
  serve_with_a_value = refl;
  serve_of_a_word = refl;
  replay = refl;
  replay_of_a_word = refl;
  replay_with_help = refl;
  hand = refl;
  hand_marked = refl;
  hand_of_none = refl;
  hand_with_an_option = refl;
  self_play = refl;
  keep = refl;
  keep_of_none = refl;
  keep_of_the_fifth = refl;
  self_play_of_none = refl;
  self_play_of_a_longer_number = refl;
  safe = refl;
  safe_of_none = refl;
  safe_of_the_fifth = refl;
  tables = refl;
  tables_with_all = refl;
  tables_without_rooms = refl;
  tables_of_no_room = refl;
  tables_of_nine_rooms = refl;
  tables_of_a_longer_number = refl;
  tables_twice = refl;
  tables_without_a_seed = refl;
  serve_with_rooms = refl;
  observe = refl;
  observe_of_a_seat = refl;
}
