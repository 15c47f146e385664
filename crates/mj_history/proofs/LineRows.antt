-- Lines as two seats are told them, by computing.
use Rattle.std.proofs.Common.{◌≡◌, refl, lit<}
use Rattle.std.specs.Prelude.{codes, false}
use Rattle.std.proofs.lemmas.Fmt.{decimal_digit}
use Rattle.mj_tiles.specs.Faces.{texts, text_of, tile_order, less}
use Rattle.mj_tiles.specs.Counts.{all_kinds, kind_counts, room_beside}
use Rattle.mj_tiles.specs.Terminals.{is_terminal_or_honour}
use Rattle.mj_readings.specs.Complete.{is_seven_pairs}
use Rattle.mj_readings.specs.Sets.{begins_run}
use Rattle.mj_readings.specs.Inner.Ways.{has_way}
use Rattle.mj_readings.specs.Tests.{complete, orphan_double, has_orphans}
use Rattle.mj_waits.specs.Waits.{is_ready}
use Rattle.mj_deeds.specs.Hand.{hand}
use Rattle.mj_deeds.specs.declared.deed.Deed.TheVariants.{Draw}
use Rattle.mj_rules.specs.View.{view_of}
use Rattle.mj_rules.specs.Wins.{case_of}
use Rattle.mj_rules.specs.Broken.{broken_by, is_ready_without}
use Rattle.mj_rules.specs.Possible.{possible_by, is_lawful, faces_of, all_discards, all_closed_kans, all_added_kans}
use Rattle.mj_rules.specs.Example.{plain_rules, first_draw}
use Rattle.mj_forms.specs.Lines.{bracketed, quoted_tile, hidden_tile, draw_line}
use Rattle.mj_forms.specs.Choices.{actor_field, pai_field, consumed_field, tsumogiri_field, type_field, possible_text, line_with}
use Rattle.mj_history.specs.SeatLines.{seat_line}

-- The dealer sees the first tile that it draws; it may discard, show a kan of four concealed tiles, or declare riichi.
dealer_is_told :
    seat_line plain_rules first_draw 0 (Draw 0 13 false)
    ≡ codes "{\"type\":\"tsumo\",\"actor\":0,\"pai\":\"5p\",\"possible_actions\":[{\"type\":\"dahai\",\"actor\":0,\"pai\":\"1m\",\"tsumogiri\":false},{\"type\":\"dahai\",\"actor\":0,\"pai\":\"2m\",\"tsumogiri\":false},{\"type\":\"dahai\",\"actor\":0,\"pai\":\"3m\",\"tsumogiri\":false},{\"type\":\"dahai\",\"actor\":0,\"pai\":\"4m\",\"tsumogiri\":false},{\"type\":\"dahai\",\"actor\":0,\"pai\":\"5p\",\"tsumogiri\":true},{\"type\":\"ankan\",\"actor\":0,\"consumed\":[\"1m\",\"1m\",\"1m\",\"1m\"]},{\"type\":\"ankan\",\"actor\":0,\"consumed\":[\"2m\",\"2m\",\"2m\",\"2m\"]},{\"type\":\"ankan\",\"actor\":0,\"consumed\":[\"3m\",\"3m\",\"3m\",\"3m\"]},{\"type\":\"reach\",\"actor\":0}]}\n"
unfolding texts text_of bracketed quoted_tile hidden_tile draw_line actor_field pai_field consumed_field tsumogiri_field type_field possible_text
    line_with possible_by is_lawful broken_by view_of is_ready_without faces_of all_discards all_closed_kans all_added_kans tile_order less
    kind_counts all_kinds room_beside hand is_ready complete has_way begins_run is_seven_pairs orphan_double has_orphans is_terminal_or_honour case_of
dealer_is_told = rw (decimal_digit 0 (lit< tt)) refl

-- Another seat sees no tile, and may pass alone.
other_is_told :
    seat_line plain_rules first_draw 1 (Draw 0 13 false)
    ≡ codes "{\"type\":\"tsumo\",\"actor\":0,\"pai\":\"?\",\"possible_actions\":[{\"type\":\"none\"}]}\n"
unfolding texts text_of bracketed quoted_tile hidden_tile draw_line actor_field pai_field consumed_field tsumogiri_field type_field possible_text
    line_with possible_by is_lawful broken_by view_of is_ready_without faces_of all_discards all_closed_kans all_added_kans tile_order less
    kind_counts all_kinds room_beside hand is_ready complete has_way begins_run is_seven_pairs orphan_double has_orphans is_terminal_or_honour case_of
other_is_told = rw (decimal_digit 0 (lit< tt)) refl
