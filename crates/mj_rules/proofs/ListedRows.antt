-- Rows of what may be answered, by computing.
use Rattle.std.proofs.Common.{◌≡◌, [], ◌∷◌, None, refl}
use Rattle.mj_deeds.specs.declared.answer.Answer.TheVariants.{Pass}
use Rattle.mj_tiles.specs.Faces.{tile_order, less}
use Rattle.mj_tiles.specs.Counts.{all_kinds, kind_counts, room_beside}
use Rattle.mj_tiles.specs.Terminals.{is_terminal_or_honour}
use Rattle.mj_readings.specs.Complete.{is_seven_pairs}
use Rattle.mj_readings.specs.Sets.{begins_run}
use Rattle.mj_readings.specs.Inner.Ways.{has_way}
use Rattle.mj_readings.specs.Tests.{complete, orphan_double, has_orphans}
use Rattle.mj_waits.specs.Waits.{is_ready}
use Rattle.mj_deeds.specs.Hand.{hand}
use Rattle.mj_rules.specs.View.{view_of}
use Rattle.mj_rules.specs.Wins.{case_of}
use Rattle.mj_rules.specs.Broken.{broken_by, is_ready_without}
use Rattle.mj_rules.specs.Possible.{possible, possible_by, is_lawful, faces_of, all_discards, all_closed_kans, all_added_kans}
use Rattle.mj_rules.specs.Example.{plain_rules, first_draw, first_answers}

-- Who holds four of three kinds may discard, the drawn tile marked alone, make each of the three kans, and reach.
dealer_may : possible plain_rules first_draw 0 ≡ first_answers
unfolding possible_by is_lawful broken_by view_of is_ready_without faces_of all_discards all_closed_kans all_added_kans tile_order less kind_counts
    all_kinds room_beside hand is_ready complete has_way begins_run is_seven_pairs orphan_double has_orphans is_terminal_or_honour case_of
dealer_may = refl

-- The others may pass alone.
others_pass : (possible plain_rules first_draw 1 ≡ Pass None ∷ []) × (possible plain_rules first_draw 2 ≡ Pass None ∷ []) × (possible plain_rules first_draw 3 ≡ Pass None ∷ [])
unfolding possible_by is_lawful broken_by view_of is_ready_without faces_of all_discards all_closed_kans all_added_kans tile_order less kind_counts
    all_kinds room_beside hand is_ready complete has_way begins_run is_seven_pairs orphan_double has_orphans is_terminal_or_honour case_of
others_pass = (refl, refl, refl)
