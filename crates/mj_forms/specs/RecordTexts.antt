-- The text of a record: a header, walls, and the record's line of each deed.
use Rattle.std.specs.Prelude.{ℕ, List, ◌++◌, flat_map}
use Rattle.mj_deeds.specs.declared.deed.Viewer.TheVariants.{Record}
use Rattle.mj_deeds.specs.declared.deed.Deed.{Deed}
use Rattle.mj_wall.specs.declared.setting.Rules.{Rules}
use Rattle.mj_forms.specs.Lines.{line}
use Rattle.mj_forms.specs.Headers.{header_line, wall_line}

-- The record of deeds that are played with these rules and walls.
unfoldable pub record_text : Rules → List (List ℕ) → List Deed → List ℕ
record_text rules walls deeds = header_line rules ++ flat_map wall_line walls ++ flat_map (line Record) deeds
