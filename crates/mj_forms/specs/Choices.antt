-- The answers that a seat may give, as its line lists them.
use Rattle.std.specs.Prelude.{ℕ, ◌-◌, Bool, List, [], ◌∷◌, ◌++◌, length, map, take, codes, decimal, Option, Some, None}
use Rattle.mj_deeds.specs.declared.answer.Pai.{Pai}
use Rattle.mj_deeds.specs.declared.answer.Pai.TheVariants.{Known, Hidden}
use Rattle.mj_deeds.specs.declared.answer.Answer.{Answer}
use Rattle.mj_deeds.specs.declared.answer.Answer.TheVariants.{Unread, Pass, Discard, Chi, Pon, OpenKan, ClosedKan, AddedKan, Reach, Win, NineKinds}
use Rattle.mj_deeds.specs.declared.deed.Viewer.{Viewer}
use Rattle.mj_deeds.specs.declared.deed.Deed.{Deed}
use Rattle.mj_forms.specs.Lines.{quoted, bracketed, truth, quoted_tile, hidden_tile, line}

-- A tile as an answer names it.
abbrev pub pai_text : Pai → List ℕ
pai_text (Known tile) = quoted_tile tile
pai_text Hidden = hidden_tile

-- The fields of an answer after its type.
unfoldable pub actor_field : ℕ → List ℕ
actor_field seat = codes ",\"actor\":" ++ decimal seat

unfoldable pub target_field : ℕ → List ℕ
target_field seat = codes ",\"target\":" ++ decimal seat

unfoldable pub pai_field : Pai → List ℕ
pai_field tile = codes ",\"pai\":" ++ pai_text tile

unfoldable pub consumed_field : List Pai → List ℕ
consumed_field tiles = codes ",\"consumed\":" ++ bracketed (map pai_text tiles)

unfoldable pub tsumogiri_field : Bool → List ℕ
tsumogiri_field drawn = codes ",\"tsumogiri\":" ++ truth drawn

-- The beginning of an answer, its type.
unfoldable pub type_field : List ℕ → List ℕ
type_field type = codes "{\"type\":" ++ quoted type

-- An answer as an object with what its type asks for and nothing else, in the order type, actor, target, tile, own tiles,
-- whether it is the drawn tile. What couldn't be read has no text.
abbrev pub answer_text : Answer → List ℕ
answer_text Unread = []
answer_text (Pass actor) = type_field (codes "none") ++ codes "}"
answer_text (Discard actor tile drawn) = type_field (codes "dahai") ++ actor_field actor ++ pai_field tile ++ tsumogiri_field drawn ++ codes "}"
answer_text (Chi actor target tile a b) = type_field (codes "chi") ++ actor_field actor ++ target_field target ++ pai_field tile ++ consumed_field (a ∷ b ∷ []) ++ codes "}"
answer_text (Pon actor target tile a b) = type_field (codes "pon") ++ actor_field actor ++ target_field target ++ pai_field tile ++ consumed_field (a ∷ b ∷ []) ++ codes "}"
answer_text (OpenKan actor target tile a b c) = type_field (codes "daiminkan") ++ actor_field actor ++ target_field target ++ pai_field tile ++ consumed_field (a ∷ b ∷ c ∷ []) ++ codes "}"
answer_text (ClosedKan actor a b c d) = type_field (codes "ankan") ++ actor_field actor ++ consumed_field (a ∷ b ∷ c ∷ d ∷ []) ++ codes "}"
answer_text (AddedKan actor tile a b c) = type_field (codes "kakan") ++ actor_field actor ++ pai_field tile ++ consumed_field (a ∷ b ∷ c ∷ []) ++ codes "}"
answer_text (Reach actor) = type_field (codes "reach") ++ actor_field actor ++ codes "}"
answer_text (Win actor target tile) = type_field (codes "hora") ++ actor_field actor ++ target_field target ++ codes "}"
answer_text (NineKinds actor) = type_field (codes "ryukyoku") ++ actor_field actor ++ codes "}"

-- A list of answers, in its order.
unfoldable pub possible_text : List Answer → List ℕ
possible_text answers = bracketed (map answer_text answers)

-- A line with the list as its last field, before the brace and the newline that close it.
unfoldable pub line_with : List Answer → List ℕ → List ℕ
line_with answers text = take (length text - 2) text ++ (codes ",\"possible_actions\":" ++ possible_text answers ++ codes "}\n")

-- The line of a deed for a viewer, with a list where one is given.
abbrev pub line_listing : Option (List Answer) → Viewer → Deed → List ℕ
line_listing None viewer deed = line viewer deed
line_listing (Some answers) viewer deed = line_with answers (line viewer deed)
