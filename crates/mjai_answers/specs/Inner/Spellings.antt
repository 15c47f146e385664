-- Lines of players in their usual spelling: without spaces, and the fields in one order.
use Rattle.std.specs.Prelude.{ℕ, ◌+◌, List, ◌∷◌, ◌++◌, codes, Bool, true, false}

-- How a pass begins that names its actor.
abbrev pub pass_front : List ℕ
pass_front = codes "{\"type\":\"none\",\"actor\":"

-- A pass that names its actor.
unfoldable pub pass_text : ℕ → List ℕ
pass_text actor = pass_front ++ (48 + actor) ∷ codes "}"

-- How a discard begins, what stands between its actor and the text of its tile, and how it ends after that text.
abbrev pub discard_front : List ℕ
discard_front = codes "{\"type\":\"dahai\",\"actor\":"

abbrev pub tile_front : List ℕ
tile_front = codes ",\"pai\":\""

abbrev pub mark_text : Bool → List ℕ
mark_text true = codes "\",\"tsumogiri\":true}"
mark_text false = codes "\",\"tsumogiri\":false}"

-- A discard by its actor, the text of its tile, and whether that is the drawn one.
unfoldable pub discard_text : ℕ → List ℕ → Bool → List ℕ
discard_text actor tile drawn = discard_front ++ (48 + actor) ∷ (tile_front ++ (tile ++ mark_text drawn))

-- A reach by its actor.
abbrev pub reach_front : List ℕ
reach_front = codes "{\"type\":\"reach\",\"actor\":"

unfoldable pub reach_text : ℕ → List ℕ
reach_text actor = reach_front ++ (48 + actor) ∷ codes "}"

-- A win by its actor, the target and the text of its tile.
abbrev pub win_front : List ℕ
win_front = codes "{\"type\":\"hora\",\"actor\":"

abbrev pub target_front : List ℕ
target_front = codes ",\"target\":"

unfoldable pub win_text : ℕ → ℕ → List ℕ → List ℕ
win_text actor target tile = win_front ++ (48 + actor) ∷ (target_front ++ (48 + target) ∷ (tile_front ++ (tile ++ codes "\"}")))

-- A pon by its actor, the target, the text of its tile, and that of its two own tiles.
abbrev pub pon_front : List ℕ
pon_front = codes "{\"type\":\"pon\",\"actor\":"

abbrev pub own_front : List ℕ
own_front = codes ",\"consumed\":[\""

unfoldable pub pon_text : ℕ → ℕ → List ℕ → List ℕ → List ℕ
pon_text actor target tile own =
    pon_front ++ (48 + actor) ∷ (target_front ++ (48 + target) ∷ (tile_front ++ (tile ++ 34 ∷ (own_front ++ (own ++ 34 ∷ (codes ",\"" ++ (own ++ codes "\"]}")))))))
