-- The tag of a hosted game is short.
use Rattle.std.proofs.Common.{◌≡◌, ℕ, zero, suc, ◌+◌, ◌*◌, ◌-◌, ◌<◌, ◌≤◌, ◌^◌, Bool, true, false, List, [], ◌∷◌, ◌++◌, length, flat_map, decimal, refl, sym, ◌∙◌, ap, subst, arith, codes}
use Rattle.std.specs.Prelude.{All, slice_get, slice_set, unwrap_or, nat_le}
use Rattle.std.specs.List.{list_all, swap}
use Rattle.std.proofs.lemmas.Bool.{and_parts, leb-true}
use Rattle.std.proofs.lemmas.Fmt.{length-decimal-le_succ}
use Rattle.std.proofs.lemmas.List.{length-append, length-set, length-drop, length_push}
use Rattle.std.proofs.lemmas.List.Concat.{flat_map-cons}
use Rattle.std.proofs.lemmas.List.Elements.{All-nil, All-head, All-tail, All-push, All-drop}
use Rattle.mj_ports.specs.declared.entry.Entry.{Entry}
use Rattle.mj_deeds.specs.declared.answer.Answer.{Answer}
use Rattle.mj_tiles.specs.Faces.{text_of, texts}
use Rattle.mj_wall.specs.declared.setting.Rules.{Rules}
use Rattle.mj_wall.specs.declared.setting.Setting.{Setting}
use Rattle.mj_wall.specs.Shuffle.{sorted_wall, swapped_from, shuffled_wall, shuffled_walls, shuffled_from, drawn_number}
use Rattle.mj_wall.proofs.Shuffles.{sorted_has}
use Rattle.mj_words.specs.Asked.{ServedWith}
use Rattle.mj_forms.specs.Headers.{header_line, wall_line, switch_text}
use Rattle.mj_forms.specs.RecordTexts.{record_text}
use Rattle.mj_history.specs.After.{after}
use Rattle.mj_history.specs.Legal.{Game}
use Rattle.mj_core.specs.Calls.{record_of}
use Rattle.mj_hosting.specs.Plans.{table_setting}
use Rattle.mj_hosting.specs.Steps.{AreNew}
use Rattle.mj_ticker.proofs.Besides.{all_from}
use Rattle.mj_durable.specs.Journals.{tag_of}
use Rattle.mj_durable.specs.Inner.Steps.{IsUnplayed}

-- a tile's text has at most three bytes
short_at : (xs : List (List ℕ)) → list_all (λ x. nat_le (length x) 3) xs ≡ true → (i : ℕ) → length (unwrap_or (slice_get xs i) []) ≤ 3
short_at [] all i = omega arith
short_at (x ∷ xs) all zero = leb-true (length x) 3 (and_parts (nat_le (length x) 3) (list_all (λ y. nat_le (length y) 3) xs) all).0
short_at (x ∷ xs) all (suc i) = short_at xs (and_parts (nat_le (length x) 3) (list_all (λ y. nat_le (length y) 3) xs) all).1 i

text_short : (tile : ℕ) → length (text_of tile) ≤ 3
unfolding text_of texts
text_short tile = short_at texts refl tile

tiles_short : (tiles : List ℕ) → length (flat_map (λ tile. 32 ∷ text_of tile) tiles) ≤ 4 * length tiles
tiles_short [] = omega arith
tiles_short (tile ∷ tiles) =
    omega (arith, ap length (flat_map-cons (λ (t : ℕ). 32 ∷ text_of t) tile tiles), length-append (32 ∷ text_of tile) (flat_map (λ (t : ℕ). 32 ∷ text_of t) tiles), text_short tile, tiles_short tiles)

wall_short : (tiles : List ℕ) → length tiles ≡ 136 → length (wall_line tiles) ≤ 549
unfolding wall_line
wall_short tiles long =
    let text = flat_map (λ (t : ℕ). 32 ∷ text_of t) tiles in
    line_bytes (length (wall_line tiles)) (length text) (length tiles)
    (length-append (codes "wall" ++ text) (codes "\n") ∙ ap (λ (n : ℕ). n + 1) (length-append (codes "wall") text)) (tiles_short tiles) long
  where
    line_bytes : (all text tiles : ℕ) → all ≡ 4 + text + 1 → text ≤ 4 * tiles → tiles ≡ 136 → all ≤ 549
    line_bytes all text tiles is short many = omega (arith, is, short, many)

walls_short : (walls : List (List ℕ)) → All (λ (w : List ℕ). length w ≡ 136) walls → length (flat_map wall_line walls) ≤ 549 * length walls
walls_short [] all = omega arith
walls_short (w ∷ walls) all =
    omega (
      arith,
      ap length (flat_map-cons wall_line w walls),
      length-append (wall_line w) (flat_map wall_line walls),
      wall_short w (All-head (λ (v : List ℕ). length v ≡ 136) w walls all),
      walls_short walls (All-tail (λ (v : List ℕ). length v ≡ 136) w walls all),
    )

switch_short : (b : Bool) → length (switch_text b) ≡ 1
switch_short true = refl
switch_short false = refl

sizes : (a b c d e f g : List ℕ) → length (a ++ b ++ c ++ d ++ e ++ f ++ g) ≡ length a + length b + length c + length d + length e + length f + length g
sizes a b c d e f g =
    length-append (a ++ b ++ c ++ d ++ e ++ f) g ∙ ap (λ (n : ℕ). n + length g)
    (length-append (a ++ b ++ c ++ d ++ e) f ∙ ap (λ (n : ℕ). n + length f)
    (length-append (a ++ b ++ c ++ d) e ∙ ap (λ (n : ℕ). n + length e)
    (length-append (a ++ b ++ c) d ∙ ap (λ (n : ℕ). n + length d)
    (length-append (a ++ b) c ∙ ap (λ (n : ℕ). n + length c) (length-append a b)))))

header_short : (rules : Rules) → rules.limit ≤ 3600000 → length (header_line rules) ≤ 3600100
unfolding header_line
header_short rules low =
    let fits : rules.limit < 2 ^ 64 = omega (arith, low) in
    head_bytes (length (header_line rules)) (length (decimal rules.limit)) (length (switch_text rules.draws)) (length (switch_text rules.red)) rules.limit
    (sizes (codes "game limit=") (decimal rules.limit) (codes " draws=") (switch_text rules.draws) (codes " red=") (switch_text rules.red) (codes "\n"))
    (length-decimal-le_succ rules.limit fits) (switch_short rules.draws) (switch_short rules.red) low
  where
    head_bytes : (all number draws red limit : ℕ) → all ≡ 11 + number + 7 + draws + 5 + red + 1 → number ≤ limit + 1 → draws ≡ 1 → red ≡ 1 → limit ≤ 3600000 → all ≤ 3600100
    head_bytes all number draws red limit is few one other low = omega (arith, is, few, one, other, low)

tag_short : (s : Setting) → s.rules.limit ≤ 3600000 → All (λ (w : List ℕ). length w ≡ 136) s.walls → length s.walls ≤ 200 → length (tag_of s) < 2 ^ 32
unfolding record_text
tag_short s low all few =
    let walls = flat_map wall_line s.walls in
    few_bytes (length (tag_of s)) (length (header_line s.rules)) (length walls) (length s.walls)
    (length-append (header_line s.rules ++ walls) [] ∙ ap (λ (n : ℕ). n + 0) (length-append (header_line s.rules) walls)) (header_short s.rules low) (walls_short s.walls all) few
  where
    few_bytes : (tag header walls number : ℕ) → tag ≡ header + walls + 0 → header ≤ 3600100 → walls ≤ 549 * number → number ≤ 200 → tag < 2 ^ 32
    few_bytes tag header walls number is first others few = omega (arith, is, first, others, few)

-- shuffled walls have 136 tiles
swap_same : (xs : List ℕ) (i j : ℕ) → length (swap xs i j) ≡ length xs
swap_same [] i j = refl
swap_same (x ∷ xs) i j = length-set (slice_set (x ∷ xs) i _) j _ ∙ length-set (x ∷ xs) i _

swapped_same : (f : ℕ → ℕ) (i : ℕ) (xs : List ℕ) → length (swapped_from f i xs) ≡ length xs
swapped_same f zero xs = refl
swapped_same f (suc i) xs = swapped_same f i _ ∙ swap_same xs (suc i) _

wall_long : (seed : List ℕ) (n : ℕ) (red : Bool) → length (shuffled_wall seed n red) ≡ 136
unfolding shuffled_wall
wall_long seed n red = swapped_same (λ i. drawn_number seed n (135 - i)) 135 (sorted_wall red) ∙ (sorted_has red (sorted_wall red) refl).long

walls_long : (seed : List ℕ) (red : Bool) (n : ℕ) → All (λ (w : List ℕ). length w ≡ 136) (shuffled_walls seed red n) × (length (shuffled_walls seed red n) ≡ n)
unfolding shuffled_walls
walls_long seed red zero = (All-nil (λ (w : List ℕ). length w ≡ 136), refl)
walls_long seed red (suc n) =
    let before = walls_long seed red n in (
      All-push (λ (w : List ℕ). length w ≡ 136) (shuffled_walls seed red n) (shuffled_wall seed n red) before.0 (wall_long seed n red),
      omega (arith, length_push (shuffled_walls seed red n) (shuffled_wall seed n red), before.1),
    )

table_short : (s : ServedWith) (t : ℕ) → s.limit ≤ 3600000 → length (tag_of (table_setting s t)) < 2 ^ 32
unfolding shuffled_from
table_short s t low =
    let walls = walls_long s.seed s.red (200 * t + 200) in
    tag_short (table_setting s t) low (All-drop (λ (w : List ℕ). length w ≡ 136) (200 * t) (shuffled_walls s.seed s.red (200 * t + 200)) walls.0)
    (omega (arith, length-drop (200 * t) (shuffled_walls s.seed s.red (200 * t + 200)), walls.1))

pub unplayed_all : (s : ServedWith) (count : ℕ) (games : List Game) → s.limit ≤ 3600000 → AreNew s count games → All IsUnplayed games
unplayed_all s count games low new = all_from IsUnplayed games (λ t game at. subst IsUnplayed (sym (new.each t game at)) (record { none = refl; short = table_short s t low }))

-- the record of a game without entries is its tag
pub tag_is : (game : Game) → game.entries ≡ [] → record_of game ≡ tag_of game.setting
tag_is game none = ap (λ (es : List (Entry Answer)). record_text game.setting.rules game.setting.walls (after game.setting es).deeds) none
