-- The listed answers are the plain ones that are lawful.
use Rattle.std.proofs.Common.{◌≡◌, ℕ, ◌<◌, ◌==◌, ◌&&◌, not, Bool, true, false, cond, eqb, List, [], ◌∷◌, ◌++◌, refl, sym, ap, ◌∙◌, subst}
use Rattle.std.specs.Prelude.{Option, Some, None, is_none, flat_map, map, Contains, ◌↔◌}
use Rattle.std.specs.List.{list_any}
use Rattle.std.proofs.lemmas.Bool.{and_parts, and_from, or_parts, eq-eqb, eqb-true, ltb-true, not-false, agree_below_at}
use Rattle.std.proofs.lemmas.List.Elements.{Contains-append_left, Contains-append_right}
use Rattle.std.proofs.lemmas.List.Folds.{Any-from_list_any}
use Rattle.std.proofs.lemmas.Map.Views.{Contains-from_any}
use Rattle.mj_readings.proofs.Members.{Contains-here, Contains-there, Contains-map, Contains-filter, Contains-flat_map}
use Rattle.mj_tiles.specs.Faces.{kind_of, tile_order}
use Rattle.mj_tiles.specs.declared.meld.Meld.{Meld}
use Rattle.mj_deeds.specs.declared.answer.Pai.{Pai}
use Rattle.mj_deeds.specs.declared.answer.Pai.TheVariants.{Known, Hidden}
use Rattle.mj_deeds.specs.declared.answer.Answer.{Answer}
use Rattle.mj_deeds.specs.declared.answer.Answer.TheVariants.{Unread, Pass, Discard, Chi, Pon, OpenKan, ClosedKan, AddedKan, Reach, Win, NineKinds}
use Rattle.mj_deeds.specs.declared.rule.Rule.{Rule}
use Rattle.mj_deeds.specs.declared.deed.Deed.{Deed}
use Rattle.mj_deeds.specs.Answers.{is_in_form}
use Rattle.mj_deeds.specs.Facts.{is_pon}
use Rattle.mj_wall.specs.declared.setting.Rules.{Rules}
use Rattle.mj_rules.specs.View.{WindowTurn, Drew, Discarded, Added, SeatView, view_of}
use Rattle.mj_rules.specs.Broken.{is_no_tile, is_tile, is_alike, is_open, is_own_pon, misses_discard, misses_winning, questions, broken_by}
use Rattle.mj_rules.specs.Played.{IsLawful}
use Rattle.mj_rules.specs.Possible.{is_plain, is_lawful, faces_of, discards_of, all_discards, chis_with, all_chis, pons_of, all_calls, closed_kans_of, all_closed_kans}
use Rattle.mj_rules.specs.Possible.{added_kans_of, all_added_kans, triplets, all_wins, candidates, possible_by, possible, is_hidden_or_face, names_faces}
use Rattle.mj_rules.proofs.Questions.{AllNo, all_no}
use Rattle.mj_rules.proofs.InTurn.{kept_member}

-- the tiles that an answer names

-- A face stands in the tile order.
pub face_ordered : (face : ℕ) → face < 37 → Contains tile_order face
unfolding tile_order
face_ordered face low = Contains-from_any eqb-true face tile_order (agree_below_at (λ k. list_any (eqb k) tile_order) (λ k. true) 37 face refl low)

-- A face of a kind stands among those of the kind.
pub face_of_kind : (face kind : ℕ) → face < 37 → kind_of face ≡ kind → Contains (faces_of kind) face
unfolding faces_of
face_of_kind face kind low is = Contains-filter (λ other. kind_of other == kind) tile_order face (eq-eqb (kind_of face) kind is) (face_ordered face low)

-- A tile that is named, one of the game, is known.
named : (red : Bool) (pai : Pai) → is_no_tile red pai ≡ false → is_hidden_or_face pai ≡ true → (face : ℕ) × (face < 37) × (pai ≡ Known face)
named red Hidden real low = cc
named red (Known tile) real low = (tile, ltb-true tile 37 low, refl)

-- A tile that is that one.
that_tile : (tile : ℕ) (pai : Pai) → is_tile tile pai ≡ true → pai ≡ Known tile
that_tile tile Hidden is = cc
that_tile tile (Known other) is = ap Known (eqb-true other tile is)

-- Known tiles of one kind.
same_kind : (pai other : Pai) (a b : ℕ) → pai ≡ Known a → other ≡ Known b → is_alike pai other ≡ true → kind_of b ≡ kind_of a
same_kind pai other a b is is' alike = sym (eqb-true (kind_of a) (kind_of b) (sym (λ i. is_alike (is i) (is' i)) ∙ alike))

-- The seat is the one that is named.
own : (actor seat : ℕ) → not (actor == seat) ≡ false → actor ≡ seat
own actor seat h = eqb-true actor seat (not-false (actor == seat) h)

-- what the turn is about

-- What is called is the discard.
called : (turn : WindowTurn) (target : ℕ) (pai : Pai) → misses_discard turn target pai ≡ false → (who : ℕ) × (tile : ℕ) × (turn ≡ Discarded who tile) × (target ≡ who) × (pai ≡ Known tile)
called (Discarded who tile) target pai h =
    let parts = and_parts (target == who) (is_tile tile pai) (not-false (target == who && is_tile tile pai) h) in
    (who, tile, refl, eqb-true target who parts.0, that_tile tile pai parts.1)
called other target pai h = cc

-- A win is on what the turn offers.
won : (rules : Rules) (seat target : ℕ) (view : SeatView) (turn : WindowTurn) → not (is_open rules seat turn view.accepted (Win seat target None)) ≡ false →
    misses_winning seat view target None turn ≡ false → Contains (all_wins seat turn) (Win seat target None)
won rules seat target view (Drew who) opens h = by_seat (who == seat) refl (not-false _ opens)
  where
    here : who ≡ seat → target ≡ seat → Contains (all_wins seat (Drew who)) (Win seat target None)
    here is at = subst (λ other. Contains (Win seat who None ∷ []) (Win seat other None)) (is ∙ sym at) (Contains-here (Win seat who None) [])

    by_seat : (b : Bool) → (who == seat) ≡ b → cond b true false ≡ true → Contains (all_wins seat (Drew who)) (Win seat target None)
    by_seat true is opened = here (eqb-true who seat is) (own target seat (or_parts (not (target == seat)) _ h).0)
    by_seat false is opened = cc
won rules seat target view (Discarded who tile) opens h =
    subst (λ other. Contains (Win seat who None ∷ []) (Win seat other None)) (sym (own target who (or_parts (not (target == who)) false h).0)) (Contains-here (Win seat who None) [])
won rules seat target view (Added who tile) opens h =
    subst (λ other. Contains (Win seat who None ∷ []) (Win seat other None)) (sym (own target who (or_parts (not (target == who)) false h).0)) (Contains-here (Win seat who None) [])
won rules seat target view other opens h = cc

-- the places of the candidates

in_discards : (seat : ℕ) (view : SeatView) (answer : Answer) → Contains (all_discards seat) answer → Contains (candidates seat view) answer
in_discards seat view answer has = Contains-there (Pass None) _ answer (Contains-append_left (all_discards seat) _ answer has)

in_calls : (seat : ℕ) (view : SeatView) (answer : Answer) → Contains (all_calls seat view.turn) answer → Contains (candidates seat view) answer
in_calls seat view answer has =
    Contains-there (Pass None) _ answer (Contains-append_right (all_discards seat) _ answer
    (Contains-append_left (all_calls seat view.turn) _ answer has))

behind_calls : (seat : ℕ) (view : SeatView) (answer : Answer) →
    Contains (all_closed_kans seat ++ (all_added_kans seat (triplets view) ++ ((Reach seat ∷ []) ++ (all_wins seat view.turn ++ (NineKinds seat ∷ []))))) answer →
    Contains (candidates seat view) answer
behind_calls seat view answer has =
    Contains-there (Pass None) _ answer (Contains-append_right (all_discards seat) _ answer
    (Contains-append_right (all_calls seat view.turn) _ answer has))

behind_kans : (seat : ℕ) (view : SeatView) (answer : Answer) → Contains (Reach seat ∷ (all_wins seat view.turn ++ (NineKinds seat ∷ []))) answer → Contains (candidates seat view) answer
behind_kans seat view answer has =
    behind_calls seat view answer (Contains-append_right (all_closed_kans seat) _ answer (Contains-append_right (all_added_kans seat (triplets view)) _ answer has))

-- each lawful answer is a candidate

discard_tried : (rules : Rules) (seat : ℕ) (view : SeatView) (actor : ℕ) (tile : Pai) (drawn : Bool) → names_faces (Discard actor tile drawn) ≡ true →
    AllNo (questions rules seat view (Discard actor tile drawn)) → Contains (candidates seat view) (Discard actor tile drawn)
unfolding all_discards
discard_tried rules seat view actor tile drawn faces clear =
    let t = named rules.red tile (or_parts (is_no_tile rules.red tile) false clear.1.1.1.0).0 (and_parts (is_hidden_or_face tile) true faces).0 in
    let mine = own actor seat clear.1.0 in
    subst (Contains (candidates seat view)) (λ i. Discard (sym mine i) (sym t.2 i) drawn)
    (in_discards seat view (Discard seat (Known t.0) drawn)
    (Contains-flat_map (discards_of seat) tile_order t.0 (Discard seat (Known t.0) drawn) (face_ordered t.0 t.1) (by_mark t.0 drawn)))
  where
    by_mark : (face : ℕ) (marked : Bool) → Contains (discards_of seat face) (Discard seat (Known face) marked)
    by_mark face false = Contains-here (Discard seat (Known face) false) (Discard seat (Known face) true ∷ [])
    by_mark face true = Contains-there (Discard seat (Known face) false) (Discard seat (Known face) true ∷ []) (Discard seat (Known face) true) (Contains-here (Discard seat (Known face) true) [])

chi_tried : (rules : Rules) (seat : ℕ) (view : SeatView) (actor target : ℕ) (tile a b : Pai) → names_faces (Chi actor target tile a b) ≡ true →
    AllNo (questions rules seat view (Chi actor target tile a b)) → Contains (candidates seat view) (Chi actor target tile a b)
unfolding all_chis
chi_tried rules seat view actor target tile a b faces clear =
    let real = or_parts (is_no_tile rules.red tile) _ clear.1.1.1.0 in
    let real' = or_parts (is_no_tile rules.red a) _ real.1 in
    let low = (and_parts (is_hidden_or_face tile) _ faces).1 in
    let low' = and_parts (is_hidden_or_face a) _ low in
    let x = named rules.red a real'.0 low'.0 in
    let y = named rules.red b (or_parts (is_no_tile rules.red b) false real'.1).0 (and_parts (is_hidden_or_face b) true low'.1).0 in
    let d = called view.turn target tile clear.1.1.1.1.0 in
    let mine = own actor seat clear.1.0 in
    let found = Contains-flat_map (chis_with seat d.0 d.1) tile_order x.0 (Chi seat d.0 (Known d.1) (Known x.0) (Known y.0)) (face_ordered x.0 x.1)
    (Contains-map (λ other. Chi seat d.0 (Known d.1) (Known x.0) (Known other)) tile_order y.0 (face_ordered y.0 y.1)) in
    subst (Contains (candidates seat view)) (λ i. Chi (sym mine i) (sym d.3 i) (sym d.4 i) (sym x.2 i) (sym y.2 i))
    (in_calls seat view (Chi seat d.0 (Known d.1) (Known x.0) (Known y.0))
    (subst (λ turn. Contains (all_calls seat turn) (Chi seat d.0 (Known d.1) (Known x.0) (Known y.0))) (sym d.2)
    (Contains-append_left (all_chis seat d.0 d.1) _ (Chi seat d.0 (Known d.1) (Known x.0) (Known y.0)) found)))

pon_tried : (rules : Rules) (seat : ℕ) (view : SeatView) (actor target : ℕ) (tile a b : Pai) → names_faces (Pon actor target tile a b) ≡ true →
    AllNo (questions rules seat view (Pon actor target tile a b)) → Contains (candidates seat view) (Pon actor target tile a b)
pon_tried rules seat view actor target tile a b faces clear =
    let real = or_parts (is_no_tile rules.red tile) _ clear.1.1.1.0 in
    let real' = or_parts (is_no_tile rules.red a) _ real.1 in
    let low = (and_parts (is_hidden_or_face tile) _ faces).1 in
    let low' = and_parts (is_hidden_or_face a) _ low in
    let x = named rules.red a real'.0 low'.0 in
    let y = named rules.red b (or_parts (is_no_tile rules.red b) false real'.1).0 (and_parts (is_hidden_or_face b) true low'.1).0 in
    let d = called view.turn target tile clear.1.1.1.1.0 in
    let mine = own actor seat clear.1.0 in
    let alike = and_parts (is_alike tile a) (is_alike tile b) (not-false (is_alike tile a && is_alike tile b) clear.1.1.1.1.1.1.1.1.1.0) in
    let same : List ℕ = faces_of (kind_of d.1) in
    let found = Contains-flat_map (λ one. map (λ other. Pon seat d.0 (Known d.1) (Known one) (Known other)) same) same x.0 (Pon seat d.0 (Known d.1) (Known x.0) (Known y.0))
    (face_of_kind x.0 (kind_of d.1) x.1 (same_kind tile a d.1 x.0 d.4 x.2 alike.0))
    (Contains-map (λ other. Pon seat d.0 (Known d.1) (Known x.0) (Known other)) same y.0 (face_of_kind y.0 (kind_of d.1) y.1 (same_kind tile b d.1 y.0 d.4 y.2 alike.1))) in
    subst (Contains (candidates seat view)) (λ i. Pon (sym mine i) (sym d.3 i) (sym d.4 i) (sym x.2 i) (sym y.2 i))
    (in_calls seat view (Pon seat d.0 (Known d.1) (Known x.0) (Known y.0))
    (subst (λ turn. Contains (all_calls seat turn) (Pon seat d.0 (Known d.1) (Known x.0) (Known y.0))) (sym d.2)
    (Contains-append_right (all_chis seat d.0 d.1) _ (Pon seat d.0 (Known d.1) (Known x.0) (Known y.0))
    (Contains-append_left (pons_of seat d.0 d.1 same) _ (Pon seat d.0 (Known d.1) (Known x.0) (Known y.0)) found))))

open_kan_tried : (rules : Rules) (seat : ℕ) (view : SeatView) (actor target : ℕ) (tile a b c : Pai) → names_faces (OpenKan actor target tile a b c) ≡ true →
    AllNo (questions rules seat view (OpenKan actor target tile a b c)) → Contains (candidates seat view) (OpenKan actor target tile a b c)
open_kan_tried rules seat view actor target tile a b c faces clear =
    let real = or_parts (is_no_tile rules.red a) _ (or_parts (is_no_tile rules.red tile) _ clear.1.1.1.0).1 in
    let real' = or_parts (is_no_tile rules.red b) _ real.1 in
    let low = and_parts (is_hidden_or_face a) _ (and_parts (is_hidden_or_face tile) _ faces).1 in
    let low' = and_parts (is_hidden_or_face b) _ low.1 in
    let x = named rules.red a real.0 low.0 in
    let y = named rules.red b real'.0 low'.0 in
    let z = named rules.red c (or_parts (is_no_tile rules.red c) false real'.1).0 (and_parts (is_hidden_or_face c) true low'.1).0 in
    let d = called view.turn target tile clear.1.1.1.1.0 in
    let mine = own actor seat clear.1.0 in
    let alike = and_parts (is_alike tile a && is_alike tile b) (is_alike tile c) (not-false (is_alike tile a && is_alike tile b && is_alike tile c) clear.1.1.1.1.1.1.1.1.1.0) in
    let alike' = and_parts (is_alike tile a) (is_alike tile b) alike.0 in
    let same : List ℕ = faces_of (kind_of d.1) in
    let answer : Answer = OpenKan seat d.0 (Known d.1) (Known x.0) (Known y.0) (Known z.0) in
    let found = Contains-flat_map (λ one. flat_map (λ two. map (λ other. OpenKan seat d.0 (Known d.1) (Known one) (Known two) (Known other)) same) same) same x.0 answer
    (face_of_kind x.0 (kind_of d.1) x.1 (same_kind tile a d.1 x.0 d.4 x.2 alike'.0))
    (Contains-flat_map (λ two. map (λ other. OpenKan seat d.0 (Known d.1) (Known x.0) (Known two) (Known other)) same) same y.0 answer
    (face_of_kind y.0 (kind_of d.1) y.1 (same_kind tile b d.1 y.0 d.4 y.2 alike'.1))
    (Contains-map (λ other. OpenKan seat d.0 (Known d.1) (Known x.0) (Known y.0) (Known other)) same z.0 (face_of_kind z.0 (kind_of d.1) z.1 (same_kind tile c d.1 z.0 d.4 z.2 alike.1)))) in
    subst (Contains (candidates seat view)) (λ i. OpenKan (sym mine i) (sym d.3 i) (sym d.4 i) (sym x.2 i) (sym y.2 i) (sym z.2 i))
    (in_calls seat view answer
    (subst (λ turn. Contains (all_calls seat turn) answer) (sym d.2)
    (Contains-append_right (all_chis seat d.0 d.1) _ answer
    (Contains-append_right (pons_of seat d.0 d.1 same) _ answer found))))

closed_kan_tried : (rules : Rules) (seat : ℕ) (view : SeatView) (actor : ℕ) (a b c d : Pai) → names_faces (ClosedKan actor a b c d) ≡ true →
    AllNo (questions rules seat view (ClosedKan actor a b c d)) → Contains (candidates seat view) (ClosedKan actor a b c d)
unfolding all_closed_kans
closed_kan_tried rules seat view actor a b c d faces clear =
    let real = or_parts (is_no_tile rules.red a) _ clear.1.1.1.0 in
    let real' = or_parts (is_no_tile rules.red b) _ real.1 in
    let real'' = or_parts (is_no_tile rules.red c) _ real'.1 in
    let low = and_parts (is_hidden_or_face a) _ faces in
    let low' = and_parts (is_hidden_or_face b) _ low.1 in
    let low'' = and_parts (is_hidden_or_face c) _ low'.1 in
    let x = named rules.red a real.0 low.0 in
    let y = named rules.red b real'.0 low'.0 in
    let z = named rules.red c real''.0 low''.0 in
    let w = named rules.red d (or_parts (is_no_tile rules.red d) false real''.1).0 (and_parts (is_hidden_or_face d) true low''.1).0 in
    let mine = own actor seat clear.1.0 in
    let alike = and_parts (is_alike a b && is_alike a c) (is_alike a d) (not-false (is_alike a b && is_alike a c && is_alike a d) clear.1.1.1.1.1.1.1.1.1.0) in
    let alike' = and_parts (is_alike a b) (is_alike a c) alike.0 in
    let same : List ℕ = faces_of (kind_of x.0) in
    let answer : Answer = ClosedKan seat (Known x.0) (Known y.0) (Known z.0) (Known w.0) in
    let found = Contains-flat_map (λ one. closed_kans_of seat one (faces_of (kind_of one))) tile_order x.0 answer (face_ordered x.0 x.1)
    (Contains-flat_map (λ two. flat_map (λ three. map (λ other. ClosedKan seat (Known x.0) (Known two) (Known three) (Known other)) same) same) same y.0 answer
    (face_of_kind y.0 (kind_of x.0) y.1 (same_kind a b x.0 y.0 x.2 y.2 alike'.0))
    (Contains-flat_map (λ three. map (λ other. ClosedKan seat (Known x.0) (Known y.0) (Known three) (Known other)) same) same z.0 answer
    (face_of_kind z.0 (kind_of x.0) z.1 (same_kind a c x.0 z.0 x.2 z.2 alike'.1))
    (Contains-map (λ other. ClosedKan seat (Known x.0) (Known y.0) (Known z.0) (Known other)) same w.0 (face_of_kind w.0 (kind_of x.0) w.1 (same_kind a d x.0 w.0 x.2 w.2 alike.1))))) in
    subst (Contains (candidates seat view)) (λ i. ClosedKan (sym mine i) (sym x.2 i) (sym y.2 i) (sym z.2 i) (sym w.2 i))
    (behind_calls seat view answer (Contains-append_left (all_closed_kans seat) _ answer found))

added_kan_tried : (rules : Rules) (seat : ℕ) (view : SeatView) (actor : ℕ) (tile a b c : Pai) → names_faces (AddedKan actor tile a b c) ≡ true →
    AllNo (questions rules seat view (AddedKan actor tile a b c)) → Contains (candidates seat view) (AddedKan actor tile a b c)
unfolding all_added_kans
added_kan_tried rules seat view actor tile a b c faces clear =
    let t = named rules.red tile (or_parts (is_no_tile rules.red tile) _ clear.1.1.1.0).0 (and_parts (is_hidden_or_face tile) _ faces).0 in
    let mine = own actor seat clear.1.0 in
    let found = Any-from_list_any (is_own_pon tile a b c) view.melds (not-false (list_any (is_own_pon tile a b c) view.melds) clear.1.1.1.1.1.1.1.1.1.0) in
    let meld : Meld = found.1 in
    let alike = and_parts (is_pon meld.form && is_tile meld.a a && is_tile meld.b b && is_tile meld.c c) (is_alike tile a) found.4 in
    let third = and_parts (is_pon meld.form && is_tile meld.a a && is_tile meld.b b) (is_tile meld.c c) alike.0 in
    let second = and_parts (is_pon meld.form && is_tile meld.a a) (is_tile meld.b b) third.0 in
    let first = and_parts (is_pon meld.form) (is_tile meld.a a) second.0 in
    let answer : Answer = AddedKan seat (Known t.0) (Known meld.a) (Known meld.b) (Known meld.c) in
    let tried = Contains-flat_map (λ face. added_kans_of seat face (triplets view)) tile_order t.0 answer (face_ordered t.0 t.1)
    (Contains-map (λ (own : Meld). AddedKan seat (Known t.0) (Known own.a) (Known own.b) (Known own.c)) (triplets view) meld
    (Contains-filter (λ (own : Meld). is_pon own.form) view.melds meld first.0 (found.0, found.2, found.3))) in
    subst (Contains (candidates seat view))
    (λ i. AddedKan (sym mine i) (sym t.2 i) (sym (that_tile meld.a a first.1) i) (sym (that_tile meld.b b second.1) i) (sym (that_tile meld.c c third.1) i))
    (behind_calls seat view answer (Contains-append_right (all_closed_kans seat) _ answer (Contains-append_left (all_added_kans seat (triplets view)) _ answer tried)))

tried : (rules : Rules) (seat : ℕ) (view : SeatView) (answer : Answer) → is_plain answer ≡ true → names_faces answer ≡ true →
    AllNo (questions rules seat view answer) → Contains (candidates seat view) answer
tried rules seat view Unread plain faces clear = cc
tried rules seat view (Pass None) plain faces clear = Contains-here (Pass None) _
tried rules seat view (Pass (Some actor)) plain faces clear = cc
tried rules seat view (Discard actor tile drawn) plain faces clear = discard_tried rules seat view actor tile drawn faces clear
tried rules seat view (Chi actor target tile a b) plain faces clear = chi_tried rules seat view actor target tile a b faces clear
tried rules seat view (Pon actor target tile a b) plain faces clear = pon_tried rules seat view actor target tile a b faces clear
tried rules seat view (OpenKan actor target tile a b c) plain faces clear = open_kan_tried rules seat view actor target tile a b c faces clear
tried rules seat view (ClosedKan actor a b c d) plain faces clear = closed_kan_tried rules seat view actor a b c d faces clear
tried rules seat view (AddedKan actor tile a b c) plain faces clear = added_kan_tried rules seat view actor tile a b c faces clear
tried rules seat view (Reach actor) plain faces clear =
    subst (λ who. Contains (candidates seat view) (Reach who)) (sym (own actor seat clear.1.0)) (behind_kans seat view (Reach seat) (Contains-here (Reach seat) _))
tried rules seat view (Win actor target None) plain faces clear =
    let mine = own actor seat clear.1.0 in
    let opens = ap (λ who. not (is_open rules seat view.turn view.accepted (Win who target None))) (sym mine) ∙ clear.1.1.0 in
    subst (λ who. Contains (candidates seat view) (Win who target None)) (sym mine)
    (behind_kans seat view (Win seat target None) (Contains-there (Reach seat) _ (Win seat target None)
    (Contains-append_left (all_wins seat view.turn) _ (Win seat target None) (won rules seat target view view.turn opens clear.1.1.1.1.0))))
tried rules seat view (Win actor target (Some tile)) plain faces clear = cc
tried rules seat view (NineKinds actor) plain faces clear =
    subst (λ who. Contains (candidates seat view) (NineKinds who)) (sym (own actor seat clear.1.0))
    (behind_kans seat view (NineKinds seat) (Contains-there (Reach seat) _ (NineKinds seat)
    (Contains-append_right (all_wins seat view.turn) _ (NineKinds seat) (Contains-here (NineKinds seat) []))))

-- both ways

none_of : (broken : Option Rule) → is_none broken ≡ true → broken ≡ None
none_of None h = refl
none_of (Some rule) h = cc

listed_only : (rules : Rules) (deeds : List Deed) (seat : ℕ) (answer : Answer) → Contains (possible rules deeds seat) answer → IsLawful rules deeds seat answer
unfolding possible_by is_lawful
listed_only rules deeds seat answer has =
    let kept = kept_member (is_lawful rules seat (view_of deeds seat)) (candidates seat (view_of deeds seat)) answer has in
    let parts = and_parts (is_in_form answer) (is_none (broken_by rules seat (view_of deeds seat) answer)) kept.1 in
    record { form = parts.0; clean = none_of (broken_by rules seat (view_of deeds seat) answer) parts.1 }

no_question : (rules : Rules) (seat : ℕ) (view : SeatView) (answer : Answer) → broken_by rules seat view answer ≡ None → AllNo (questions rules seat view answer)
unfolding broken_by
no_question rules seat view answer clean = all_no (questions rules seat view answer) clean

-- A lawful answer breaks no rule.
pub lawful_clear : (rules : Rules) (seat : ℕ) (view : SeatView) (answer : Answer) → is_lawful rules seat view answer ≡ true → AllNo (questions rules seat view answer)
unfolding is_lawful
lawful_clear rules seat view answer lawful =
    no_question rules seat view answer (none_of (broken_by rules seat view answer) (and_parts (is_in_form answer) (is_none (broken_by rules seat view answer)) lawful).1)

lawful_listed : (rules : Rules) (deeds : List Deed) (seat : ℕ) (answer : Answer) → is_plain answer ≡ true → names_faces answer ≡ true →
    IsLawful rules deeds seat answer → Contains (possible rules deeds seat) answer
unfolding possible_by is_lawful
lawful_listed rules deeds seat answer plain faces lawful =
    Contains-filter (is_lawful rules seat (view_of deeds seat)) (candidates seat (view_of deeds seat)) answer
    (and_from (is_in_form answer) (is_none (broken_by rules seat (view_of deeds seat) answer)) lawful.form (ap is_none lawful.clean))
    (tried rules seat (view_of deeds seat) answer plain faces (no_question rules seat (view_of deeds seat) answer lawful.clean))

pub plain_is_listed : (rules : Rules) (deeds : List Deed) (seat : ℕ) (answer : Answer) → is_plain answer ≡ true → names_faces answer ≡ true →
    Contains (possible rules deeds seat) answer ↔ IsLawful rules deeds seat answer
plain_is_listed rules deeds seat answer plain faces = (listed_only rules deeds seat answer, lawful_listed rules deeds seat answer plain faces)
