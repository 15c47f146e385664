-- What a line reads as is in form: the own tiles that it names together stand in tile order.
use Rattle.std.proofs.Common.{◌≡◌, ℕ, zero, suc, ◌≤◌, ◌-◌, ◌&&◌, Bool, true, false, cond, leb, List, [], ◌∷◌, ◌++◌, map, refl, ◌∙◌, arith}
use Rattle.std.specs.Prelude.{Option, Some, None, option_and_then, option_map, unwrap_or, flat_map, replicate, count_by, codes, bytes_eq}
use Rattle.std.proofs.lemmas.Bool.{and_parts, and_from, leb-true, le-leb}
use Rattle.serde_json.specs.Data.{Data}
use Rattle.serde_json.specs.Find.{get}
use Rattle.mj_tiles.specs.Faces.{tile_order, less, in_tile_order, number_in}
use Rattle.mj_deeds.specs.declared.answer.Pai.{Pai}
use Rattle.mj_deeds.specs.declared.answer.Pai.TheVariants.{Known, Hidden}
use Rattle.mj_deeds.specs.declared.answer.Answer.{Answer}
use Rattle.mj_deeds.specs.declared.answer.Answer.TheVariants.{Unread, Pass, Discard, Chi, Pon, OpenKan, ClosedKan, AddedKan, Reach, Win, NineKinds}
use Rattle.mj_deeds.specs.Pais.{face_in}
use Rattle.mj_deeds.specs.Answers.{place_of, are_in_order, is_in_form}
use Rattle.mj_forms.specs.AnswerForms.{value_of, text_in, seat_in, seat_as, pai_in, pass_by, pass_in, discard_in, is_hidden, pais_in_order, own_in}
use Rattle.mj_forms.specs.AnswerForms.{with_two_tiles, with_three_tiles, with_four_tiles, call_in, chi_by, pon_by, open_kan_by, closed_kan_in, added_kan_in}
use Rattle.mj_forms.specs.AnswerForms.{reach_in, optional_pai, win_in, is_nine_kinds, nine_kinds_in, answer_by, answer_in, answer_of}
use Rattle.mj_forms.specs.Laws.{AnswersThatAreReadAreInForm}

-- tiles in order

-- Tiles stand in order, and none of them before a place.
abbrev goes_up : ℕ → List Pai → Bool
goes_up place [] = true
goes_up place (pai ∷ pais) = leb place (place_of pai) && goes_up (place_of pai) pais

up_in_order : (place : ℕ) (pais : List Pai) → goes_up place pais ≡ true → are_in_order pais ≡ true
up_in_order place [] h = refl
up_in_order place (pai ∷ []) h = refl
up_in_order place (pai ∷ next ∷ pais) h =
    let parts = and_parts (leb place (place_of pai)) (goes_up (place_of pai) (next ∷ pais)) h in
    let others = and_parts (leb (place_of pai) (place_of next)) (goes_up (place_of next) pais) parts.1 in
    and_from (leb (place_of pai) (place_of next)) (are_in_order (next ∷ pais)) others.0 (up_in_order (place_of pai) (next ∷ pais) parts.1)

-- So they do before no earlier place.
earlier : (place later : ℕ) (pais : List Pai) → leb place later ≡ true → goes_up later pais ≡ true → goes_up place pais ≡ true
earlier place later [] le h = refl
earlier place later (pai ∷ pais) le h =
    let parts = and_parts (leb later (place_of pai)) (goes_up (place_of pai) pais) h in
    and_from (leb place (place_of pai)) (goes_up (place_of pai) pais)
    (below place later (place_of pai) (leb-true place later le) (leb-true later (place_of pai) parts.0)) parts.1
  where
    below : (a b c : ℕ) → a ≤ b → b ≤ c → leb a c ≡ true
    below a b c h k = le-leb a c (omega arith)

-- Copies of a tile before others of no earlier place.
copies_up : (n place face : ℕ) (others : List ℕ) (rest : List Pai) → leb place (place_of (Known face)) ≡ true → goes_up (place_of (Known face)) (map Known others ++ rest) ≡ true →
    goes_up place (map Known (replicate n face ++ others) ++ rest) ≡ true
copies_up zero place face others rest le h = earlier place (place_of (Known face)) (map Known others ++ rest) le h
copies_up (suc n) place face others rest le h =
    and_from (leb place (place_of (Known face))) _ le
    (copies_up n (place_of (Known face)) face others rest (le-leb (place_of (Known face)) (place_of (Known face)) (omega arith)) h)

-- Faces whose places go up, the last before that of a hidden tile.
abbrev are_up : ℕ → List ℕ → Bool
are_up place [] = leb place 68
are_up place (face ∷ faces) = leb place (place_of (Known face)) && are_up (place_of (Known face)) faces

all_up : (count : ℕ → ℕ) (place : ℕ) (faces : List ℕ) (rest : List Pai) → are_up place faces ≡ true → goes_up 68 rest ≡ true →
    goes_up place (map Known (flat_map (λ face. replicate (count face) face) faces) ++ rest) ≡ true
all_up count place [] rest up h = earlier place 68 rest up h
all_up count place (face ∷ faces) rest up h =
    let parts = and_parts (leb place (place_of (Known face))) (are_up (place_of (Known face)) faces) up in
    copies_up (count face) place face (flat_map (λ other. replicate (count other) other) faces) rest parts.0 (all_up count (place_of (Known face)) faces rest parts.1 h)

hidden_up : (n : ℕ) → goes_up 68 (replicate n Hidden) ≡ true
hidden_up zero = refl
hidden_up (suc n) = hidden_up n

order_up : are_up 0 tile_order ≡ true
unfolding tile_order
order_up = refl

-- Tiles that are put in order stand so.
ordered : (pais : List Pai) → are_in_order (pais_in_order pais) ≡ true
unfolding pais_in_order in_tile_order less
ordered pais =
    let tiles : List ℕ = flat_map face_in pais in
    let rest : List Pai = replicate (count_by is_hidden pais) Hidden in
    up_in_order 0 (pais_in_order pais) (all_up (λ face. number_in tiles face - number_in [] face) 0 tile_order rest order_up (hidden_up (count_by is_hidden pais)))

-- answers

-- An answer, where there is one, is in form.
abbrev IsFormed : Option Answer → Type 0
IsFormed None = Unit {0}
IsFormed (Some answer) = is_in_form answer ≡ true

then_formed : {A : Type 0} (f : A → Option Answer) (o : Option A) → ((x : A) → IsFormed (f x)) → IsFormed (option_and_then f o)
then_formed f None h = tt
then_formed f (Some x) h = h x

map_formed : {A : Type 0} (f : A → Answer) (o : Option A) → ((x : A) → is_in_form (f x) ≡ true) → IsFormed (option_map f o)
map_formed f None h = tt
map_formed f (Some x) h = h x

either_formed : (b : Bool) (x y : Option Answer) → IsFormed x → IsFormed y → IsFormed (cond b x y)
either_formed true x y h k = h
either_formed false x y h k = k

-- What is made of own tiles in order.
own_formed : (make : List Pai → Option Answer) (value : Data) → ((pais : List Pai) → are_in_order pais ≡ true → IsFormed (make pais)) → IsFormed (option_and_then make (own_in value))
unfolding own_in
own_formed make value h = by_option _
  where
    by_option : (o : Option (List Pai)) → IsFormed (option_and_then make (option_map pais_in_order o))
    by_option None = tt
    by_option (Some pais) = h (pais_in_order pais) (ordered pais)

two_formed : (make : Pai → Pai → Answer) → ((a b : Pai) → is_in_form (make a b) ≡ are_in_order (a ∷ b ∷ [])) → (pais : List Pai) → are_in_order pais ≡ true → IsFormed (with_two_tiles make pais)
two_formed make same [] h = tt
two_formed make same (a ∷ []) h = tt
two_formed make same (a ∷ b ∷ []) h = same a b ∙ h
two_formed make same (a ∷ b ∷ c ∷ pais) h = tt

three_formed : (make : Pai → Pai → Pai → Answer) → ((a b c : Pai) → is_in_form (make a b c) ≡ are_in_order (a ∷ b ∷ c ∷ [])) → (pais : List Pai) →
    are_in_order pais ≡ true → IsFormed (with_three_tiles make pais)
three_formed make same [] h = tt
three_formed make same (a ∷ []) h = tt
three_formed make same (a ∷ b ∷ []) h = tt
three_formed make same (a ∷ b ∷ c ∷ []) h = same a b c ∙ h
three_formed make same (a ∷ b ∷ c ∷ d ∷ pais) h = tt

four_formed : (make : Pai → Pai → Pai → Pai → Answer) → ((a b c d : Pai) → is_in_form (make a b c d) ≡ are_in_order (a ∷ b ∷ c ∷ d ∷ [])) → (pais : List Pai) → are_in_order pais ≡ true →
    IsFormed (with_four_tiles make pais)
four_formed make same [] h = tt
four_formed make same (a ∷ []) h = tt
four_formed make same (a ∷ b ∷ []) h = tt
four_formed make same (a ∷ b ∷ c ∷ []) h = tt
four_formed make same (a ∷ b ∷ c ∷ d ∷ []) h = same a b c d ∙ h
four_formed make same (a ∷ b ∷ c ∷ d ∷ e ∷ pais) h = tt

-- the kinds of answers

call_formed : (make : ℕ → ℕ → Pai → List Pai → Option Answer) (value : Data) → ((actor target : ℕ) (tile : Pai) (pais : List Pai) →
    are_in_order pais ≡ true → IsFormed (make actor target tile pais)) → IsFormed (call_in make value)
unfolding call_in
call_formed make value h =
    then_formed _ (seat_in (codes "actor") value) (λ actor.
    then_formed _ (seat_in (codes "target") value) (λ target.
    then_formed _ (pai_in (codes "pai") value) (λ tile. own_formed (make actor target tile) value (h actor target tile))))

closed_formed : (value : Data) → IsFormed (closed_kan_in value)
unfolding closed_kan_in
closed_formed value =
    then_formed _ (seat_in (codes "actor") value) (λ actor.
    own_formed (with_four_tiles (λ a b c d. ClosedKan actor a b c d)) value (four_formed (λ a b c d. ClosedKan actor a b c d) (λ a b c d. refl)))

added_formed : (value : Data) → IsFormed (added_kan_in value)
unfolding added_kan_in
added_formed value =
    then_formed _ (seat_in (codes "actor") value) (λ actor.
    then_formed _ (pai_in (codes "pai") value) (λ tile.
    own_formed (with_three_tiles (λ a b c. AddedKan actor tile a b c)) value (three_formed (λ a b c. AddedKan actor tile a b c) (λ a b c. refl))))

pass_formed : (value : Data) → IsFormed (pass_in value)
unfolding pass_in
pass_formed value = by_actor _
  where
    by_actor : (o : Option Data) → IsFormed (pass_by o)
    by_actor None = refl
    by_actor (Some field) = map_formed (λ actor. Pass (Some actor)) (seat_as field) (λ actor. refl)

discard_formed : (value : Data) → IsFormed (discard_in value)
unfolding discard_in
discard_formed value =
    then_formed _ (seat_in (codes "actor") value) (λ actor.
    then_formed _ (pai_in (codes "pai") value) (λ tile. map_formed (λ drawn. Discard actor tile drawn) _ (λ drawn. refl)))

reach_formed : (value : Data) → IsFormed (reach_in value)
unfolding reach_in
reach_formed value = map_formed (λ actor. Reach actor) (seat_in (codes "actor") value) (λ actor. refl)

win_formed : (value : Data) → IsFormed (win_in value)
unfolding win_in
win_formed value =
    then_formed _ (seat_in (codes "actor") value) (λ actor.
    then_formed _ (seat_in (codes "target") value) (λ target.
    map_formed (λ tile. Win actor target tile) (optional_pai (get (codes "pai") value)) (λ tile. refl)))

nine_formed : (value : Data) → IsFormed (nine_kinds_in value)
unfolding nine_kinds_in
nine_formed value =
    then_formed _ (seat_in (codes "actor") value) (λ actor.
    either_formed (is_nine_kinds (get (codes "reason") value)) (Some (NineKinds actor)) None refl tt)

by_formed : (type : List ℕ) (value : Data) → IsFormed (answer_by type value)
by_formed type value =
    either_formed (bytes_eq type (codes "none")) _ _ (pass_formed value)
    (either_formed (bytes_eq type (codes "dahai")) _ _ (discard_formed value)
    (either_formed (bytes_eq type (codes "chi")) _ _
    (call_formed chi_by value (λ actor target tile. two_formed (λ a b. Chi actor target tile a b) (λ a b. refl)))
    (either_formed (bytes_eq type (codes "pon")) _ _
    (call_formed pon_by value (λ actor target tile. two_formed (λ a b. Pon actor target tile a b) (λ a b. refl)))
    (either_formed (bytes_eq type (codes "daiminkan")) _ _
    (call_formed open_kan_by value (λ actor target tile. three_formed (λ a b c. OpenKan actor target tile a b c) (λ a b c. refl)))
    (either_formed (bytes_eq type (codes "ankan")) _ _ (closed_formed value)
    (either_formed (bytes_eq type (codes "kakan")) _ _ (added_formed value)
    (either_formed (bytes_eq type (codes "reach")) _ _ (reach_formed value)
    (either_formed (bytes_eq type (codes "hora")) _ _ (win_formed value)
    (either_formed (bytes_eq type (codes "ryukyoku")) _ _ (nine_formed value) tt)))))))))

-- The law.
pub answers_that_are_read_are_in_form : AnswersThatAreReadAreInForm
unfolding answer_of answer_in
answers_that_are_read_are_in_form line =
    read _ (then_formed answer_in (value_of line) (λ value. then_formed (λ type. answer_by type value) (text_in (codes "type") value)
    (λ type. by_formed type value)))
  where
    read : (o : Option Answer) → IsFormed o → is_in_form (unwrap_or o Unread) ≡ true
    read None h = refl
    read (Some answer) h = h
