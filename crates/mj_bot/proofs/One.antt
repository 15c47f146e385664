-- There is one choice.
use Rattle.std.proofs.Common.{◌≡◌, ◌==◌, ℕ, length, Bool, true, false, List, [], Option, Some, None, refl, sym, ap, ◌∙◌}
use Rattle.std.specs.Prelude.{filter, map, MatchOption, MatchBool}
use Rattle.mj_tiles.specs.Faces.{kind_of}
use Rattle.mj_tiles.specs.Counts.{kind_counts}
use Rattle.mj_tiles.specs.Kinds.{set_of}
use Rattle.mj_readings.specs.Sets.{set_of_meld}
use Rattle.mj_shanten.proofs.BestDiscard.{one_best}
use Rattle.mj_wall.specs.declared.setting.Rules.{Rules}
use Rattle.mj_rules.specs.Default.{lawful_faces, last_face}
use Rattle.mj_rules.specs.View.{SeatView, view_of, concealed, room}
use Rattle.mj_judge.specs.Measured.{is_measured}
use Rattle.mj_bot.specs.Choice.{lawful_of, IsBestLawful, IsBest, chosen}
use Rattle.mj_bot.specs.Laws.{ChoiceIsOne}

-- Two best discards are of one face.
one_face : (rules : Rules) (seat : ℕ) (view : SeatView) (f g : ℕ) → IsBest rules seat view f → IsBest rules seat view g → f ≡ g
one_face rules seat view f g x y = by_test (is_measured (kind_counts (concealed view)) (room view) (map set_of_meld view.melds)) x y
  where
    some_is : (a b : ℕ) → Some a ≡ Some b → a ≡ b
    some_is a b e = cc

    by_test : (b : Bool) → MatchBool b (IsBestLawful rules seat view f) (last_face (lawful_faces rules seat view) ≡ Some f) →
        MatchBool b (IsBestLawful rules seat view g) (last_face (lawful_faces rules seat view) ≡ Some g) → f ≡ g
    by_test true k l =
        some_is f g
        (sym k.face_is
        ∙ ap (λ kind. last_face (lawful_of rules seat view kind))
        (one_best (kind_counts (concealed view)) (room view) (length view.melds) (set_of (map kind_of (lawful_faces rules seat view))) (kind_of f) (kind_of g) k.kind_is l.kind_is)
        ∙ l.face_is)
    by_test false k l = some_is f g (sym k ∙ l)

-- Where no discard is lawful none is the best.
none_best : (rules : Rules) (seat : ℕ) (view : SeatView) (f : ℕ) → lawful_faces rules seat view ≡ [] → IsBest rules seat view f → ⊥
none_best rules seat view f none x = by_test (is_measured (kind_counts (concealed view)) (room view) (map set_of_meld view.melds)) x
  where
    never : (a : ℕ) → None ≡ Some a → ⊥
    never a e = cc

    by_test : (b : Bool) → MatchBool b (IsBestLawful rules seat view f) (last_face (lawful_faces rules seat view) ≡ Some f) → ⊥
    by_test true k = never f (sym (ap (λ (xs : List ℕ). last_face (filter (λ other. kind_of other == kind_of f) xs)) none) ∙ k.face_is)
    by_test false k = never f (sym (ap last_face none) ∙ k)

-- So there is one best discard, or none.
one_option : (rules : Rules) (seat : ℕ) (view : SeatView) (a b : Option ℕ) → MatchOption a (lawful_faces rules seat view ≡ []) (IsBest rules seat view) →
    MatchOption b (lawful_faces rules seat view ≡ []) (IsBest rules seat view) → a ≡ b
one_option rules seat view None None x y = refl
one_option rules seat view None (Some g) x y = absurd (none_best rules seat view g x y)
one_option rules seat view (Some f) None x y = absurd (none_best rules seat view f y x)
one_option rules seat view (Some f) (Some g) x y = ap Some (one_face rules seat view f g x y)

-- The law.
pub choice_is_one : ChoiceIsOne
choice_is_one rules deeds seat answer other x y =
    x.chosen_is ∙ ap (chosen rules seat (view_of deeds seat)) (one_option rules seat (view_of deeds seat) x.best y.best x.best_is y.best_is) ∙ sym y.chosen_is
