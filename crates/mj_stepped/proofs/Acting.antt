-- What is listed is lawful, so a seat that may not pass has no list of a pass alone.
use Rattle.std.proofs.Common.{◌≡◌, ℕ, Bool, true, false, List, [], ◌∷◌, refl, sym, ◌∙◌}
use Rattle.std.specs.Prelude.{Some, None, filter, slice_get}
use Rattle.std.specs.List.{list_all}
use Rattle.std.proofs.lemmas.Bool.{and_parts, false≢true}
use Rattle.std.proofs.lemmas.Option.{slice_get_within, get_or_from_slice_get}
use Rattle.mj_deeds.specs.declared.answer.Answer.{Answer}
use Rattle.mj_deeds.specs.declared.answer.Answer.TheVariants.{Unread, Pass, Discard, Chi, Pon, OpenKan, ClosedKan, AddedKan, Reach, Win, NineKinds}
use Rattle.mj_deeds.specs.declared.deed.Deed.{Deed}
use Rattle.mj_wall.specs.declared.setting.Rules.{Rules}
use Rattle.mj_rules.specs.View.{view_of}
use Rattle.mj_rules.specs.Possible.{is_plain, is_lawful, candidates, possible_by, possible}
use Rattle.mj_rules.proofs.InTurn.{kept_member}
use Rattle.mj_rules.proofs.ListedOrder.{listed_is_plain}
use Rattle.mj_stepped.specs.Choices.{is_pass, is_pass_alone}

passes_at : {A : Type 0} (p : A → Bool) (xs : List A) (k : ℕ) (x : A) → slice_get (filter p xs) k ≡ Some x → p x ≡ true
passes_at p xs k x at = (kept_member p xs x (k, slice_get_within (filter p xs) k x at, get_or_from_slice_get (filter p xs) k x x at)).1

pub listed_is_lawful : (rules : Rules) (deeds : List Deed) (seat k : ℕ) (choice : Answer) → slice_get (possible rules deeds seat) k ≡ Some choice →
    is_lawful rules seat (view_of deeds seat) choice ≡ true
unfolding possible_by
listed_is_lawful rules deeds seat k choice at = passes_at (is_lawful rules seat (view_of deeds seat)) (candidates seat (view_of deeds seat)) k choice at

-- A seat that may not pass.
pub acts : (rules : Rules) (deeds : List Deed) (seat : ℕ) → is_lawful rules seat (view_of deeds seat) (Pass None) ≡ false → is_pass_alone (possible rules deeds seat) ≡ false
acts rules deeds seat fails = by_list (possible rules deeds seat) (λ choice at. listed_is_lawful rules deeds seat 0 choice at) (listed_is_plain rules deeds seat)
  where
    Lawful : Answer → Type 0
    Lawful answer = is_lawful rules seat (view_of deeds seat) answer ≡ true

    by_answer : (answer : Answer) → Lawful answer → is_plain answer ≡ true → is_pass answer ≡ false
    by_answer (Pass None) lawful plain = absurd (false≢true (sym fails ∙ lawful))
    by_answer (Pass (Some actor)) lawful plain = absurd (false≢true plain)
    by_answer Unread lawful plain = refl
    by_answer (Discard actor tile drawn) lawful plain = refl
    by_answer (Chi actor target tile a b) lawful plain = refl
    by_answer (Pon actor target tile a b) lawful plain = refl
    by_answer (OpenKan actor target tile a b c) lawful plain = refl
    by_answer (ClosedKan actor a b c d) lawful plain = refl
    by_answer (AddedKan actor tile a b c) lawful plain = refl
    by_answer (Reach actor) lawful plain = refl
    by_answer (Win actor target tile) lawful plain = refl
    by_answer (NineKinds actor) lawful plain = refl

    by_list : (list : List Answer) → ((choice : Answer) → slice_get list 0 ≡ Some choice → Lawful choice) → list_all is_plain list ≡ true → is_pass_alone list ≡ false
    by_list [] lawful plain = refl
    by_list (answer ∷ []) lawful plain = by_answer answer (lawful answer refl) (and_parts (is_plain answer) true plain).0
    by_list (answer ∷ other ∷ rest) lawful plain = refl
