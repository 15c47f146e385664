-- Of a seat that may not pass the discards stand first in its list.
use Rattle.std.proofs.Common.{◌≡◌, ℕ, false, List, [], ◌∷◌, ◌++◌, refl, sym, ap, ◌∙◌}
use Rattle.std.specs.Prelude.{Some, None, slice_get}
use Rattle.mj_readings.proofs.Picking.{slice_get-left}
use Rattle.mj_deeds.specs.declared.answer.Answer.{Answer}
use Rattle.mj_deeds.specs.declared.answer.Answer.TheVariants.{Pass, Reach, NineKinds}
use Rattle.mj_deeds.specs.declared.deed.Deed.{Deed}
use Rattle.mj_wall.specs.declared.setting.Rules.{Rules}
use Rattle.mj_rules.specs.View.{SeatView, view_of}
use Rattle.mj_rules.specs.Possible.{is_lawful, all_discards, all_calls, all_closed_kans, all_added_kans, triplets, all_wins, possible_by, possible}
use Rattle.mj_judge.specs.Inner.Tried.{lawful_among}
use Rattle.mj_judge.proofs.Tried.{pass_fails, lawful-append}

-- The candidates after the discards.
abbrev others : ℕ → SeatView → List Answer
others seat view =
    all_calls seat view.turn
    ++ (all_closed_kans seat
    ++ (all_added_kans seat (triplets view)
    ++ ((Reach seat ∷ [])
    ++ (all_wins seat view.turn
    ++ (NineKinds seat ∷ [])))))

whole : (rules : Rules) (ds : List Deed) (seat : ℕ) → lawful_among rules ds seat ((Pass None ∷ []) ++ (all_discards seat ++ others seat (view_of ds seat))) ≡ possible rules ds seat
unfolding lawful_among possible_by
whole rules ds seat = refl

pub discards_first : (rules : Rules) (ds : List Deed) (seat k : ℕ) (choice : Answer) → is_lawful rules seat (view_of ds seat) (Pass None) ≡ false →
    slice_get (lawful_among rules ds seat (all_discards seat)) k ≡ Some choice → slice_get (possible rules ds seat) k ≡ Some choice
discards_first rules ds seat k choice fails at =
    ap (λ (xs : List Answer). slice_get xs k) (sym all) ∙ slice_get-left (lawful_among rules ds seat (all_discards seat)) _ k choice at
  where
    all : lawful_among rules ds seat (all_discards seat) ++ lawful_among rules ds seat (others seat (view_of ds seat)) ≡ possible rules ds seat
    all =
        sym (lawful-append rules ds seat (all_discards seat) (others seat (view_of ds seat)))
        ∙ pass_fails rules ds seat _ fails
        ∙ sym (lawful-append rules ds seat (Pass None ∷ []) (all_discards seat ++ others seat (view_of ds seat)))
        ∙ whole rules ds seat
