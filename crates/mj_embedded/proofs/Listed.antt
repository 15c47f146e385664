-- What is listed is in form.
use Rattle.std.proofs.Common.{◌≡◌, ℕ, true, List}
use Rattle.std.specs.Prelude.{Some, is_none, slice_get}
use Rattle.std.proofs.lemmas.Bool.{and_parts}
use Rattle.mj_deeds.specs.declared.answer.Answer.{Answer}
use Rattle.mj_deeds.specs.declared.deed.Deed.{Deed}
use Rattle.mj_deeds.specs.Answers.{is_in_form}
use Rattle.mj_wall.specs.declared.setting.Rules.{Rules}
use Rattle.mj_rules.specs.View.{view_of}
use Rattle.mj_rules.specs.Broken.{broken_by}
use Rattle.mj_rules.specs.Possible.{is_lawful, possible}
use Rattle.mj_stepped.proofs.Acting.{listed_is_lawful}

pub listed_form : (rules : Rules) (deeds : List Deed) (seat k : ℕ) (choice : Answer) → slice_get (possible rules deeds seat) k ≡ Some choice → is_in_form choice ≡ true
unfolding is_lawful
listed_form rules deeds seat k choice at =
    (and_parts (is_in_form choice) (is_none (broken_by rules seat (view_of deeds seat) choice)) (listed_is_lawful rules deeds seat k choice at)).0
