-- What opens to a beginning of entries.
use Rattle.std.proofs.Common.{◌≡◌, ◌⊎◌, inl, inr, ℕ, List, [], ◌∷◌, ◌++◌, refl, ap, sym, ◌∙◌, subst, append-nil, append_assoc}
use Rattle.std.specs.Prelude.{Option, Some, None}
use Rattle.mj_ports.specs.declared.entry.Entry.{Entry}
use Rattle.mj_deeds.specs.declared.answer.Answer.{Answer}
use Rattle.mj_journal.specs.Openings.{Opening, Open}
use Rattle.mj_journal.specs.Keeping.{OpensTo, OpensWith}
use Rattle.mj_refereeing.specs.Keep.{Gives, GivesFront}
use Rattle.mj_refereeing.specs.Inner.Keeping.{list_of}
use Rattle.mj_refereeing.proofs.KeepLaws.{Begins}

abbrev Entries : Type 0
Entries = List (Entry Answer)

pub gives-open : (opening : Opening Entries) (entries : Entries) (end : ℕ) → opening ≡ Open entries end → Gives opening entries
gives-open opening entries end is = subst (λ (o : Opening Entries). Gives o entries) (sym is) refl

-- All of them are a beginning.
pub front-all : (opening : Opening Entries) (entries : Entries) → Gives opening entries → GivesFront opening entries
front-all opening entries gives = record { front = entries; rest = []; is = sym (append-nil entries); gives = gives }

-- A beginning of a beginning is one.
pub front-more : (opening : Opening Entries) (entries more : Entries) → Begins entries more → GivesFront opening entries → GivesFront opening more
front-more opening entries more b f = record {
  front = f.front;
  rest = f.rest ++ b.rest;
  is = b.is ∙ ap (λ (es : Entries). es ++ b.rest) f.is ∙ append_assoc f.front f.rest b.rest;
  gives = f.gives;
}

module _ (opens : List ℕ → Opening Entries) (entries : Entries) (image : List ℕ) where
  pub front-to : OpensTo opens entries image → GivesFront (opens image) entries
  front-to o = front-all (opens image) entries (gives-open (opens image) entries o.0 o.1)

  front-with : (e : Option (Entry Answer)) → OpensWith opens entries e image → GivesFront (opens image) (entries ++ list_of e)
  front-with None o = absurd o
  front-with (Some e) o = front-all (opens image) (entries ++ e ∷ []) (gives-open (opens image) (entries ++ e ∷ []) o.0 o.1)

  -- These entries, or these and one more.
  pub front-by : (e : Option (Entry Answer)) → OpensTo opens entries image ⊎ OpensWith opens entries e image → GivesFront (opens image) (entries ++ list_of e)
  front-by e (inl o) = front-more (opens image) entries (entries ++ list_of e) (record { rest = list_of e; is = refl }) (front-to o)
  front-by e (inr o) = front-with e o
