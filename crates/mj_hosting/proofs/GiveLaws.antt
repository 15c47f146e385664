-- The giving back of links, one after the other.
use Rattle.std.proofs.Common.{◌≡◌, ℕ, List, [], ◌∷◌, ◌++◌, refl, ap, sym, subst, ◌∙◌, reverse}
use Rattle.std.specs.Prelude.{Option, Some, None, Vec}
use Rattle.std.specs.declared.alloc.Global.{Global}
use Rattle.std.proofs.lemmas.List.{append_assoc, append-nil, map-append, reverse-append}
use Rattle.mj_links.specs.Hosts.{GivesBack}
use Rattle.mj_links.specs.declared.host.Given.TheVariants as given
use Rattle.mj_handlers.specs.declared.visit.Session.{Session}
use Rattle.mj_handlers.specs.Handlers.{rows}
use Rattle.mj_hosting.specs.Plays.{AppendsLinks}
use Rattle.mj_hosting.specs.Steps.{placed_link, links_at, links_in}
use Rattle.mj_hosting.specs.Inner.Giving.{Giving}

module _ {X : Type 0} where
  appends_more : (old now next : Option (List X)) (taken more : List X) → AppendsLinks old now taken → AppendsLinks now next more → AppendsLinks old next (taken ++ more)
  appends_more None now next taken more a b = tt
  appends_more (Some xs) None next taken more a b = absurd a
  appends_more (Some xs) (Some ys) None taken more a b = absurd b
  appends_more (Some xs) (Some ys) (Some zs) taken more a b = b ∙ (ap (λ (l : List X). l ++ more) a ∙ append_assoc xs taken more)

  appends_none : (old : Option (List X)) → AppendsLinks old old []
  appends_none None = tt
  appends_none (Some xs) = sym (append-nil xs)

  pub giving_start : (returned : Option (List X)) (all : List X) → Giving returned returned all all
  giving_start returned all = record { taken = []; back = appends_none returned; left = refl }

  giving_on : (old now next : Option (List X)) (all more rest last : List X) → more ≡ rest ++ last → Giving old now all more → AppendsLinks now next (reverse last) → Giving old next all rest
  giving_on old now next all more rest last e g back = record {
    taken = g.taken ++ reverse last;
    back = appends_more old now next g.taken (reverse last) g.back back;
    left = g.left ∙ (ap (λ (l : List X). g.taken ++ reverse l) e
        ∙ (ap (λ (l : List X). g.taken ++ l) (reverse-append rest last) ∙ sym (append_assoc g.taken (reverse last) (reverse rest))));
  }

  pub given_all : (old now : Option (List X)) (all : List X) → Giving old now all [] → AppendsLinks old now (reverse all)
  given_all old now all g = subst (λ (l : List X). AppendsLinks old now l) (sym (g.left ∙ append-nil g.taken)) g.back

module _ {L : Type 0} where
  one_back : (now next : Option (List (L × ℕ))) (back : L × ℕ) → GivesBack given.Kept now next back → AppendsLinks now next (back ∷ [])
  one_back None next back h = tt
  one_back (Some xs) None back h = absurd h
  one_back (Some xs) (Some ys) back h = h

  -- One session's link more.
  pub giving_link : (old now next : Option (List (L × ℕ))) (all : List (L × ℕ)) (more rest : List (Session L)) (session : Session L) → more ≡ rest ++ session ∷ []
      → Giving old now all (links_at more) → GivesBack given.Kept now next (session.link, session.place) → Giving old next all (links_at rest)
  giving_link old now next all more rest session e g back =
      giving_on old now next all (links_at more) (links_at rest) (placed_link session ∷ [])
      (ap links_at e ∙ map-append placed_link rest (session ∷ [])) g (one_back now next (placed_link session) back)

  links_append : (xs ys : List (List (Session L))) → links_in (xs ++ ys) ≡ links_in xs ++ links_in ys
  links_append [] ys = refl
  links_append (x ∷ xs) ys = ap (λ (l : List (L × ℕ)). links_at x ++ l) (links_append xs ys) ∙ sym (append_assoc (links_at x) (links_in xs) (links_in ys))

  -- Those of one table more.
  pub giving_table : (old now next : Option (List (L × ℕ))) (all : List (L × ℕ)) (more rest : List (Vec (Session L) Global)) (own : Vec (Session L) Global) → more ≡ rest ++ own ∷ []
      → Giving old now all (links_in (rows more)) → AppendsLinks now next (reverse (links_at own.items)) → Giving old next all (links_in (rows rest))
  giving_table old now next all more rest own e g back =
      giving_on old now next all (links_in (rows more)) (links_in (rows rest)) (links_at own.items)
      (ap (λ (vs : List (Vec (Session L) Global)). links_in (rows vs)) e ∙ (ap links_in (map-append (λ (v : Vec (Session L) Global). v.items) rest (own ∷ []))
      ∙ (links_append (rows rest) (own.items ∷ []) ∙ ap (λ (l : List (L × ℕ)). links_in (rows rest) ++ l) (append-nil (links_at own.items))))) g back
