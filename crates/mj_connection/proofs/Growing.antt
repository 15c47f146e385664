-- How a history grows, and what of it is one author's.
use Rattle.std.proofs.Common.{◌≡◌, ℕ, Bool, true, List, [], ◌∷◌, ◌++◌, ◌==◌, refl, sym, ap, ◌∙◌, subst, arith, append_assoc, append-nil}
use Rattle.std.proofs.lemmas.List.Elements.{filter-append}
use Rattle.std.proofs.lemmas.List.{map-append}
use Rattle.std.proofs.lemmas.Bool.Decides.{nat_tests}
use mathlib.Core.Bool.{cond}
use Rattle.mj_connection.specs.Seating.{Entry, own_of, Enters, said_by}
use Rattle.mj_ports.specs.declared.entry.Entry.TheVariants.{Said}
use Rattle.mj_ports.specs.Entries.{author_of}

module _ {A : Type 0} where
  pub own_append : (n : ℕ) (xs ys : List (Entry A)) → own_of n (xs ++ ys) ≡ own_of n xs ++ own_of n ys
  own_append n xs ys = filter-append (λ (e : Entry A). author_of e == n) xs ys

  own_one : (n : ℕ) (e : Entry A) → author_of e ≡ n → own_of n (e ∷ []) ≡ e ∷ []
  own_one n e own = let h : (author_of e == n) ≡ true = grind (arith, nat_tests, own) in ap (λ (b : Bool). cond b (e ∷ []) []) h

  pub enters_nothing : (n : ℕ) (xs : List (Entry A)) → Enters n xs xs []
  enters_nothing n xs = record { since = []; grown = sym (append-nil xs); mine_are = refl }

  pub enters_chain : (n : ℕ) (a b c m k : List (Entry A)) → Enters n a b m → Enters n b c k → Enters n a c (m ++ k)
  enters_chain n a b c m k p q = record {
    since = p.since ++ q.since;
    grown = q.grown ∙ (ap (λ (l : List (Entry A)). l ++ q.since) p.grown ∙ append_assoc a p.since q.since);
    mine_are = own_append n p.since q.since ∙ (ap (λ (l : List (Entry A)). l ++ own_of n q.since) p.mine_are ∙ ap (λ (l : List (Entry A)). m ++ l) q.mine_are);
  }

  pub enters_one : (n : ℕ) (a b : List (Entry A)) (e : Entry A) → author_of e ≡ n → b ≡ a ++ e ∷ [] → Enters n a b (e ∷ [])
  enters_one n a b e own is = record { since = e ∷ []; grown = is; mine_are = own_one n e own }

  pub enters_same : (n : ℕ) (a b : List (Entry A)) → b ≡ a → Enters n a b []
  enters_same n a b e = subst (λ (l : List (Entry A)). Enters n a l []) (sym e) (enters_nothing n a)

  pub said_append : (reads : List ℕ → A) (author seat : ℕ) (a b : List (List ℕ)) → said_by reads author seat (a ++ b) ≡ said_by reads author seat a ++ said_by reads author seat b
  said_append reads author seat a b = map-append (λ (line : List ℕ). Said author seat (reads line)) a b
