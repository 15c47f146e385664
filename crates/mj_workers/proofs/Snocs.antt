-- Lists with a last element.
use Rattle.std.proofs.Common.{◌≡◌, List, [], ◌∷◌, ◌++◌, length, map, refl, sym, ap, ◌∙◌, arith, append_assoc, append-nil}
use Rattle.std.specs.Prelude.{flat_map, Option, Some}
use Rattle.std.proofs.lemmas.List.{length-append}

module _ {X : Type 0} where
  no_snoc : {B : Type 0} (xs : List X) (x : X) → [] ≡ xs ++ x ∷ [] → B
  no_snoc xs x e = absurd (let long : 0 ≡ length (xs ++ x ∷ []) = ap length e in omega (arith, long, length-append xs (x ∷ [])))

  same_head : (x y : X) (xs ys : List X) → x ∷ xs ≡ y ∷ ys → x ≡ y
  same_head x y xs ys e = cc

  same_tail : (x y : X) (xs ys : List X) → x ∷ xs ≡ y ∷ ys → xs ≡ ys
  same_tail x y xs ys e = cc

  pub same_snoc : (xs ys : List X) (x y : X) → xs ++ x ∷ [] ≡ ys ++ y ∷ [] → (xs ≡ ys) × (x ≡ y)
  same_snoc [] [] x y e = (refl, same_head x y [] [] e)
  same_snoc [] (b ∷ ys) x y e = no_snoc ys y (same_tail x b [] (ys ++ y ∷ []) e)
  same_snoc (a ∷ xs) [] x y e = no_snoc xs x (sym (same_tail a y (xs ++ x ∷ []) [] e))
  same_snoc (a ∷ xs) (b ∷ ys) x y e =
      let rest = same_snoc xs ys x y (same_tail a b (xs ++ x ∷ []) (ys ++ y ∷ []) e) in
      ((λ i. same_head a b (xs ++ x ∷ []) (ys ++ y ∷ []) e i ∷ rest.0 i), rest.1)

module _ {D X : Type 0} (f : D → List X) where
  pub flat_one : (ds : List D) (d : D) → flat_map f (ds ++ d ∷ []) ≡ flat_map f ds ++ f d
  flat_one [] d = append-nil (f d)
  flat_one (e ∷ ds) d = ap (λ (l : List X). f e ++ l) (flat_one ds d) ∙ sym (append_assoc (f e) (flat_map f ds) (f d))

module _ {X : Type 0} where
  pub none_mapped : (ps : List X) → map Some ps ≡ [] → ps ≡ []
  none_mapped [] e = refl
  none_mapped (p ∷ ps) e = absurd cc

-- values that are those in places, the last one apart
pub some_snoc : {X : Type 0} (ps : List X) (os : List (Option X)) (o : Option X) → map Some ps ≡ os ++ o ∷ [] → (qs : List X) × (p : X) × (ps ≡ qs ++ p ∷ []) × (map Some qs ≡ os) × (Some p ≡ o)
some_snoc [] os o e = absurd (let long : 0 ≡ length (os ++ o ∷ []) = ap length e in omega (arith, long, length-append os (o ∷ [])))
some_snoc (p ∷ ps) [] o e = ([], p, ap (λ (l : List _). p ∷ l) (none_mapped ps (same_tail (Some p) o (map Some ps) [] e)), refl, same_head (Some p) o (map Some ps) [] e)
some_snoc (p ∷ ps) (a ∷ os) o e =
    let r = some_snoc ps os o (same_tail (Some p) a (map Some ps) (os ++ o ∷ []) e) in
    let h : Some p ≡ a = same_head (Some p) a (map Some ps) (os ++ o ∷ []) e in
    (p ∷ r.0, r.1, ap (λ (l : List _). p ∷ l) r.2, (λ i. h i ∷ r.3 i), r.4)
