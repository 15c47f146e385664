-- Lists that have all and only the things with a property.
use Rattle.std.proofs.Common.{◌≡◌, ◌≢◌, ◌⊎◌, ◌+◌, ◌-◌, ◌<◌, List, [], ◌∷◌, ◌++◌, length, get_or, refl, sym, subst, inl, inr, arith, length-append, lit<}
use Rattle.std.specs.Prelude.{Contains, AllPairs, OnOk, Result, Ok, Err}
use Rattle.std.proofs.lemmas.Bool.{cases_lt}
use Rattle.std.proofs.lemmas.List.{get_or_append_left, get_or-append_right}
use Rattle.std.proofs.lemmas.List.Elements.{All-append, All-weaker, All-contains, All-nil, All-cons, Contains-append_left, Contains-append_right, Contains-get_or}
use Rattle.mj_suits.specs.Each.{AreAll}

-- two lists in which R holds between each element and each later one, and between those of the two
pub AllPairs-append : {X : Type 0} (R : X → X → Type 0) (xs ys : List X) → AllPairs R xs → AllPairs R ys → ((x y : X) → Contains xs x → Contains ys y → R x y) → AllPairs R (xs ++ ys)
AllPairs-append R xs ys in_xs in_ys across i j d before inside =
    elim (cases_lt j (length xs)) [
      | inl jx ↦
          let ix : i < length xs = omega arith in
          rw (get_or_append_left xs ys d i ix, get_or_append_left xs ys d j jx) (in_xs i j d before jx)
      | inr jy ↦
          let room : length (xs ++ ys) ≡ length xs + length ys = length-append xs ys in
          let jr : j - length xs < length ys = omega arith in
          elim (cases_lt i (length xs)) [
            | inl ix ↦ rw (get_or_append_left xs ys d i ix, get_or-append_right xs ys (length xs) j d refl jy)
                (across (get_or xs i d) (get_or ys (j - length xs) d) (Contains-get_or xs i d ix) (Contains-get_or ys (j - length xs) d jr))
            | inr iy ↦
                let step : i - length xs < j - length xs = omega arith in
                rw (get_or-append_right xs ys (length xs) i d refl iy, get_or-append_right xs ys (length xs) j d refl jy)
                (in_ys (i - length xs) (j - length xs) d step jr)
          ]
    ]

-- what has P is of one of two kinds, and of one only
pub AreAll-append : {X : Type 0} (P Q R : X → Type 0) (xs ys : List X) → ((x : X) → Q x → P x) → ((x : X) → R x → P x) → ((x : X) → P x → Q x ⊎ R x) → ((x : X) → Q x → R x → ⊥)
    → AreAll Q xs → AreAll R ys → AreAll P (xs ++ ys)
AreAll-append {X} P Q R xs ys left right cases apart in_xs in_ys = record {
  only = All-append P xs ys (All-weaker Q P left xs in_xs.only) (All-weaker R P right ys in_ys.only);
  all = λ x h. elim (cases x h) [
    | inl q ↦ Contains-append_left xs ys x (in_xs.all x q)
    | inr r ↦ Contains-append_right xs ys x (in_ys.all x r)
  ];
  once = AllPairs-append (λ x y. x ≢ y) xs ys in_xs.once in_ys.once
      (λ x y at_x at_y same. apart y
      (subst Q same (All-contains Q xs x in_xs.only at_x))
      (All-contains R ys y in_ys.only at_y));
}

-- the same things by another property
pub AreAll-same : {X : Type 0} (P Q : X → Type 0) (xs : List X) → ((x : X) → Q x → P x) → ((x : X) → P x → Q x) → AreAll Q xs → AreAll P xs
AreAll-same P Q xs to from are = record {
  only = All-weaker Q P to xs are.only;
  all = λ x h. are.all x (from x h);
  once = are.once;
}

-- nothing has the property
pub AreAll-none : {X : Type 0} (P : X → Type 0) → ((x : X) → P x → ⊥) → AreAll P []
AreAll-none P none = record {
  only = All-nil P;
  all = λ x h. absurd (none x h);
  once = λ i j d before inside. absurd (omega arith);
}

-- one thing alone has the property
pub AreAll-one : {X : Type 0} (P : X → Type 0) (y : X) → P y → ((x : X) → P x → x ≡ y) → AreAll P (y ∷ [])
AreAll-one P y has one = record {
  only = All-cons P y [] has (All-nil P);
  all = λ x h. (0, lit< tt, sym (one x h));
  once = λ i j d before inside. absurd (omega arith);
}

-- what follows from a fact of a result that is Ok
pub OnOk-then : {T E : Type 0} (r : Result T E) (P Q : Type 0) → (P → Q) → OnOk r P → OnOk r Q
OnOk-then (Ok v) P Q step h = step h
OnOk-then (Err e) P Q step h = tt
