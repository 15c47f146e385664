-- The walls of a seed that are shuffled so far give what all of them give.
use Rattle.std.proofs.Common.{◌≡◌, ℕ, zero, suc, ◌+◌, ◌-◌, ◌<◌, ◌≤◌, ◌^◌, min, Bool, IsTrue, List, [], ◌∷◌, ◌++◌, length, inl, inr, refl, sym, ap, ◌∙◌, subst, arith, append_assoc}
use Rattle.std.specs.List.{list_all, slice_index_or}
use Rattle.std.proofs.Math.Nat.{mod-eq_of_lt}
use Rattle.std.proofs.lemmas.Bool.{and_parts, cases_eq}
use Rattle.std.proofs.lemmas.List.{append-nil, length-append, get_or_append_left, length_push}
use Rattle.std.proofs.lemmas.List.Folds.{list_all-append}
use Rattle.mj_deeds.specs.declared.deed.Deed.{Deed}
use Rattle.mj_deeds.specs.Hand.{hand_number}
use Rattle.mj_wall.specs.declared.setting.Rules.{Rules}
use Rattle.mj_wall.specs.Places.{is_wall}
use Rattle.mj_wall.specs.Shuffle.{shuffled_wall, shuffled_from}
use Rattle.mj_wall.proofs.SeedWalls.{next_from, many_from}
use Rattle.mj_rules.specs.Outcome.{AreSame, wall_of}
use Rattle.mj_rules.specs.Played.{IsPlayed}
use Rattle.mj_rules.proofs.SameWalls.{played_same}
use Rattle.mj_telling.specs.Inner.Firsts.{AreFirst}

-- One wall more is shuffled.
pub none_first : (seed : List ℕ) (red : Bool) (first number : ℕ) (there : List (List ℕ)) → first + number < 2 ^ 64 → there ≡ [] → AreFirst seed red first number there
none_first seed red first number there low is = record {
  low = low;
  few = least (length there) number (ap (λ (ws : List (List ℕ)). length ws) is);
  are = is ∙ sym (none (shuffled_from seed red first zero) (many_from seed red first zero)) ∙ ap (λ (ws : List (List ℕ)). shuffled_from seed red first (length ws)) (sym is);
}
  where
    least : (a b : ℕ) → a ≡ 0 → a ≤ b
    least a b e = omega (arith, e)

    none : (ws : List (List ℕ)) → length ws ≡ 0 → ws ≡ []
    none [] e = refl
    none (w ∷ ws) e = absurd (omega (arith, e))

pub more_first : (seed : List ℕ) (red : Bool) (first number n : ℕ) (wall : List ℕ) (there more : List (List ℕ)) → AreFirst seed red first number there → length there < number →
    n ≡ first + length there → wall ≡ shuffled_wall seed n red → more ≡ there ++ wall ∷ [] → AreFirst seed red first number more
more_first seed red first number n wall there more f low at is told = record {
  low = f.low;
  few = within (length there) (length more) number many low;
  are = told
      ∙ (λ i. f.are i ++ (is ∙ ap (λ (k : ℕ). shuffled_wall seed k red) at) i ∷ [])
      ∙ sym (next_from seed red first (length there))
      ∙ ap (shuffled_from seed red first) (sym (next (length there) (length more) many));
}
  where
    many : length more ≡ length there + 1
    many = ap (λ (ws : List (List ℕ)). length ws) told ∙ length_push there wall

    next : (a b : ℕ) → b ≡ a + 1 → b ≡ suc a
    next a b e = omega (arith, e)

    within : (a b c : ℕ) → b ≡ a + 1 → a < c → b ≤ c
    within a b c e h = omega (arith, e, h)

-- those that are there

-- The walls that are there are a front of all, and enough for the hand of this number and the next one.
pub record AreEnough (all there : List (List ℕ)) (hand : ℕ) : Type 0 where
  pub rest : List (List ℕ)
  pub front : all ≡ there ++ rest
  pub same : AreSame all there (hand + 1)

abbrev rest_from : List ℕ → Bool → ℕ → ℕ → ℕ → List (List ℕ)
rest_from seed red first m zero = []
rest_from seed red first m (suc j) = rest_from seed red first m j ++ shuffled_wall seed (first + (m + j)) red ∷ []

front_is : (seed : List ℕ) (red : Bool) (first m j : ℕ) → shuffled_from seed red first (m + j) ≡ shuffled_from seed red first m ++ rest_from seed red first m j
front_is seed red first m zero = ap (shuffled_from seed red first) (none m) ∙ sym (append-nil (shuffled_from seed red first m))
  where
    none : (a : ℕ) → a + zero ≡ a
    none a = omega arith
front_is seed red first m (suc j) =
    ap (shuffled_from seed red first) (next m j)
    ∙ next_from seed red first (m + j)
    ∙ ap (λ (ws : List (List ℕ)). ws ++ shuffled_wall seed (first + (m + j)) red ∷ []) (front_is seed red first m j)
    ∙ append_assoc (shuffled_from seed red first m) (rest_from seed red first m j) (shuffled_wall seed (first + (m + j)) red ∷ [])
  where
    next : (a b : ℕ) → a + suc b ≡ suc (a + b)
    next a b = omega arith

-- A front has the same walls at its places.
front_same : (there rest : List (List ℕ)) (hand : ℕ) → hand + 1 < length there → AreSame (there ++ rest) there (hand + 1)
front_same there rest hand low number h =
    ap (λ (k : ℕ). slice_index_or (there ++ rest) k []) (mod-eq_of_lt (early number (hand + 1) (length there) (length rest) (length (there ++ rest)) h low (length-append there rest)))
    ∙ get_or_append_left there rest [] number (within number (hand + 1) (length there) h low)
    ∙ sym (ap (λ (k : ℕ). slice_index_or there k []) (mod-eq_of_lt (within number (hand + 1) (length there) h low)))
  where
    within : (a b c : ℕ) → a ≤ b → b < c → a < c
    within a b c h k = omega (arith, h, k)

    early : (a b c d e : ℕ) → a ≤ b → b < c → e ≡ c + d → a < e
    early a b c d e h k f = omega (arith, h, k, f)

enough : (seed : List ℕ) (red : Bool) (first number : ℕ) (there : List (List ℕ)) (hand : ℕ) → AreFirst seed red first number there → min (hand + 2) number ≤ length there →
    AreEnough (shuffled_from seed red first number) there hand
enough seed red first number there hand f many = elim (cases_eq (length there) number) [
  | inl all ↦ (
      let is = f.are ∙ ap (shuffled_from seed red first) all in
      record {
        rest = [];
        front = sym is ∙ sym (append-nil there);
        same = λ k h. ap (λ (ws : List (List ℕ)). wall_of ws k) (sym is);
      })
  | inr fewer ↦ (
      let rest = rest_from seed red first (length there) (number - length there) in
      let front = ap (shuffled_from seed red first) (more (length there) number f.few)
      ∙ front_is seed red first (length there) (number - length there)
      ∙ ap (λ (ws : List (List ℕ)). ws ++ rest) (sym f.are) in
      record {
        rest = rest;
        front = front;
        same = subst (λ (ws : List (List ℕ)). AreSame ws there (hand + 1)) (sym front) (front_same there rest hand (beyond hand number (length there) many f.few fewer));
      })
]
  where
    more : (a b : ℕ) → a ≤ b → b ≡ a + (b - a)
    more a b h = omega (arith, h)

    beyond : (a b c : ℕ) → min (a + 2) b ≤ c → c ≤ b → (c ≡ b → ⊥) → a + 1 < c
    beyond a b c h k f = omega (arith, h, k, f)

-- The walls that are there may stand for all.
pub record StandFor (rules : Rules) (all there : List (List ℕ)) (deeds : List Deed) : Type 0 where
  pub some : 1 ≤ length there
  pub few : length there ≤ 200
  pub whole : IsTrue (list_all (is_wall rules.red) there)
  pub played : IsPlayed rules there deeds
  pub same : AreSame all there (hand_number deeds + 1)

stand_for : (seed : List ℕ) (red : Bool) (first number : ℕ) (there : List (List ℕ)) (hand needed : ℕ) (rules : Rules) (deeds : List Deed) → AreFirst seed red first number there →
    hand ≡ hand_number deeds → needed ≡ min (hand + 2) number → needed ≤ length there → 1 ≤ length (shuffled_from seed red first number) → length (shuffled_from seed red first number) ≤ 200 →
    IsTrue (list_all (is_wall rules.red) (shuffled_from seed red first number)) → IsPlayed rules (shuffled_from seed red first number) deeds →
    StandFor rules (shuffled_from seed red first number) there deeds
stand_for seed red first number there hand needed rules deeds f at is many some few whole played =
    let are = enough seed red first number there hand f (least hand number needed (length there) is many) in
    let same = subst (λ (k : ℕ). AreSame (shuffled_from seed red first number) there (k + 1)) at are.same in
    record {
      some = least_one hand number needed (length there) (length (shuffled_from seed red first number)) is many (many_from seed red first number) some;
      few = fewer (length (shuffled_from seed red first number)) (length there) (length are.rest) (ap (λ (ws : List (List ℕ)). length ws) are.front ∙ length-append there are.rest) few;
      whole = (and_parts (list_all (is_wall rules.red) there) (list_all (is_wall rules.red) are.rest)
          (sym (ap (list_all (is_wall rules.red)) are.front ∙ list_all-append (is_wall rules.red) there are.rest) ∙ whole)).0;
      played = played_same rules (shuffled_from seed red first number) there deeds same played;
      same = same;
    }
  where
    least : (a b c d : ℕ) → c ≡ min (a + 2) b → c ≤ d → min (a + 2) b ≤ d
    least a b c d e h = omega (arith, e, h)

    least_one : (a b c d e : ℕ) → c ≡ min (a + 2) b → c ≤ d → e ≡ b → 1 ≤ e → 1 ≤ d
    least_one a b c d e f h g k = omega (arith, f, h, g, k)

    fewer : (a b c : ℕ) → a ≡ b + c → a ≤ 200 → b ≤ 200
    fewer a b c e h = omega (arith, e, h)

pub stand_by : (seed : List ℕ) (red : Bool) (first number : ℕ) (all there shown : List (List ℕ)) (hand needed : ℕ) (rules : Rules) (deeds : List Deed)
    → shuffled_from seed red first number ≡ all → shown ≡ there →
    AreFirst seed red first number there → hand ≡ hand_number deeds → needed ≡ min (hand + 2) number → needed ≤ length there → 1 ≤ length all → length all ≤ 200 →
    IsTrue (list_all (is_wall rules.red) all) → IsPlayed rules all deeds → StandFor rules all shown deeds
stand_by seed red first number all there shown hand needed rules deeds view shows f at is many some few whole played =
    subst (λ (ws : List (List ℕ)). StandFor rules ws shown deeds) view
    (subst (λ (ws : List (List ℕ)). StandFor rules (shuffled_from seed red first number) ws deeds) (sym shows)
    (stand_for seed red first number there hand needed rules deeds f at is many
    (subst (λ (ws : List (List ℕ)). 1 ≤ length ws) (sym view) some)
    (subst (λ (ws : List (List ℕ)). length ws ≤ 200) (sym view) few)
    (subst (λ (ws : List (List ℕ)). IsTrue (list_all (is_wall rules.red) ws)) (sym view) whole)
    (subst (λ (ws : List (List ℕ)). IsPlayed rules ws deeds) (sym view) played)))
