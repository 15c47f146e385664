-- No fewer exchanges lead to a ready hand.
use Rattle.std.proofs.Common.{ℕ, ◌≡◌, ◌≢◌, subst, ◌<◌, ◌≤◌, ◌+◌, ◌∷◌, [], cond, eqb, List, length, get_or, refl, sym, ◌∙◌, ap, arith, zero, suc, inl, inr}
use Rattle.std.proofs.lemmas.Bool.{cases_eq, eq-eqb, ne_eqb}
use Rattle.std.proofs.lemmas.List.{length-set}
use Rattle.mj_readings.specs.Tests.{one_more}
use Rattle.mj_suits.specs.Targets.{missing}
use Rattle.mj_shanten.specs.Room.{IsHand, IsWithinRoom}
use Rattle.mj_shanten.specs.Shanten.{IsGoal, IsShanten}
use Rattle.mj_shanten.specs.Exchanges.{exchanged, MayExchangeAll, after_all, LeadsToReady, AreLeastExchanges}
use Rattle.mj_shanten.proofs.Goal.{counts_from}
use Rattle.mj_shanten.proofs.Path.{one_more_at, exchanged_at, exchanged_size, path_leads}

pub fewer_held : (t xs ys : List ℕ) → length xs ≡ length ys → ((k : ℕ) → k < length xs → get_or ys k 0 ≤ get_or xs k 0) → missing t xs ≤ missing t ys
fewer_held [] xs ys same each = omega arith
fewer_held (w ∷ t) [] [] same each = omega arith
fewer_held (w ∷ t) [] (y ∷ ys) same each = absurd (omega arith)
fewer_held (w ∷ t) (x ∷ xs) [] same each = absurd (omega arith)
fewer_held (w ∷ t) (x ∷ xs) (y ∷ ys) same each =
    let here : y ≤ x = each 0 (omega arith) in
    let rest : missing t xs ≤ missing t ys = fewer_held t xs ys (omega arith) (λ k inside. each (suc k) (omega arith)) in
    omega arith

shift : (p k : ℕ) → ◌≡◌ {A = ℕ} (cond (eqb (suc p) (suc k)) 1 0) (cond (eqb p k) 1 0)
shift p k = elim (cases_eq p k) [
  | inl e ↦ ap (λ b. cond b 1 0) (eq-eqb (suc p) (suc k) (ap (λ n. suc n) e) ∙ sym (eq-eqb p k e))
  | inr e ↦ (let f : suc p ≢ suc k = (λ g. e (omega arith)) in ap (λ b. cond b 1 0) (ne_eqb (suc p) (suc k) f ∙ sym (ne_eqb p k e)))
]

-- one tile more of one kind makes a hand nearer by one at most
pub one_nearer : (p : ℕ) (t xs ys : List ℕ) → length xs ≡ length ys → ((k : ℕ) → k < length xs → get_or ys k 0 ≤ get_or xs k 0 + cond (eqb p k) 1 0) → missing t xs ≤ missing t ys + 1
one_nearer p [] xs ys same each = omega arith
one_nearer p (w ∷ t) [] [] same each = omega arith
one_nearer p (w ∷ t) [] (y ∷ ys) same each = absurd (omega arith)
one_nearer p (w ∷ t) (x ∷ xs) [] same each = absurd (omega arith)
one_nearer zero (w ∷ t) (x ∷ xs) (y ∷ ys) same each =
    let here : y ≤ x + 1 = each 0 (omega arith) in
    let rest : missing t xs ≤ missing t ys =
    fewer_held t xs ys (omega arith)
    (λ k inside. (let h : get_or ys k 0 ≤ get_or xs k 0 + cond (eqb zero (suc k)) 1 0 = each (suc k) (omega arith) in let f : zero ≢ suc k = (λ e. omega arith) in
    let g : ◌≡◌ {A = ℕ} (cond (eqb zero (suc k)) 1 0) 0 = ap (λ b. cond b 1 0) (ne_eqb zero (suc k) f) in omega arith)) in
    omega arith
one_nearer (suc p) (w ∷ t) (x ∷ xs) (y ∷ ys) same each =
    let h : y ≤ x + cond (eqb (suc p) 0) 1 0 = each 0 (omega arith) in
    let f : suc p ≢ 0 = (λ e. omega arith) in
    let g : ◌≡◌ {A = ℕ} (cond (eqb (suc p) 0) 1 0) 0 = ap (λ b. cond b 1 0) (ne_eqb (suc p) 0 f) in
    let rest : missing t xs ≤ missing t ys + 1 =
    one_nearer p t xs ys (omega arith) (λ k inside. (let e : get_or ys k 0 ≤ get_or xs k 0 + cond (eqb (suc p) (suc k)) 1 0 = each (suc k) (omega arith) in let s = shift p k in omega arith)) in
    omega arith

missing_itself : (t : List ℕ) → missing t t ≡ 0
missing_itself [] = refl
missing_itself (w ∷ t) = (let r = missing_itself t in omega arith)

-- what the exchanges leave
record Remainder (room counts : List ℕ) (exchanges : List (ℕ × ℕ)) (t : List ℕ) : Type 0 where
  size : length (after_all counts exchanges) ≡ 34
  within : IsWithinRoom (after_all counts exchanges) room
  near : missing t counts ≤ missing t (after_all counts exchanges) + length exchanges

left_after : (room counts : List ℕ) (exchanges : List (ℕ × ℕ)) (t : List ℕ) → length counts ≡ 34 → IsWithinRoom counts room → MayExchangeAll room counts exchanges → Remainder room counts exchanges t
left_after room counts [] t size within may = record { size = size; within = within; near = omega arith }
left_after room counts (e ∷ es) t size within may =
    let next : length (exchanged counts e) ≡ 34 = exchanged_size counts e.0 e.1 ∙ size in
    let r : Remainder room (exchanged counts e) es t = left_after room (exchanged counts e) es t next may.0.within may.1 in
    let n : missing t counts ≤ missing t (exchanged counts e) + 1 =
    one_nearer e.1 t counts (exchanged counts e) (size ∙ sym next)
    (λ k inside. (let a = exchanged_at counts e.0 e.1 k (let o = may.0.out_kind in omega arith) (let p = may.0.in_kind in omega arith) in omega arith)) in
    record { size = r.size; within = r.within; near = (let m = r.near in omega arith) }

no_fewer : (counts room target : List ℕ) (melds number many : ℕ) (exchanges : List (ℕ × ℕ)) → length counts ≡ 34 → IsHand counts room melds → IsShanten counts room melds number target
    → LeadsToReady counts room melds many exchanges → number ≤ many
no_fewer counts room target melds number many exchanges size hand is leads =
    (let l = is.least (one_more (after_all counts exchanges) leads.ready.0) goal in let n = left.near in let m = leads.many in let o = one in omega arith)
  where
    left : Remainder room counts exchanges (one_more (after_all counts exchanges) leads.ready.0)
    left = left_after room counts exchanges (one_more (after_all counts exchanges) leads.ready.0) size hand.within leads.each

    at : (k : ℕ) → get_or (one_more (after_all counts exchanges) leads.ready.0) k 0 ≡ get_or (after_all counts exchanges) k 0 + cond (eqb leads.ready.0 k) 1 0
    at k = one_more_at (after_all counts exchanges) leads.ready.0 k (let s = left.size in let w = leads.ready.1.0 in omega arith)

    whole : length (one_more (after_all counts exchanges) leads.ready.0) ≡ 34
    whole = length-set (after_all counts exchanges) leads.ready.0 _ ∙ left.size

    one : missing (one_more (after_all counts exchanges) leads.ready.0) (after_all counts exchanges) ≤ 1
    one = (let a = one_nearer leads.ready.0 (one_more (after_all counts exchanges) leads.ready.0) (after_all counts exchanges) (one_more (after_all counts exchanges) leads.ready.0)
        (left.size ∙ sym whole) (λ k inside. (let b = at k in omega arith)) in
        let c = missing_itself (one_more (after_all counts exchanges) leads.ready.0) in omega arith)

    within : IsWithinRoom (one_more (after_all counts exchanges) leads.ready.0) room
    within k low = (let a = at k in let w = left.within k low in
        elim (cases_eq leads.ready.0 k) [
          | inl same ↦ (let e : ◌≡◌ {A = ℕ} (cond (eqb leads.ready.0 k) 1 0) 1 = ap (λ b. cond b 1 0) (eq-eqb leads.ready.0 k same) in
              let f : get_or (after_all counts exchanges) k 0 < get_or room k 0 = subst (λ j. get_or (after_all counts exchanges) j 0 < get_or room j 0) same leads.ready.1.1.0 in omega arith)
          | inr other ↦ (let e : ◌≡◌ {A = ℕ} (cond (eqb leads.ready.0 k) 1 0) 0 = ap (λ b. cond b 1 0) (ne_eqb leads.ready.0 k other) in omega arith)
        ])

    goal : IsGoal room melds (one_more (after_all counts exchanges) leads.ready.0)
    goal = record { are_counts = counts_from room (one_more (after_all counts exchanges) leads.ready.0) melds hand.room_is whole within; complete = leads.ready.1.1.1; within = within }

-- shanten is the least number of exchanges, and the path to the target has so many
pub least_exchanges : (counts room target : List ℕ) (melds number : ℕ) → length counts ≡ 34 → IsHand counts room melds → IsShanten counts room melds number target
    → AreLeastExchanges counts room melds number target
least_exchanges counts room target melds number size hand is = record {
  some = path_leads counts room target melds number size hand is;
  least = λ many exchanges leads. no_fewer counts room target melds number many exchanges size hand is leads;
}
