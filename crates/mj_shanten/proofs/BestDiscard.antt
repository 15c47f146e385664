-- The best discard: one tile less misses as many tiles as the whole hand, or one more.
use Rattle.std.proofs.Common.{ℕ, ◌≡◌, ◌≢◌, ◌<◌, ◌≤◌, ◌+◌, ◌-◌, inl, inr, true, false, Bool, Option, None, Some, cond, eqb, List, length, get_or, refl, sym, ◌∙◌, ap, subst, arith}
use Rattle.std.specs.Prelude.{MatchOption, MatchBool}
use Rattle.std.proofs.lemmas.Bool.{cases_lt, cases_eq, false≢true}
use Rattle.std.proofs.lemmas.List.{length-set}
use Rattle.mj_tiles.specs.Kinds.{has_kind}
use Rattle.mj_suits.specs.Targets.{missing}
use Rattle.mj_suits.specs.Tables.{IsLeast}
use Rattle.mj_shanten.specs.Shanten.{IsGoal}
use Rattle.mj_shanten.specs.Exchanges.{one_less}
use Rattle.mj_shanten.specs.Suits.{with_two}
use Rattle.mj_shanten.specs.Discards.{IsDiscard, IsBestDiscard, LeavesAtMost, LeavesMore}
use Rattle.mj_shanten.proofs.Goal.{wide_low}
use Rattle.mj_shanten.proofs.Path.{one_less_at}
use Rattle.mj_shanten.proofs.Least.{fewer_held, one_nearer}

-- ---- the fewest missing tiles

pub one_least : (held : List ℕ) (P : List ℕ → Type 0) (a b : ℕ) → IsLeast held P a → IsLeast held P b → a ≡ b
one_least held P a b x y =
    let p = x.least y.some.0 y.some.1.0 in
    let q = y.least x.some.0 x.some.1.0 in
    let r = x.some.1.1 in
    let s = y.some.1.1 in
    omega arith

-- a hand of one tile less misses as many or one more
record AsMany (all less : ℕ) : Type 0 where
  at_least : all ≤ less
  at_most : less ≤ all + 1

less_misses : (counts : List ℕ) (kind : ℕ) (P : List ℕ → Type 0) (all less : ℕ) → length counts ≡ 34 → kind < 34 → IsLeast counts P all → IsLeast (one_less counts kind) P less → AsMany all less
less_misses counts kind P all less size low x y = record {
  at_least = (let a = x.least y.some.0 y.some.1.0 in let b = y.some.1.1 in
      let c : missing y.some.0 counts ≤ missing y.some.0 (one_less counts kind) = fewer_held y.some.0 counts (one_less counts kind) same (λ k inside. (let e = at k in omega arith)) in omega arith);
  at_most = (let a = y.least x.some.0 x.some.1.0 in let b = x.some.1.1 in
      let c : missing x.some.0 (one_less counts kind) ≤ missing x.some.0 counts + 1 =
      one_nearer kind x.some.0 (one_less counts kind) counts (sym same) (λ k inside. (let e = at k in omega arith)) in omega arith);
}
  where
    same : length counts ≡ length (one_less counts kind)
    same = sym (length-set counts kind (get_or counts kind 0 - 1))

    at : (k : ℕ) → get_or (one_less counts kind) k 0 ≡ get_or counts k 0 - cond (eqb kind k) 1 0
    at k = one_less_at counts kind k (omega arith)

-- ---- the walk from the last kind on

-- Each discard from a kind on leaves more.
abbrev pub MoreFrom : List ℕ → List ℕ → ℕ → ℕ → ℕ → ℕ → Type 0
MoreFrom counts room melds kinds most from = (other : ℕ) → from ≤ other → IsDiscard counts kinds other → LeavesMore counts room melds most other

pub more_from_last : (counts room : List ℕ) (melds kinds most number : ℕ) → number ≡ 34 → MoreFrom counts room melds kinds most number
more_from_last counts room melds kinds most number is other past discard = (let k = discard.kind_is in absurd (omega arith))

pub more_from_here : (counts room : List ℕ) (melds kinds most number next kind : ℕ) → 0 < number → next ≡ number - 1 → kind ≡ next
    → (IsDiscard counts kinds kind → LeavesMore counts room melds most kind)
    → MoreFrom counts room melds kinds most number → MoreFrom counts room melds kinds most next
more_from_here counts room melds kinds most number next kind some is here more after other past discard = elim (cases_eq other kind) [
  | inl same ↦ subst (LeavesMore counts room melds most) (sym same) (more (subst (IsDiscard counts kinds) same discard))
  | inr apart ↦ after other (omega arith) discard
]

-- ---- one kind

pub not_among : (counts room : List ℕ) (melds kinds most kind : ℕ) (has : Bool) → has ≡ has_kind kinds kind → has ≡ false → IsDiscard counts kinds kind → LeavesMore counts room melds most kind
not_among counts room melds kinds most kind has is out discard = absurd (false≢true (sym out ∙ is ∙ discard.among))

pub not_held : (counts room held : List ℕ) (melds kinds most kind : ℕ) → length counts ≡ 34 → held ≡ with_two counts → get_or held kind 0 ≡ 0 → IsDiscard counts kinds kind
    → LeavesMore counts room melds most kind
not_held counts room held melds kinds most kind size is none discard =
    let a : get_or held kind 0 ≡ get_or counts kind 0 = ap (λ h. get_or h kind 0) is ∙ wide_low counts kind size discard.kind_is in
    let b = discard.held in
    absurd (omega arith)

pub is_held : (counts held : List ℕ) (kind : ℕ) → length counts ≡ 34 → kind < 34 → held ≡ with_two counts → get_or held kind 0 ≢ 0 → 0 < get_or counts kind 0
is_held counts held kind size low is some = (let a : get_or held kind 0 ≡ get_or counts kind 0 = ap (λ h. get_or h kind 0) is ∙ wide_low counts kind size low in omega arith)

-- a kind of the set that is held
pub discard_within : (counts room held : List ℕ) (melds kinds most kind : ℕ) (has found : Bool) → length counts ≡ 34 → kind < 34 → held ≡ with_two counts → has ≡ has_kind kinds kind
    → has ≡ true → get_or held kind 0 ≢ 0
    → MatchBool found (LeavesAtMost counts room melds most kind) (LeavesMore counts room melds most kind)
    → MatchBool found (IsDiscard counts kinds kind × LeavesAtMost counts room melds most kind) (IsDiscard counts kinds kind → LeavesMore counts room melds most kind)
discard_within counts room held melds kinds most kind has true size low held_is is_in among some found =
    (record { kind_is = low; among = sym is_in ∙ among; held = is_held counts held kind size low held_is some }, found)
discard_within counts room held melds kinds most kind has false size low held_is is_in among some found = λ discard. found

-- ---- the answer

-- of a discard that is the best no other has to be later and as near
later_is_far : (number others kind other bound : ℕ) → number ≤ bound → others ≤ number → (kind < other → bound < others) → other ≤ kind
later_is_far number others kind other bound few over far = elim (cases_lt kind other) [
  | inl later ↦ (let m = far later in absurd (omega arith))
  | inr before ↦ before
]

-- the last that misses as many as the whole hand
pub best_of_all : (counts room : List ℕ) (melds kinds all kind : ℕ) → length counts ≡ 34 → IsLeast counts (IsGoal room melds) all → IsDiscard counts kinds kind
    → LeavesAtMost counts room melds all kind
    → ((other : ℕ) → kind < other → IsDiscard counts kinds other → LeavesMore counts room melds all other) → IsBestDiscard counts room melds kinds kind
best_of_all counts room melds kinds all kind size whole is leaves last = record {
  is_discard = is;
  number = leaves.number;
  leaves = leaves.least;
  best = λ other others discard theirs.
      (let f = leaves.few in
      let g = less_misses counts other (IsGoal room melds) all others size discard.kind_is whole theirs in
      let h = g.at_least in
      elim (cases_lt leaves.number others) [
        | inl less ↦ inl less
        | inr over ↦ inr (omega arith, later_is_far leaves.number others kind other all f over (λ later. more_of other others theirs (last other later discard)))
      ]);
}
  where
    more_of : (other others : ℕ) → IsLeast (one_less counts other) (IsGoal room melds) others → LeavesMore counts room melds all other → all < others
    more_of other others theirs m =
        let n = one_least (one_less counts other) (IsGoal room melds) others m.number theirs m.least in
        let o = m.more in
        omega arith

-- where none misses so few, each misses one more, and the last is the best
pub best_of_others : (counts room : List ℕ) (melds kinds all more kind : ℕ) → length counts ≡ 34 → more ≡ all + 1 → IsLeast counts (IsGoal room melds) all
    → ((other : ℕ) → IsDiscard counts kinds other → LeavesMore counts room melds all other) → IsDiscard counts kinds kind
    → ((other : ℕ) → kind < other → IsDiscard counts kinds other → LeavesMore counts room melds more other) → IsBestDiscard counts room melds kinds kind
best_of_others counts room melds kinds all more kind size is whole none discards last = record {
  is_discard = discards;
  number = (none kind discards).number;
  leaves = (none kind discards).least;
  best = λ other others discard theirs.
      (let a = one_more kind discards (none kind discards).number (none kind discards).least in
      let b = one_more other discard others theirs in
      inr (omega arith, later_is_far (none kind discards).number others kind other more (omega arith) (omega arith) (λ later. more_of other others theirs (last other later discard))));
}
  where
    -- each misses one more than the whole hand
    one_more : (other : ℕ) → IsDiscard counts kinds other → (others : ℕ) → IsLeast (one_less counts other) (IsGoal room melds) others → others ≡ more
    one_more other discard others theirs =
        let h = none other discard in
        let i = one_least (one_less counts other) (IsGoal room melds) others h.number theirs h.least in
        let j = h.more in
        let k = less_misses counts other (IsGoal room melds) all others size discard.kind_is whole theirs in
        let l = k.at_most in
        omega arith

    more_of : (other others : ℕ) → IsLeast (one_less counts other) (IsGoal room melds) others → LeavesMore counts room melds more other → more < others
    more_of other others theirs m =
        let n = one_least (one_less counts other) (IsGoal room melds) others m.number theirs m.least in
        let o = m.more in
        omega arith

-- where each misses more than one more, there is none
pub no_discard : (counts room : List ℕ) (melds kinds all more : ℕ) → length counts ≡ 34 → more ≡ all + 1 → IsLeast counts (IsGoal room melds) all
    → ((other : ℕ) → IsDiscard counts kinds other → LeavesMore counts room melds more other) → (kind : ℕ) → IsDiscard counts kinds kind → ⊥
no_discard counts room melds kinds all more size is whole each kind discard =
    let m = each kind discard in
    let f = less_misses counts kind (IsGoal room melds) all m.number size discard.kind_is whole m.least in
    let g = f.at_most in
    let h = m.more in
    omega arith

-- the second walk, which asks for one more
pub others_answer : (counts room : List ℕ) (melds kinds all : ℕ) (found : Option ℕ) → length counts ≡ 34 → IsLeast counts (IsGoal room melds) all
    → ((other : ℕ) → IsDiscard counts kinds other → LeavesMore counts room melds all other)
    → MatchOption found ((kind : ℕ) → IsDiscard counts kinds kind → LeavesMore counts room melds (all + 1) kind)
    (λ kind. IsDiscard counts kinds kind × LeavesAtMost counts room melds (all + 1) kind × ((other : ℕ) → kind < other → IsDiscard counts kinds other → LeavesMore counts room melds (all + 1) other))
    → MatchOption found ((kind : ℕ) → IsDiscard counts kinds kind → ⊥) (λ kind. IsBestDiscard counts room melds kinds kind)
others_answer counts room melds kinds all None size whole none each = λ kind discard. no_discard counts room melds kinds all (all + 1) size refl whole each kind discard
others_answer counts room melds kinds all (Some kind) size whole none last = best_of_others counts room melds kinds all (all + 1) kind size refl whole none last.0 last.2

pub when_true : (b : Bool) (P Q : Type 0) → MatchBool b P Q → b ≡ true → P
when_true true P Q h is = h
when_true false P Q h is = absurd (false≢true is)

pub when_false : (b : Bool) (P Q : Type 0) → MatchBool b P Q → b ≡ false → Q
when_false true P Q h is = absurd (false≢true (sym is))
when_false false P Q h is = h

-- ---- there is one

-- Two best discards are of one kind.
pub one_best : (counts room : List ℕ) (melds kinds a b : ℕ) → IsBestDiscard counts room melds kinds a → IsBestDiscard counts room melds kinds b → a ≡ b
one_best counts room melds kinds a b x y = elim (x.best b y.number y.is_discard y.leaves) [
  | inl less ↦ elim (y.best a x.number x.is_discard x.leaves) [
    | inl more ↦ absurd (omega arith)
    | inr same ↦ (let e = same.0 in absurd (omega arith))
  ]
  | inr same ↦ elim (y.best a x.number x.is_discard x.leaves) [
    | inl more ↦ (let e = same.0 in absurd (omega arith))
    | inr again ↦ (let e = same.1 in let f = again.1 in omega arith)
  ]
]
