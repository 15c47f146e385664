-- What the calls answer, from what their callees do.
use Rattle.std.proofs.Common.{◌≡◌, ℕ, zero, suc, ◌+◌, ◌*◌, ◌<◌, ◌^◌, ◌==◌, ◌&&◌, ◌||◌, Bool, true, false, List, length, sum, refl, sym, ap, ap₂, subst, ◌∙◌, arith, inl, inr}
use Rattle.std.specs.List.{list_any, range_with_len}
use Rattle.std.proofs.lemmas.Bool.{eqb-true}
use Rattle.mj_tiles.specs.Counts.{all_kinds}
use Rattle.mj_tiles.specs.Kinds.{has_kind, kinds_that}
use Rattle.mj_tiles.proofs.KindSets.{has_kind-kinds_that}
use Rattle.mj_waits.specs.Waits.{is_wait}
use Rattle.mj_waits.specs.Furiten.{is_furiten, is_missed}
use Rattle.mj_shanten.specs.Room.{IsRoom, IsHand, IsWithinRoom}
use Rattle.mj_shanten.specs.Shanten.{IsShanten}
use Rattle.mj_shanten.specs.Discards.{IsDiscard, IsBestDiscard}
use Rattle.mj_page.specs.declared.melds.Meld.{Meld}
use Rattle.mj_page.specs.declared.hand.Hand.{Hand}
use Rattle.mj_page.specs.Hands.{is_hand, left_by, has_tiles, Says}
use Rattle.mj_page.specs.Answers.{AreWaitsBy, AreWaitsOf, IsShantenBy, IsShantenOf, IsBestBy, IsBestOf}
use Rattle.mj_page.proofs.Hands.{room_of, within_of}

-- ---- waits

pub waits_none : (held : List ℕ) (melds : List Meld) (bits : ℕ) → is_hand held melds ≡ false → bits ≡ 18446744073709551615 → AreWaitsOf held melds bits
waits_none held melds bits lacks is = subst (λ b. AreWaitsBy b held melds bits) (sym lacks) is

pub waits_said : (hand : Hand) (held : List ℕ) (melds : List Meld) (kinds bits : ℕ) → Says hand held melds → kinds ≡ kinds_that (is_wait hand.counts hand.room hand.melds)
    → bits < 2 ^ 34 → ((kind : ℕ) → kind < 34 → has_kind bits kind ≡ has_kind kinds kind) → AreWaitsOf held melds bits
waits_said hand held melds kinds bits says are within each = subst (λ b. AreWaitsBy b held melds bits) (sym says.is) (
  within,
  λ kind low.
      each kind low ∙ ap (λ s. has_kind s kind) are ∙ has_kind-kinds_that (is_wait hand.counts hand.room hand.melds) kind low
      ∙ ap (λ c. is_wait c hand.room hand.melds kind) says.counts ∙ ap (λ r. is_wait held r hand.melds kind) says.room ∙ ap (λ n. is_wait held (left_by melds) n kind) says.number,
)

-- ---- a hand that is said

pub room : (hand : Hand) (held : List ℕ) (melds : List Meld) → Says hand held melds → IsRoom hand.room hand.melds
room hand held melds says = subst (λ r. IsRoom r hand.melds) (sym says.room) (subst (λ n. IsRoom (left_by melds) n) (sym says.number) (room_of held melds says.is))

pub within : (hand : Hand) (held : List ℕ) (melds : List Meld) → Says hand held melds → IsWithinRoom hand.counts hand.room
within hand held melds says = subst (λ r. IsWithinRoom hand.counts r) (sym says.room) (subst (λ c. IsWithinRoom c (left_by melds)) (sym says.counts) (within_of held melds says.is))

pub measured : (hand : Hand) (held : List ℕ) (melds : List Meld) (has : Bool) → Says hand held melds → has ≡ (sum hand.counts + 3 * hand.melds == 13) → has ≡ true
    → IsHand hand.counts hand.room hand.melds
measured hand held melds has says told is = record {
  thirteen = eqb-true (sum hand.counts + 3 * hand.melds) 13 (sym told ∙ is);
  within = within hand held melds says;
  room_is = room hand held melds says;
}

has_of : (hand : Hand) (held : List ℕ) (melds : List Meld) (tiles : ℕ) (has : Bool) → Says hand held melds → has ≡ (sum hand.counts + 3 * hand.melds == tiles) → has_tiles held melds tiles ≡ has
has_of hand held melds tiles has says told =
    ap₂ (λ a b. a && b) says.is (ap₂ (λ c n. sum c + 3 * n == tiles) (sym says.counts) (sym says.number) ∙ sym told)

-- ---- shanten

pub shanten_none : (held : List ℕ) (melds : List Meld) (number : ℕ) (old new : List ℕ) → is_hand held melds ≡ false → number ≡ 255 → new ≡ old → IsShantenOf held melds number old new
shanten_none held melds number old new lacks is same =
    subst (λ b. IsShantenBy ((b && (sum held + 3 * length melds == 13)) && (length old == 34)) held melds number old new) (sym lacks) (is, same)

pub shanten_other : (hand : Hand) (held : List ℕ) (melds : List Meld) (has : Bool) (number : ℕ) (old new : List ℕ) → Says hand held melds → has ≡ (sum hand.counts + 3 * hand.melds == 13)
    → (has && (length old == 34)) ≡ false → number ≡ 255 → new ≡ old → IsShantenOf held melds number old new
shanten_other hand held melds has number old new says told lacks is same =
    subst (λ b. IsShantenBy (b && (length old == 34)) held melds number old new) (sym (has_of hand held melds 13 has says told))
    (subst (λ b. IsShantenBy b held melds number old new) (sym lacks) (is, same))

pub shanten_said : (hand : Hand) (held : List ℕ) (melds : List Meld) (has : Bool) (number result : ℕ) (target old new : List ℕ) → Says hand held melds → has ≡ (sum hand.counts + 3 * hand.melds == 13)
    → (has && (length old == 34)) ≡ true → IsShanten hand.counts hand.room hand.melds number target → result ≡ number → new ≡ target → IsShantenOf held melds result old new
shanten_said hand held melds has number result target old new says told holds is same_number same =
    subst (λ b. IsShantenBy (b && (length old == 34)) held melds result old new) (sym (has_of hand held melds 13 has says told)) (subst (λ b. IsShantenBy b held melds result old new) (sym holds)
    (subst (λ n. IsShanten held (left_by melds) (length melds) n new) (sym same_number) (subst (λ t. IsShanten held (left_by melds) (length melds) number t) (sym same)
    (subst (λ n. IsShanten held (left_by melds) n number target) says.number (subst (λ r. IsShanten held r hand.melds number target) says.room
    (subst (λ c. IsShanten c hand.room hand.melds number target) says.counts is))))))

-- ---- the best discard

pub best_none : (held : List ℕ) (melds : List Meld) (kind : ℕ) → is_hand held melds ≡ false → kind ≡ 255 → IsBestOf held melds kind
best_none held melds kind lacks is = subst (λ b. IsBestBy (b && (sum held + 3 * length melds == 14)) held melds kind) (sym lacks) is

pub best_other : (hand : Hand) (held : List ℕ) (melds : List Meld) (has : Bool) (kind : ℕ) → Says hand held melds → has ≡ (sum hand.counts + 3 * hand.melds == 14) → has ≡ false → kind ≡ 255
    → IsBestOf held melds kind
best_other hand held melds has kind says told lacks is = subst (λ b. IsBestBy b held melds kind) (sym (has_of hand held melds 14 has says told ∙ lacks)) is

pub best_said : (hand : Hand) (held : List ℕ) (melds : List Meld) (has : Bool) (every kind result : ℕ) → Says hand held melds → has ≡ (sum hand.counts + 3 * hand.melds == 14) → has ≡ true
    → ((other : ℕ) → other < 34 → has_kind every other ≡ true) → IsBestDiscard hand.counts hand.room hand.melds every kind → result ≡ kind → IsBestOf held melds result
best_said hand held melds has every kind result says told holds each is same = subst (λ b. IsBestBy b held melds result) (sym (has_of hand held melds 14 has says told ∙ holds)) (inl (record {
  every = every;
  every_is = each;
  best = subst (λ k. IsBestDiscard held (left_by melds) (length melds) every k) (sym same) (subst (λ n. IsBestDiscard held (left_by melds) n every kind) says.number
      (subst (λ r. IsBestDiscard held r hand.melds every kind) says.room (subst (λ c. IsBestDiscard c hand.room hand.melds every kind) says.counts is)));
}))

pub best_lacking : (hand : Hand) (held : List ℕ) (melds : List Meld) (has : Bool) (every result : ℕ) → Says hand held melds → has ≡ (sum hand.counts + 3 * hand.melds == 14) → has ≡ true
    → ((other : ℕ) → other < 34 → has_kind every other ≡ true) → ((other : ℕ) → IsDiscard hand.counts every other → ⊥) → result ≡ 255 → IsBestOf held melds result
best_lacking hand held melds has every result says told holds each none is = subst (λ b. IsBestBy b held melds result) (sym (has_of hand held melds 14 has says told ∙ holds))
    (inr (is, record { every = every; every_is = each; none = subst (λ c. (other : ℕ) → IsDiscard c every other → ⊥) says.counts none }))

-- ---- furiten

any_kind : (p q : ℕ → Bool) → ((kind : ℕ) → kind < 34 → p kind ≡ q kind) → list_any p all_kinds ≡ list_any q all_kinds
unfolding all_kinds
any_kind p q each = go 0 34 (λ k inside. each k (omega arith))
  where
    go : (from n : ℕ) → ((k : ℕ) → k < from + n → p k ≡ q k) → list_any p (range_with_len from n) ≡ list_any q (range_with_len from n)
    go from zero each = refl
    go from (suc n) each = ap₂ (λ a b. a || b) (each from (omega arith)) (go (from + 1) n (λ k inside. each k (omega arith)))

pub furiten_said : (waits own passed late w o p l : ℕ) (result : Bool) → result ≡ is_furiten (record { waits = w; own = o; passed = p; passed_in_riichi = l })
    → ((kind : ℕ) → kind < 34 → has_kind w kind ≡ has_kind waits kind) → ((kind : ℕ) → kind < 34 → has_kind o kind ≡ has_kind own kind)
    → ((kind : ℕ) → kind < 34 → has_kind p kind ≡ has_kind passed kind) → ((kind : ℕ) → kind < 34 → has_kind l kind ≡ has_kind late kind)
    → result ≡ is_furiten (record { waits = waits; own = own; passed = passed; passed_in_riichi = late })
unfolding is_furiten
furiten_said waits own passed late w o p l result is a b c d =
    is ∙ any_kind (is_missed (record { waits = w; own = o; passed = p; passed_in_riichi = l }))
    (is_missed (record { waits = waits; own = own; passed = passed; passed_in_riichi = late }))
    (λ kind low. ap₂ (λ x y. x && y) (a kind low) (ap₂ (λ x y. x || y) (ap₂ (λ x y. x || y) (b kind low) (c kind low)) (d kind low)))
