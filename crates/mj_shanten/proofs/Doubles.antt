-- Thirteen orphans with one kind after another twice.
use Rattle.std.proofs.Common.{ℕ, ◌≡◌, ◌<◌, ◌≤◌, ◌+◌, Bool, true, false, cond, eqb, List, length, get_or, map, Option, refl, sym, ◌∙◌, ap, subst, arith, ◌⊎◌, inl, inr}
use Rattle.std.proofs.lemmas.Bool.{cases_lt, ltb-true, lt-ltb, true≢false}
use Rattle.std.proofs.lemmas.List.FromFn.{get_or-map-range_with_len, length-map-range_with_len}
use Rattle.mj_tiles.specs.Counts.{all_kinds}
use Rattle.mj_tiles.specs.Terminals.{is_terminal_or_honour}
use Rattle.mj_readings.specs.Complete.{orphan_number}
use Rattle.mj_suits.specs.Improves.{Improves}
use Rattle.mj_suits.proofs.Near.{Improves-both, Improves-same, Improves-not}
use Rattle.mj_shanten.specs.Suits.{with_two, Padded}
use Rattle.mj_shanten.specs.Inner.Special.{IsOrphans, IsOrphansWith, IsOrphansBelow}
use Rattle.mj_shanten.proofs.Written.{Written, written_all}

pub orphans_size : (double : ℕ) → length (map (orphan_number double) all_kinds) ≡ 34
unfolding all_kinds
orphans_size double = length-map-range_with_len (orphan_number double) 0 34

pub orphans_at : (double kind : ℕ) → kind < 34 → get_or (map (orphan_number double) all_kinds) kind 0 ≡ orphan_number double kind
unfolding all_kinds
orphans_at double kind within = get_or-map-range_with_len (orphan_number double) 0 34 kind kind 0 within (omega arith)

pub orphan_few : (double kind : ℕ) → orphan_number double kind ≤ 4
orphan_few double kind = few (is_terminal_or_honour kind) (eqb kind double)
  where
    few : (a b : Bool) → cond a (cond b 2 1) 0 ≤ 4
    few true true = omega arith
    few true false = omega arith
    few false b = omega arith

-- ---- the hand

pub written_orphans : (double kind : ℕ) (target : List ℕ) → kind ≡ 34 → Written (orphan_number double) kind target → target ≡ with_two (map (orphan_number double) all_kinds)
written_orphans double kind target last h = written_all (orphan_number double) (map (orphan_number double) all_kinds) kind target last (orphans_size double) (orphans_at double) h

-- ---- the search

pub double_kept : (held target : List ℕ) (double : ℕ) (a b : Option (ℕ × List ℕ)) → is_terminal_or_honour double ≡ true → target ≡ with_two (map (orphan_number double) all_kinds)
    → Improves held (λ t. t ≡ target) a b → Improves held (IsOrphansWith double) a b
double_kept held target double a b orphan is found =
    Improves-same held (IsOrphansWith double) (λ t. t ≡ target) a b (λ t e. record { orphan = orphan; numbers_are = e ∙ is }) (λ t h. h.numbers_are ∙ sym is) found

pub double_off : (held : List ℕ) (double : ℕ) (a : Option (ℕ × List ℕ)) → is_terminal_or_honour double ≡ false → Improves held (IsOrphansWith double) a a
double_off held double a absent = Improves-not held (IsOrphansWith double) a (λ t h. absurd (true≢false (sym h.orphan ∙ absent)))

pub doubles_start : (held : List ℕ) (kind : ℕ) (a : Option (ℕ × List ℕ)) → kind ≡ 0 → Improves held (IsOrphansBelow kind) a a
doubles_start held kind a first = Improves-not held (IsOrphansBelow kind) a (λ t h. (let e : h.double < kind = ltb-true _ _ h.below in absurd (omega arith)))

pub doubles_more : (held : List ℕ) (kind next double : ℕ) (a b c : Option (ℕ × List ℕ)) → next ≡ kind + 1 → double ≡ kind → Improves held (IsOrphansBelow kind) a b
    → Improves held (IsOrphansWith double) b c → Improves held (IsOrphansBelow next) a c
doubles_more held kind next double a b c step is first second =
    Improves-both held (IsOrphansBelow next) (IsOrphansBelow kind) (IsOrphansWith double) a b c
    (λ t h. (let e : h.double < kind = ltb-true _ _ h.below in record { double = h.double; below = lt-ltb _ _ (omega arith); are = h.are }))
    (λ t h. record { double = double; below = lt-ltb _ _ (omega arith); are = h })
    cases first second
  where
    cases : (t : List ℕ) → IsOrphansBelow next t → IsOrphansBelow kind t ⊎ IsOrphansWith double t
    cases t h = elim (cases_lt h.double kind) [
      | inl before ↦ inl record { double = h.double; below = lt-ltb _ _ before; are = h.are }
      | inr after ↦ (let e : h.double < next = ltb-true _ _ h.below in let f : h.double ≡ double = omega arith in inr (subst (λ d. IsOrphansWith d t) f h.are))
    ]

pub doubles_end : (held : List ℕ) (kind : ℕ) (a b : Option (ℕ × List ℕ)) → kind ≡ 34 → Improves held (IsOrphansBelow kind) a b → Improves held (Padded IsOrphans) a b
doubles_end held kind a b last found =
    Improves-same held (Padded IsOrphans) (IsOrphansBelow kind) a b
    (λ t h. (let e : h.double < kind = ltb-true _ _ h.below in record {
      counts = map (orphan_number h.double) all_kinds;
      is = record { double = h.double; are = record { kind = omega arith; orphan = h.are.orphan; tiles = refl } };
      numbers_are = h.are.numbers_are;
    }))
    (λ t h. (let k = h.is.are.kind in record {
      double = h.is.double;
      below = lt-ltb _ _ (omega arith);
      are = record { orphan = h.is.are.orphan; numbers_are = h.numbers_are ∙ ap with_two h.is.are.tiles };
    })) found
