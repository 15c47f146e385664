-- Tests of all tiles of a hand, by kind.
use Rattle.std.proofs.Common.{ℕ, ◌≡◌, Bool, true, false, not, ◌||◌, List, [], ◌∷◌, refl, eqb, replicate}
use Rattle.std.specs.List.{filter, flat_map, list_all}
use Rattle.mj_tiles.specs.Terminals.{is_terminal_or_honour}
use Rattle.mj_readings.specs.Complete.{orphan_number}

-- All tiles of pairs pass a test where each kind of the pairs does.
pub tests_of_pairs : (test has : ℕ → Bool) (kinds : List ℕ) →
    list_all test (flat_map (λ kind. kind ∷ kind ∷ []) (filter has kinds)) ≡ list_all (λ kind. not (has kind) || test kind) kinds
tests_of_pairs test has [] = refl
tests_of_pairs test has (kind ∷ kinds) = step test has kind kinds (has kind) (test kind) refl refl (tests_of_pairs test has kinds)
  where
    step : (test has : ℕ → Bool) (kind : ℕ) (kinds : List ℕ) (b c : Bool) → has kind ≡ b → test kind ≡ c →
        list_all test (flat_map (λ kind. kind ∷ kind ∷ []) (filter has kinds)) ≡ list_all (λ kind. not (has kind) || test kind) kinds →
        list_all test (flat_map (λ kind. kind ∷ kind ∷ []) (filter has (kind ∷ kinds))) ≡ list_all (λ kind. not (has kind) || test kind) (kind ∷ kinds)
    step test has kind kinds true true p q rest = simp (p, q) rest
    step test has kind kinds true false p q rest = simp (p, q) refl
    step test has kind kinds false c p q rest = simp p rest

-- All tiles of thirteen orphans pass a test where each terminal and honour does.
pub tests_of_orphans : (test : ℕ → Bool) (double : ℕ) (kinds : List ℕ) →
    list_all test (flat_map (λ kind. replicate (orphan_number double kind) kind) kinds) ≡ list_all (λ kind. not (is_terminal_or_honour kind) || test kind) kinds
tests_of_orphans test double [] = refl
tests_of_orphans test double (kind ∷ kinds) =
    step test double kind kinds (is_terminal_or_honour kind) (eqb kind double) (test kind) refl refl refl (tests_of_orphans test double kinds)
  where
    step : (test : ℕ → Bool) (double kind : ℕ) (kinds : List ℕ) (a b c : Bool) → is_terminal_or_honour kind ≡ a → eqb kind double ≡ b → test kind ≡ c →
        list_all test (flat_map (λ kind. replicate (orphan_number double kind) kind) kinds) ≡ list_all (λ kind. not (is_terminal_or_honour kind) || test kind) kinds →
        list_all test (flat_map (λ kind. replicate (orphan_number double kind) kind) (kind ∷ kinds)) ≡ list_all (λ kind. not (is_terminal_or_honour kind) || test kind) (kind ∷ kinds)
    step test double kind kinds true true true o p q rest = simp (o, p, q) rest
    step test double kind kinds true true false o p q rest = simp (o, p, q) refl
    step test double kind kinds true false true o p q rest = simp (o, p, q) rest
    step test double kind kinds true false false o p q rest = simp (o, p, q) refl
    step test double kind kinds false b c o p q rest = simp o rest

-- A kind that is in question and isn't of the class fails.
pub misses : (asked passes : Bool) → asked ≡ true → passes ≡ false → (not asked || passes) ≡ false
misses asked passes p q = rw (p, q) refl
