-- Small facts about which deeds are played.
use Rattle.std.proofs.Common.{◌≡◌, ℕ, zero, suc, ◌==◌, ◌&&◌, not, Bool, true, false, List, [], ◌∷◌, length, refl, arith}
use Rattle.std.specs.Prelude.{codes, replicate, nat_lt, nat_le, IsAscii}
use Rattle.std.specs.List.{list_all}
use Rattle.std.proofs.lemmas.Bool.{and_parts, and_from, ltb-true}
use Rattle.std.proofs.lemmas.Str.{IsUtf8-from_ascii, is_utf8-from_IsUtf8}
use Rattle.mj_ports.specs.Names.{is_name, are_different}
use Rattle.mj_deeds.specs.declared.four.Four.{Four}
use Rattle.mj_deeds.specs.declared.deed.Deed.TheVariants.{StartGame, Draw}
use Rattle.mj_wall.specs.declared.setting.Rules.{Rules}
use Rattle.mj_rules.specs.Played.{are_names, IsPlayed}

abbrev four : List ℕ → List ℕ → List ℕ → List ℕ → Four (List ℕ)
four a b c d = record { first = a; second = b; third = c; fourth = d }

-- Bytes below 128 are UTF-8.
ascii : (text : List ℕ) → list_all (λ byte. nat_lt byte 128) text ≡ true → IsAscii text
ascii [] h i = omega arith
ascii (byte ∷ text) h zero = ltb-true byte 128 (and_parts (nat_lt byte 128) (list_all (λ other. nat_lt other 128) text) h).0
ascii (byte ∷ text) h (suc i) = ascii text (and_parts (nat_lt byte 128) (list_all (λ other. nat_lt other 128) text) h).1 i

-- A name in ASCII.
named : (text : List ℕ) → list_all (λ byte. nat_lt byte 128) text ≡ true →
    (nat_lt 0 (length text) && nat_le (length text) 64 && list_all (λ byte. nat_le 32 byte && not (byte == 34) && not (byte == 92)) text) ≡ true → is_name text ≡ true
unfolding is_name
named text low plain =
    and_from (nat_lt 0 (length text) && nat_le (length text) 64 && list_all (λ byte. nat_le 32 byte && not (byte == 34) && not (byte == 92)) text) _
    plain (is_utf8-from_IsUtf8 text (IsUtf8-from_ascii text (ascii text low)))

four_named : (a b c d : List ℕ) → is_name a ≡ true → is_name b ≡ true → is_name c ≡ true → is_name d ≡ true → are_different (a ∷ b ∷ c ∷ d ∷ []) ≡ true → are_names (four a b c d) ≡ true
four_named a b c d h i j k apart =
    and_from (list_all is_name (a ∷ b ∷ c ∷ d ∷ [])) _
    (and_from (is_name a) _ h (and_from (is_name b) _ i (and_from (is_name c) _ j (and_from (is_name d) true k refl)))) apart

-- Four good names that are different; two of them the same; one of them empty, too long by one byte, or with a quotation mark.
names_of_letters : are_names (four (codes "a") (codes "b") (codes "c") (codes "d")) ≡ true
names_of_letters = four_named (codes "a") (codes "b") (codes "c") (codes "d") (named (codes "a") refl refl) (named (codes "b") refl refl)
    (named (codes "c") refl refl) (named (codes "d") refl refl) refl

same_names : are_names (four (codes "a") (codes "b") (codes "c") (codes "a")) ≡ false
same_names = and_false (list_all is_name (codes "a" ∷ codes "b" ∷ codes "c" ∷ codes "a" ∷ []))
  where
    and_false : (b : Bool) → (b && false) ≡ false
    and_false true = refl
    and_false false = refl

empty_name : are_names (four (codes "") (codes "b") (codes "c") (codes "d")) ≡ false
unfolding is_name
empty_name = refl

longest_name : are_names (four (replicate 64 97) (codes "b") (codes "c") (codes "d")) ≡ true
longest_name = four_named (replicate 64 97) (codes "b") (codes "c") (codes "d") (named (replicate 64 97) refl refl) (named (codes "b") refl refl)
    (named (codes "c") refl refl) (named (codes "d") refl refl) refl

long_name : are_names (four (replicate 65 97) (codes "b") (codes "c") (codes "d")) ≡ false
unfolding is_name
long_name = refl

quoted_name : are_names (four (34 ∷ []) (codes "b") (codes "c") (codes "d")) ≡ false
unfolding is_name
quoted_name = refl

-- No deeds are played; so is a start of a game; a game does not begin with a draw.
no_deeds : (rules : Rules) (walls : List (List ℕ)) → IsPlayed rules walls []
no_deeds rules walls = tt

start_alone : (rules : Rules) (walls : List (List ℕ)) → IsPlayed rules walls (StartGame (four (codes "a") (codes "b") (codes "c") (codes "d")) ∷ [])
start_alone rules walls = (names_of_letters, tt)

draw_first : (rules : Rules) (walls : List (List ℕ)) → IsPlayed rules walls (Draw 0 0 false ∷ []) → ⊥
draw_first rules walls played = no played.0
  where
    no : false ≡ true → ⊥
    no e = cc
