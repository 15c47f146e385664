-- An own pon of tiles that are named, where one of them is hidden.
use Rattle.std.proofs.Common.{◌≡◌, Bool, false, ◌&&◌, ◌||◌, List, [], ◌∷◌, refl, ap, ◌∙◌}
use Rattle.std.proofs.Math.Bool.{and-false}
use Rattle.std.specs.List.{list_any}
use Rattle.mj_tiles.specs.declared.meld.Meld.{Meld}
use Rattle.mj_deeds.specs.Facts.{is_pon}
use Rattle.mj_deeds.specs.declared.answer.Pai.{Pai}
use Rattle.mj_deeds.specs.declared.answer.Pai.TheVariants.{Hidden}
use Rattle.mj_rules.specs.Broken.{is_own_pon, is_tile, is_alike}

none_of : (p : Meld → Bool) → ((meld : Meld) → p meld ≡ false) → (melds : List Meld) → list_any p melds ≡ false
none_of p never [] = refl
none_of p never (meld ∷ melds) = ap (λ b. b || list_any p melds) (never meld) ∙ none_of p never melds

-- Of a hidden tile there is none.
pub hidden_added : (a b c : Pai) (melds : List Meld) → list_any (is_own_pon Hidden a b c) melds ≡ false
hidden_added a b c = none_of (is_own_pon Hidden a b c) (λ meld. and-false (is_pon meld.form && is_tile meld.a a && is_tile meld.b b && is_tile meld.c c))

pub hidden_first : (t b c : Pai) (melds : List Meld) → list_any (is_own_pon t Hidden b c) melds ≡ false
hidden_first t b c = none_of (is_own_pon t Hidden b c)
    (λ meld. ap (λ x. x && is_tile meld.b b && is_tile meld.c c && is_alike t Hidden) (and-false (is_pon meld.form)))

pub hidden_second : (t a c : Pai) (melds : List Meld) → list_any (is_own_pon t a Hidden c) melds ≡ false
hidden_second t a c = none_of (is_own_pon t a Hidden c)
    (λ meld. ap (λ x. x && is_tile meld.c c && is_alike t a) (and-false (is_pon meld.form && is_tile meld.a a)))

pub hidden_third : (t a b : Pai) (melds : List Meld) → list_any (is_own_pon t a b Hidden) melds ≡ false
hidden_third t a b = none_of (is_own_pon t a b Hidden)
    (λ meld. ap (λ x. x && is_alike t a) (and-false (is_pon meld.form && is_tile meld.a a && is_tile meld.b b)))
