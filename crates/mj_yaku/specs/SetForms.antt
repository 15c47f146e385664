-- Yaku of the forms of the sets: triplets, kans, concealed sets, seven pairs, and triplets of winds and dragons.
use Rattle.std.specs.Prelude.{ℕ, ◌+◌, ◌==◌, Bool, true, false, not, ◌&&◌, ◌||◌, if◌then◌else◌, List, [], ◌∷◌, count_by}
use Rattle.std.specs.List.{list_all, list_any}
use Rattle.mj_readings.specs.declared.reading.Set.{Set}
use Rattle.mj_readings.specs.declared.reading.SetForm.{SetForm}
use Rattle.mj_readings.specs.declared.reading.SetForm.TheVariants.{Run, Triplet, Kan}
use Rattle.mj_readings.specs.declared.reading.Case.{Case}
use Rattle.mj_readings.specs.declared.reading.Reading.{Reading}
use Rattle.mj_readings.specs.declared.reading.Reading.TheVariants.{Standard, Pairs, Orphans}
use Rattle.mj_fu.specs.Forms.{is_run, is_concealed_at}
use Rattle.mj_yaku.specs.Hands.{in_standard, is_pairs, has_triple}

-- A triplet or kan of this kind has value of its own.
unfoldable pub triple_of : ℕ → Reading → Bool
triple_of kind reading = in_standard (λ sets pair. has_triple kind sets) reading

-- chiitoitsu: seven pairs, a closed hand.
unfoldable pub chiitoitsu : Reading → Case → Bool
chiitoitsu reading case = case.closed && is_pairs reading

-- toitoi: four sets and no run.
unfoldable pub toitoi : Reading → Bool
toitoi reading = in_standard (λ sets pair. not (list_any is_run sets)) reading

-- A concealed triplet or kan at this place counts one.
abbrev pub one_concealed : ℕ → ℕ → Case → Set → ℕ
one_concealed place win case set = if not (is_run set) && is_concealed_at place win case set then 1 else 0

-- How many concealed triplets and kans a hand has.
unfoldable pub concealed_triples : Reading → Case → ℕ
concealed_triples (Standard a b c d pair win winning) case =
    one_concealed 0 win case a + one_concealed 1 win case b + one_concealed 2 win case c + one_concealed 3 win case d
concealed_triples (Pairs kinds) case = 0
concealed_triples (Orphans double) case = 0

-- sanankou: exactly three concealed triplets or kans.
unfoldable pub sanankou : Reading → Case → Bool
sanankou reading case = concealed_triples reading case == 3

-- suuankou: four concealed triplets or kans, a closed hand.
unfoldable pub suuankou : Reading → Case → Bool
suuankou reading case = case.closed && concealed_triples reading case == 4

abbrev pub is_kan_form : SetForm → Bool
is_kan_form Run = false
is_kan_form Triplet = false
is_kan_form Kan = true

-- So many kans.
abbrev pub has_kans : ℕ → Reading → Bool
has_kans number reading = in_standard (λ sets pair. count_by (λ set. is_kan_form set.form) sets == number) reading

-- sankantsu: exactly three kans.
unfoldable pub sankantsu : Reading → Bool
sankantsu reading = has_kans 3 reading

-- suukantsu: four kans.
unfoldable pub suukantsu : Reading → Bool
suukantsu reading = has_kans 4 reading

-- The dragons P, F and C, and the winds E, S, W and N.
abbrev pub dragons : List ℕ
dragons = 31 ∷ 32 ∷ 33 ∷ []

abbrev pub winds : List ℕ
winds = 27 ∷ 28 ∷ 29 ∷ 30 ∷ []

-- Of each of these kinds there is a triplet or kan.
abbrev pub triples_of_all : List ℕ → Reading → Bool
triples_of_all kinds reading =
    in_standard (λ sets pair. list_all (λ kind. has_triple kind sets) kinds) reading

-- One of these kinds is the pair, and of each other there is a triplet or kan.
abbrev pub triples_and_pair_of : List ℕ → Reading → Bool
triples_and_pair_of kinds reading =
    in_standard
    (λ sets pair. list_any (λ kind. pair == kind) kinds
    && list_all (λ kind. pair == kind || has_triple kind sets) kinds)
    reading

-- shousangen: triplets or kans of two dragons, and the third as the pair.
unfoldable pub shousangen : Reading → Bool
shousangen reading = triples_and_pair_of dragons reading

-- daisangen: triplets or kans of the three dragons.
unfoldable pub daisangen : Reading → Bool
daisangen reading = triples_of_all dragons reading

-- shousuushi: triplets or kans of three winds, and the fourth as the pair.
unfoldable pub shousuushi : Reading → Bool
shousuushi reading = triples_and_pair_of winds reading

-- daisuushi: triplets or kans of the four winds.
unfoldable pub daisuushi : Reading → Bool
daisuushi reading = triples_of_all winds reading
