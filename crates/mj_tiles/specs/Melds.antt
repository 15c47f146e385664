-- Lists of melds that take no memory: four places, of which the first are the melds and the others are blank.
use Rattle.std.specs.Prelude.{ℕ, List, ◌∷◌, None, option_to_list}
use Rattle.mj_lists.specs.Padded.{padded, IsPadded}
use Rattle.mj_tiles.specs.declared.meld.Meld.{Meld}
use Rattle.mj_tiles.specs.declared.meld.Form.TheVariants.{Chi}

-- The tiles of a meld.
abbrev pub tiles_of_meld : Meld → List ℕ
tiles_of_meld meld = meld.a ∷ meld.b ∷ meld.c ∷ option_to_list meld.d

-- What stands in a place without a meld.
abbrev pub no_meld : Meld
no_meld = record { form = Chi; a = 0; b = 0; c = 0; d = None }

-- Four places that hold these melds first.
abbrev pub filled : List Meld → List Meld
filled melds = padded 4 no_meld melds

-- Four places of which the first hold so many melds and the others are blank.
abbrev pub HasRoom : List Meld → ℕ → Type 0
HasRoom items count = IsPadded 4 no_meld items count
