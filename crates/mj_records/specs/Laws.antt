-- What is written is read again, whatever stands after it.
use Rattle.std.specs.Prelude.{◌≡◌, ℕ, ℤ, zero, suc, nat_le, length, ◌<◌, Bool, true, false, not, List, [], ◌∷◌, ◌++◌, decimal, Option, Some}
use Rattle.mj_history.specs.Told.{told_of}
use Rattle.std.specs.Char.{is_ascii_digit}
use Rattle.mj_deeds.specs.declared.deed.Deed.{Deed}
use Rattle.mj_deeds.specs.declared.deed.Deed.TheVariants.{StartGame, StartHand, ReachAccepted, Win, DrawnHand, EndGame, Draw, Discard, Chi, Pon, OpenKan, ClosedKan, AddedKan, Dora, Reach, EndHand}
use Rattle.mj_deeds.specs.declared.deed.Viewer.TheVariants.{Record}
use Rattle.mj_forms.specs.Lines.{quoted_tile, truth, line}
use Rattle.std.specs.List.{list_all}
use Rattle.mj_ports.specs.Names.{is_name}
use Rattle.mj_deeds.specs.declared.bid.Bid.{Bid}
use Rattle.mj_deeds.specs.declared.reason.Reason.{Reason}
use Rattle.mj_deeds.specs.Shown.{Shown, Tiles, Hidden}
use Rattle.mj_history.specs.Records.{is_byte, is_tile, is_row, is_shown, is_bid, is_deed, are_points}
use Rattle.mj_records.specs.Inner.Fields.{byte_field, word_field, tile_field, truth_field}
use Rattle.mj_records.specs.Deeds.{deed_in}

-- A text doesn't begin with a digit.
abbrev pub is_plain : List ℕ → Bool
is_plain [] = true
is_plain (b ∷ bs) = not (is_ascii_digit b)

-- Each kind of field.
pub record FieldsAreRead : Type 0 where
  pub bytes : (key rest : List ℕ) (number : ℕ) → number < 256 → is_plain rest ≡ true → byte_field key (key ++ (decimal number ++ rest)) ≡ Some (number, rest)
  pub words : (key rest : List ℕ) (number : ℕ) → number < 4294967296 → is_plain rest ≡ true → word_field key (key ++ (decimal number ++ rest)) ≡ Some (number, rest)
  pub tiles : (key rest : List ℕ) (tile : ℕ) → tile < 37 → tile_field key (key ++ (quoted_tile tile ++ rest)) ≡ Some (tile, rest)
  pub truths : (key rest : List ℕ) (value : Bool) → truth_field key (key ++ (truth value ++ rest)) ≡ Some (value, rest)

-- Each deed of one seat, and a new indicator.
pub record ActsAreRead : Type 0 where
  pub draws : (seat tile : ℕ) (replacement : Bool) → seat < 256 → tile < 37 → deed_in (line Record (Draw seat tile replacement)) ≡ Some (Draw seat tile false)
  pub discards : (seat tile : ℕ) (drawn : Bool) → seat < 256 → tile < 37 → deed_in (line Record (Discard seat tile drawn)) ≡ Some (Discard seat tile drawn)
  pub doras : (tile : ℕ) → tile < 37 → deed_in (line Record (Dora tile)) ≡ Some (Dora tile)
  pub reaches : (seat : ℕ) → seat < 256 → deed_in (line Record (Reach seat)) ≡ Some (Reach seat)
  pub ends : deed_in (line Record EndHand) ≡ Some EndHand

-- Each call and kan, and the end of a game.
pub record CallsAreRead : Type 0 where
  pub chis : (seat target tile a b : ℕ) → seat < 256 → target < 256 → tile < 37 → a < 37 → b < 37 → deed_in (line Record (Chi seat target tile a b)) ≡ Some (Chi seat target tile a b)
  pub pons : (seat target tile a b : ℕ) → seat < 256 → target < 256 → tile < 37 → a < 37 → b < 37 → deed_in (line Record (Pon seat target tile a b)) ≡ Some (Pon seat target tile a b)
  pub open_kans : (seat target tile a b c : ℕ) → seat < 256 → target < 256 → tile < 37 → a < 37 → b < 37 → c < 37 →
      deed_in (line Record (OpenKan seat target tile a b c)) ≡ Some (OpenKan seat target tile a b c)
  pub closed_kans : (seat a b c d : ℕ) → seat < 256 → a < 37 → b < 37 → c < 37 → d < 37 → deed_in (line Record (ClosedKan seat a b c d)) ≡ Some (ClosedKan seat a b c d)
  pub added_kans : (seat tile a b c : ℕ) → seat < 256 → tile < 37 → a < 37 → b < 37 → c < 37 → deed_in (line Record (AddedKan seat tile a b c)) ≡ Some (AddedKan seat tile a b c)
  pub end_games : (points : List ℤ) (deposits : ℕ) → are_points points ≡ true → deposits < 4294967296 → deed_in (line Record (EndGame points deposits)) ≡ Some (EndGame points deposits)

-- Each start of a game.
pub record GameStartsAreRead : Type 0 where
  pub starts : (a b c d : List ℕ) → is_name a ≡ true → is_name b ≡ true → is_name c ≡ true → is_name d ≡ true →
      deed_in (line Record (StartGame (record { first = a; second = b; third = c; fourth = d }))) ≡ Some (StartGame (record { first = a; second = b; third = c; fourth = d }))

-- Each accepted reach.
pub record ReachesAreRead : Type 0 where
  pub accepted : (seat : ℕ) (points : List ℤ) (bid : Bid) → seat < 256 → are_points points ≡ true → is_bid bid ≡ true →
      deed_in (line Record (ReachAccepted seat points bid)) ≡ Some (ReachAccepted seat points bid)

-- Each start of a hand.
pub record HandStartsAreRead : Type 0 where
  pub starts : (round number honba deposits dealer indicator : ℕ) (a b c d : List ℕ) → round < 34 → number < 256 → honba < 4294967296 → deposits < 4294967296 → dealer < 256 → indicator < 37 →
      list_all is_tile a ≡ true → list_all is_tile b ≡ true → list_all is_tile c ≡ true → list_all is_tile d ≡ true →
      deed_in (line Record (StartHand round number honba deposits dealer indicator (record { first = a; second = b; third = c; fourth = d })))
      ≡ Some (StartHand round number honba deposits dealer indicator (record { first = a; second = b; third = c; fourth = d }))

-- Each win.
pub record WinsAreRead : Type 0 where
  pub wins : (seat target tile : ℕ) (unders hand : List ℕ) (yaku : List (ℕ × ℕ)) (fu han value : ℕ) (deltas points : List ℤ) (others : List ℕ) → seat < 256 → target < 256 → tile < 37 →
      list_all is_tile unders ≡ true → list_all is_tile hand ≡ true → list_all is_row yaku ≡ true → fu < 256 → han < 256 → value < 4294967296 → are_points deltas ≡ true → are_points points ≡ true →
      nat_le (length others) 2 ≡ true → list_all is_byte others ≡ true →
      deed_in (line Record (Win seat target tile unders hand yaku fu han value deltas points others)) ≡ Some (Win seat target tile unders hand yaku fu han value deltas points others)

-- A hand that hides no tile is read as one that shows none.
abbrev pub shown_read : Shown → Shown
shown_read (Tiles tiles) = Tiles tiles
shown_read (Hidden zero) = Tiles []
shown_read (Hidden (suc more)) = Hidden (suc more)

-- Each drawn hand.
pub record DrawnHandsAreRead : Type 0 where
  pub drawn : (reason : Reason) (a b c d : Shown) (p q r s : Bool) (deltas points : List ℤ) → is_shown a ≡ true → is_shown b ≡ true →
      is_shown c ≡ true → is_shown d ≡ true → are_points deltas ≡ true → are_points points ≡ true →
      deed_in (line Record (DrawnHand reason (record { first = a; second = b; third = c; fourth = d }) (p ∷ q ∷ r ∷ s ∷ []) deltas points))
      ≡ Some (DrawnHand reason (record { first = shown_read a; second = shown_read b; third = shown_read c; fourth = shown_read d }) (p ∷ q ∷ r ∷ s ∷ []) deltas points)

-- What is read of a deed's line: a draw is read as one that replaces no tile.
abbrev pub as_read : Deed → Deed
as_read (Draw seat tile replacement) = Draw seat tile false
as_read (DrawnHand reason hands ready deltas points) =
    DrawnHand reason (record { first = shown_read hands.first; second = shown_read hands.second; third = shown_read hands.third; fourth = shown_read hands.fourth }) ready deltas points
as_read other = other

-- So each value of the type of deeds is read; what is read has the deed's line and tells of the same answers.
pub record ReadDeedsTellTheSame : Type 0 where
  pub reads : (deed : Deed) → is_deed deed ≡ true → deed_in (line Record deed) ≡ Some (as_read deed)
  pub lines : (deed : Deed) → line Record (as_read deed) ≡ line Record deed
  pub tells : (last : Option Deed) (deed : Deed) (seat : ℕ) → told_of last (as_read deed) seat ≡ told_of last deed seat
