-- Readings one by one: whether one of them has a yaku.
use Rattle.std.proofs.Common.{ℕ, ◌≡◌, ◌+◌, ◌||◌, Bool, true, false, List, Some, None, sym, ◌∙◌, ap, drop}
use Rattle.std.specs.Prelude.{slice_get, IsTrue, ◌↔◌, Contains}
use Rattle.std.specs.List.{list_any}
use Rattle.mj_tiles.specs.declared.meld.Meld.{Meld}
use Rattle.mj_readings.specs.declared.reading.Case.{Case}
use Rattle.mj_readings.specs.declared.reading.Reading.{Reading}
use Rattle.mj_readings.specs.Readings.{IsReading, AreReadings}
use Rattle.mj_yaku.specs.SomeYaku.{gives_yaku, HasYaku}
use Rattle.mj_yaku.proofs.Lists.{drop_at, drop_past, any_at, some_of}

-- A reading at a place has no yaku: what is left has one or none as before.
pub passed_over : (test : Reading → Bool) (list : List Reading) (place : ℕ) (reading : Reading) (whole : Bool) → list_any test (drop place list) ≡ whole →
    slice_get list place ≡ Some reading → test reading ≡ false → list_any test (drop (place + 1) list) ≡ whole
passed_over test list place reading whole left at lacks =
    sym (ap (λ b. b || list_any test (drop (place + 1) list)) lacks)
    ∙ sym (ap (list_any test) (drop_at list place reading at))
    ∙ left

-- A reading at a place has a yaku.
pub found_at : (test : Reading → Bool) (list : List Reading) (place : ℕ) (reading : Reading) (whole : Bool) → list_any test (drop place list) ≡ whole →
    slice_get list place ≡ Some reading → test reading ≡ true → true ≡ whole
found_at test list place reading whole left at has =
    sym (ap (λ b. b || list_any test (drop (place + 1) list)) has)
    ∙ sym (ap (list_any test) (drop_at list place reading at))
    ∙ left

-- No reading is left.
pub none_left : (test : Reading → Bool) (list : List Reading) (place : ℕ) (whole : Bool) → list_any test (drop place list) ≡ whole →
    slice_get list place ≡ None → false ≡ whole
none_left test list place whole left at = sym (ap (list_any test) (drop_past list place at)) ∙ left

any_place : (p : Reading → Bool) (xs : List Reading) (x : Reading) → Contains xs x → p x ≡ true → list_any p xs ≡ true
any_place p xs x h q = any_at p xs x h.0 h.1 h.2 q

-- One of a list of all readings has a yaku exactly where the hand has one.
pub any_reading : (counts : List ℕ) (melds : List Meld) (winning : ℕ) (case : Case) (list : List Reading) (result : Bool) → AreReadings counts melds winning list →
    result ≡ list_any (gives_yaku melds case) list → IsTrue result ↔ HasYaku counts melds winning case
any_reading counts melds winning case list result are is = (
  λ h. some_of (IsReading counts melds winning) (gives_yaku melds case) list are.each (sym is ∙ h),
  λ h. is ∙ any_place (gives_yaku melds case) list h.0 (are.all h.0 h.1.0) h.1.1,
)
