-- For what reason a hand ends without a winner before its live tiles are drawn, where the rules of the game have such draws.
use Rattle.std.specs.Prelude.{ℕ, ◌==◌, ◌&&◌, Bool, true, false, not, nat_le, if◌then◌else◌, List, [], ◌∷◌, filter, count_by, slice_get, Option, Some, None, option_and_then}
use Rattle.std.specs.List.{list_any}
use Rattle.mj_tiles.specs.Faces.{kind_of}
use Rattle.mj_deeds.specs.declared.deed.Deed.{Deed}
use Rattle.mj_deeds.specs.declared.deed.Deed.TheVariants.{Discard}
use Rattle.mj_deeds.specs.declared.reason.Reason.{Reason}
use Rattle.mj_deeds.specs.declared.reason.Reason.TheVariants as reasons
use Rattle.mj_deeds.specs.Facts.{is_call, kans, kan_seats}
use Rattle.mj_deeds.specs.Points.{is_deposit}

-- A discard, or a call.
abbrev pub is_turn : Deed → Bool
is_turn (Discard who tile drawn) = true
is_turn other = is_call other

-- The kind that a deed discards.
abbrev pub discarded_kind : Deed → Option ℕ
discarded_kind (Discard who tile drawn) = Some (kind_of tile)
discarded_kind other = None

-- The kind that is discarded at a place of the discards and calls of a hand.
abbrev pub kind_at : List Deed → ℕ → Option ℕ
kind_at deeds place = option_and_then discarded_kind (slice_get (filter is_turn deeds) place)

-- E, S, W and N.
abbrev pub is_wind : ℕ → Bool
is_wind kind = nat_le 27 kind && nat_le kind 30

-- Four kinds are one wind.
abbrev pub is_one_wind : Option ℕ → Option ℕ → Option ℕ → Option ℕ → Bool
is_one_wind (Some a) (Some b) (Some c) (Some d) = is_wind a && (b == a) && (c == a) && (d == a)
is_one_wind a b c d = false

-- The first four of the discards and calls of a hand are discards of one wind.
abbrev pub are_four_winds : List Deed → Bool
are_four_winds deeds = is_one_wind (kind_at deeds 0) (kind_at deeds 1) (kind_at deeds 2) (kind_at deeds 3)

-- Four reaches were accepted in the hand.
abbrev pub are_four_riichis : List Deed → Bool
are_four_riichis deeds = count_by is_deposit deeds == 4

-- Not all of the seats are one.
abbrev pub differ : List ℕ → Bool
differ [] = false
differ (seat ∷ seats) = list_any (λ other. not (other == seat)) seats

-- Four kans stand in the hand, and not all are one seat's.
abbrev pub are_four_kans : List Deed → Bool
are_four_kans deeds = (kans deeds == 4) && differ (kan_seats deeds)

-- The first reason that holds, in a game whose rules have such draws.
abbrev pub reason : Bool → List Deed → Option Reason
reason draws deeds =
    if not draws then None else
    (if are_four_winds deeds then Some reasons.Suufonrenta else
    (if are_four_riichis deeds then Some reasons.Suuchareach else
    (if are_four_kans deeds then Some reasons.Suukaikan else None)))
