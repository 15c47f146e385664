-- What is read off the newest deed and the one beside it, of the deeds that a table stands for.
use Rattle.std.proofs.Common.{◌≡◌, ℕ, ◌==◌, not, Bool, true, List, [], length, sym, ap, ◌∙◌}
use Rattle.std.specs.Prelude.{Option, ℤ}
use Rattle.mj_rounds.specs.declared.rounds.HandEnd.{HandEnd}
use Rattle.mj_rounds.specs.declared.rounds.Standing.{Standing}
use Rattle.mj_deeds.specs.declared.deed.Deed.{Deed}
use Rattle.mj_deeds.specs.Course.{cause, before_wins}
use Rattle.mj_deeds.specs.Ends.{end_of}
use Rattle.mj_deeds.specs.Facts.{newest, drawn_tile}
use Rattle.mj_deeds.specs.Fits.{ground_of, is_in_place, all_fit, taken_from}
use Rattle.mj_deeds.specs.Hand.{hand}
use Rattle.mj_deeds.specs.Standings.{standing}
use Rattle.mj_wall.specs.declared.setting.Rules.{Rules}
use Rattle.mj_table.proofs.LatestKept.{cause_kept, drawn_kept, wins_kept, taken_kept}
use Rattle.mj_table.proofs.Readers.{ground_told}
use Rattle.mj_table.specs.Plays.{Play}
use Rattle.mj_facts.specs.declared.hand_facts.HandFacts.{HandFacts}
use Rattle.mj_deeds.specs.declared.four.Four.{Four}
use Rattle.mj_table.specs.Inner.Kept.{Stands, beside}
use Rattle.mj_table.specs.Inner.Latest.{cause_by, drawn_of, before_wins_of, taken_of}

pub cause_told : (rules : Rules) (ds : List Deed) (played : Play) (last before n p result : Option Deed) → all_fit rules.red [] ds ≡ true → last ≡ newest ds → before ≡ beside ds →
    record { rules = rules; deeds = ds } ≡ played → n ≡ last → p ≡ before → result ≡ cause_by n p → result ≡ cause played.deeds
cause_told rules ds played last before n p result fit e f is a b what = cause_kept rules.red ds n p result fit (a ∙ e) (b ∙ f) what ∙ ap (λ (play : Play). cause play.deeds) is

pub drawn_told : (rules : Rules) (ds : List Deed) (played : Play) (seat : ℕ) (last before n p : Option Deed) (result : Option ℕ) →
    all_fit rules.red [] ds ≡ true → last ≡ newest ds → before ≡ beside ds →
    record { rules = rules; deeds = ds } ≡ played → n ≡ last → p ≡ before → result ≡ drawn_of seat n p → result ≡ drawn_tile played.deeds seat
drawn_told rules ds played seat last before n p result fit e f is a b what =
    drawn_kept rules.red ds seat n p result fit (a ∙ e) (b ∙ f) what ∙ ap (λ (play : Play). drawn_tile play.deeds seat) is

pub wins_told : (rules : Rules) (ds : List Deed) (played : Play) (begun : Bool) (last before n p result : Option Deed) → begun ≡ not (length (hand ds) == 0) → last ≡ newest ds → before ≡ beside ds →
    record { rules = rules; deeds = ds } ≡ played → n ≡ last → p ≡ before → result ≡ before_wins_of begun n p → result ≡ newest (before_wins (hand played.deeds))
wins_told rules ds played begun last before n p result some e f is a b what =
    wins_kept ds begun n p result some (a ∙ e) (b ∙ f) what ∙ ap (λ (play : Play). newest (before_wins (hand play.deeds))) is

-- Whether a deed stands in its place.
pub place_told : (rules : Rules) (ds : List Deed) (played : Play) (d : Deed) (last before n p t : Option Deed) (now : Standing) (held : List ℤ)
    (lying : ℕ) (tiles : Four (List ℕ)) (facts : HandFacts) (end : HandEnd) (result : Bool) →
    Stands rules ds last before now held lying tiles facts → record { rules = rules; deeds = ds } ≡ played → n ≡ last → p ≡ before →
    t ≡ taken_of n p → end ≡ end_of (hand played.deeds) (standing played.deeds).dealer →
    ((h : List Deed) (points : List ℤ) → t ≡ taken_from h n → end ≡ end_of h now.dealer → result ≡ is_in_place (record { newest = n; hand = h; standing = now; points = points; deposits = lying }) d) →
    result ≡ is_in_place (ground_of played.deeds) d
place_told rules ds played d last before n p t now held lying tiles facts end result s is a b took ended told =
    ground_told ds n now held lying d result (a ∙ s.latest) s.standing s.points s.deposits
    (told (hand ds) held (taken_kept ds n p t (a ∙ s.latest) (b ∙ s.previous) took ∙ ap (taken_from (hand ds)) (sym (a ∙ s.latest)))
    (ended ∙ ap (λ (play : Play). end_of (hand play.deeds) (standing play.deeds).dealer) (sym is) ∙ sym (ap (λ (at : Standing). end_of (hand ds) at.dealer) s.standing)))
    ∙ ap (λ (play : Play). is_in_place (ground_of play.deeds) d) is
