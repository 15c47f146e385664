-- What the fields of a deed are, one by one, is what the deed is read as.
use Rattle.std.proofs.Common.{◌≡◌, ℕ, List, [], ◌∷◌, Bool}
use Rattle.std.specs.Prelude.{Some, None, ℤ, codes}
use Rattle.mj_deeds.specs.declared.four.Four.{Four}
use Rattle.mj_deeds.specs.declared.reason.Reason.{Reason}
use Rattle.mj_deeds.specs.Shown.{Shown}
use Rattle.mj_deeds.specs.declared.deed.Deed.TheVariants.{DrawnHand}
use Rattle.mj_records.specs.Inner.Fields.{truth_field, points_field}
use Rattle.mj_records.specs.Inner.Lists.{tiles_field, rows_field}
use Rattle.mj_records.specs.Deeds.{hands_at, win_by, win_with, shown_field, drawn_by, drawn_with}

pub hands_steps : (text ra rb rc rd a b c d : List ℕ) → Some (a, ra) ≡ tiles_field (codes ",\"tehais\":[") text →
    Some (b, rb) ≡ tiles_field (codes ",") ra → Some (c, rc) ≡ tiles_field (codes ",") rb → Some (d, rd) ≡ tiles_field (codes ",") rc →
    Some (record { first = a; second = b; third = c; fourth = d }) ≡ hands_at text
unfolding hands_at
hands_steps text ra rb rc rd a b c d ha hb hc hd = rw (← ha, ← hb, ← hc, ← hd)

pub hands_stop : (text ra rb a b : List ℕ) → Some (a, ra) ≡ tiles_field (codes ",\"tehais\":[") text →
    Some (b, rb) ≡ tiles_field (codes ",") ra → None ≡ tiles_field (codes ",") rb → None ≡ hands_at text
unfolding hands_at
hands_stop text ra rb a b ha hb hc = rw (← ha, ← hb, ← hc)

pub hands_stop_last : (text ra rb rc a b c : List ℕ) → Some (a, ra) ≡ tiles_field (codes ",\"tehais\":[") text →
    Some (b, rb) ≡ tiles_field (codes ",") ra → Some (c, rc) ≡ tiles_field (codes ",") rb → None ≡ tiles_field (codes ",") rc → None ≡ hands_at text
unfolding hands_at
hands_stop_last text ra rb rc a b c ha hb hc hd = rw (← ha, ← hb, ← hc, ← hd)

pub win_steps : (seat target tile : ℕ) (text ru rh ry unders hand : List ℕ) (yaku : List (ℕ × ℕ)) →
    Some (unders, ru) ≡ tiles_field (codes ",\"uradora_markers\":") text → Some (hand, rh) ≡ tiles_field (codes ",\"hora_tehais\":") ru →
    Some (yaku, ry) ≡ rows_field (codes ",\"yakus\":") rh →
    win_by seat target tile unders hand yaku ry ≡ win_with seat target tile text
unfolding win_with
win_steps seat target tile text ru rh ry unders hand yaku hu hh hy = rw (← hu, ← hh, ← hy)

pub win_stop : (seat target tile : ℕ) (text ru rh unders hand : List ℕ) → Some (unders, ru) ≡ tiles_field (codes ",\"uradora_markers\":") text →
    Some (hand, rh) ≡ tiles_field (codes ",\"hora_tehais\":") ru → None ≡ rows_field (codes ",\"yakus\":") rh → None ≡ win_with seat target tile text
unfolding win_with
win_stop seat target tile text ru rh unders hand hu hh hy = rw (← hu, ← hh, ← hy)

pub shown_steps : (reason : Reason) (text ra rb rc rd : List ℕ) (a b c d : Shown) → Some (a, ra) ≡ shown_field (codes ",\"tehais\":[") text →
    Some (b, rb) ≡ shown_field (codes ",") ra → Some (c, rc) ≡ shown_field (codes ",") rb → Some (d, rd) ≡ shown_field (codes ",") rc →
    drawn_by reason (record { first = a; second = b; third = c; fourth = d }) rd ≡ drawn_with reason text
unfolding drawn_with
shown_steps reason text ra rb rc rd a b c d ha hb hc hd = rw (← ha, ← hb, ← hc, ← hd)

pub shown_stop : (reason : Reason) (text ra rb : List ℕ) (a b : Shown) → Some (a, ra) ≡ shown_field (codes ",\"tehais\":[") text →
    Some (b, rb) ≡ shown_field (codes ",") ra → None ≡ shown_field (codes ",") rb → None ≡ drawn_with reason text
unfolding drawn_with
shown_stop reason text ra rb a b ha hb hc = rw (← ha, ← hb, ← hc)

pub shown_stop_last : (reason : Reason) (text ra rb rc : List ℕ) (a b c : Shown) → Some (a, ra) ≡ shown_field (codes ",\"tehais\":[") text →
    Some (b, rb) ≡ shown_field (codes ",") ra → Some (c, rc) ≡ shown_field (codes ",") rb → None ≡ shown_field (codes ",") rc →
    None ≡ drawn_with reason text
unfolding drawn_with
shown_stop_last reason text ra rb rc a b c ha hb hc hd = rw (← ha, ← hb, ← hc, ← hd)

pub drawn_steps : (reason : Reason) (hands : Four Shown) (text ta tb tc td te tf : List ℕ) (a b c d : Bool) (deltas points : List ℤ) →
    Some (a, ta) ≡ truth_field (codes "],\"tenpais\":[") text → Some (b, tb) ≡ truth_field (codes ",") ta → Some (c, tc) ≡ truth_field (codes ",") tb
    → Some (d, td) ≡ truth_field (codes ",") tc →
    Some (deltas, te) ≡ points_field (codes "],\"deltas\":") td → Some (points, tf) ≡ points_field (codes ",\"scores\":") te →
    Some (DrawnHand reason hands (a ∷ b ∷ c ∷ d ∷ []) deltas points) ≡ drawn_by reason hands text
unfolding drawn_by
drawn_steps reason hands text ta tb tc td te tf a b c d deltas points ha hb hc hd he hf = rw (← ha, ← hb, ← hc, ← hd, ← he, ← hf)
