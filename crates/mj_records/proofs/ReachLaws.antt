-- The line of an accepted reach is read again.
use Rattle.std.proofs.Common.{◌≡◌, ℕ, ◌<◌, List, [], ◌∷◌, ◌++◌, Bool, true, false, refl, ap, ◌∙◌, append_assoc, cond}
use Rattle.std.specs.Prelude.{Some, ℤ, pos, neg_ℤ, ◌==◌, ◌&&◌, codes, decimal}
use Rattle.std.proofs.lemmas.Bool.{ltb-true}
use Rattle.mj_pay.specs.Payments.{deposit_changes}
use Rattle.mj_deeds.specs.declared.bid.Bid.{Bid}
use Rattle.mj_deeds.specs.declared.bid.Bid.TheVariants as bids
use Rattle.mj_deeds.specs.declared.deed.Deed.TheVariants.{ReachAccepted}
use Rattle.mj_deeds.specs.declared.deed.Viewer.TheVariants.{Record}
use Rattle.mj_forms.specs.Lines.{line, bid_text, points_text, reach_accepted_line}
use Rattle.mj_history.specs.Records.{is_byte, is_tile, is_bid, are_points, is_signed_word}
use Rattle.mj_records.specs.Inner.Fields.{quoted_at}
use Rattle.mj_records.specs.Deeds.{deed_in, deed_by, small_by, bid_in, reach_accepted_in}
use Rattle.mj_records.specs.Laws.{ReachesAreRead}
use Rattle.mj_records.proofs.Shapes.{group8}
use Rattle.mj_records.proofs.FieldLaws.{byte_read}
use Rattle.mj_records.proofs.PointLaws.{and-parts, points_field_read}
use Rattle.mj_records.proofs.CallLaws.{call_text, two_tiles, three_tiles, third}

pub bid_read : (bid : Bid) (rest : List ℕ) → is_bid bid ≡ true → bid_in (bid_text bid ++ rest) ≡ Some bid
unfolding bid_in quoted_at
bid_read bids.NoBid rest h = refl
bid_read (bids.Chi seat target tile a b) rest h =
    let p = and-parts (is_byte seat && is_byte target && is_tile tile && is_tile a) (is_tile b) h in
    let q = and-parts (is_byte seat && is_byte target && is_tile tile) (is_tile a) p.0 in
    let r = and-parts (is_byte seat && is_byte target) (is_tile tile) q.0 in
    let s = and-parts (is_byte seat) (is_byte target) r.0 in
    ap bid_in (call_text (codes "chi") rest seat target tile (a ∷ b ∷ []))
    ∙ two_tiles (codes "chi") seat target tile a b (codes "}" ++ rest) (ltb-true seat 256 s.0) (ltb-true target 256 s.1) (ltb-true tile 37 r.1) (ltb-true a 37 q.1) (ltb-true b 37 p.1)
bid_read (bids.Pon seat target tile a b) rest h =
    let p = and-parts (is_byte seat && is_byte target && is_tile tile && is_tile a) (is_tile b) h in
    let q = and-parts (is_byte seat && is_byte target && is_tile tile) (is_tile a) p.0 in
    let r = and-parts (is_byte seat && is_byte target) (is_tile tile) q.0 in
    let s = and-parts (is_byte seat) (is_byte target) r.0 in
    ap bid_in (call_text (codes "pon") rest seat target tile (a ∷ b ∷ []))
    ∙ two_tiles (codes "pon") seat target tile a b (codes "}" ++ rest) (ltb-true seat 256 s.0) (ltb-true target 256 s.1) (ltb-true tile 37 r.1) (ltb-true a 37 q.1) (ltb-true b 37 p.1)
bid_read (bids.OpenKan seat target tile a b c) rest h =
    let o = and-parts (is_byte seat && is_byte target && is_tile tile && is_tile a && is_tile b) (is_tile c) h in
    let p = and-parts (is_byte seat && is_byte target && is_tile tile && is_tile a) (is_tile b) o.0 in
    let q = and-parts (is_byte seat && is_byte target && is_tile tile) (is_tile a) p.0 in
    let r = and-parts (is_byte seat && is_byte target) (is_tile tile) q.0 in
    let s = and-parts (is_byte seat) (is_byte target) r.0 in
    ap bid_in (call_text (codes "daiminkan") rest seat target tile (a ∷ b ∷ c ∷ []))
    ∙ three_tiles (codes "daiminkan") seat target tile a b c (codes "}" ++ rest) (ltb-true seat 256 s.0) (ltb-true target 256 s.1) (ltb-true tile 37 r.1) (ltb-true a 37 q.1) (ltb-true b 37 p.1)
    ∙ third seat target tile a b c (93 ∷ (codes "}" ++ rest)) (ltb-true c 37 o.1)

-- the deposit of a seat is a change of points of four seats
one_change : (t : Bool) → is_signed_word (cond t (neg_ℤ (pos 1000)) (pos 0)) ≡ true
one_change true = refl
one_change false = refl

four_changes : (s t u v : Bool) → are_points (cond s (neg_ℤ (pos 1000)) (pos 0) ∷ cond t (neg_ℤ (pos 1000)) (pos 0) ∷ cond u (neg_ℤ (pos 1000)) (pos 0) ∷ cond v (neg_ℤ (pos 1000)) (pos 0) ∷ []) ≡ true
four_changes s t u v = rw (one_change s, one_change t, one_change u, one_change v)

pub changes_fit : (seat : ℕ) → are_points (deposit_changes seat) ≡ true
unfolding deposit_changes
changes_fit seat = four_changes (0 == seat) (1 == seat) (2 == seat) (3 == seat)

accepted_fields : (seat : ℕ) (deltas points : List ℤ) (bid : Bid) (rest : List ℕ) → seat < 256 → are_points deltas ≡ true → are_points points ≡ true → is_bid bid ≡ true →
    reach_accepted_in (codes ",\"actor\":" ++
    (decimal seat ++ (codes ",\"deltas\":" ++
    (points_text deltas ++ (codes ",\"scores\":" ++ (points_text points ++ (codes ",\"then\":" ++ (bid_text bid ++ rest)))))))) ≡ Some
    (ReachAccepted seat points bid)
unfolding reach_accepted_in
accepted_fields seat deltas points bid rest hs hd hp hb =
    rw (
      byte_read (codes ",\"actor\":") (codes ",\"deltas\":" ++ (points_text deltas ++ (codes ",\"scores\":" ++ (points_text points ++ (codes ",\"then\":" ++ (bid_text bid ++ rest)))))) seat hs refl,
      points_field_read (codes ",\"deltas\":") (codes ",\"scores\":" ++ (points_text points ++ (codes ",\"then\":" ++ (bid_text bid ++ rest)))) deltas hd,
      points_field_read (codes ",\"scores\":") (codes ",\"then\":" ++ (bid_text bid ++ rest)) points hp,
      bid_read bid rest hb,
    )

accepted : (seat : ℕ) (points : List ℤ) (bid : Bid) → seat < 256 → are_points points ≡ true → is_bid bid ≡ true →
    deed_in (line Record (ReachAccepted seat points bid)) ≡ Some (ReachAccepted seat points bid)
unfolding reach_accepted_line deed_in deed_by small_by quoted_at
accepted seat points bid hs hp hb =
    ap deed_in (group8 (codes "{\"type\":\"reach_accepted\",\"actor\":") (decimal seat) (codes ",\"deltas\":") (points_text (deposit_changes seat))
    (codes ",\"scores\":") (points_text points) (codes ",\"then\":" ++ bid_text bid) (codes "}\n"))
    ∙ ap (λ t. reach_accepted_in (codes ",\"actor\":" ++ (decimal seat ++ (codes ",\"deltas\":" ++ (points_text (deposit_changes seat) ++ (codes ",\"scores\":" ++ (points_text points ++ t)))))))
    (append_assoc (codes ",\"then\":") (bid_text bid) (codes "}\n"))
    ∙ accepted_fields seat (deposit_changes seat) points bid (codes "}\n") hs (changes_fit seat) hp hb

pub reaches_are_read : ReachesAreRead
reaches_are_read = record { accepted = accepted }
