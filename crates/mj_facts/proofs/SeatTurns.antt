-- What is kept of a seat, by a deed that only offers tiles to it, and by its own discard.
use Rattle.std.proofs.Common.{◌≡◌, ℕ, ◌==◌, ◌||◌, ◌&&◌, not, Bool, true, false, eqb, cond, List, [], ◌∷◌, ◌++◌, refl, sym, ap, ◌∙◌, subst, append-nil}
use Rattle.std.specs.Prelude.{flat_map, Option, None, option_to_list}
use Rattle.std.specs.List.{list_any}
use Rattle.mj_tiles.specs.Kinds.{no_kinds}
use Rattle.mj_deeds.specs.declared.deed.Deed.{Deed}
use Rattle.mj_deeds.specs.declared.deed.Deed.TheVariants.{Draw, Discard}
use Rattle.mj_deeds.specs.Ends.{winners_by}
use Rattle.mj_deeds.specs.Facts.{discards_by, is_call, is_discard_by, river_tiles, adds_by}
use Rattle.mj_deeds.specs.Firsts.{ends_first}
use Rattle.mj_deeds.specs.declared.four.Four.{Four}
use Rattle.mj_deeds.specs.Hand.{is_hand_start}
use Rattle.mj_deeds.specs.Passed.{kinds_among, offers_to, offered_tiles, own_kinds, passed_kinds}
use Rattle.mj_deeds.specs.Points.{is_win}
use Rattle.mj_deeds.specs.Riichi.{is_reach_by, is_accepted_by, behind_first}
use Rattle.mj_deeds.proofs.RiichiLaws.{is_added, passed_in_riichi-more}
use Rattle.mj_facts.proofs.FewKept.{lists_same}
use Rattle.mj_facts.proofs.KindsAmong.{none_among}
use Rattle.mj_facts.proofs.MarksKept.{marks_more}
use Rattle.mj_facts.proofs.MeldsKept.{melds_stay}
use Rattle.mj_facts.proofs.SeatsKept.{own_more, offers_more, passed_more, since_more, added_more, won_with}
use Rattle.mj_facts.specs.declared.few_tiles.FewTiles.{FewTiles}
use Rattle.mj_facts.specs.declared.mark_facts.MarkFacts.{MarkFacts}
use Rattle.mj_facts.specs.declared.seat_facts.SeatFacts.{SeatFacts}
use Rattle.mj_facts.specs.Few.{Lists}
use Rattle.mj_deeds.specs.Facts.{is_discard}
use Rattle.mj_facts.specs.Inner.Passing.{OnlyOffers}
use Rattle.mj_facts.specs.Seats.{Keeps, AllKeep, KeepsMarks}

-- After the first that passes stands nothing, where none does.
behind_none : (p : Deed → Bool) (xs : List Deed) → list_any p xs ≡ false → behind_first p xs ≡ []
behind_none p [] h = refl
behind_none p (x ∷ xs) h = either (p x) h (behind_none p xs)
  where
    either : (b : Bool) → (b || list_any p xs) ≡ false → (list_any p xs ≡ false → behind_first p xs ≡ []) → cond b xs (behind_first p xs) ≡ []
    either true h k = cc
    either false h k = k h

stays : (b c : Bool) → c ≡ false → b ≡ (b || c)
stays true c e = refl
stays false c e = sym e

-- Whether its riichi is a double one is settled by its reach, and nothing is declared or broken before.
double_stays : (r d h x c y : Bool) → r ≡ h → d ≡ (h && x) → c ≡ false → d ≡ cond r d (c && y)
double_stays true d h x c y e f g = refl
double_stays false d h x c y e f g = f ∙ ap (λ b. b && x) (sym e) ∙ ap (λ b. b && y) (sym g)

only_behind : (p q : Deed → Bool) (xs : List Deed) (r d : Bool) → r ≡ list_any p xs → d ≡ list_any q (behind_first p xs) → r ≡ false → d ≡ false
only_behind p q xs r d e f none = f ∙ ap (list_any q) (behind_none p xs (sym e ∙ none))

within : (r d c : Bool) → (r ≡ false → d ≡ false) → c ≡ false → d ≡ (r && (d || c))
within true d c none e = stays d c e
within false d c none e = none refl

ends : (b c : Bool) → c ≡ true → true ≡ (b || c)
ends true c e = refl
ends false c e = sym e

turned : (r d c : Bool) → c ≡ true → r ≡ (r && (d || c))
turned true d c e = ends d c e
turned false d c e = refl

-- The riichi of a seat that no deed concerns.
marks_go_on : (ds : List Deed) (d : Deed) (seat : ℕ) (tiles : List ℕ) (m n : MarkFacts) → OnlyOffers d seat tiles → KeepsMarks ds seat m →
    n ≡ record m { ippatsu = m.accepted && not m.broken; given = m.accepted && not m.broken } → KeepsMarks (ds ++ d ∷ []) seat n
marks_go_on ds d seat tiles m n o k is =
    subst (λ (marks : MarkFacts). KeepsMarks (ds ++ d ∷ []) seat marks) (sym is)
    (marks_more ds d seat m (record m { ippatsu = m.accepted && not m.broken; given = m.accepted && not m.broken }) k
    (stays m.begun (is_hand_start d) o.starts) (stays m.ended (ends_first seat d) o.ends) (stays m.reached (is_reach_by seat d) o.reaches) (stays m.accepted (is_accepted_by seat d) o.accepts)
    (double_stays m.reached m.double _ _ (is_reach_by seat d) (m.begun && not m.ended) k.reached k.double o.reaches)
    (within m.reached m.declared (is_discard_by seat d) (only_behind (is_reach_by seat) (is_discard_by seat) ds m.reached m.declared k.reached k.declared) o.discarded)
    (within m.declared m.broken (ends_first seat d) (only_behind (is_discard_by seat) (ends_first seat) (behind_first (is_reach_by seat) ds) m.declared m.broken k.declared k.broken) o.ends)
    (λ i. m.accepted && not (same (is_added d) m.broken i)) (λ i. cond (sym o.win i) m.given (m.accepted && not m.broken)))
  where
    same : (b c : Bool) → c ≡ cond b c c
    same true c = refl
    same false c = refl

-- That of a seat which discards.
marks_turn : (ds : List Deed) (from seat tile : ℕ) (drawn : Bool) (m n : MarkFacts) → eqb from seat ≡ true → KeepsMarks ds seat m →
    n ≡ record m { ended = true; declared = m.reached; broken = m.declared; ippatsu = m.accepted && not m.declared; given = m.accepted && not m.declared } →
    KeepsMarks (ds ++ Discard from tile drawn ∷ []) seat n
marks_turn ds from seat tile drawn m n own k is =
    subst (λ (marks : MarkFacts). KeepsMarks (ds ++ Discard from tile drawn ∷ []) seat marks) (sym is)
    (marks_more ds (Discard from tile drawn) seat m (record m { ended = true; declared = m.reached; broken = m.declared; ippatsu = m.accepted && not m.declared; given = m.accepted && not m.declared })
    k
    (stays m.begun false refl) (ends m.ended (eqb from seat) own) (stays m.reached false refl) (stays m.accepted false refl)
    (double_stays m.reached m.double _ _ false (m.begun && not m.ended) k.reached k.double refl) (turned m.reached m.declared (eqb from seat) own)
    (turned m.declared m.broken (eqb from seat) own) refl refl)

-- A deed that is no discard.
no_discards : (d : Deed) (seat : ℕ) → is_discard d ≡ false → discards_by seat d ≡ []
no_discards (Discard who tile drawn) seat h = cc
no_discards other seat h = refl

not_discarded : (d : Deed) (seat : ℕ) → is_discard d ≡ false → is_discard_by seat d ≡ false
not_discarded (Discard who tile drawn) seat h = cc
not_discarded other seat h = refl

ends_by_call : (d : Deed) (seat : ℕ) → is_discard d ≡ false → is_call d ≡ ends_first seat d
ends_by_call (Discard who tile drawn) seat h = cc
ends_by_call other seat h = refl

-- The riichi of a seat by such a deed.
pub marks_other : (ds : List Deed) (d : Deed) (seat : ℕ) (m n : MarkFacts) → is_discard d ≡ false → KeepsMarks ds seat m →
    n.begun ≡ (m.begun || is_hand_start d) → n.ended ≡ (m.ended || is_call d) → n.reached ≡ (m.reached || is_reach_by seat d) →
    n.accepted ≡ (m.accepted || is_accepted_by seat d) → n.double ≡ cond m.reached m.double (is_reach_by seat d && (m.begun && not m.ended)) →
    n.declared ≡ m.declared → n.broken ≡ (m.declared && (m.broken || is_call d)) →
    n.ippatsu ≡ (n.accepted && not (cond (is_added d) m.broken n.broken)) → n.given ≡ cond (is_win d) m.given n.ippatsu → KeepsMarks (ds ++ d ∷ []) seat n
marks_other ds d seat m n none k begun ended reached accepted double declared broken ippatsu given =
    marks_more ds d seat m n k begun (ended ∙ ap (λ b. m.ended || b) (ends_by_call d seat none)) reached accepted double
    (declared ∙ within m.reached m.declared (is_discard_by seat d) (only_behind (is_reach_by seat) (is_discard_by seat) ds m.reached m.declared k.reached k.declared) (not_discarded d seat none))
    (broken ∙ ap (λ b. m.declared && (m.broken || b)) (ends_by_call d seat none)) ippatsu given

-- The kinds that are kept of a seat by such a deed.
pub own_other : (ds : List Deed) (d : Deed) (seat own : ℕ) → is_discard d ≡ false → own ≡ own_kinds ds seat → own ≡ own_kinds (ds ++ d ∷ []) seat
own_other ds d seat own none is = is ∙ ap kinds_among (sym (append-nil (river_tiles ds seat))) ∙ own_more ds d seat [] (sym (no_discards d seat none))

pub offers_other : (ds : List Deed) (d : Deed) (seat result : ℕ) (more : Option ℕ) → is_discard d ≡ false → option_to_list more ≡ offers_to seat d →
    result ≡ kinds_among (offered_tiles ds seat ++ option_to_list more) → result ≡ kinds_among (offered_tiles (ds ++ d ∷ []) seat)
offers_other ds d seat result more none e is =
    offers_more ds d seat result (is ∙ (λ i. kinds_among (cond (sym (not_discarded d seat none) i) [] (offered_tiles ds seat ++ e i))))

pub passed_other : (ds : List Deed) (d : Deed) (seat offered : ℕ) → is_discard d ≡ false → offered ≡ kinds_among (offered_tiles ds seat) → offered ≡ passed_kinds (ds ++ d ∷ []) seat
passed_other ds d seat offered none was = passed_more ds d seat offered offered was (λ i. cond (sym (not_discarded d seat none) i) no_kinds offered)

-- What was offered to a seat since its reach, where it is offered nothing more.
since_stays : (ds : List Deed) (seat : ℕ) (f : SeatFacts) → Keeps ds seat f →
    f.offered_in_riichi ≡ kinds_among (cond f.marks.reached (flat_map (offers_to seat) (behind_first (is_reach_by seat) ds) ++ []) [])
since_stays ds seat f k = by_test f.marks.reached refl
  where
    by_test : (b : Bool) → f.marks.reached ≡ b → f.offered_in_riichi ≡ kinds_among (cond b (flat_map (offers_to seat) (behind_first (is_reach_by seat) ds) ++ []) [])
    by_test true e = k.offered_in_riichi ∙ ap kinds_among (sym (append-nil (flat_map (offers_to seat) (behind_first (is_reach_by seat) ds))))
    by_test false e = k.offered_in_riichi ∙ ap (λ (xs : List Deed). kinds_among (flat_map (offers_to seat) xs)) (behind_none (is_reach_by seat) ds (sym k.marks.reached ∙ e))

added_stay : (few : FewTiles) (ds : List Deed) (d : Deed) (seat : ℕ) → adds_by seat d ≡ [] → Lists few (flat_map (adds_by seat) ds) → Lists few (flat_map (adds_by seat) (ds ++ d ∷ []))
added_stay few ds d seat none k = added_more few ds d seat None (sym none) (lists_same few _ _ (sym (append-nil (flat_map (adds_by seat) ds))) k)

-- By a deed that only offers tiles to the seat, it lets pass what was offered before.
pub only_offered : (ds : List Deed) (d : Deed) (seat : ℕ) (tiles : List ℕ) (f : SeatFacts) (offered since : ℕ) (marks : MarkFacts) → OnlyOffers d seat tiles → Keeps ds seat f →
    offered ≡ kinds_among (offered_tiles ds seat ++ tiles) → since ≡ kinds_among (cond f.marks.reached (flat_map (offers_to seat) (behind_first (is_reach_by seat) ds) ++ tiles) []) →
    marks ≡ record f.marks { ippatsu = f.marks.accepted && not f.marks.broken; given = f.marks.accepted && not f.marks.broken } →
    Keeps (ds ++ d ∷ []) seat (record f { offered = offered; passed = f.offered; offered_in_riichi = since; passed_in_riichi = f.offered_in_riichi; marks = marks })
only_offered ds d seat tiles f offered since marks o k is what now = record {
  own = k.own ∙ ap kinds_among (sym (append-nil (river_tiles ds seat))) ∙ own_more ds d seat [] (sym o.discards);
  offered = offers_more ds d seat offered (is ∙ (λ i. kinds_among (cond (sym o.discarded i) [] (offered_tiles ds seat ++ sym o.offers i))));
  passed = passed_more ds d seat f.offered f.offered k.offered (λ i. cond (sym o.discarded i) no_kinds f.offered);
  offered_in_riichi =
      since_more ds d seat since f.marks.reached k.marks.reached
      (what ∙ (λ i. kinds_among (cond f.marks.reached (flat_map (offers_to seat) (behind_first (is_reach_by seat) ds) ++ sym o.offers i) [])));
  passed_in_riichi = k.offered_in_riichi ∙ sym (passed_in_riichi-more ds d seat);
  melds = melds_stay ds d seat f.melds (sym o.makes) (sym o.adds) k.melds;
  added = added_stay f.added ds d seat o.adds k.added;
  marks = marks_go_on ds d seat tiles f.marks marks o k.marks now;
  won = won_with ds d seat f.won f.won k.won (stays f.won (list_any (λ who. who == seat) (winners_by d)) o.wins);
}

-- Where it offers none.
pub only_passed : (ds : List Deed) (d : Deed) (seat : ℕ) (f : SeatFacts) (marks : MarkFacts) → OnlyOffers d seat [] → Keeps ds seat f →
    marks ≡ record f.marks { ippatsu = f.marks.accepted && not f.marks.broken; given = f.marks.accepted && not f.marks.broken } →
    Keeps (ds ++ d ∷ []) seat (record f { passed = f.offered; passed_in_riichi = f.offered_in_riichi; marks = marks })
only_passed ds d seat f marks o k now =
    only_offered ds d seat [] f f.offered f.offered_in_riichi marks o k (k.offered ∙ ap kinds_among (sym (append-nil (offered_tiles ds seat)))) (since_stays ds seat f k) now

-- By its own discard.
pub own_discarded : (ds : List Deed) (from seat tile : ℕ) (drawn : Bool) (f : SeatFacts) (own none : ℕ) (marks : MarkFacts) → eqb from seat ≡ true → Keeps ds seat f →
    own ≡ kinds_among (river_tiles ds seat ++ tile ∷ []) → none ≡ no_kinds →
    marks ≡ record f.marks {
      ended = true;
      declared = f.marks.reached;
      broken = f.marks.declared;
      ippatsu = f.marks.accepted && not f.marks.declared;
      given = f.marks.accepted && not f.marks.declared;
    } →
    Keeps (ds ++ Discard from tile drawn ∷ []) seat (record f { own = own; offered = none; passed = none; passed_in_riichi = f.offered_in_riichi; marks = marks })
own_discarded ds from seat tile drawn f own none marks same k is empty now = record {
  own = is ∙ own_more ds d seat (tile ∷ []) (λ i. cond (sym same i) (tile ∷ []) []);
  offered = offers_more ds d seat none (empty ∙ none_among ∙ (λ i. kinds_among (cond (sym same i) [] (offered_tiles ds seat ++ offers_to seat d))));
  passed = passed_more ds d seat f.offered none k.offered (empty ∙ (λ i. cond (sym same i) no_kinds f.offered));
  offered_in_riichi =
      since_more ds d seat f.offered_in_riichi f.marks.reached k.marks.reached
      (since_stays ds seat f k ∙ (λ i. kinds_among (cond f.marks.reached (flat_map (offers_to seat) (behind_first (is_reach_by seat) ds) ++ cond (sym same i) [] (tile ∷ [])) [])));
  passed_in_riichi = k.offered_in_riichi ∙ sym (passed_in_riichi-more ds d seat);
  melds = melds_stay ds d seat f.melds refl refl k.melds;
  added = added_stay f.added ds d seat refl k.added;
  marks = marks_turn ds from seat tile drawn f.marks marks same k.marks now;
  won = won_with ds d seat f.won f.won k.won (stays f.won false refl);
}
  where
    d : Deed
    d = Discard from tile drawn

-- A draw, and another's discard.
pub draw_offers : (from seat tile : ℕ) (replacement : Bool) → OnlyOffers (Draw from tile replacement) seat []
draw_offers from seat tile replacement = record {
  offers = refl;
  starts = refl;
  win = refl;
  added = refl;
  discards = refl;
  discarded = refl;
  makes = refl;
  adds = refl;
  ends = refl;
  reaches = refl;
  accepts = refl;
  wins = refl;
}

pub discard_offers : (from seat tile : ℕ) (drawn : Bool) → eqb from seat ≡ false → OnlyOffers (Discard from tile drawn) seat (tile ∷ [])
discard_offers from seat tile drawn other = record {
  offers = λ i. cond (other i) [] (tile ∷ []);
  starts = refl;
  win = refl;
  added = refl;
  discards = λ i. cond (other i) (tile ∷ []) [];
  discarded = other;
  makes = refl;
  adds = refl;
  ends = other;
  reaches = refl;
  accepts = refl;
  wins = refl;
}

-- What is kept of all seats with a deed that is known.
pub all_keep_deed : (ds : List Deed) (d e : Deed) (facts : Four SeatFacts) → d ≡ e → AllKeep (ds ++ e ∷ []) facts → AllKeep (ds ++ d ∷ []) facts
all_keep_deed ds d e facts is k = subst (λ (x : Deed). AllKeep (ds ++ x ∷ []) facts) (sym is) k
