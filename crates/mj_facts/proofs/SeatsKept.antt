-- What is kept of a seat, a deed further.
use Rattle.std.proofs.Common.{◌≡◌, ℕ, ◌+◌, ◌-◌, ◌≤◌, ◌==◌, ◌||◌, Bool, true, false, List, [], ◌∷◌, ◌++◌, length, take, cond, refl, sym, ap, ◌∙◌, subst, arith}
use Rattle.std.specs.Prelude.{flat_map, Option, Some, option_to_list}
use Rattle.std.specs.List.{list_any}
use Rattle.std.proofs.lemmas.List.{length-append}
use Rattle.std.proofs.lemmas.List.Folds.{list_any-append}
use Rattle.mj_tiles.specs.Kinds.{no_kinds}
use Rattle.mj_tiles.specs.declared.meld.Meld.{Meld}
use Rattle.mj_deeds.specs.declared.deed.Deed.{Deed}
use Rattle.mj_deeds.specs.Ends.{winners_by, winners, dealer_won}
use Rattle.mj_deeds.specs.Facts.{discards_by, river_tiles, is_discard_by, adds_by}
use Rattle.mj_deeds.specs.Passed.{kinds_among, own_kinds, offers_to, offered_tiles, passed_before, passed_kinds}
use Rattle.mj_deeds.specs.Riichi.{is_reach_by, has_reached, behind_first}
use Rattle.mj_deeds.proofs.Newest.{newest_more, before_more}
use Rattle.mj_deeds.proofs.RiichiLaws.{offered_since}
use Rattle.mj_facts.proofs.CourseKept.{given_more}
use Rattle.mj_facts.proofs.FewKept.{lists_same}
use Rattle.mj_facts.proofs.KindsAmong.{none_among, offered_more}
use Rattle.mj_facts.proofs.Gathered.{one_more}
use Rattle.mj_facts.specs.declared.few_tiles.FewTiles.{FewTiles}
use Rattle.mj_facts.specs.declared.mark_facts.MarkFacts.{MarkFacts}
use Rattle.mj_facts.specs.Few.{Lists}
use Rattle.mj_facts.specs.Seats.{Keeps, KeepsMarks}

-- the kinds

-- The kinds of a seat's discards with one deed more.
pub own_more : (ds : List Deed) (d : Deed) (seat : ℕ) (piece : List ℕ) → piece ≡ discards_by seat d → kinds_among (river_tiles ds seat ++ piece) ≡ own_kinds (ds ++ d ∷ []) seat
own_more ds d seat piece is = ap (λ (xs : List ℕ). kinds_among (river_tiles ds seat ++ xs)) is ∙ ap kinds_among (sym (one_more (discards_by seat) ds d))

-- Those of the tiles that were offered to it since its last discard.
pub offers_more : (ds : List Deed) (d : Deed) (seat result : ℕ) →
    result ≡ kinds_among (cond (is_discard_by seat d) [] (offered_tiles ds seat ++ offers_to seat d)) → result ≡ kinds_among (offered_tiles (ds ++ d ∷ []) seat)
offers_more ds d seat result what = what ∙ ap kinds_among (sym (offered_more ds d seat))

-- The kinds that a seat let pass with one deed more: those that were offered to it before, unless it discards.
pub passed_more : (ds : List Deed) (d : Deed) (seat offered result : ℕ) → offered ≡ kinds_among (offered_tiles ds seat) →
    result ≡ cond (is_discard_by seat d) no_kinds offered → result ≡ passed_kinds (ds ++ d ∷ []) seat
passed_more ds d seat offered result was what =
    what ∙ ap (λ n. cond (is_discard_by seat d) no_kinds n) was ∙ by_test (is_discard_by seat d) (offered_tiles ds seat)
    ∙ sym
    (ap (λ (o : Option Deed). kinds_among (passed_before (take (length (ds ++ d ∷ []) - 1) (ds ++ d ∷ [])) seat o)) (newest_more ds d)
    ∙ ap (λ (xs : List Deed). kinds_among (passed_before xs seat (Some d))) (before_more ds d))
  where
    by_test : (b : Bool) (tiles : List ℕ) → cond b no_kinds (kinds_among tiles) ≡ kinds_among (cond b [] tiles)
    by_test true tiles = none_among
    by_test false tiles = refl

-- The kinds that were offered to it since its reach with one deed more.
pub since_more : (ds : List Deed) (d : Deed) (seat result : ℕ) (reached : Bool) → reached ≡ has_reached ds seat →
    result ≡ kinds_among (cond reached (flat_map (offers_to seat) (behind_first (is_reach_by seat) ds) ++ offers_to seat d) []) →
    result ≡ kinds_among (flat_map (offers_to seat) (behind_first (is_reach_by seat) (ds ++ d ∷ [])))
since_more ds d seat result reached is what =
    what
    ∙ ap (λ b. kinds_among (cond b (flat_map (offers_to seat) (behind_first (is_reach_by seat) ds) ++ offers_to seat d) [])) is
    ∙ ap kinds_among (sym (offered_since ds d seat))

pub none_since : (result : ℕ) (reached : Bool) (tiles : List ℕ) → result ≡ no_kinds → reached ≡ false → result ≡ kinds_among (cond reached tiles [])
none_since result reached tiles e h = e ∙ none_among ∙ ap (λ b. kinds_among (cond b tiles [])) (sym h)

-- the tiles that it added, and whether it has won

pub few_added : (ds : List Deed) (d : Deed) (seat : ℕ) (more : Option ℕ) → option_to_list more ≡ adds_by seat d → length (flat_map (adds_by seat) (ds ++ d ∷ [])) ≤ 5 →
    length (flat_map (adds_by seat) ds ++ option_to_list more) ≤ 5
few_added ds d seat more e few = subst (λ (xs : List ℕ). length xs ≤ 5) (given_more (adds_by seat) ds d more e) few

pub fewer_added : (ds : List Deed) (d : Deed) (seat : ℕ) → length (flat_map (adds_by seat) (ds ++ d ∷ [])) ≤ 5 → length (flat_map (adds_by seat) ds) ≤ 5
fewer_added ds d seat few = less _ _ _ (ap length (one_more (adds_by seat) ds d) ∙ length-append (flat_map (adds_by seat) ds) (adds_by seat d)) few
  where
    less : (n m k : ℕ) → n ≡ m + k → n ≤ 5 → m ≤ 5
    less n m k e h = omega (arith, e, h)

pub added_more : (few : FewTiles) (ds : List Deed) (d : Deed) (seat : ℕ) (more : Option ℕ) → option_to_list more ≡ adds_by seat d →
    Lists few (flat_map (adds_by seat) ds ++ option_to_list more) → Lists few (flat_map (adds_by seat) (ds ++ d ∷ []))
added_more few ds d seat more e k = lists_same few _ _ (sym (given_more (adds_by seat) ds d more e)) k

pub won_with : (ds : List Deed) (d : Deed) (seat : ℕ) (before result : Bool) → before ≡ dealer_won ds seat →
    result ≡ (before || list_any (λ who. who == seat) (winners_by d)) → result ≡ dealer_won (ds ++ d ∷ []) seat
won_with ds d seat before result was what =
    what ∙ ap (λ b. b || list_any (λ who. who == seat) (winners_by d)) was
    ∙ sym (list_any-append (λ who. who == seat) (winners ds) (winners_by d)) ∙ ap (list_any (λ who. who == seat)) (sym (one_more winners_by ds d))

-- the start

-- Of a hand without a deed nothing is kept.
pub nothing_kept : (seat n : ℕ) (melds : List Meld) (few : FewTiles) (marks : MarkFacts) → n ≡ no_kinds → melds ≡ [] → Lists few [] → KeepsMarks [] seat marks →
    Keeps [] seat (record { own = n; offered = n; passed = n; offered_in_riichi = n; passed_in_riichi = n; melds = melds; added = few; marks = marks; won = false })
nothing_kept seat n melds few marks e h l k = record {
  own = e ∙ none_among;
  offered = e ∙ none_among;
  passed = e ∙ none_among;
  offered_in_riichi = e ∙ none_among;
  passed_in_riichi = e ∙ none_among;
  melds = h;
  added = l;
  marks = k;
  won = refl;
}
