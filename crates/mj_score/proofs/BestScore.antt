-- The best score of a list of readings.
use Rattle.std.proofs.Common.{ℕ, ◌≡◌, ◌<◌, ◌⊎◌, inl, inr, Bool, true, false, List, [], ◌∷◌, Option, Some, None, refl, sym, ◌∙◌, ap, arith, zero, suc, length, cond, get_or, subst}
use Rattle.std.specs.Prelude.{fold, Contains, All, IsTrue}
use Rattle.mj_tiles.specs.declared.meld.Meld.{Meld}
use Rattle.mj_readings.specs.declared.reading.Case.{Case}
use Rattle.mj_readings.specs.declared.reading.Reading.{Reading}
use Rattle.mj_readings.specs.declared.reading.Reading.TheVariants.{Standard, Pairs, Orphans}
use Rattle.mj_readings.specs.Readings.{IsReading, AreReadings}
use Rattle.mj_fu.specs.Fu.{is_orphans}
use Rattle.mj_yaku.specs.Hands.{are_concealed}
use Rattle.mj_yaku.specs.SomeYaku.{gives_yaku}
use Rattle.mj_score.specs.declared.score.Extra.{Extra}
use Rattle.mj_score.specs.declared.score.Score.{Score}
use Rattle.mj_score.specs.Scores.{score_of, is_better}
use Rattle.mj_score.specs.Worth.{IsWorth}
use Rattle.mj_score.specs.Inner.BestAmong.{better_of, best_among}
use Rattle.mj_score.proofs.ScoreOrder.{better_not, better_through, better_self}

-- The better one of a best score and a new one, by a test and a score of readings.
abbrev step : (Reading → Bool) → (Reading → Score) → Option Score → Reading → Option Score
step test worth best reading = cond (test reading) (better_of best (worth reading)) best

some_same : (one other : Score) → Some one ≡ Some other → one ≡ other
some_same one other h = cc

some_none : (one : Score) → Some one ≡ None → ⊥
some_none one h = cc

-- What remains of a best score is the score itself or a better one, so that it isn't better than what remains.
kept : (test : Reading → Bool) (worth : Reading → Score) (list : List Reading) (best last : Score) →
    fold (step test worth) (Some best) list ≡ Some last → is_better best last ≡ false
kept test worth [] best last h = subst (λ s. is_better best s ≡ false) (some_same best last h) (better_self best)
kept test worth (reading ∷ list) best last h =
    choose test worth reading list best last (test reading) (is_better (worth reading) best) refl (kept test worth list best last) (kept test worth list (worth reading) last) h
  where
    choose : (test : Reading → Bool) (worth : Reading → Score) (reading : Reading) (list : List Reading) (best last : Score) (a b : Bool) →
        is_better (worth reading) best ≡ b →
        (fold (step test worth) (Some best) list ≡ Some last → is_better best last ≡ false) →
        (fold (step test worth) (Some (worth reading)) list ≡ Some last → is_better (worth reading) last ≡ false) →
        fold (step test worth) (cond a (Some (cond b (worth reading) best)) (Some best)) list ≡ Some last → is_better best last ≡ false
    choose test worth reading list best last false b is old new h = old h
    choose test worth reading list best last true false is old new h = old h
    choose test worth reading list best last true true is old new h = better_through (worth reading) best last is (new h)

in_rest : (reading other : Reading) (list : List Reading) → Contains list reading → Contains (other ∷ list) reading
in_rest reading other list h = let inside : h.0 < length list = h.1 in (suc h.0, omega arith, h.2)

at_front : (reading : Reading) (list : List Reading) → Contains (reading ∷ list) reading
at_front reading list = (zero, omega arith, refl)

-- A best score is that of a reading of a list, or stood before it.
Source : (Reading → Bool) → (Reading → Score) → List Reading → Option Score → Score → Type 0
Source test worth list best last =
    (best ≡ Some last) ⊎ ((reading : Reading) × (Contains list reading × IsTrue (test reading) × (last ≡ worth reading)))

source_first : (test : Reading → Bool) (worth : Reading → Score) (reading : Reading) (list : List Reading) (best : Option Score) (last : Score) (a : Bool) →
    test reading ≡ a → cond a (better_of best (worth reading)) best ≡ Some last → Source test worth (reading ∷ list) best last
unfolding Source
source_first test worth reading list best last false is h = inl h
source_first test worth reading list None last true is h = inr (reading, (at_front reading list, is, sym (some_same (worth reading) last h)))
source_first test worth reading list (Some best) last true is h = choose test worth reading list best last is (is_better (worth reading) best) h
  where
    choose : (test : Reading → Bool) (worth : Reading → Score) (reading : Reading) (list : List Reading) (best last : Score) → test reading ≡ true → (b : Bool) →
        Some (cond b (worth reading) best) ≡ Some last →
        (Some best ≡ Some last) ⊎ ((other : Reading) × (Contains (reading ∷ list) other × IsTrue (test other) × (last ≡ worth other)))
    choose test worth reading list best last is true h = inr (reading, (at_front reading list, is, sym (some_same (worth reading) last h)))
    choose test worth reading list best last is false h = inl h

source_more : (test : Reading → Bool) (worth : Reading → Score) (reading : Reading) (list : List Reading) (best : Option Score) (last : Score) →
    Source test worth list (step test worth best reading) last → Source test worth (reading ∷ list) best last
unfolding Source
source_more test worth reading list best last (inl h) = source_first test worth reading list best last (test reading) refl h
source_more test worth reading list best last (inr h) = inr (h.0, (in_rest h.0 reading list h.1.0, h.1.1, h.1.2))

source : (test : Reading → Bool) (worth : Reading → Score) (list : List Reading) (best : Option Score) (last : Score) →
    fold (step test worth) best list ≡ Some last → Source test worth list best last
unfolding Source
source test worth [] best last h = inl h
source test worth (reading ∷ list) best last h =
    source_more test worth reading list best last (source test worth list (step test worth best reading) last h)

-- The reading at the front isn't better than the best score in the end.
front_not_better : (test : Reading → Bool) (worth : Reading → Score) (reading : Reading) (list : List Reading) (best : Option Score) (last : Score) (a : Bool) →
    a ≡ true → fold (step test worth) (cond a (better_of best (worth reading)) best) list ≡ Some last → is_better (worth reading) last ≡ false
front_not_better test worth reading list best last false passes h = absurd (cc)
front_not_better test worth reading list None last true passes h = kept test worth list (worth reading) last h
front_not_better test worth reading list (Some best) last true passes h = choose test worth reading list best last (is_better (worth reading) best) refl h
  where
    choose : (test : Reading → Bool) (worth : Reading → Score) (reading : Reading) (list : List Reading) (best last : Score) (b : Bool) → is_better (worth reading) best ≡ b →
        fold (step test worth) (Some (cond b (worth reading) best)) list ≡ Some last → is_better (worth reading) last ≡ false
    choose test worth reading list best last true is h = kept test worth list (worth reading) last h
    choose test worth reading list best last false is h = better_not (worth reading) best last is (kept test worth list best last h)

-- No reading of the list that passes has a better score.
greatest : (test : Reading → Bool) (worth : Reading → Score) (list : List Reading) (best : Option Score) (last : Score) (reading : Reading) (place : ℕ) →
    place < length list → get_or list place reading ≡ reading → test reading ≡ true →
    fold (step test worth) best list ≡ Some last → is_better (worth reading) last ≡ false
greatest test worth [] best last reading place inside is passes h = absurd (omega arith)
greatest test worth (other ∷ list) best last reading zero inside is passes h =
    subst (λ r. is_better (worth r) last ≡ false) is
    (front_not_better test worth other list best last (test other) (ap test is ∙ passes) h)
greatest test worth (other ∷ list) best last reading (suc place) inside is passes h =
    greatest test worth list (step test worth best other) last reading place (omega arith) is passes h

-- A best score stays.
stays : (test : Reading → Bool) (worth : Reading → Score) (list : List Reading) (best : Score) → fold (step test worth) (Some best) list ≡ None → ⊥
stays test worth [] best h = some_none best h
stays test worth (reading ∷ list) best h =
    choose test worth reading list best (test reading) (stays test worth list best) (stays test worth list (cond (is_better (worth reading) best) (worth reading) best)) h
  where
    choose : (test : Reading → Bool) (worth : Reading → Score) (reading : Reading) (list : List Reading) (best : Score) (a : Bool) →
        (fold (step test worth) (Some best) list ≡ None → ⊥) →
        (fold (step test worth) (Some (cond (is_better (worth reading) best) (worth reading) best)) list ≡ None → ⊥) →
        fold (step test worth) (cond a (Some (cond (is_better (worth reading) best) (worth reading) best)) (Some best)) list ≡ None → ⊥
    choose test worth reading list best false old new h = old h
    choose test worth reading list best true old new h = new h

-- Where no score is left, no reading of the list passes.
none_passes : (test : Reading → Bool) (worth : Reading → Score) (list : List Reading) (reading : Reading) (place : ℕ) →
    place < length list → get_or list place reading ≡ reading → fold (step test worth) None list ≡ None → test reading ≡ false
none_passes test worth [] reading place inside is h = absurd (omega arith)
none_passes test worth (other ∷ list) reading place inside is h =
    choose test worth other list reading place (test other) refl inside is (λ place inside is h. none_passes test worth list reading place inside is h) h
  where
    choose : (test : Reading → Bool) (worth : Reading → Score) (other : Reading) (list : List Reading) (reading : Reading) (place : ℕ) (a : Bool) → test other ≡ a →
        place < length (other ∷ list) → get_or (other ∷ list) place reading ≡ reading →
        ((place : ℕ) → place < length list → get_or list place reading ≡ reading → fold (step test worth) None list ≡ None → test reading ≡ false) →
        fold (step test worth) (cond a (Some (worth other)) None) list ≡ None → test reading ≡ false
    choose test worth other list reading place true p inside is rest h = absurd (stays test worth list (worth other) h)
    choose test worth other list reading zero false p inside is rest h = sym (ap test is) ∙ p
    choose test worth other list reading (suc place) false p inside is rest h = rest place (omega arith) is h

-- The best score of a list of all readings is the worth of the hand.
pub worth_law : (counts : List ℕ) (melds : List Meld) (winning : ℕ) (case : Case) (extra : Extra) (list : List Reading) (result : Option Score) →
    AreReadings counts melds winning list → result ≡ best_among melds case extra list → IsWorth counts melds winning case extra result
unfolding best_among Source
worth_law counts melds winning case extra list None are is = λ reading reads.
    let there : Contains list reading = are.all reading reads in
    none_passes (gives_yaku melds case) (score_of melds case extra) list reading there.0 there.1 there.2 (sym is)
worth_law counts melds winning case extra list (Some last) are is = record {
  of_reading = found (source (gives_yaku melds case) (score_of melds case extra) list None last (sym is));
  no_better = λ reading reads passes.
      let there : Contains list reading = are.all reading reads in
      greatest (gives_yaku melds case) (score_of melds case extra) list None last reading there.0 there.1 there.2 passes (sym is);
}
  where
    found : (None ≡ Some last) ⊎ ((reading : Reading) × (Contains list reading × IsTrue (gives_yaku melds case reading) × (last ≡ score_of melds case extra reading))) →
        (reading : Reading) × (IsReading counts melds winning reading × IsTrue (gives_yaku melds case reading) × (last ≡ score_of melds case extra reading))
    found (inl h) = absurd (some_none last (sym h))
    found (inr h) = (h.0, (subst (IsReading counts melds winning) h.1.0.2 (are.each h.1.0.0 h.0 h.1.0.1), h.1.1, h.1.2))

-- A reading as thirteen orphans is of a closed hand.
pub orphans_closed : (counts : List ℕ) (melds : List Meld) (winning : ℕ) (case : Case) (list : List Reading) → AreReadings counts melds winning list →
    case.closed ≡ are_concealed melds → All (λ reading. is_orphans reading ≡ true → case.closed ≡ true) list
orphans_closed counts melds winning case list are closed = λ place other inside orphans.
    closed ∙ no_melds (get_or list place other) (are.each place other inside) orphans
  where
    no_melds : (reading : Reading) → IsReading counts melds winning reading → is_orphans reading ≡ true → are_concealed melds ≡ true
    no_melds (Standard a b c d pair win kind) reads orphans = absurd (cc)
    no_melds (Pairs kinds) reads orphans = absurd (cc)
    no_melds (Orphans double) reads orphans = ap are_concealed reads.0
