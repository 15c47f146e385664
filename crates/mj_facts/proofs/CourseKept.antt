-- What is kept of the course of a hand, a deed further.
use Rattle.std.proofs.Common.{◌≡◌, ℕ, ◌+◌, ◌-◌, ◌≤◌, ◌||◌, not, Bool, true, false, cond, eqb, min, List, [], ◌∷◌, ◌++◌, length, Option, Some, None, refl, sym, ap, ◌∙◌, subst, arith, append-nil}
use Rattle.std.specs.Prelude.{flat_map, filter, count_by, slice_get, option_to_list, option_map, option_and_then, unwrap_or}
use Rattle.std.specs.List.{list_any}
use Rattle.std.specs.Option.{option_or}
use Rattle.std.proofs.lemmas.Bool.{eqb-true}
use Rattle.std.proofs.lemmas.Bool.Decides.{nat_tests}
use Rattle.std.proofs.lemmas.Grind.{common_steps}
use Rattle.std.proofs.lemmas.List.{length-append}
use Rattle.std.proofs.lemmas.List.Elements.{filter-append}
use Rattle.std.proofs.lemmas.List.Recursion.{or_push}
use Rattle.mj_rounds.specs.declared.rounds.HandEnd.{HandEnd}
use Rattle.mj_deeds.specs.declared.deed.Deed.{Deed}
use Rattle.mj_deeds.specs.declared.deed.Deed.TheVariants.{Draw, Discard}
use Rattle.mj_rounds.specs.declared.rounds.HandEnd.TheVariants.{Won}
use Rattle.mj_deeds.specs.Ends.{dealer_won, draws_by, end_of}
use Rattle.mj_deeds.specs.Facts.{indicators_by, indicators, kan_seats_by, kan_seats, kans}
use Rattle.mj_deeds.specs.Four.{at_seat}
use Rattle.mj_deeds.specs.declared.four.Four.{Four}
use Rattle.mj_deeds.specs.Points.{is_deposit, is_win}
use Rattle.mj_deeds.specs.Reasons.{is_turn, discarded_kind, kind_at, differ}
use Rattle.mj_facts.proofs.FewKept.{grown, first_grown, lists_same}
use Rattle.mj_facts.proofs.Gathered.{last_more}
use Rattle.mj_facts.specs.declared.course_facts.CourseFacts.{CourseFacts}
use Rattle.mj_facts.specs.declared.course_facts.HandDraw.{HandDraw}
use Rattle.mj_facts.specs.declared.few_tiles.FewTiles.{FewTiles}
use Rattle.mj_facts.specs.Courses.{end_by, is_another, Draws, Follows}
use Rattle.mj_facts.specs.Few.{Lists}

-- What a list gives with one deed more.
pub given_more : {A : Type 0} (f : Deed → List A) (ds : List Deed) (d : Deed) (more : Option A) → option_to_list more ≡ f d → flat_map f (ds ++ d ∷ []) ≡ flat_map f ds ++ option_to_list more
given_more {A = A} f [] d more e = append-nil (f d) ∙ sym e
given_more {A = A} f (x ∷ ds) d more e = ap (λ (ys : List A). f x ++ ys) (given_more f ds d more e) ∙ sym (append_is (f x) (flat_map f ds) (option_to_list more))
  where
    append_is : (xs ys zs : List A) → (xs ++ ys) ++ zs ≡ xs ++ (ys ++ zs)
    append_is [] ys zs = refl
    append_is (y ∷ xs) ys zs = ap (λ (ws : List A). y ∷ ws) (append_is xs ys zs)

-- the indicators

pub few_shown : (ds : List Deed) (d : Deed) (more : Option ℕ) → option_to_list more ≡ indicators_by d → length (indicators (ds ++ d ∷ [])) ≤ 5 → length (indicators ds ++ option_to_list more) ≤ 5
few_shown ds d more e few = subst (λ (xs : List ℕ). length xs ≤ 5) (given_more indicators_by ds d more e) few

pub shown_more : (few : FewTiles) (ds : List Deed) (d : Deed) (more : Option ℕ) → option_to_list more ≡ indicators_by d →
    Lists few (indicators ds ++ option_to_list more) → Lists few (indicators (ds ++ d ∷ []))
shown_more few ds d more e k = lists_same few _ _ (sym (given_more indicators_by ds d more e)) k

-- the kans

pub first_kan_more : (ds : List Deed) (d : Deed) (more before : Option ℕ) → option_to_list more ≡ kan_seats_by d → before ≡ slice_get (kan_seats ds) 0 →
    option_or before more ≡ slice_get (kan_seats (ds ++ d ∷ [])) 0
first_kan_more ds d more before e was =
    ap (λ o. option_or o more) was ∙ sym (first_grown (kan_seats ds) more) ∙ ap (λ (xs : List ℕ). slice_get xs 0) (sym (given_more kan_seats_by ds d more e))

pub newest_kan_more : (ds : List Deed) (d : Deed) (more before : Option ℕ) → option_to_list more ≡ kan_seats_by d → before ≡ slice_get (kan_seats ds) (length (kan_seats ds) - 1) →
    option_or more before ≡ slice_get (kan_seats (ds ++ d ∷ [])) (length (kan_seats (ds ++ d ∷ [])) - 1)
newest_kan_more ds d more before e was =
    ap (option_or more) was ∙ sym (last_more (kan_seats ds) more) ∙ ap (λ (xs : List ℕ). slice_get xs (length xs - 1)) (sym (given_more kan_seats_by ds d more e))

any_push : {A : Type 0} (p : A → Bool) (xs : List A) (x : A) → list_any p (xs ++ x ∷ []) ≡ (list_any p xs || p x)
any_push p xs x = or_push (list_any p) p refl (λ x xs. refl) xs x

or_none : (b : Bool) → b ≡ (b || false)
or_none true = refl
or_none false = refl

differ_more : (xs : List ℕ) (more : Option ℕ) → differ (xs ++ option_to_list more) ≡ (differ xs || is_another (slice_get xs 0) more)
differ_more [] None = refl
differ_more [] (Some seat) = refl
differ_more (x ∷ xs) None = ap (λ (ys : List ℕ). differ (x ∷ ys)) (append-nil xs) ∙ or_none (differ (x ∷ xs))
differ_more (x ∷ xs) (Some seat) = any_push (λ other. not (eqb other x)) xs seat

pub several_more : (ds : List Deed) (d : Deed) (more first : Option ℕ) (before another result : Bool) → option_to_list more ≡ kan_seats_by d → first ≡ slice_get (kan_seats ds) 0 →
    before ≡ differ (kan_seats ds) → another ≡ is_another first more → result ≡ (before || another) → result ≡ differ (kan_seats (ds ++ d ∷ []))
several_more ds d more first before another result e is was now what =
    what ∙ (λ i. was i || now i) ∙ ap (λ o. differ (kan_seats ds) || is_another o more) is ∙ sym (differ_more (kan_seats ds) more)
    ∙ ap differ (sym (given_more kan_seats_by ds d more e))

-- the discards and calls, and the reaches

turns_with : (ds : List Deed) (d : Deed) → filter is_turn (ds ++ d ∷ []) ≡ filter is_turn ds ++ cond (is_turn d) (d ∷ []) []
turns_with ds d = filter-append is_turn ds (d ∷ [])

capped : (kept n m x result : ℕ) → kept ≡ min n 255 → m ≡ n + x → result ≡ min (kept + x) 255 → result ≡ min m 255
capped kept n m x result e f g = omega (arith, e, f, g)

pub turns_more : (ds : List Deed) (d : Deed) (before result : ℕ) (more : Bool) → more ≡ is_turn d → before ≡ min (length (filter is_turn ds)) 255 →
    result ≡ min (before + cond more 1 0) 255 → result ≡ min (length (filter is_turn (ds ++ d ∷ []))) 255
turns_more ds d before result more is was what =
    capped before (length (filter is_turn ds)) _ (cond more 1 0) result was
    (ap length (turns_with ds d) ∙ length-append (filter is_turn ds) (cond (is_turn d) (d ∷ []) []) ∙ ap (λ n. length (filter is_turn ds) + n)
    (one (is_turn d)) ∙ ap (λ b. length (filter is_turn ds) + cond b 1 0) (sym is))
    what
  where
    one : (b : Bool) → length (cond b (d ∷ []) []) ≡ cond b 1 0
    one true = refl
    one false = refl

deposits_push : (ds : List Deed) (d : Deed) → count_by is_deposit (ds ++ d ∷ []) ≡ count_by is_deposit ds + cond (is_deposit d) 1 0
deposits_push ds d = grind (arith, common_steps)

pub riichis_more : (ds : List Deed) (d : Deed) (before result : ℕ) (more : Bool) → more ≡ is_deposit d → before ≡ min (count_by is_deposit ds) 255 →
    result ≡ min (before + cond more 1 0) 255 → result ≡ min (count_by is_deposit (ds ++ d ∷ [])) 255
riichis_more ds d before result more is was what =
    capped before (count_by is_deposit ds) _ (cond more 1 0) result was (deposits_push ds d ∙ ap (λ b. count_by is_deposit ds + cond b 1 0) (sym is)) what

pub kind_more : (ds : List Deed) (d : Deed) (turns place : ℕ) (before result : Option ℕ) → place ≤ 3 → turns ≡ min (length (filter is_turn ds)) 255 → before ≡ kind_at ds place →
    result ≡ cond (eqb turns place) (cond (is_turn d) (discarded_kind d) before) before → result ≡ kind_at (ds ++ d ∷ []) place
kind_more ds d turns place before result small is was what =
    what ∙ ap (λ b. cond b (cond (is_turn d) (discarded_kind d) before) before) (here turns (length (filter is_turn ds)) is)
    ∙ ap (λ o. cond (eqb (length (filter is_turn ds)) place) (cond (is_turn d) (discarded_kind d) o) o) was
    ∙ by_turn (is_turn d)
    ∙ ap (λ (xs : List Deed). option_and_then discarded_kind (slice_get xs place)) (sym (turns_with ds d))
  where
    here : (t n : ℕ) → t ≡ min n 255 → eqb t place ≡ eqb n place
    here t n e = grind (arith, nat_tests, e, small)

    same : (b : Bool) (o : Option ℕ) → cond b o o ≡ o
    same true o = refl
    same false o = refl

    either : (b : Bool) (o : Option Deed) → cond b (discarded_kind d) (option_and_then discarded_kind o) ≡ option_and_then discarded_kind (cond b (Some d) o)
    either true o = refl
    either false o = refl

    by_turn : (t : Bool) → cond (eqb (length (filter is_turn ds)) place) (cond t (discarded_kind d) (kind_at ds place)) (kind_at ds place)
        ≡ option_and_then discarded_kind (slice_get (filter is_turn ds ++ cond t (d ∷ []) []) place)
    by_turn true = either (eqb (length (filter is_turn ds)) place) (slice_get (filter is_turn ds) place) ∙ ap (option_and_then discarded_kind) (sym (grown (filter is_turn ds) (Some d) place))
    by_turn false = same (eqb (length (filter is_turn ds)) place) (kind_at ds place)
        ∙ ap (λ (xs : List Deed). option_and_then discarded_kind (slice_get xs place)) (sym (append-nil (filter is_turn ds)))

-- the end

pub won_more : (ds : List Deed) (d : Deed) (before more result : Bool) → before ≡ list_any is_win ds → more ≡ is_win d → result ≡ (before || more) → result ≡ list_any is_win (ds ++ d ∷ [])
won_more ds d before more result was is what = what ∙ (λ i. was i || is i) ∙ sym (any_push is_win ds d)

pub draw_more : (ds : List Deed) (d : Deed) (dealer : ℕ) (before more result : Option HandDraw) → option_map (end_by dealer) before ≡ slice_get (flat_map (draws_by dealer) ds) 0 →
    option_to_list (option_map (end_by dealer) more) ≡ draws_by dealer d → result ≡ option_or before more → option_map (end_by dealer) result ≡ slice_get (flat_map (draws_by dealer) (ds ++ d ∷ [])) 0
draw_more ds d dealer before more result was e what =
    ap (option_map (end_by dealer)) what ∙ mapped before ∙ ap (λ (o : Option HandEnd). option_or o (option_map (end_by dealer) more)) was
    ∙ sym (first_grown (flat_map (draws_by dealer) ds) (option_map (end_by dealer) more))
    ∙ ap (λ (xs : List HandEnd). slice_get xs 0) (sym (given_more (draws_by dealer) ds d (option_map (end_by dealer) more) e))
  where
    mapped : (o : Option HandDraw) → option_map (end_by dealer) (option_or o more) ≡ option_or (option_map (end_by dealer) o) (option_map (end_by dealer) more)
    mapped None = refl
    mapped (Some draw) = refl

-- a draw, and a discard

same_number : (n m : ℕ) → n ≡ min m 255 → n ≡ min (n + 0) 255
same_number n m e = omega (arith, e)

-- A deed that is no start, no kan, no indicator, no win, no accepted reach and no draw of the hand changes at most the turns.
follows_on : (ds : List Deed) (d : Deed) (f : CourseFacts) (turns : ℕ) (kinds : Four (Option ℕ)) → Follows ds f → [] ≡ indicators_by d → [] ≡ kan_seats_by d → false ≡ is_deposit d → false ≡ is_win d →
    ((dealer : ℕ) → [] ≡ draws_by dealer d) → turns ≡ min (length (filter is_turn (ds ++ d ∷ []))) 255 → ((place : ℕ) → place ≤ 3 → at_seat kinds place ≡ kind_at (ds ++ d ∷ []) place) →
    Follows (ds ++ d ∷ []) (record f { turns = turns; kinds = kinds })
follows_on ds d f turns kinds k shows kans deposits wins draws counted put = record {
  shown = shown_more f.shown ds d None shows (lists_same f.shown _ _ (sym (append-nil (indicators ds))) k.shown);
  first_kan = or_nothing f.first_kan ∙ first_kan_more ds d None f.first_kan kans k.first_kan;
  newest_kan = newest_kan_more ds d None f.newest_kan kans k.newest_kan;
  several = several_more ds d None f.first_kan f.several false f.several kans k.first_kan k.several (no_other f.first_kan) (or_none f.several);
  turns = counted;
  kinds = put;
  riichis = riichis_more ds d f.riichis f.riichis false deposits k.riichis (same_number f.riichis (count_by is_deposit ds) k.riichis);
  won = won_more ds d f.won false f.won k.won wins (or_none f.won);
  draw = λ dealer. draw_more ds d dealer f.draw None f.draw (k.draw dealer) (draws dealer) (or_nothing f.draw);
}
  where
    or_nothing : {A : Type 0} (o : Option A) → o ≡ option_or o None
    or_nothing None = refl
    or_nothing (Some x) = refl

    no_other : (o : Option ℕ) → false ≡ is_another o None
    no_other None = refl
    no_other (Some x) = refl

pub draw_follows : (ds : List Deed) (d : Deed) (from tile : ℕ) (replacement : Bool) (f : CourseFacts) → d ≡ Draw from tile replacement → Follows ds f → Follows (ds ++ d ∷ []) f
draw_follows ds d from tile replacement f is k =
    subst (λ (e : Deed). Follows (ds ++ e ∷ []) f) (sym is)
    (follows_on ds e f f.turns f.kinds k refl refl refl refl (λ dealer. refl) (turns_more ds e f.turns f.turns false refl k.turns (same_number f.turns (length (filter is_turn ds)) k.turns))
    (λ place small. kind_more ds e f.turns place (at_seat f.kinds place) (at_seat f.kinds place) small k.turns (k.kinds place small) (either (eqb f.turns place) (at_seat f.kinds place))))
  where
    e : Deed
    e = Draw from tile replacement

    either : (b : Bool) (o : Option ℕ) → o ≡ cond b o o
    either true o = refl
    either false o = refl

pub discard_follows : (ds : List Deed) (d : Deed) (from tile : ℕ) (drawn : Bool) (f : CourseFacts) (turns : ℕ) (kinds : Four (Option ℕ)) → d ≡ Discard from tile drawn → Follows ds f →
    turns ≡ min (f.turns + 1) 255 →
    ((place : ℕ) → place ≤ 3 → at_seat kinds place ≡ cond (eqb f.turns place) (cond (is_turn d) (discarded_kind d) (at_seat f.kinds place)) (at_seat f.kinds place)) →
    Follows (ds ++ d ∷ []) (record f { turns = turns; kinds = kinds })
discard_follows ds d from tile drawn f turns kinds is k counted put =
    subst (λ (e : Deed). Follows (ds ++ e ∷ []) (record f { turns = turns; kinds = kinds })) (sym is)
    (follows_on ds e f turns kinds k refl refl refl refl (λ dealer. refl) (turns_more ds e f.turns turns true refl k.turns counted)
    (λ place small.
    kind_more ds e f.turns place (at_seat f.kinds place) (at_seat kinds place) small k.turns (k.kinds place small)
    (put place small ∙ ap (λ (x : Deed). cond (eqb f.turns place) (cond (is_turn x) (discarded_kind x) (at_seat f.kinds place)) (at_seat f.kinds place)) is)))
  where
    e : Deed
    e = Discard from tile drawn

-- Of no deed no kind is kept.
pub no_kinds_at : (place : ℕ) → place ≤ 3 → at_seat (record { first = None; second = None; third = None; fourth = None }) place ≡ kind_at [] place
no_kinds_at place small = by_tests (eqb place 0) (eqb place 1) (eqb place 2)
  where
    by_tests : (p q r : Bool) → ◌≡◌ {A = Option ℕ} (cond p None (cond q None (cond r None None))) None
    by_tests true q r = refl
    by_tests false true r = refl
    by_tests false false true = refl
    by_tests false false false = refl

-- What is kept at each of four places.
pub at_each : (step : ℕ → Option ℕ → Option ℕ → Type 0) (old : Four (Option ℕ)) (a b c d : Option ℕ) → step 0 old.first a → step 1 old.second b →
    step 2 old.third c → step 3 old.fourth d → (place : ℕ) → place ≤ 3 →
    step place (at_seat old place) (at_seat (record { first = a; second = b; third = c; fourth = d }) place)
at_each step old a b c d pa pb pc pd place small = by_tests (eqb place 0) (eqb place 1) (eqb place 2) refl refl refl
  where
    last : eqb place 0 ≡ false → eqb place 1 ≡ false → eqb place 2 ≡ false → place ≡ 3
    last e f g = grind (arith, nat_tests, e, f, g, small)

    by_tests : (p q r : Bool) → eqb place 0 ≡ p → eqb place 1 ≡ q → eqb place 2 ≡ r →
        step place (cond p old.first (cond q old.second (cond r old.third old.fourth))) (cond p a (cond q b (cond r c d)))
    by_tests true q r e f g = subst (λ n. step n old.first a) (sym (eqb-true place 0 e)) pa
    by_tests false true r e f g = subst (λ n. step n old.second b) (sym (eqb-true place 1 f)) pb
    by_tests false false true e f g = subst (λ n. step n old.third c) (sym (eqb-true place 2 g)) pc
    by_tests false false false e f g = subst (λ n. step n old.fourth d) (sym (last e f g)) pd

-- How the hand ended.
pub end_of_draw : (ds : List Deed) (dealer : ℕ) (draw : HandDraw) (kept : Option HandDraw) (end : HandEnd) → kept ≡ Some draw → Draws ds kept → end ≡ end_by dealer draw → end ≡ end_of ds dealer
end_of_draw ds dealer draw kept end is k e =
    e ∙ ap (λ (o : Option HandEnd). unwrap_or o (Won (dealer_won ds dealer))) (ap (option_map (end_by dealer)) (sym is) ∙ k dealer)

pub end_of_wins : (ds : List Deed) (dealer : ℕ) (kept : Option HandDraw) (among : Bool) → kept ≡ None → Draws ds kept → among ≡ dealer_won ds dealer → Won among ≡ end_of ds dealer
end_of_wins ds dealer kept among is k e =
    ap Won e ∙ ap (λ (o : Option HandEnd). unwrap_or o (Won (dealer_won ds dealer))) (ap (option_map (end_by dealer)) (sym is) ∙ k dealer)
