-- What is lawful at the own draw, and of wins.
use Rattle.std.proofs.Common.{◌≡◌, ℕ, ◌+◌, ◌==◌, ◌&&◌, ◌||◌, Bool, true, false, not, cond, eqb, inl, inr, List, [], ◌∷◌, ◌++◌, take, drop, refl, sym, ap, ◌∙◌, arith, append-nil}
use Rattle.std.specs.List.{list_all}
use Rattle.std.specs.Prelude.{Option, Some, None, is_none, nat_lt, min}
use Rattle.std.proofs.Math.Bool.{and-false}
use Rattle.std.proofs.lemmas.Bool.{false≢true, false_from_ne_true, both_ways, not-true, or_parts, eq-eqb, ne_eqb, cases_eq, cases_lt, le-ltb}
use Rattle.std.proofs.lemmas.List.Elements.{All-nil, All-cons}
use Rattle.std.proofs.lemmas.List.Sums.{sum_by-cons}
use Rattle.mj_tiles.specs.Faces.{number_in}
use Rattle.mj_deeds.specs.declared.answer.Pai.{Pai}
use Rattle.mj_deeds.specs.declared.answer.Pai.TheVariants.{Known}
use Rattle.mj_deeds.specs.declared.answer.Answer.{Answer}
use Rattle.mj_deeds.specs.declared.answer.Answer.TheVariants.{Discard, Reach, Win}
use Rattle.mj_deeds.specs.declared.deed.Deed.{Deed}
use Rattle.mj_deeds.specs.declared.rule.Rule.{Rule}
use Rattle.mj_wall.specs.declared.setting.Rules.{Rules}
use Rattle.mj_rules.specs.View.{WindowTurn, Drew, Discarded, Added, Reached, Called, Nobodys, SeatView, view_of, held_count}
use Rattle.mj_rules.specs.Broken.{is_that, is_no_tile, is_wrongly_marked, is_banned_tile, banned_in, is_open, is_reach_open, is_reach_poor}
use Rattle.mj_rules.specs.Broken.{is_reach_late, is_reach_unready, discards_unready, questions, first_broken, broken_by}
use Rattle.mj_rules.specs.Possible.{is_lawful, discards_of}
use Rattle.mj_judge.specs.Inner.Tried.{lawful_among, is_own_draw, is_discarding, is_winning}
use Rattle.mj_rules.proofs.Listed.{lawful_clear}
use Rattle.mj_judge.proofs.Tried.{Fails, not_open, reach_shut, discard_judged, added_after, none_pass}
use Rattle.mj_judge.proofs.Verdicts.{others_decide}

-- No rule is broken where each question is answered by no.
by_test : (b : Bool) (rule : Rule) (rest : Option Rule) (all : Bool) → is_none rest ≡ all → is_none (cond b (Some rule) rest) ≡ (not b && all)
by_test true rule rest all e = refl
by_test false rule rest all e = e

pub clean_is : (list : List (Bool × Rule)) → is_none (first_broken list) ≡ list_all (λ rule. not rule.0) list
clean_is [] = refl
clean_is (rule ∷ list) = by_test rule.0 rule.1 (first_broken list) (list_all (λ other. not other.0) list) (clean_is list)

and_true : (b : Bool) → (b && true) ≡ b
and_true true = refl
and_true false = refl

-- One answer that is asked.
pub one_asked : (rules : Rules) (ds : List Deed) (seat : ℕ) (answer : Answer) (lawful : Bool) (old new : List Answer) → lawful ≡ is_lawful rules seat (view_of ds seat) answer →
    new ≡ old ++ cond lawful (answer ∷ []) [] → new ≡ old ++ lawful_among rules ds seat (answer ∷ [])
unfolding lawful_among
one_asked rules ds seat answer lawful old new is added = added ∙ ap (λ (b : Bool). old ++ cond b (answer ∷ []) []) is

-- An answer that was added where it is lawful, and one that wasn't where it isn't.
pub added_where : (lawful : Bool) (answer : Answer) (old new : List Answer) → lawful ≡ true → new ≡ old ++ answer ∷ [] → new ≡ old ++ cond lawful (answer ∷ []) []
added_where lawful answer old new is added = added ∙ ap (λ (b : Bool). old ++ cond b (answer ∷ []) []) (sym is)

pub left_where : (lawful : Bool) (answer : Answer) (old new : List Answer) → lawful ≡ false → new ≡ old → new ≡ old ++ cond lawful (answer ∷ []) []
left_where lawful answer old new is same = same ∙ sym (append-nil old) ∙ ap (λ (b : Bool). old ++ cond b (answer ∷ []) []) (sym is)

pub one_refused : (rules : Rules) (ds : List Deed) (seat : ℕ) (answer : Answer) (old : List Answer) → is_lawful rules seat (view_of ds seat) answer ≡
    false → old ≡ old ++ lawful_among rules ds seat (answer ∷ [])
one_refused rules ds seat answer old fails = one_asked rules ds seat answer false old old (sym fails) (sym (append-nil old))

-- At the own draw the seat may discard, no kind is banned, and no reach is under way.
discards_then : (seat : ℕ) (turn : WindowTurn) → is_own_draw seat turn ≡ true → is_discarding seat turn ≡ true
discards_then seat (Drew who) h = h
discards_then seat (Discarded who tile) h = absurd (false≢true h)
discards_then seat (Added who tile) h = absurd (false≢true h)
discards_then seat (Reached who) h = absurd (false≢true h)
discards_then seat (Called who banned) h = absurd (false≢true h)
discards_then seat Nobodys h = absurd (false≢true h)

none_banned : (seat : ℕ) (turn : WindowTurn) (pai : Pai) → is_own_draw seat turn ≡ true → is_banned_tile (banned_in turn) pai ≡ is_banned_tile [] pai
none_banned seat (Drew who) pai h = refl
none_banned seat (Discarded who tile) pai h = refl
none_banned seat (Added who tile) pai h = refl
none_banned seat (Reached who) pai h = refl
none_banned seat (Called who banned) pai h = absurd (false≢true h)
none_banned seat Nobodys pai h = refl

none_unready : (seat : ℕ) (view : SeatView) (turn : WindowTurn) (pai : Pai) → is_own_draw seat turn ≡ true → discards_unready view turn pai ≡ false
none_unready seat view (Drew who) pai h = refl
none_unready seat view (Discarded who tile) pai h = refl
none_unready seat view (Added who tile) pai h = refl
none_unready seat view (Reached who) pai h = absurd (false≢true h)
none_unready seat view (Called who banned) pai h = absurd (false≢true h)
none_unready seat view Nobodys pai h = refl

-- A discard at the own draw is lawful where there is such a tile, it is held, marked rightly, and the drawn one in riichi.
drawn_discard : (rules : Rules) (seat : ℕ) (view : SeatView) (face : ℕ) (marked : Bool) → is_own_draw seat view.turn ≡ true →
    is_lawful rules seat view (Discard seat (Known face) marked)
    ≡ (not (is_no_tile rules.red (Known face)) && (not (nat_lt (held_count view face) (number_in (face ∷ []) face)) &&
    (not (is_wrongly_marked view (Known face) marked) && not (view.accepted && not marked))))
drawn_discard rules seat view face marked draws =
    discard_judged rules seat seat view (Known face) marked refl (discards_then seat view.turn draws)
    ∙ clean_is (drop 3 (questions rules seat view (Discard seat (Known face) marked)))
    ∙ by_parts (is_no_tile rules.red (Known face)) (nat_lt (held_count view face) (number_in (face ∷ []) face))
    (is_wrongly_marked view (Known face) marked) (view.accepted && not marked) (is_banned_tile (banned_in view.turn) (Known face))
    (discards_unready view view.turn (Known face))
    (none_banned seat view.turn (Known face) draws) (none_unready seat view view.turn (Known face) draws)
  where
    by_parts : (a b c d e f : Bool) → e ≡ false → f ≡ false → (not (a || false) && (not (b || false) && (not c && (not d && (not e && (not f && true)))))) ≡ (not a && (not b && (not c && not d)))
    by_parts true b c d e f p q = refl
    by_parts false true c d e f p q = refl
    by_parts false false true d e f p q = refl
    by_parts false false false true e f p q = refl
    by_parts false false false false e f p q = λ i. not (p i) && (not (q i) && true)

one_in : (face : ℕ) → number_in (face ∷ []) face ≡ 1
one_in face = sum_by-cons (λ x. cond (eqb x face) 1 0) face [] ∙ ap (λ (b : Bool). cond b 1 0 + 0) (eq-eqb face face refl)

-- The answers of a face that is held, at the own draw.
pub drawn_pushed : (rules : Rules) (ds : List Deed) (seat face held : ℕ) (marked locked plain : Bool) (old now new : List Answer) → is_own_draw seat (view_of ds seat).turn ≡ true →
    held ≡ min (held_count (view_of ds seat) face) 4 → (held ≡ 0 → ⊥) → is_no_tile rules.red (Known face) ≡ false →
    marked ≡ is_that (view_of ds seat).drawn face → locked ≡ (view_of ds seat).accepted →
    plain ≡ (not (marked && held == 1) && not locked) → now ≡ old ++ cond plain (Discard seat (Known face) false ∷ []) [] → new ≡ now ++ cond marked (Discard seat (Known face) true ∷ []) [] →
    new ≡ old ++ lawful_among rules ds seat (discards_of seat face)
drawn_pushed rules ds seat face held marked locked plain old now new draws is some known mark lock told first second =
    let view = view_of ds seat in
    added_after rules ds seat (Discard seat (Known face) false ∷ []) (Discard seat (Known face) true ∷ []) old now new
    (one_asked rules ds seat (Discard seat (Known face) false) plain old now
    (told ∙ unmarked marked locked held (held_count view face) (number_in (face ∷ []) face) (is_no_tile rules.red (Known face))
    (is_that view.drawn face) view.accepted known is some (one_in face) mark lock ∙ sym (drawn_discard rules seat view face false draws)) first)
    (one_asked rules ds seat (Discard seat (Known face) true) marked now new
    (drawn marked held (held_count view face) (number_in (face ∷ []) face) (is_no_tile rules.red (Known face)) (is_that view.drawn face) view.accepted
    known is some (one_in face) mark ∙ sym (drawn_discard rules seat view face true draws)) second)
  where
    enough : (held all one : ℕ) → held ≡ min all 4 → (held ≡ 0 → ⊥) → one ≡ 1 → nat_lt all one ≡ false
    enough held all one is some once = elim (cases_lt 0 all) [
      | inl more ↦ le-ltb all one (omega (arith, once, more))
      | inr none ↦ absurd (some (omega (arith, is, none)))
    ]

    same_one : (held all : ℕ) → held ≡ min all 4 → (held == 1) ≡ (all == 1)
    same_one held all is = elim (cases_eq all 1) [
      | inl e ↦ eq-eqb held 1 (omega (arith, is, e)) ∙ sym (eq-eqb all 1 e)
      | inr ne ↦ ne_eqb held 1 (λ e. ne (omega (arith, is, e))) ∙ sym (ne_eqb all 1 ne)
    ]

    twice : (b : Bool) → (not (not b) && true) ≡ b
    twice true = refl
    twice false = refl

    unmarked : (marked locked : Bool) (held all one : ℕ) (none that accepted : Bool) → none ≡ false → held ≡ min all 4 → (held ≡ 0 → ⊥) → one ≡ 1 → marked ≡ that → locked ≡ accepted →
        (not (marked && held == 1) && not locked) ≡ (not none && (not (nat_lt all one) && (not (that && all == 1) && not (accepted && true))))
    unmarked marked locked held all one none that accepted known is some once mark lock =
        (λ i. not (mark i && same_one held all is i) && not (lock i))
        ∙ sym (λ i. not (known i) && (not (enough held all one is some once i) && (not (that && all == 1) && not (and_true accepted i))))

    drawn : (marked : Bool) (held all one : ℕ) (none that accepted : Bool) → none ≡ false → held ≡ min all 4 → (held ≡ 0 → ⊥) → one ≡ 1 → marked ≡ that →
        marked ≡ (not none && (not (nat_lt all one) && (not (not that) && not (accepted && false))))
    drawn marked held all one none that accepted known is some once mark =
        mark ∙ sym ((λ i. not (known i) && (not (enough held all one is some once i) && (not (not that) && not (and-false accepted i)))) ∙ twice that)

-- A tile that the game doesn't have is no discard.
no_such-discard : (rules : Rules) (seat : ℕ) (view : SeatView) (face : ℕ) (drawn : Bool) → is_no_tile rules.red (Known face) ≡ true → Fails rules seat view (Discard seat (Known face) drawn)
no_such-discard rules seat view face drawn none = false_from_ne_true (is_lawful rules seat view (Discard seat (Known face) drawn))
    (λ lawful. both_ways (is_no_tile rules.red (Known face)) (or_parts (is_no_tile rules.red (Known face)) _ (lawful_clear rules seat view (Discard seat (Known face) drawn) lawful).1.1.1.0).0 none)

pub no_such_discards : (rules : Rules) (ds : List Deed) (seat face : ℕ) → is_no_tile rules.red (Known face) ≡ true → lawful_among rules ds seat (discards_of seat face) ≡ []
unfolding lawful_among
no_such_discards rules ds seat face none =
    let view = view_of ds seat in
    none_pass (is_lawful rules seat view) (discards_of seat face)
    (All-cons (Fails rules seat view) (Discard seat (Known face) false) (Discard seat (Known face) true ∷ []) (no_such-discard rules seat view face false none)
    (All-cons (Fails rules seat view) (Discard seat (Known face) true) [] (no_such-discard rules seat view face true none) (All-nil (Fails rules seat view))))

-- A reach.
own_reach : (rules : Rules) (seat : ℕ) (turn : WindowTurn) (accepted : Bool) → is_own_draw seat turn ≡ true → is_open rules seat turn accepted (Reach seat) ≡ not accepted
own_reach rules seat (Drew who) accepted h = ap (λ b. cond b (not accepted) false) h
own_reach rules seat (Discarded who tile) accepted h = absurd (false≢true h)
own_reach rules seat (Added who tile) accepted h = absurd (false≢true h)
own_reach rules seat (Reached who) accepted h = absurd (false≢true h)
own_reach rules seat (Called who banned) accepted h = absurd (false≢true h)
own_reach rules seat Nobodys accepted h = absurd (false≢true h)

-- It is lawful at the own draw of a hand that isn't in riichi, where no rule of reaches is broken.
pub reach_judged : (rules : Rules) (seat : ℕ) (view : SeatView) → is_lawful rules seat view (Reach seat)
    ≡ (is_own_draw seat view.turn && (not view.accepted && (not (is_reach_open view (Reach seat)) && (not (is_reach_poor view (Reach seat)) &&
    (not (is_reach_late view (Reach seat)) && not (is_reach_unready view (Reach seat)))))))
unfolding is_lawful broken_by
reach_judged rules seat view = by_draw (is_own_draw seat view.turn) refl
  where
    others : Bool
    others = not view.accepted && (not (is_reach_open view (Reach seat)) && (not (is_reach_poor view (Reach seat)) &&
        (not (is_reach_late view (Reach seat)) && not (is_reach_unready view (Reach seat)))))

    by_parts : (own may accepted closed poor late ready : Bool) → own ≡ true → may ≡ not accepted →
        (not (not own) && (not (not may) && (not (accepted && false) && (not closed && (not poor && (not late && (not ready && true))))))) ≡
        (not accepted && (not closed && (not poor && (not late && not ready))))
    by_parts own may true closed poor late ready e f = λ i. not (not (e i)) && (not (not (f i)) && (not closed && (not poor && (not late && (not ready && true)))))
    by_parts own may false closed poor late ready e f = λ i. not (not (e i)) && (not (not (f i)) && (not closed && (not poor && (not late && and_true (not ready) i))))

    by_draw : (own : Bool) → is_own_draw seat view.turn ≡ own → is_lawful rules seat view (Reach seat) ≡ (is_own_draw seat view.turn && others)
    by_draw false shut = not_open rules seat view (Reach seat) (reach_shut rules seat view.turn view.accepted shut) ∙ sym (ap (λ b. b && others) shut)
    by_draw true draws =
        clean_is (questions rules seat view (Reach seat))
        ∙ by_parts (seat == seat) (is_open rules seat view.turn view.accepted (Reach seat)) view.accepted (is_reach_open view (Reach seat))
        (is_reach_poor view (Reach seat)) (is_reach_late view (Reach seat)) (is_reach_unready view (Reach seat))
        (eq-eqb seat seat refl) (own_reach rules seat view.turn view.accepted draws)
        ∙ sym (ap (λ b. b && others) draws)

-- A win that the turn offers is asked its own rules alone.
win_open : (rules : Rules) (seat target : ℕ) (tile : Option Pai) (turn : WindowTurn) (accepted : Bool) → is_winning seat turn ≡ true → is_open rules seat turn accepted (Win seat target tile) ≡ true
win_open rules seat target tile (Drew who) accepted h = ap (λ b. cond b true false) h
win_open rules seat target tile (Discarded who face) accepted h = ap (λ b. cond b false true) (not-true (who == seat) h)
win_open rules seat target tile (Added who face) accepted h = ap (λ b. cond b false true) (not-true (who == seat) h)
win_open rules seat target tile (Reached who) accepted h = absurd (false≢true h)
win_open rules seat target tile (Called who banned) accepted h = absurd (false≢true h)
win_open rules seat target tile Nobodys accepted h = absurd (false≢true h)

pub win_decided : (rules : Rules) (seat actor target : ℕ) (tile : Option Pai) (view : SeatView) → actor ≡ seat → is_winning seat view.turn ≡ true →
    first_broken (drop 3 (questions rules seat view (Win actor target tile))) ≡ broken_by rules seat view (Win actor target tile)
unfolding broken_by
win_decided rules seat actor target tile view own offered =
    let asked : List (Bool × Rule) = questions rules seat view (Win actor target tile) in
    sym (others_decide (take 3 asked) (drop 3 asked) (
      refl,
      (
        ap not (eq-eqb actor seat own),
        (
          ap not (ap (λ (who : ℕ). is_open rules seat view.turn view.accepted (Win who target tile)) own
              ∙ win_open rules seat target tile view.turn view.accepted offered),
          tt,
        ),
      ),
    ))

pub win_judged : (rules : Rules) (seat target : ℕ) (view : SeatView) → is_winning seat view.turn ≡ true →
    is_lawful rules seat view (Win seat target None) ≡ is_none (first_broken (drop 3 (questions rules seat view (Win seat target None))))
unfolding is_lawful
win_judged rules seat target view offered = ap is_none (sym (win_decided rules seat seat target None view refl offered))
