-- The verdicts on what a seat said are those of the machine that has nothing of the game but what the seat learns.
use Rattle.std.proofs.Common.{◌≡◌, ℕ, ◌<◌, ◌==◌, Bool, true, false, cond, List, [], ◌∷◌, ◌++◌, length, refl, ap, sym, ◌∙◌, append-nil, append_assoc}
use Rattle.std.specs.Prelude.{Option, Some, None, option_map, option_to_list, slice_get}
use Rattle.std.proofs.lemmas.Bool.{and_parts}
use Rattle.mj_ports.specs.declared.entry.Entry.{Entry}
use Rattle.mj_ports.specs.declared.entry.Entry.TheVariants.{Sat, Back, Said, Gone, Expired}
use Rattle.mj_deeds.specs.declared.answer.Answer.{Answer}
use Rattle.mj_deeds.specs.declared.deed.Deed.{Deed}
use Rattle.mj_wall.specs.declared.setting.Rules.{Rules}
use Rattle.mj_wall.specs.declared.setting.Setting.{Setting}
use Rattle.mj_history.specs.After.{After, Chair, Verdict, before_all, verdict_on, own_part, next_deed, step}
use Rattle.mj_secrecy.specs.Trace.{Item, OwnSat, OwnBack, OwnSaid, OwnGone, own_items, seen_items, trace_from, trace, Agree}
use Rattle.mj_history.specs.Legal.{is_permitted, all_permitted, IsLegal, Game}
use Rattle.mj_secrecy.specs.Follows.{verdict_in, verdicts_from, verdicts}
use Rattle.mj_secrecy.proofs.Rebuilt.{DealsThirteen}
use Rattle.mj_history.proofs.Seats.{AreSeats, no_seats, step_seats}
use Rattle.mj_secrecy.proofs.Solo.{Part, Solo, untimed, at_first, learns, learns_all}
use Rattle.mj_secrecy.proofs.OneWorld.{part_of, Matches, verdict_follows, stepped_follows, deals_thirteen, nothing_known}

-- the machine's verdict on an answer that it learns of, and those on all
abbrev pub judges : Rules → ℕ → Solo → Answer → List Verdict
judges rules seat s answer = option_to_list (option_map (λ (p : Part). verdict_on rules s.deeds seat answer p.progress) s.part)

abbrev pub heard : Rules → ℕ → Solo → Item → List Verdict
heard rules seat s (OwnSaid answer) = judges rules seat s answer
heard rules seat s other = []

abbrev pub heard_all : Rules → ℕ → Solo → List Item → List Verdict
heard_all rules seat s [] = []
heard_all rules seat s (item ∷ items) = heard rules seat s item ++ heard_all rules seat (learns rules seat s item) items

heard_all-append : (rules : Rules) (seat : ℕ) (s : Solo) (xs ys : List Item) → heard_all rules seat s (xs ++ ys) ≡ heard_all rules seat s xs ++ heard_all rules seat (learns_all rules seat s xs) ys
heard_all-append rules seat s [] ys = refl
heard_all-append rules seat s (x ∷ xs) ys =
    ap (λ (vs : List Verdict). heard rules seat s x ++ vs) (heard_all-append rules seat (learns rules seat s x) xs ys)
    ∙ sym (append_assoc (heard rules seat s x) _ _)

-- a deed that is seen is judged by nothing
seen_heard : (rules : Rules) (seat : ℕ) (s : Solo) (o : Option Deed) → heard_all rules seat s (seen_items seat o) ≡ []
seen_heard rules seat s None = refl
seen_heard rules seat s (Some d) = refl

-- nor is an entry that isn't an answer
unheard : (rules : Rules) (seat : ℕ) (s : Solo) (b : Bool) (item : Item) → heard rules seat s item ≡ [] → [] ≡ heard_all rules seat s (cond b (item ∷ []) [])
unheard rules seat s true item e = sym (ap (λ (vs : List Verdict). vs ++ []) e)
unheard rules seat s false item e = refl

-- an own answer has the machine's verdict
said_heard : (rules : Rules) (seat : ℕ) (now : After) (s : Solo) (answer : Answer) (held : Option Chair) → slice_get now.chairs seat ≡ held → Matches seat now s →
    option_to_list (option_map (λ (chair : Chair). verdict_on rules now.deeds seat answer chair.progress) held) ≡ judges (untimed rules) seat s answer
said_heard rules seat now s answer held at m =
    by_held held
    ∙ ap (λ (o : Option Part). option_to_list (option_map (λ (p : Part). verdict_on (untimed rules) s.deeds seat answer p.progress) o)) (ap (option_map part_of) (sym at) ∙ m.part)
  where
    by_held : (o : Option Chair) → option_to_list (option_map (λ (chair : Chair). verdict_on rules now.deeds seat answer chair.progress) o)
        ≡ option_to_list (option_map (λ (p : Part). verdict_on (untimed rules) s.deeds seat answer p.progress) (option_map part_of o))
    by_held None = refl
    by_held (Some chair) = ap (λ (v : Verdict). v ∷ []) (verdict_follows rules seat now s answer chair.progress m)

own_heard : (seat : ℕ) (entry : Entry Answer) (setting : Setting) (now : After) (s : Solo) → Matches seat now s →
    verdict_in setting seat now entry ≡ heard_all (untimed setting.rules) seat s (own_items seat now entry)
own_heard seat (Sat author name key) setting now s m = unheard (untimed setting.rules) seat s (length now.chairs == seat) (OwnSat name key) refl
own_heard seat (Back author who) setting now s m = unheard (untimed setting.rules) seat s (who == seat) OwnBack refl
own_heard seat (Gone author who) setting now s m = unheard (untimed setting.rules) seat s (who == seat) OwnGone refl
own_heard seat (Expired author window t1 t2) setting now s m = refl
own_heard seat (Said author who answer) setting now s m = by_test (who == seat)
  where
    judged : List Verdict
    judged = option_to_list (option_map (λ (chair : Chair). verdict_on setting.rules now.deeds seat answer chair.progress) (slice_get now.chairs seat))

    by_test : (b : Bool) → cond b judged [] ≡ heard_all (untimed setting.rules) seat s (cond b (OwnSaid answer ∷ []) [])
    by_test true = said_heard setting.rules seat now s answer (slice_get now.chairs seat) refl m ∙ sym (append-nil (judges (untimed setting.rules) seat s answer))
    by_test false = refl

-- a whole game
game_heard : (seat : ℕ) (entries : List (Entry Answer)) (setting : Setting) (now : After) (s : Solo) → seat < 4 → DealsThirteen setting.walls →
    all_permitted setting now entries ≡ true → AreSeats now.chairs → Matches seat now s →
    verdicts_from setting seat now entries ≡ heard_all (untimed setting.rules) seat s (trace_from setting seat now entries)
game_heard seat [] setting now s small deals permitted seats m = refl
game_heard seat (entry ∷ entries) setting now s small deals permitted seats m =
    let rules : Rules = untimed setting.rules in
    let own : List Item = own_items seat now entry in
    let added : Option Deed = next_deed setting (own_part setting now entry) entry in
    let seen : List Item = seen_items seat added in
    let rest : List Item = trace_from setting seat (step setting now entry) entries in
    let parts = and_parts (is_permitted setting now entry) (all_permitted setting (step setting now entry) entries) permitted in
    let after_own : Solo = learns_all rules seat s own in
    let later = game_heard seat entries setting (step setting now entry) (learns_all rules seat after_own seen) small deals parts.1
    (step_seats setting now entry parts.0 seats) (stepped_follows seat entry setting now s small seats.few deals m) in
    let behind : heard_all rules seat after_own (seen ++ rest) ≡ heard_all rules seat (learns_all rules seat after_own seen) rest =
    heard_all-append rules seat after_own seen rest
    ∙ ap (λ (vs : List Verdict). vs ++ heard_all rules seat (learns_all rules seat after_own seen) rest) (seen_heard rules seat after_own added) in
    (λ i. own_heard seat entry setting now s m i ++ (later ∙ sym behind) i)
    ∙ sym (heard_all-append rules seat s own (seen ++ rest))

-- the verdicts of a legal game are those of the machine that learns its trace
legal_heard : (seat : ℕ) (setting : Setting) (entries : List (Entry Answer)) → seat < 4 → IsLegal setting entries →
    verdicts_from setting seat before_all entries ≡ heard_all (untimed setting.rules) seat at_first (trace seat setting entries)
legal_heard seat setting [] small legal = refl
legal_heard seat setting (entry ∷ entries) small legal =
    let deals = deals_thirteen setting.rules.red setting.walls legal.ground legal.whole in
    game_heard seat (entry ∷ entries) setting before_all at_first small deals legal.permitted no_seats (nothing_known seat)

-- and so the same of games that agree for the seat
pub same_heard : (seat : ℕ) (g h : Game) → seat < 4 → Agree seat g h → verdicts seat g ≡ verdicts seat h
same_heard seat g h small a =
    legal_heard seat g.setting g.entries small a.legal
    ∙ (λ i. heard_all (record { limit = 0; draws = a.draws i; red = a.red i }) seat at_first (a.same i))
    ∙ sym (legal_heard seat h.setting h.entries small a.other_legal)
