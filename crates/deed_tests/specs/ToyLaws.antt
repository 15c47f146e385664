-- The toy game meets the laws of seated games.
use Rattle.std.proofs.Common.{◌≡◌, ◌≢◌, ⊎_elim, ℕ, zero, suc, ◌<◌, ◌≤◌, ◌==◌, Bool, true, false, List, [], ◌∷◌, ◌++◌, length, if◌then◌else◌}
use Rattle.std.proofs.Common.{Option, Some, None, refl, true≢false, ap, sym, ◌∙◌, subst, arith, append-nil, unwrap_or, is_some}
use Rattle.std.specs.Option.{option_map_or}
use Rattle.mj_ports.specs.declared.entry.Entry.{Entry}
use Rattle.mj_ports.specs.declared.entry.Entry.TheVariants.{Sat, Back, Said, Gone, Expired}
use Rattle.mj_ports.specs.declared.answers.Heard.{Heard}
use Rattle.mj_ports.specs.declared.answers.Heard.TheVariants.{Taken, Late, Refused, Closing, NoMemory}
use Rattle.mj_ports.specs.declared.answers.SitAnswer.TheVariants as sits
use Rattle.mj_ports.specs.Entries.{next_seat, IsAside}
use Rattle.mj_ports.specs.SeatCalls.{IsRefused}
use Rattle.mj_ports.specs.Seats.{Showing, pending, script, Stays, StaysEnded, Unmoved, Begins, Answers, Adds, Leaves, hello, replay}
use Rattle.deed_tests.specs.ToyGame.{Toy, first, zero_if, shown, toy_says, told_all, toy_hears, answered, toy_step, played, IsPermitted, IsLegalFrom}

abbrev pub after_toy : List (Entry ℕ) → Showing
after_toy es = shown (played first es)

pub played_snoc : (t : Toy) (es : List (Entry ℕ)) (e : Entry ℕ) → played t (es ++ e ∷ []) ≡ toy_step (played t es) e
played_snoc t [] e = refl
played_snoc t (x ∷ es) e = played_snoc (toy_step t x) es e

pub legal_before : (t : Toy) (es fs : List (Entry ℕ)) → IsLegalFrom t (es ++ fs) → IsLegalFrom t es
legal_before t [] fs h = tt
legal_before t (x ∷ es) fs h = (h.0, legal_before (toy_step t x) es fs h.1)

last_permitted : (t : Toy) (es : List (Entry ℕ)) (e : Entry ℕ) → IsLegalFrom t (es ++ e ∷ []) → IsPermitted (played t es) e
last_permitted t [] e h = h.0
last_permitted t (x ∷ es) e h = last_permitted (toy_step t x) es e h.1

begun_answered : (v : Heard ℕ) (t : Toy) → (answered v t).begun ≡ t.begun
begun_answered Taken t = refl
begun_answered Late t = refl
begun_answered (Refused rule) t = refl
begun_answered (Closing rule) t = refl
begun_answered NoMemory t = refl

begun_step : (t : Toy) (e : Entry ℕ) → t.begun ≡ true → (toy_step t e).begun ≡ true
begun_step t (Sat author name key) b = refl
begun_step t (Back author seat) b = b
begun_step t (Said author seat answer) b = begun_answered (toy_hears answer) t ∙ b
begun_step t (Gone author seat) b = b
begun_step t (Expired author window t1 t2) b = b

begun_stays : (t : Toy) (es : List (Entry ℕ)) → t.begun ≡ true → (played t es).begun ≡ true
begun_stays t [] b = b
begun_stays t (e ∷ es) b = begun_stays (toy_step t e) es (begun_step t e b)

no_author : {A : Type 0} (author : ℕ) → None ≡ Some author → A
no_author author e = absurd (true≢false (sym (ap is_some e)))

-- only the first entry begins a game
none_yet : (es : List (Entry ℕ)) → IsLegalFrom first es → (played first es).begun ≡ false → es ≡ []
none_yet [] h b = refl
none_yet (Sat author name key ∷ es) h b = absurd (true≢false (sym (begun_stays (toy_step first (Sat author name key)) es refl) ∙ b))
none_yet (Back author seat ∷ es) h b = absurd h.0
none_yet (Said author seat answer ∷ es) h b = no_author author h.0.1
none_yet (Gone author seat ∷ es) h b = no_author author h.0.1
none_yet (Expired author window t1 t2 ∷ es) h b = absurd (true≢false (sym h.0))

not_begun : (es : List (Entry ℕ)) → IsLegalFrom first es → (played first es).begun ≡ false → (played first es).author ≡ None
not_begun es h b = subst (λ (fs : List (Entry ℕ)). (played first fs).author ≡ None) (sym (none_yet es h b)) refl

deeds_answered : (v : Heard ℕ) (t : Toy) → (answered v t).deeds ≡ t.deeds
deeds_answered Taken t = refl
deeds_answered Late t = refl
deeds_answered (Refused rule) t = refl
deeds_answered (Closing rule) t = refl
deeds_answered NoMemory t = refl

deeds_step : (t : Toy) (e : Entry ℕ) → t.deeds ≤ (toy_step t e).deeds
deeds_step t (Sat author name key) = omega arith
deeds_step t (Back author seat) = omega arith
deeds_step t (Said author seat answer) = omega (arith, deeds_answered (toy_hears answer) t)
deeds_step t (Gone author seat) = omega arith
deeds_step t (Expired author window t1 t2) = omega arith

-- a law of one step, at entries of which the last is the step
stepped : (P : Showing → Type 0) (es : List (Entry ℕ)) (e : Entry ℕ) → P (shown (toy_step (played first es) e)) → P (after_toy (es ++ e ∷ []))
stepped P es e p = subst (λ (t : Toy). P (shown t)) (sym (played_snoc first es e)) p

pub stays : (es : List (Entry ℕ)) (e : Entry ℕ) → Stays (after_toy es) (after_toy (es ++ e ∷ []))
stays es e = stepped (Stays (after_toy es)) es e (record {
  deeds = deeds_step (played first es) e;
  text = λ seat k near. refl;
  over = λ h. absurd (true≢false (sym h));
  no_deed = λ h. absurd (true≢false (sym h));
})

left_alone : (o : Option ℕ) (author : ℕ) → zero_if o ≡ None → o ≡ Some author → ⊥
left_alone None author none is = no_author author is
left_alone (Some a) author none is = no_author 0 (sym none)

-- a connection that has ended
ended_step : (t : Toy) (e : Entry ℕ) (place : ℕ) → (t.begun ≡ false → ⊥) → IsPermitted t e → (shown t).seat_of place ≡ None → StaysEnded place (shown t) (shown (toy_step t e))
ended_step t (Sat author name key) zero begun h none = absurd (begun h)
ended_step t (Back author seat) zero begun h none = absurd h
ended_step t (Said author seat answer) zero begun h none = absurd (left_alone t.author author none h.1)
ended_step t (Gone author seat) zero begun h none = absurd (left_alone t.author author none h.1)
ended_step t (Expired author window t1 t2) zero begun h none = record { no_seat = none; told = refl }
ended_step t e (suc place) begun h none = record { no_seat = refl; told = refl }

pub ended : (es : List (Entry ℕ)) (e : Entry ℕ) (place : ℕ) → IsLegalFrom first (es ++ e ∷ []) → place < length es →
    (after_toy es).seat_of place ≡ None → StaysEnded place (after_toy es) (after_toy (es ++ e ∷ []))
ended es e place h near none =
    let begun : (played first es).begun ≡ false → ⊥ = λ b. omega (arith, near, ap (λ (fs : List (Entry ℕ)). length fs) (none_yet es (legal_before first es (e ∷ []) h) b)) in
    stepped (StaysEnded place (after_toy es)) es e (ended_step (played first es) e place begun (last_permitted first es e h) none)

same_author : (a b : ℕ) (o : Option ℕ) → o ≡ Some a → o ≡ Some b → a ≡ b
same_author a b o x y = ap (λ (z : Option ℕ). unwrap_or z 0) (sym x ∙ y)

aside_step : (es : List (Entry ℕ)) (e : Entry ℕ) (t : Toy) (author : ℕ) → (t.begun ≡ false → t.author ≡ None) → IsPermitted t e →
    t.author ≡ Some author → IsAside author 0 es e → Unmoved 0 (shown t) (shown (toy_step t e))
aside_step es (Sat by name key) t author begun h here aside = no_author author (sym (begun h) ∙ here)
aside_step es (Back by seat) t author begun h here aside = absurd h
aside_step es (Said by seat answer) t author begun h here aside =
    absurd (⊎_elim (λ (n : by ≢ author). n (same_author by author t.author h.1 here)) (λ (n : Some seat ≢ Some 0). n (ap (λ (k : ℕ). Some k) h.0))
    aside)
aside_step es (Gone by seat) t author begun h here aside =
    absurd (⊎_elim (λ (n : by ≢ author). n (same_author by author t.author h.1 here)) (λ (n : Some seat ≢ Some 0). n (ap (λ (k : ℕ). Some k) h.0))
    aside)
aside_step es (Expired by window t1 t2) t author begun h here aside = record { present = refl; due = refl; is_told = refl; seat_of = λ place s. s; told = λ place s. refl }

pub others : (es : List (Entry ℕ)) (e : Entry ℕ) (author seat : ℕ) → IsLegalFrom first (es ++ e ∷ []) → (after_toy es).present seat ≡ Some author →
    IsAside author seat es e → Unmoved seat (after_toy es) (after_toy (es ++ e ∷ []))
others es e author zero h here aside =
    stepped (Unmoved 0 (after_toy es)) es e (aside_step es e (played first es) author (not_begun es (legal_before first es (e ∷ []) h)) (last_permitted first es e h) here aside)
others es e author (suc seat) h here aside = no_author author here

pub sat : (es : List (Entry ℕ)) (author : ℕ) (name : List ℕ) (key : Option (List ℕ)) → IsLegalFrom first (es ++ Sat author name key ∷ []) →
    Begins author (next_seat es) (length es) 0 (hello toy_says) (after_toy (es ++ Sat author name key ∷ []))
sat es author name key h =
    let e : Entry ℕ = Sat author name key in
    let empty : es ≡ [] = none_yet es (legal_before first es (e ∷ []) h) (last_permitted first es e h) in
    subst (λ (fs : List (Entry ℕ)). Begins author (next_seat fs) (length fs) 0 (hello toy_says) (after_toy (fs ++ e ∷ []))) (sym empty)
    (record { within = omega arith; present = refl; due_is = refl; due_within = omega arith; is_told = refl; seat_of = refl; told = refl })

pub back : (es : List (Entry ℕ)) (author seat : ℕ) → IsLegalFrom first (es ++ Back author seat ∷ [])
    → Begins author seat (length es) ((after_toy (es ++ Back author seat ∷ [])).due seat) (replay toy_says (after_toy (es ++ Back author seat ∷ [])) seat) (after_toy (es ++ Back author seat ∷ []))
back es author seat h = absurd (last_permitted first es (Back author seat) h)

script_told : (t : Toy) → zero_if t.author ≡ Some 0 → script (shown t) 0 ≡ told_all t
script_told t is = ap (λ (o : Option ℕ). t.told ++ option_map_or (pending (shown t)) o []) is

adds_reply : (t w : Toy) (reply : List ℕ) → w.told ≡ told_all t ++ reply → Adds 0 reply (shown t) (shown w)
adds_reply t w reply is zero here = is ∙ ap (λ (l : List ℕ). l ++ reply) (sym (script_told t here))
adds_reply t w reply is (suc place) here = no_author 0 here

answers_zero : (b : Bool) (t : Toy) → Answers toy_says (if b then Refused 7 else Taken) 0 (shown t) (shown (answered (if b then Refused 7 else Taken) t))
answers_zero true t = (record { present = refl; due = refl; is_told = refl; seat_of = λ place s. s }, adds_reply t (answered (Refused 7) t) (7 ∷ []) refl)
answers_zero false t = (record { present = refl; due = refl; is_told = refl; seat_of = λ place s. s }, adds_reply t (answered Taken t) [] (sym (append-nil (told_all t))))

pub answers : (es : List (Entry ℕ)) (author seat answer : ℕ) → IsLegalFrom first (es ++ Said author seat answer ∷ []) →
    Answers toy_says (toy_hears answer) seat (after_toy es) (after_toy (es ++ Said author seat answer ∷ []))
answers es author seat answer h =
    let e : Entry ℕ = Said author seat answer in
    let t : Toy = played first es in
    stepped (Answers toy_says (toy_hears answer) seat (after_toy es)) es e
    (subst (λ (k : ℕ). Answers toy_says (toy_hears answer) k (shown t) (shown (toy_step t e))) (sym (last_permitted first es e h).0) (answers_zero (answer == 0) t))

leaves_zero : (author seat : ℕ) (t : Toy) → Leaves 0 (shown t) (shown (toy_step t (Gone author seat))) × Adds 0 [] (shown t) (shown (toy_step t (Gone author seat)))
leaves_zero author seat t = (record { present = refl; no_seat = no_seat }, adds_reply t (toy_step t (Gone author seat)) [] (sym (append-nil (told_all t))))
  where
    no_seat : (place : ℕ) → (shown t).seat_of place ≡ Some 0 → (shown (toy_step t (Gone author seat))).seat_of place ≡ None
    no_seat zero s = refl
    no_seat (suc place) s = refl

pub leaves : (es : List (Entry ℕ)) (author seat : ℕ) → IsLegalFrom first (es ++ Gone author seat ∷ [])
    → Leaves seat (after_toy es) (after_toy (es ++ Gone author seat ∷ [])) × Adds seat [] (after_toy es) (after_toy (es ++ Gone author seat ∷ []))
leaves es author seat h =
    let e : Entry ℕ = Gone author seat in
    let t : Toy = played first es in
    stepped (λ (w : Showing). Leaves seat (after_toy es) w × Adds seat [] (after_toy es) w) es e
    (subst (λ (k : ℕ). Leaves k (shown t) (shown (toy_step t e)) × Adds k [] (shown t) (shown (toy_step t e))) (sym (last_permitted first es e h).0) (leaves_zero author seat t))

pub closed : false ≡ true → IsRefused (sits.Sat 0)
closed over = absurd (true≢false (sym over))
