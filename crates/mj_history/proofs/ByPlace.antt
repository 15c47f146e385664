-- The connections of a seat, found by the places of the entries that began them.
use Rattle.std.proofs.Common.{◌≡◌, ℕ, zero, suc, ◌+◌, ◌≤◌, ◌==◌, ◌&&◌, inl, inr, Bool, true, false, List, [], ◌∷◌, ◌++◌, length, refl, ap, sym, ◌∙◌, subst, arith, append-nil, append_assoc}
use Rattle.std.specs.Prelude.{if◌then◌else◌, Option, Some, None, slice_get, slice_set, flat_map, map}
use Rattle.std.specs.Option.{option_map_or}
use Rattle.std.proofs.lemmas.Bool.{and_parts}
use Rattle.std.proofs.lemmas.Bool.Decides.{eqb_tells}
use Rattle.std.proofs.lemmas.Grind.{flat_map-append}
use Rattle.std.proofs.lemmas.List.{map-append}
use Rattle.std.proofs.lemmas.Option.{same_Some}
use Rattle.mj_ports.specs.declared.entry.Entry.{Entry}
use Rattle.mj_ports.specs.declared.entry.Entry.TheVariants.{Sat, Back, Said, Gone, Expired}
use Rattle.mj_ports.specs.Entries.{is_sat}
use Rattle.mj_ports.specs.Seats.{script, pending as waiting}
use Rattle.mj_deeds.specs.declared.answer.Answer.{Answer}
use Rattle.mj_wall.specs.declared.setting.Setting.{Setting}
use Rattle.mj_lists.proofs.Fronts.{at_end}
use Rattle.mj_wall.specs.declared.setting.Rules.{Rules}
use Rattle.mj_history.specs.After.{After, Chair, Connection, is_present, lines_for, pending, script_at, connections_at, after_said, after_gone, own_part, step, after_from, after, before_all}
use Rattle.mj_history.specs.Legal.{is_permitted, all_permitted, can_return}
use Rattle.mj_history.specs.Shown.{shown, shown_of, is_connected, seat_at, told_by, told_in, told_at}
use Rattle.mj_history.specs.Seated.{places_at, begins, begun_from, begun_by, ScriptsByPlace}
use Rattle.mj_history.proofs.Places.{slice_get-append_other, slice_get-set_at, slice_get-set_other, none_behind}
use Rattle.mj_history.proofs.Connections.{ArePlaced, begun_in, begun_at, earlier_from, one_if, earlier-append, begun-one, begun-two}
use Rattle.mj_history.proofs.Connections.{untold-earlier, untold-in, untold-at, seat-is, told-is, apart-at, nobody-at, and_off}
use Rattle.mj_history.proofs.Entered.{step-chairs, step-entered, own_seats, after-placed, said-chairs, gone-chairs, back-chairs, sat-chairs, back_chair}
use Rattle.mj_history.proofs.Moves.{waiting_is}

-- Where the connections of a seat of several began.
abbrev places_in : ℕ → List Chair → List ℕ
places_in seat chairs = option_map_or places_at (slice_get chairs seat) []

-- What the connections of a place were told is what those of its seat were.
told-only : (p : ℕ) (chairs : List Chair) (i : ℕ) (c : Chair) → begun_at p chairs ≤ 1 → 1 ≤ begun_in p c → slice_get chairs i ≡ Some c → told_at chairs p ≡ told_in p c
told-only p [] i c few some e = cc
told-only p (d ∷ ds) zero c few some e =
    let same : d ≡ c = same_Some d c e in
    let own : begun_in p d ≡ begun_in p c = ap (begun_in p) same in
    let rest : begun_at p ds ≡ 0 = omega (arith, own, some, few) in
    let both : (told_in p d ++ told_at ds p) ≡ (told_in p d ++ []) = ap (λ (l : List ℕ). told_in p d ++ l) (untold-at p ds rest) in
    both ∙ append-nil (told_in p d) ∙ ap (told_in p) same
told-only p (d ∷ ds) (suc i) c few some e =
    let more : begun_in p c ≤ begun_at p ds = begun-one p ds i c e in
    let own : begun_in p d ≡ 0 = omega (arith, few, some, more) in
    let rest : begun_at p ds ≤ 1 = omega (arith, few) in
    ap (λ (l : List ℕ). l ++ told_at ds p) (untold-in p d own) ∙ told-only p ds i c rest some e

-- An earlier connection of a seat, between others, was told what is kept of it.
told-one : (xs ys : List Connection) (c : Connection) (chair : Chair) → chair.earlier ≡ xs ++ c ∷ ys → begun_in c.place chair ≤ 1 →
    (1 ≤ begun_in c.place chair) × ((chair.place == c.place) ≡ false) × (told_in c.place chair ≡ c.told)
told-one xs ys c chair e few =
    let k = parts (earlier_from c.place chair.earlier) (earlier_from c.place xs) (earlier_from c.place ys) (c.place == c.place) (chair.place == c.place) here number few in
    let before : flat_map (told_by c.place) xs ≡ [] = untold-earlier c.place xs k.2 in
    let behind : flat_map (told_by c.place) ys ≡ [] = untold-earlier c.place ys k.3 in
    let kept : flat_map (told_by c.place) chair.earlier ≡ c.told ++ [] = told ∙ (λ j. before j ++ ((if here j then c.told else []) ++ behind j)) in
    let all : told_in c.place chair ≡ (c.told ++ []) ++ [] = λ i. kept i ++ (if k.1 i then chair.progress.told else []) in
    (k.0, k.1, all ∙ append-nil (c.told ++ []) ∙ append-nil c.told)
  where
    here : (c.place == c.place) ≡ true
    here = elim (eqb_tells c.place c.place) [ inl s ↦ s.0 | inr s ↦ absurd (s.1 refl) ]

    number : earlier_from c.place chair.earlier ≡ earlier_from c.place xs + (one_if (c.place == c.place) + earlier_from c.place ys)
    number = ap (earlier_from c.place) e ∙ earlier-append c.place xs (c ∷ ys)

    told : flat_map (told_by c.place) chair.earlier ≡ flat_map (told_by c.place) xs ++ (told_by c.place c ++ flat_map (told_by c.place) ys)
    told = ap (flat_map (told_by c.place)) e ∙ flat_map-append (told_by c.place) xs (c ∷ ys)

    parts : (m n k : ℕ) (a b : Bool) → a ≡ true → m ≡ n + (one_if a + k) → m + one_if b ≤ 1 → (1 ≤ m + one_if b) × (b ≡ false) × (n ≡ 0) × (k ≡ 0)
    parts m n k true true a f g = absurd (omega arith)
    parts m n k true false a f g = (omega arith, refl, omega arith, omega arith)
    parts m n k false b a f g = cc

-- So no seat has it any more.
ended : (p : ℕ) (chairs : List Chair) (i : ℕ) (c : Chair) → begun_at p chairs ≤ 1 → slice_get chairs i ≡ Some c → 1 ≤ begun_in p c → (c.place == p) ≡ false → seat_at chairs p ≡ None
ended p chairs i c few e some off = nobody-at p chairs (λ j d f. elim (eqb_tells i j) [
  | inl s ↦ ap (is_connected p) (same_Some d c (sym f ∙ ap (slice_get chairs) (sym s.1) ∙ e)) ∙ and_off (is_present c) (c.place == p) off
  | inr s ↦ and_off (is_present d) (d.place == p) (none (d.place == p) (earlier_from p d.earlier) (begun_in p c) (begun_at p chairs) few some (begun-two p chairs i j c d s.1 e f))
])
  where
    none : (b : Bool) (n m k : ℕ) → k ≤ 1 → 1 ≤ m → m + (n + one_if b) ≤ k → b ≡ false
    none true n m k f g h = absurd (omega arith)
    none false n m k f g h = refl

-- The scripts of a held seat's connections, by their places.
earlier_scripts : (rules : Rules) (now : After) (seat : ℕ) (chair : Chair) → ArePlaced now.entered now.chairs → slice_get now.chairs seat ≡ Some chair
    → (xs ys : List Connection) → chair.earlier ≡ xs ++ ys
    → map (script (shown rules now)) (map (λ (c : Connection). c.place) ys) ≡ map (λ (c : Connection). c.told) ys
earlier_scripts rules now seat chair k e xs [] h = refl
earlier_scripts rules now seat chair k e xs (c ∷ ys) h =
    let one : begun_in c.place chair ≤ 1 = below (begun-one c.place now.chairs seat chair e) (k.once c.place) in
    let t = told-one xs ys c chair h one in
    let told : told_at now.chairs c.place ≡ c.told = told-only c.place now.chairs seat chair (k.once c.place) t.0 e ∙ t.2 in
    let gone : seat_at now.chairs c.place ≡ None = ended c.place now.chairs seat chair (k.once c.place) e t.0 t.1 in
    let here : script (shown rules now) c.place ≡ c.told = (λ i. told i ++ option_map_or (waiting (shown rules now)) (gone i) []) ∙ append-nil c.told in
    let rest = earlier_scripts rules now seat chair k e (xs ++ c ∷ []) ys (h ∙ sym (append_assoc xs (c ∷ []) ys)) in
    λ i. here i ∷ rest i
  where
    below : {m n o : ℕ} → m ≤ n → n ≤ o → m ≤ o
    below {m} {n} {o} a b = omega arith

own_script : (rules : Rules) (now : After) (seat : ℕ) (chair : Chair) → ArePlaced now.entered now.chairs → slice_get now.chairs seat ≡ Some chair →
    script (shown rules now) chair.place ≡ script_at rules seat now chair
unfolding script_at
own_script rules now seat chair k e = by (is_present chair) refl
  where
    here : (chair.place == chair.place) ≡ true
    here = elim (eqb_tells chair.place chair.place) [ inl s ↦ s.0 | inr s ↦ absurd (s.1 refl) ]

    told : told_at now.chairs chair.place ≡ chair.progress.told
    told = told-is chair.place now.chairs seat chair (k.once chair.place) e here

    off_left : (a b : Bool) → a ≡ false → (a && b) ≡ false
    off_left true b h = cc
    off_left false b h = refl

    by : (b : Bool) → is_present chair ≡ b → script (shown rules now) chair.place ≡ chair.progress.told ++ (if b then pending (lines_for rules seat now.deeds) chair.progress else [])
    by true p =
        let due : option_map_or (waiting (shown rules now)) (seat_at now.chairs chair.place) [] ≡ pending (lines_for rules seat now.deeds) chair.progress =
        ap (λ (o : Option ℕ). option_map_or (waiting (shown rules now)) o []) (seat-is chair.place now.chairs seat chair (k.once chair.place) e p here) ∙ waiting_is rules now seat chair e in
        λ i. told i ++ due i
    by false p =
        let gone : seat_at now.chairs chair.place ≡ None = nobody-at chair.place now.chairs (λ j d f. elim (eqb_tells seat j) [
          | inl s ↦ ap (is_connected chair.place) (same_Some d chair (sym f ∙ ap (slice_get now.chairs) (sym s.1) ∙ e)) ∙ off_left (is_present chair) (chair.place == chair.place) p
          | inr s ↦ and_off (is_present d) (d.place == chair.place) (apart-at chair.place now.chairs seat j chair d (k.once chair.place) s.1 e f here)
        ]) in
        λ i. told i ++ option_map_or (waiting (shown rules now)) (gone i) []

scripts_of : (rules : Rules) (now : After) (seat : ℕ) → ArePlaced now.entered now.chairs → (held : Option Chair) → slice_get now.chairs seat ≡ held
    → map (script (shown rules now)) (option_map_or places_at held []) ≡ option_map_or (connections_at rules seat now) held []
scripts_of rules now seat k None e = refl
scripts_of rules now seat k (Some chair) e =
    let before = earlier_scripts rules now seat chair k e [] chair.earlier refl in
    let own = own_script rules now seat chair k e in
    map-append (script (shown rules now)) (map (λ (c : Connection). c.place) chair.earlier) (chair.place ∷ []) ∙ (λ i. before i ++ own i ∷ [])

-- The places by the entries: each entry adds those that it begins.
kept_places : (seat : ℕ) (chairs : List Chair) (who : ℕ) (old new : Chair) → slice_get chairs who ≡ Some old → places_at new ≡ places_at old →
    places_in seat (slice_set chairs who new) ≡ places_in seat chairs
kept_places seat chairs who old new e same = elim (eqb_tells who seat) [
  | inl s ↦ subst (λ (n : ℕ). places_in n (slice_set chairs who new) ≡ places_in n chairs) s.1
      (ap (λ (o : Option Chair). option_map_or places_at o []) (slice_get-set_at chairs who new old e) ∙ same ∙ sym (ap (λ (o : Option Chair). option_map_or places_at o []) e))
  | inr s ↦ ap (λ (o : Option Chair). option_map_or places_at o []) (slice_get-set_other chairs who seat new s.1)
]

no_more : (xs ys : List ℕ) → ys ≡ xs → ys ≡ xs ++ []
no_more xs ys e = e ∙ sym (append-nil xs)

said_places : (seat : ℕ) (setting : Setting) (now : After) (author who : ℕ) (answer : Answer) (held : Option Chair) → slice_get now.chairs who ≡ held
    → places_in seat (step setting now (Said author who answer)).chairs ≡ places_in seat now.chairs
unfolding own_part
said_places seat setting now author who answer None e =
    ap (places_in seat) (step-chairs setting now (Said author who answer) ∙ ap (λ (o : Option Chair). (option_map_or (after_said setting.rules now who answer) o now).chairs) e)
said_places seat setting now author who answer (Some chair) e = ap (places_in seat) (said-chairs setting now author who answer chair e) ∙ kept_places seat now.chairs who chair _ e refl

gone_places : (seat : ℕ) (setting : Setting) (now : After) (author who : ℕ) (held : Option Chair) → slice_get now.chairs who ≡ held
    → places_in seat (step setting now (Gone author who)).chairs ≡ places_in seat now.chairs
unfolding own_part
gone_places seat setting now author who None e =
    ap (places_in seat) (step-chairs setting now (Gone author who) ∙ ap (λ (o : Option Chair). (option_map_or (after_gone setting.rules now who) o now).chairs) e)
gone_places seat setting now author who (Some chair) e = ap (places_in seat) (gone-chairs setting now author who chair e) ∙ kept_places seat now.chairs who chair _ e refl

back_places : (seat : ℕ) (setting : Setting) (now : After) (author who : ℕ) (held : Option Chair) → slice_get now.chairs who ≡ held → option_map_or (can_return now) held false ≡ true
    → places_in seat (step setting now (Back author who)).chairs ≡ places_in seat now.chairs ++ begins seat now.entered (length now.chairs) (Back author who)
back_places seat setting now author who None e may = cc
back_places seat setting now author who (Some chair) e may =
    ap (places_in seat) (back-chairs setting now author who chair e) ∙ elim (eqb_tells who seat) [
      | inl s ↦
          let at : slice_get now.chairs seat ≡ Some chair = ap (slice_get now.chairs) (sym s.1) ∙ e in
          let set : slice_get (slice_set now.chairs who (back_chair setting.rules now author who chair)) seat ≡ Some
          (back_chair setting.rules now author who chair) =
          ap (slice_get (slice_set now.chairs who (back_chair setting.rules now author who chair))) (sym s.1) ∙ slice_get-set_at now.chairs who _
          chair e in
          ap (λ (o : Option Chair). option_map_or places_at o []) set
          ∙ ap (λ (l : List ℕ). l ++ now.entered ∷ []) (map-append (λ (c : Connection). c.place) chair.earlier (_ ∷ []))
          ∙ sym (λ i. option_map_or places_at (at i) [] ++ (if s.0 i then now.entered ∷ [] else []))
      | inr s ↦
          ap (λ (o : Option Chair). option_map_or places_at o []) (slice_get-set_other now.chairs who seat _ s.1)
          ∙ sym (append-nil (places_in seat now.chairs))
          ∙ sym (λ i. places_in seat now.chairs ++ (if s.0 i then now.entered ∷ [] else []))
    ]

sat_places : (seat : ℕ) (setting : Setting) (now : After) (author : ℕ) (name : List ℕ) (key : Option (List ℕ))
    → places_in seat (step setting now (Sat author name key)).chairs ≡ places_in seat now.chairs ++ begins seat now.entered (length now.chairs) (Sat author name key)
sat_places seat setting now author name key =
    ap (places_in seat) (sat-chairs setting now author name key) ∙ elim (eqb_tells (length now.chairs) seat) [
      | inl s ↦
          let none : slice_get now.chairs seat ≡ None = none_behind now.chairs seat (same (length now.chairs) seat s.1) in
          ap (λ (o : Option Chair). option_map_or places_at o []) (ap (slice_get (now.chairs ++ _ ∷ [])) (sym s.1) ∙ at_end now.chairs _)
          ∙ sym (λ i. option_map_or places_at (none i) [] ++ (if s.0 i then now.entered ∷ [] else []))
      | inr s ↦
          ap (λ (o : Option Chair). option_map_or places_at o []) (slice_get-append_other now.chairs _ seat (λ e. s.1 (sym e)))
          ∙ sym (append-nil (places_in seat now.chairs))
          ∙ sym (λ i. places_in seat now.chairs ++ (if s.0 i then now.entered ∷ [] else []))
    ]
  where
    same : (m n : ℕ) → m ≡ n → m ≤ n
    same m n e = omega arith

step_places : (seat : ℕ) (setting : Setting) (now : After) (entry : Entry Answer) → is_permitted setting now entry ≡ true
    → places_in seat (step setting now entry).chairs ≡ places_in seat now.chairs ++ begins seat now.entered (length now.chairs) entry
unfolding own_part
step_places seat setting now (Sat author name key) may = sat_places seat setting now author name key
step_places seat setting now (Back author who) may = back_places seat setting now author who (slice_get now.chairs who) refl may
step_places seat setting now (Said author who answer) may = no_more (places_in seat now.chairs) _ (said_places seat setting now author who answer (slice_get now.chairs who) refl)
step_places seat setting now (Gone author who) may = no_more (places_in seat now.chairs) _ (gone_places seat setting now author who (slice_get now.chairs who) refl)
step_places seat setting now (Expired author window t1 t2) may = no_more (places_in seat now.chairs) _ (ap (places_in seat) (step-chairs setting now (Expired author window t1 t2)))

seats_step : (setting : Setting) (now : After) (entry : Entry Answer) → length (step setting now entry).chairs ≡ (if is_sat entry then length now.chairs + 1 else length now.chairs)
seats_step setting now entry = by (is_sat entry) (length (step setting now entry).chairs) (length now.chairs)
    (ap (λ (cs : List Chair). length cs) (step-chairs setting now entry) ∙ own_seats setting now entry)
  where
    by : (b : Bool) (m n : ℕ) → m ≡ n + one_if b → m ≡ (if b then n + 1 else n)
    by true m n e = e
    by false m n e = omega (arith, e)

begun : (seat : ℕ) (setting : Setting) (now : After) (entries : List (Entry Answer)) → all_permitted setting now entries ≡ true
    → places_in seat (after_from setting now entries).chairs ≡ places_in seat now.chairs ++ begun_from seat now.entered (length now.chairs) entries
begun seat setting now [] may = sym (append-nil (places_in seat now.chairs))
begun seat setting now (entry ∷ entries) may =
    let parts = and_parts (is_permitted setting now entry) (all_permitted setting (step setting now entry) entries) may in
    begun seat setting (step setting now entry) entries parts.1
    ∙ (λ i. step_places seat setting now entry parts.0 i ++ begun_from seat (step-entered setting now entry i) (seats_step setting now entry i) entries)
    ∙ append_assoc (places_in seat now.chairs) (begins seat now.entered (length now.chairs) entry) _

pub scripts_by_place : ScriptsByPlace
scripts_by_place seat setting entries legal =
    let places : places_in seat (after setting entries).chairs ≡ begun_by seat entries = begun seat setting before_all entries legal.permitted in
    ap (map (script (shown_of setting entries))) (sym places)
    ∙ scripts_of setting.rules (after setting entries) seat (after-placed setting entries) (slice_get (after setting entries).chairs seat) refl
