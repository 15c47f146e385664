-- The header and the walls that found a kept game.
use Rattle.std.proofs.Common.{◌≡◌, ◌⊎◌, inl, inr, ⊎_elim, ℕ, ◌+◌, ◌-◌, ◌<◌, ◌≤◌, ◌==◌, Bool, true, false, List, [], ◌∷◌}
use Rattle.std.proofs.Common.{◌++◌, length, take, refl, ap, sym, ◌∙◌, subst, arith, append_assoc, length-append}
use Rattle.std.specs.Prelude.{Some, None, Result, Ok, IfOk}
use Rattle.std.specs.declared.alloc.AllocError.{AllocError}
use Rattle.std.specs.List.{list_all}
use Rattle.std.proofs.lemmas.Bool.Decides.{nat_tests}
use Rattle.mj_bytes.specs.Parts.{whole_lines, unfinished, BeginsWithLine, HasNoLine}
use Rattle.mj_wall.specs.declared.setting.Rules.{Rules}
use Rattle.mj_wall.specs.Places.{is_wall}
use Rattle.mj_history.specs.Arrivals.{ArrivalForm, Header, WallOf, form_of, Intake, Arrival, Leads, Bad, arrives, first_line, header_arrives}
use Rattle.mj_history.specs.Arrivals.{intake_from, intake_on, Input, Ending, BadAt, at_end, input_of, nothing_read}
use Rattle.mj_refereeing.specs.declared.base.Base.{Base as Read}
use Rattle.mj_refereeing.specs.declared.base.Founded.{Founded}
use Rattle.mj_refereeing.specs.declared.form.ArrivalForm.{ArrivalForm as Form}
use Rattle.mj_refereeing.specs.declared.form.ArrivalForm.TheVariants as forms
use Rattle.mj_refereeing.specs.declared.intake.End.{End}
use Rattle.mj_runs.specs.Inputs.{longest}
use Rattle.mj_refereeing.specs.Referee.{ending}
use Rattle.mj_refereeing.specs.Keep.{Base, is_wall_form, intake_with_walls, wall_leads, base_from, base_in, base_of, with_a_wall, after_header_line}
use Rattle.mj_refereeing.specs.Bases.{IsFit, IsBase, IsFounded, base_meant}
use Rattle.mj_refereeing.specs.Inner.Bases.{StopsAt, IsWalled, end_without}
use Rattle.mj_refereeing.specs.Inner.Forms.{meaning}
use Rattle.mj_refereeing.proofs.WallLaws.{IsWallLine, wall-more, wall-none, read-wall, heard-wall, few-more, whole-more, arrives-alone}

-- One wall more.
pub base-more : (rules : Rules) (walls : List (List ℕ)) (tag : List ℕ) (number : ℕ) (line tiles wall : List ℕ) (texts : List (List ℕ)) →
    WallOf tiles ≡ form_of line → arrives (intake_with_walls rules walls) line ≡ Leads (intake_with_walls rules (walls ++ wall ∷ []))
    → base_from rules walls tag number (line ∷ texts) ≡ base_from rules (walls ++ wall ∷ []) (tag ++ line ++ 10 ∷ []) (number + 1) texts
base-more rules walls tag number line tiles wall texts e leads = rw (ap is_wall_form (sym e), leads) refl

-- The first other line.
stop-by : (b : Bool) (arrival : Arrival) (f : Intake → Base) (here : Base) → (b ≡ false) ⊎ (arrival ≡ Bad) → wall_leads b arrival f here ≡ here
stop-by false arrival f here h = by arrival
  where
    by : (a : Arrival) → wall_leads false a f here ≡ here
    by (Leads next) = refl
    by Bad = refl
stop-by true (Leads next) f here h = ⊎_elim (λ e. absurd (cc e)) (λ e. absurd (cc e)) h
stop-by true Bad f here h = refl

pub base-stops : (rules : Rules) (walls : List (List ℕ)) (tag : List ℕ) (number : ℕ) (lines : List (List ℕ)) → StopsAt rules walls lines
    → base_from rules walls tag number lines ≡ record { setting = record { walls = walls; rules = rules }; tag = tag; number = number; lines = lines }
base-stops rules walls tag number [] h = refl
base-stops rules walls tag number (text ∷ texts) h = stop-by (is_wall_form (form_of text)) (arrives (intake_with_walls rules walls) text) _ _ h

-- The front of a text, by what is left of it.
front-length : (front rest : List ℕ) → take (length front) (front ++ rest) ≡ front
front-length [] rest = none rest
  where
    none : (xs : List ℕ) → take 0 xs ≡ []
    none [] = refl
    none (x ∷ xs) = refl
front-length (x ∷ xs) rest = ap (λ (l : List ℕ). x ∷ l) (front-length xs rest)

pub front-is : (text front rest : List ℕ) → text ≡ front ++ rest → take (length text - length rest) text ≡ front
front-is text front rest e =
    let long : length text ≡ length front + length rest = ap length e ∙ length-append front rest in
    let less : length text - length rest ≡ length front = omega (arith, long) in
    ap (λ (n : ℕ). take n text) less ∙ ap (take (length front)) e ∙ front-length front rest

-- The walls of an input were read up to some line: what stands before it is the tag.
pub record ReadsTo (rules : Rules) (input others : List ℕ) (walls : List (List ℕ)) (rest : List ℕ) (number : ℕ) : Type 0 where
  pub heard : intake_from (intake_with_walls rules []) 2 (whole_lines others) (unfinished others) ≡ intake_from (intake_with_walls rules walls) number (whole_lines rest) (unfinished rest)
  pub few : length walls ≤ 200
  pub whole : list_all (is_wall rules.red) walls ≡ true
  pub numbered : number ≡ 2 + length walls
  pub unread : unfinished others ≡ unfinished rest
  pub is : (first : List ℕ) → input ≡ first ++ 10 ∷ others
      → (input ≡ take (length input - length rest) input ++ rest) × (base_from rules [] (first ++ 10 ∷ []) 2 (whole_lines others) ≡ base_from rules
      walls (take (length input - length rest) input) number (whole_lines rest))

pub reads-start : (rules : Rules) (input others : List ℕ) (walls : List (List ℕ)) → walls ≡ [] → ReadsTo rules input others walls others 2
reads-start rules input others walls none = subst (λ (ws : List (List ℕ)). ReadsTo rules input others ws others 2) (sym none) (record {
  heard = refl;
  few = omega arith;
  whole = refl;
  numbered = refl;
  unread = refl;
  is = λ first e.
      let split : input ≡ (first ++ 10 ∷ []) ++ others = e ∙ sym (append_assoc first (10 ∷ []) others) in
      let front = front-is input (first ++ 10 ∷ []) others split in
      (split ∙ ap (λ (l : List ℕ). l ++ others) (sym front), ap (λ (t : List ℕ). base_from rules [] t 2 (whole_lines others)) (sym front));
})

-- One wall more.
module _ (rules : Rules) (input others rest line next wall : List ℕ) (walls longer : List (List ℕ)) (number : ℕ) (r : ReadsTo rules input others walls rest number) (b : BeginsWithLine rest line next)
    (w : IsWallLine rules.red walls (whole_lines rest) (whole_lines next) (Some wall)) (same : w.line ≡ line) (e : longer ≡ walls ++ wall ∷ []) where
  more-tag : (front : List ℕ) → input ≡ front ++ rest → input ≡ (front ++ line ++ 10 ∷ []) ++ next
  more-tag front is = is ∙ ap (λ (l : List ℕ). front ++ l) b.parts ∙ sym (append_assoc front line (10 ∷ next)) ∙ sym (append_assoc (front ++ line) (10 ∷ []) next)

  more-base : (front : List ℕ) → base_from rules walls front number (whole_lines rest) ≡ base_from rules longer (front ++ line ++ 10 ∷ []) (number + 1) (whole_lines next)
  more-base front =
      let form : WallOf w.tiles ≡ form_of line = w.form ∙ ap form_of same in
      let leads = wall-more rules walls line w.tiles wall form (read-wall rules.red walls (whole_lines rest) (whole_lines next) (Some wall) w) in
      ap (base_from rules walls front number) b.lines ∙ base-more rules walls front number line w.tiles wall (whole_lines next) form leads.0
      ∙ ap (λ (ws : List (List ℕ)). base_from rules ws (front ++ line ++ 10 ∷ []) (number + 1) (whole_lines next)) (sym e)

  pub reads-more : ReadsTo rules input others longer next (number + 1)
  reads-more = record {
    heard = r.heard ∙ heard-wall rules walls longer (whole_lines rest) (whole_lines next) wall (unfinished next) (unfinished rest) number w b.ending e;
    few = few-more rules walls longer (whole_lines rest) (whole_lines next) wall w e;
    whole = whole-more rules walls longer (whole_lines rest) (whole_lines next) wall w e r.whole;
    numbered = let long : length longer ≡ length walls + 1 = ap length e ∙ length-append walls (wall ∷ []) in omega (arith, r.numbered, long);
    unread = r.unread ∙ b.ending;
    is = λ first start.
        let p = r.is first start in
        let front = take (length input - length rest) input in
        let split = more-tag front p.0 in
        let now = front-is input (front ++ line ++ 10 ∷ []) next split in
        (split ∙ ap (λ (l : List ℕ). l ++ next) (sym now), p.1 ∙ more-base front ∙ ap (λ (t : List ℕ). base_from rules longer t (number + 1) (whole_lines next)) (sym now));
  }

pub shorter-still : (next rest input : ℕ) → next < rest → rest < input → next < input
shorter-still next rest input h k = omega arith

-- A line that is no wall, or none in its place.
pub stops-bad : (rules : Rules) (walls : List (List ℕ)) (lines texts : List (List ℕ)) → IsWallLine rules.red walls lines texts None → StopsAt rules walls lines
stops-bad rules walls lines texts w =
    subst (StopsAt rules walls) (sym w.lines_are) (inr (wall-none rules walls w.line w.tiles w.form (read-wall rules.red walls lines texts None w)))

pub stops-other : (rules : Rules) (walls : List (List ℕ)) (rest line next : List ℕ) → BeginsWithLine rest line next → is_wall_form (form_of line) ≡ false → StopsAt rules walls (whole_lines rest)
stops-other rules walls rest line next b other = subst (StopsAt rules walls) (sym b.lines) (inl other)

pub stops-end : (rules : Rules) (walls : List (List ℕ)) (rest : List ℕ) → HasNoLine rest → StopsAt rules walls (whole_lines rest)
stops-end rules walls rest none = subst (StopsAt rules walls) (sym none.lines) (record {})

base_with : List (List ℕ) → ℕ → List (List ℕ) → Rules → List ℕ → Base
base_with walls number lines rules tag = record { setting = record { walls = walls; rules = rules }; tag = tag; number = number; lines = lines }

reads-as : (rules : Rules) (input others : List ℕ) (walls longer : List (List ℕ)) (rest now : List ℕ) (number count : ℕ) → longer ≡ walls →
    now ≡ rest → count ≡ number → ReadsTo rules input others walls rest number → ReadsTo rules input others longer now count
reads-as rules input others walls longer rest now number count p q r h =
    subst (λ (ws : List (List ℕ)). ReadsTo rules input others ws now count) (sym p)
    (subst (λ (l : List ℕ). ReadsTo rules input others walls l count) (sym q) (subst (λ (n : ℕ). ReadsTo rules input others walls rest n) (sym r) h))

-- What was read once the walls end.
module _ (g : Read) (rules : Rules) (input first others : List ℕ) (same : g.rules ≡ rules) (tag : g.tag.now ≡ take (length input - length g.rest.now)
    input) (r : ReadsTo rules input others g.walls.items g.rest.now g.number) (start : input ≡ first ++ 10 ∷ others) where
  whole-tag : input ≡ g.tag.now ++ g.rest.now
  whole-tag = (r.is first start).0 ∙ ap (λ (t : List ℕ). t ++ g.rest.now) (sym tag)

  base-is : StopsAt rules g.walls.items (whole_lines g.rest.now) → base_from rules [] (first ++ 10 ∷ []) 2 (whole_lines others) ≡ base_meant g
  unfolding base_with
  base-is stops =
      (r.is first start).1 ∙ base-stops rules g.walls.items (take (length input - length g.rest.now) input) g.number (whole_lines g.rest.now) stops
      ∙ ap (λ (rs : Rules). base_with g.walls.items g.number (whole_lines g.rest.now) rs (take (length input - length g.rest.now) input)) (sym same)
      ∙ ap (base_with g.walls.items g.number (whole_lines g.rest.now) g.rules) (sym tag)

  fits-as : 1 ≤ rules.limit → rules.limit ≤ 3600000 → length input ≤ longest → length g.rest.now < length input →
      g.number + length g.rest.now ≤ length others + 2 → length others < length input → IsFit g
  fits-as shortest most fits within count less =
      let long : length input ≡ length g.tag.now + length g.rest.now = ap length whole-tag ∙ length-append g.tag.now g.rest.now in record {
        few = r.few;
        whole = subst (λ (rs : Rules). list_all (is_wall rs.red) g.walls.items ≡ true) (sym same) r.whole;
        shortest = subst (λ (rs : Rules). 1 ≤ rs.limit) (sym same) shortest;
        longest = subst (λ (rs : Rules). rs.limit ≤ 3600000) (sym same) most;
        tagged = omega (arith, long, within);
        tag_short = omega (arith, long, fits);
        fits = omega (arith, count, less, fits);
      }

  walled-as : IsFit g → StopsAt rules g.walls.items (whole_lines g.rest.now) → IsWalled g rules first others
  walled-as fit stops = record { fit = fit; same_rules = same; is = base-is stops; unread = r.unread; heard = r.heard; number = r.numbered; stops = stops }

pub walled : (g : Read) (rules : Rules) (input first others rest : List ℕ) (walls : List (List ℕ)) (number : ℕ) → g.rules ≡ rules →
    g.walls.items ≡ walls → g.tag.now ≡ take (length input - length rest) input → g.rest.now ≡ rest → g.number ≡ number
    → 1 ≤ rules.limit → rules.limit ≤ 3600000 → length input ≤ longest → length others < length input → length rest < length input → number + length rest ≤ length others + 2
    → ReadsTo rules input others walls rest number → StopsAt rules walls (whole_lines rest) → input ≡ first ++ 10 ∷ others → IsWalled g rules first others
walled g rules input first others rest walls number same same_walls tag same_rest same_number shortest most fits less within count r stops start =
    let now = reads-as rules input others walls g.walls.items rest g.rest.now number g.number same_walls same_rest same_number r in
    let tag_now = tag ∙ ap (λ (l : List ℕ). take (length input - length l) input) (sym same_rest) in
    let long : length g.rest.now ≡ length rest = ap length same_rest in
    let stops_now = subst (λ (ws : List (List ℕ)). StopsAt rules ws (whole_lines g.rest.now)) (sym same_walls) (subst (λ (l : List ℕ). StopsAt rules walls (whole_lines l)) (sym same_rest) stops) in
    walled-as g rules input first others same tag_now now start
    (fits-as g rules input first others same tag_now now start shortest most fits (omega (arith, long, within)) (omega (arith, long, same_number, count)) less) stops_now

-- What is founded.
module _ (g : Read) (rules : Rules) (first others input : List ℕ) (lines : whole_lines input ≡ first ∷ whole_lines others)
    (form : form_of first ≡ Header rules) (w : IsWalled g rules first others) where
  base-of : base_of input ≡ with_a_wall g.walls.items (base_meant g)
  base-of =
      ap base_in lines ∙ ap (λ (f : ArrivalForm). after_header_line f first (whole_lines others)) form ∙ ap (λ (b : Base). with_a_wall b.setting.walls b) w.is

  with-some : (walls : List (List ℕ)) (b : Base) (many : ℕ) → (many == 0) ≡ false → many ≡ length walls → (with_a_wall walls b ≡ Some b) × (1 ≤ length walls)
  with-some [] b many some is = absurd (none many some is)
    where
      none : (n : ℕ) → (n == 0) ≡ false → n ≡ 0 → ⊥
      none n p q = grind (arith, nat_tests, p, q)
  with-some (wall ∷ walls) b many some is = (refl, omega arith)

  pub founds-game : (many : ℕ) → (many == 0) ≡ false → many ≡ length g.walls.items → unfinished input ≡ unfinished others → IsBase g input
  founds-game many some is unread =
      let has = with-some g.walls.items (base_meant g) many some is in
      record { fit = w.fit; some = has.1; is = base-of ∙ has.0; unread = unread ∙ w.unread }

  headed : unfinished input ≡ unfinished others → input_of input ≡ intake_from (intake_with_walls rules []) 2 (whole_lines others) (unfinished others)
  unfolding arrives header_arrives
  headed unread =
      ap (λ (ls : List (List ℕ)). intake_from nothing_read 1 ls (unfinished input)) lines
      ∙ ap (λ (rest : List ℕ). intake_from nothing_read 1 (first ∷ whole_lines others) rest) unread
      ∙ ap (λ (f : ArrivalForm). intake_on (first_line nothing_read f) (λ next. intake_from next 2 (whole_lines others) (unfinished others)) nothing_read 1) form

  ends-at : (texts : List (List ℕ)) (rest : List ℕ) → StopsAt rules [] texts → (intake_from (intake_with_walls rules []) 2 texts rest).ending ≡ end_without texts rest
  ends-at [] [] stops = refl
  ends-at [] (byte ∷ bytes) stops = refl
  ends-at (text ∷ texts) rest stops =
      ap (λ (arrival : Arrival). (intake_on arrival (λ next. intake_from next 3 texts rest) (intake_with_walls rules []) 2).ending)
      (⊎_elim (λ other. arrives-alone rules text other) (λ bad. bad) stops)

  pub founds-nothing : (end : End) → g.walls.items ≡ [] → unfinished input ≡ unfinished others → ending end ≡ end_without (whole_lines g.rest.now)
      (unfinished g.rest.now) → (base_of input ≡ None) × ((input_of input).ending ≡ ending end)
  founds-nothing end none unread is =
      let two : g.number ≡ 2 = w.number ∙ ap (λ (ws : List (List ℕ)). 2 + length ws) none in
      let stops = subst (λ (ws : List (List ℕ)). StopsAt rules ws (whole_lines g.rest.now)) none w.stops in
      let heard = headed unread ∙ w.heard ∙ ap (λ (ws : List (List ℕ)). intake_from (intake_with_walls rules ws) g.number (whole_lines g.rest.now) (unfinished g.rest.now)) none
      ∙ ap (λ (n : ℕ). intake_from (intake_with_walls rules []) n (whole_lines g.rest.now) (unfinished g.rest.now)) two in (
        base-of ∙ ap (λ (ws : List (List ℕ)). with_a_wall ws (base_meant g)) none,
        ap (λ (i : Input). i.ending) heard ∙ ends-at (whole_lines g.rest.now) (unfinished g.rest.now) stops ∙ sym is,
      )

-- After a header and no wall nothing may stand.
end-at : (rest : List ℕ) (e : Ending) → ((reading : Intake) → at_end reading 2 rest ≡ record { reading = reading; ending = e }) → e ≡ end_without [] rest
end-at [] e h = sym (ap (λ (i : Input). i.ending) (h nothing_read))
end-at (byte ∷ bytes) e h = sym (ap (λ (i : Input). i.ending) (h nothing_read))

pub end-none : (rest : List ℕ) (e : Ending) → HasNoLine rest → ((reading : Intake) → at_end reading 2 rest ≡ record { reading = reading; ending = e })
    → e ≡ end_without (whole_lines rest) (unfinished rest)
end-none rest e none h = end-at rest e h ∙ ap (end_without []) (sym none.ending) ∙ ap (λ (lines : List (List ℕ)). end_without lines (unfinished rest)) (sym none.lines)

-- A first line that is no header founds nothing.
no-header-form : (form : Form) (line : List ℕ) (texts : List (List ℕ)) → ((rules : Rules) → form ≡ forms.Header rules → ⊥) →
    (after_header_line (meaning form) line texts ≡ None) × (first_line nothing_read (meaning form) ≡ Bad)
no-header-form (forms.Header rules) line texts h = absurd (h rules refl)
no-header-form (forms.Wall tiles) line texts h = (refl, refl)
no-header-form (forms.Sit text) line texts h = (refl, refl)
no-header-form (forms.Say seat text) line texts h = (refl, refl)
no-header-form (forms.Leave seat) line texts h = (refl, refl)
no-header-form (forms.Expire window t1 t2) line texts h = (refl, refl)
no-header-form forms.NoForm line texts h = (refl, refl)

pub no-header : (form : Form) (input line others : List ℕ) → ((rules : Rules) → form ≡ forms.Header rules → ⊥) → meaning form ≡ form_of line → whole_lines input ≡ line ∷ whole_lines others →
    (base_of input ≡ None) × ((input_of input).ending ≡ BadAt 1)
unfolding arrives
no-header form input line others other e lines =
    let none = no-header-form form line (whole_lines others) other in (
      ap base_in lines ∙ ap (λ (f : ArrivalForm). after_header_line f line (whole_lines others)) (sym e) ∙ none.0,
      ap (λ (i : Input). i.ending)
          (ap (λ (ls : List (List ℕ)). intake_from nothing_read 1 ls (unfinished input)) lines
          ∙ ap (λ (f : ArrivalForm). intake_on (first_line nothing_read f) (λ next. intake_from next 2 (whole_lines others) (unfinished input)) nothing_read 1) (sym e)
          ∙ ap (λ (arrival : Arrival). intake_on arrival (λ next. intake_from next 2 (whole_lines others) (unfinished input)) nothing_read 1) none.1),
    )

pub founded-as : (result : Result Founded AllocError) (founded : Founded) (input : List ℕ) → result ≡ Ok founded → IsFounded founded input → IfOk result (λ f. IsFounded f input)
founded-as result founded input is h = subst (λ (r : Result Founded AllocError). IfOk r (λ f. IsFounded f input)) (sym is) h
