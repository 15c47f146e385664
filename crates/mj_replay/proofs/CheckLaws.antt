-- The steps of a check, said of plain lists.
use Rattle.std.proofs.Common.{◌≡◌, ℕ, ◌+◌, ◌-◌, ◌≤◌, ◌<◌, List, [], ◌∷◌, ◌++◌, Bool, true, false, refl, ap, sym, ◌∙◌, subst, length, arith, append_assoc, append-nil, take, suc}
use Rattle.std.specs.Prelude.{Some, None, option_to_list, if◌then◌else◌, ◌==◌, ◌&&◌, nat_le, bytes_eq, codes, flat_map}
use Rattle.std.specs.List.{list_all}
use Rattle.std.proofs.lemmas.Bool.{false≢true, le-leb, ltb-true}
use Rattle.std.proofs.lemmas.Bool.Decides.{Decides-eqb}
use Rattle.std.specs.Prelude.{ℤ}
use Rattle.std.proofs.Math.Seq.{take-append_seam}
use Rattle.std.proofs.lemmas.List.{length-append}
use Rattle.std.proofs.lemmas.Grind.{flat_map-append}
use Rattle.std.proofs.lemmas.List.Folds.{list_all-append}
use Rattle.mj_bytes.specs.Parts.{has_byte, whole_lines, unfinished, behind, BeginsWithLine, HasNoLine}
use Rattle.mj_bytes.proofs.PartLaws.{has_byte-at, whole_lines-at}
use Rattle.mj_deeds.specs.declared.deed.Deed.{Deed}
use Rattle.mj_deeds.specs.Facts.{newest}
use Rattle.mj_deeds.specs.Points.{points, deposits}
use Rattle.mj_deeds.proofs.Newest.{newest_more}
use Rattle.mj_deeds.specs.declared.deed.Viewer.TheVariants.{Record}
use Rattle.mj_wall.specs.declared.setting.Rules.{Rules}
use Rattle.mj_wall.specs.Places.{is_wall}
use Rattle.mj_rules.specs.Played.{IsPlayed}
use Rattle.mj_rules.proofs.Playing.{each_is_wall}
use Rattle.mj_rules.proofs.Lengths.{few_deeds}
use Rattle.mj_table.specs.Plays.{Play}
use Rattle.mj_forms.specs.Lines.{line}
use Rattle.mj_forms.specs.Headers.{header_line, wall_line}
use Rattle.mj_history.specs.Records.{are_rules, are_walls, are_first_walls, Fault, WallFault, CutFault, Before, Nothing, Lines}
use Rattle.mj_history.specs.Records.{AreLines, needs_wall, IsNextWall, BreaksByWall, LineBreaks, EndBreaks, Breaks, IsNoRecord}
use Rattle.mj_forms.specs.RecordTexts.{record_text}
use Rattle.mj_runs.specs.declared.cause.Cause.{Cause}
use Rattle.mj_runs.specs.declared.cause.Cause.TheVariants as causes
use Rattle.mj_replay.specs.declared.checking.Checked.{Checked}
use Rattle.mj_replay.specs.declared.checking.Checked.TheVariants.{Good, Bad, NoMemory}
use Rattle.mj_replay.specs.declared.checking.Summary.{Summary as Said}
use Rattle.mj_history.specs.Told.{Summary}
use Rattle.mj_replay.specs.Checks.{fault_of, summary_said, Tells, IsRecordOf}
use Rattle.mj_records.specs.Settings.{IsHeader, IsNoHeader}
use Rattle.mj_records.specs.Usual.{BeginsWithAct}
use Rattle.mj_records.specs.declared.usual.Act.{Act}
use Rattle.mj_replay.specs.Inner.Steps.{cause_at_end, BeginsWithWhole, IsNext, IsNoNext, IsOfAct, NoneNeeded, Follows, FollowsOr, IsList, TellsKept}
use Rattle.mj_records.proofs.SettingLaws.{behind-is, bytes-same}

not_empty : (n : ℕ) → (suc n == 0) ≡ true → ⊥
not_empty n h = let e : suc n ≡ 0 = (Decides-eqb (suc n) 0).0 h in absurd (omega (arith, e))

-- which lines must be walls
pub needs_first : (walls : List (List ℕ)) (text : List ℕ) → (length walls == 0) ≡ true → true ≡ needs_wall walls [] text
needs_first [] text h = refl
needs_first (wall ∷ walls) text h = absurd (not_empty (length walls) h)

pub needs_by : (walls : List (List ℕ)) (first rest : List ℕ) → (length walls == 0) ≡ false → Some rest ≡ behind (codes "wall") first → true ≡ needs_wall walls [] (first ++ 10 ∷ [])
needs_by [] first rest n h = cc n
needs_by (wall ∷ walls) first rest n h = rw (behind-is (codes "wall") first rest h) refl

begun : (first : List ℕ) → take 4 (first ++ 10 ∷ []) ≡ codes "wall" → None ≡ behind (codes "wall") first → ⊥
begun [] e h = cc e
begun (a ∷ []) e h = cc e
begun (a ∷ b ∷ []) e h = cc e
begun (a ∷ b ∷ c ∷ []) e h = cc e
begun (a ∷ b ∷ c ∷ d ∷ rest) e h =
    let same : a ∷ b ∷ c ∷ d ∷ [] ≡ codes "wall" = e in
    let none : None ≡ behind (codes "wall") (codes "wall" ++ rest) = h ∙ ap (λ xs. behind (codes "wall") (xs ++ rest)) same in
    cc none

pub needs_not : (walls : List (List ℕ)) (first : List ℕ) → (length walls == 0) ≡ false → None ≡ behind (codes "wall") first → false ≡ needs_wall walls [] (first ++ 10 ∷ [])
needs_not [] first n h = cc n
needs_not (wall ∷ walls) first n h = by_test (bytes_eq (take 4 (first ++ 10 ∷ [])) (codes "wall")) refl
  where
    by_test : (t : Bool) → bytes_eq (take 4 (first ++ 10 ∷ [])) (codes "wall") ≡ t → false ≡ bytes_eq (take 4 (first ++ 10 ∷ [])) (codes "wall")
    by_test true e = absurd (begun first (bytes-same _ _ e) h)
    by_test false e = sym e

pub ruleset wall_needs = (needs_first, needs_by, needs_not)

-- a text that ends, and one whose first line is bad
ends_by : (before : Before) (rest : List ℕ) (cause : Cause) → EndBreaks before (fault_of cause) → (bytes : List ℕ) → unfinished rest ≡ bytes →
    whole_lines rest ≡ [] → Breaks before (whole_lines rest) (unfinished rest) (fault_of (cause_at_end bytes cause))
ends_by before rest cause h [] u w = rw (u, w) h
ends_by before rest cause h (byte ∷ bytes) u w = rw (u, w) tt

pub ends : (before : Before) (rest : List ℕ) (cause : Cause) → HasNoLine rest → EndBreaks before (fault_of cause) →
    Breaks before (whole_lines rest) (unfinished rest) (fault_of (cause_at_end rest cause))
ends before rest cause n h = ends_by before rest cause h rest n.ending n.lines

breaks_at : (before : Before) (rest first others : List ℕ) (fault : Fault) → BeginsWithLine rest first others → LineBreaks before (first ++ 10 ∷ [])
    fault → Breaks before (whole_lines rest) (unfinished rest) fault
breaks_at before rest first others fault b h = rw b.lines h

-- the header
pub no_header_line : (text : List ℕ) (answer : Checked) (keeps : Bool) (kept : List Deed) → HasNoLine text → answer ≡ Bad 1 (cause_at_end text causes.Header) → TellsKept text answer keeps kept
no_header_line text answer keeps kept n e = rw e (record { before = Nothing; rest = text; sound = tt; is = refl; place = refl; breaks = ends Nothing text causes.Header n tt })

pub bad_header : (text first rest : List ℕ) → BeginsWithLine text first rest → IsNoHeader first → Tells text (Bad 1 causes.Header)
bad_header text first rest b n = record { before = Nothing; rest = text; sound = tt; is = refl; place = refl; breaks = breaks_at Nothing text first rest (fault_of causes.Header) b n }

pub headed : (text first rest : List ℕ) (rules : Rules) (answer : Checked) (keeps : Bool) (kept : List Deed) → BeginsWithLine text first rest →
    IsHeader first rules → TellsKept (header_line rules ++ rest) answer keeps kept → TellsKept text answer keeps kept
headed text first rest rules answer keeps kept b h t =
    subst (λ xs. TellsKept xs answer keeps kept) (ap (λ xs. xs ++ rest) h.is ∙ append_assoc first (10 ∷ []) rest ∙ sym b.parts) t

pub header_fits : (first : List ℕ) (rules : Rules) → IsHeader first rules → are_rules rules ≡ true
header_fits first rules h = h.fits

pub ruleset headers = (no_header_line, bad_header, headed, header_fits)

-- the walls
both : (a b : Bool) → a ≡ true → b ≡ true → (a && b) ≡ true
both true b e f = f
both false b e f = e

pub said_first : (rules : Rules) (text : List ℕ) → header_line rules ++ text ≡ record_text rules [] [] ++ text
unfolding record_text
said_first rules text = ap (λ xs. xs ++ text) (sym (append-nil (header_line rules ++ []) ∙ append-nil (header_line rules)))

record_more : (rules : Rules) (walls : List (List ℕ)) (wall : List ℕ) → record_text rules (walls ++ wall ∷ []) [] ≡ record_text rules walls [] ++ wall_line wall
unfolding record_text
record_more rules walls wall =
    append-nil (header_line rules ++ flat_map wall_line (walls ++ wall ∷ []))
    ∙ ap (λ xs. header_line rules ++ xs) (flat_map-append wall_line walls (wall ∷ []) ∙ ap (λ xs. flat_map wall_line walls ++ xs) (append-nil (wall_line wall)))
    ∙ sym (append_assoc (header_line rules) (flat_map wall_line walls) (wall_line wall))
    ∙ ap (λ xs. xs ++ wall_line wall) (sym (append-nil (header_line rules ++ flat_map wall_line walls)))

pub said_wall : (rules : Rules) (walls after : List (List ℕ)) (wall text rest first others : List ℕ) (before : ℕ) →
    header_line rules ++ text ≡ record_text rules walls [] ++ rest → BeginsWithLine rest first others → IsNext rules.red before first wall →
    after ≡ walls ++ wall ∷ [] →
    header_line rules ++ text ≡ record_text rules after [] ++ others
said_wall rules walls after wall text rest first others before said b n a =
    said ∙ ap (λ xs. record_text rules walls [] ++ xs) (b.parts ∙ sym (append_assoc first (10 ∷ []) others)
    ∙ ap (λ xs. xs ++ others) (sym n.wall_is.is)) ∙ sym (append_assoc (record_text rules walls []) (wall_line wall) others)
    ∙ ap (λ xs. xs ++ others) (sym (record_more rules walls wall)) ∙ ap (λ ws. record_text rules ws [] ++ others) (sym a)

pub few_more : (red : Bool) (walls after : List (List ℕ)) (first wall : List ℕ) (before : ℕ) → before ≡ length walls → IsNext red before first wall → after ≡ walls ++ wall ∷ [] → length after ≤ 200
few_more red walls after first wall before e n a =
    let below : before < 200 = n.few in
    let long : length after ≡ length walls + 1 = ap length a ∙ length-append walls (wall ∷ []) in
    omega (arith, below, long, e)

pub whole_more : (red : Bool) (walls after : List (List ℕ)) (first wall : List ℕ) (before : ℕ) → IsNext red before first wall →
    after ≡ walls ++ wall ∷ [] → list_all (is_wall red) walls ≡ true → list_all (is_wall red) after ≡ true
whole_more red walls after first wall before n a h = ap (list_all (is_wall red)) a ∙ list_all-append (is_wall red) walls (wall ∷ [])
    ∙ both (list_all (is_wall red) walls) (is_wall red wall && true) h (both (is_wall red wall) true n.wall_is.whole refl)

few_walls : (walls : List (List ℕ)) → length walls ≤ 200 → nat_le (length walls) 200 ≡ true
few_walls walls h = le-leb (length walls) 200 h

lines_of_walls : (rules : Rules) (walls : List (List ℕ)) → are_rules rules ≡ true → length walls ≤ 200 → list_all (is_wall rules.red) walls ≡ true → AreLines rules walls []
lines_of_walls rules walls r few whole = record { rules_fit = r; walls_fit = both (nat_le (length walls) 200) (list_all (is_wall rules.red) walls) (few_walls walls few) whole; played = tt }

no_next_wall : (rules : Rules) (walls : List (List ℕ)) (first : List ℕ) → IsNoNext rules.red (length walls) first → IsNextWall rules walls (first ++ 10 ∷ []) → ⊥
no_next_wall rules walls first n w = n (ltb-true (length walls) 200 w.few) w.tiles w.fits (sym w.is)

wall_breaks : (needed : Bool) (rules : Rules) (walls : List (List ℕ)) (first : List ℕ) → needed ≡ true → IsNoNext rules.red (length walls) first →
    BreaksByWall needed rules walls [] (first ++ 10 ∷ []) WallFault
wall_breaks true rules walls first e n = no_next_wall rules walls first n
wall_breaks false rules walls first e n = absurd (false≢true e)

pub bad_wall : (rules : Rules) (walls : List (List ℕ)) (text rest first others : List ℕ) (before number : ℕ) (needed : Bool) →
    are_rules rules ≡ true → length walls ≤ 200 → list_all (is_wall rules.red) walls ≡ true → header_line rules ++ text ≡ record_text rules walls []
    ++ rest → BeginsWithLine rest first others →
    needed ≡ needs_wall walls [] (first ++ 10 ∷ []) → needed ≡ true → before ≡ length walls → IsNoNext rules.red before first →
    number ≡ length walls + 2 → Tells (header_line rules ++ text) (Bad number causes.Wall)
bad_wall rules walls text rest first others before number needed r few whole said b nd must e n num = record {
  before = Lines rules walls [];
  rest = rest;
  sound = lines_of_walls rules walls r few whole;
  is = said;
  place = omega (arith, num);
  breaks = breaks_at (Lines rules walls []) rest first others WallFault b (wall_breaks (needs_wall walls [] (first ++ 10 ∷ [])) rules walls first
      (sym nd ∙ must) (subst (λ (n : ℕ). IsNoNext rules.red n first) e n));
}

no_walls : (walls : List (List ℕ)) → (length walls == 0) ≡ true → walls ≡ []
no_walls [] h = refl
no_walls (wall ∷ walls) h = absurd (not_empty (length walls) h)

pub lacks_wall : (rules : Rules) (walls : List (List ℕ)) (text rest : List ℕ) (answer : Checked) (empty keeps : Bool) (kept : List Deed) →
    are_rules rules ≡ true → header_line rules ++ text ≡ record_text rules walls [] ++ rest → HasNoLine rest → empty ≡ (length walls == 0) →
    empty ≡ true → answer ≡ Bad 2 (cause_at_end rest causes.Wall) →
    TellsKept (header_line rules ++ text) answer keeps kept
lacks_wall rules walls text rest answer empty keeps kept r said n e y a =
    let none : walls ≡ [] = no_walls walls (sym e ∙ y) in
    rw a (record {
      before = Lines rules [] [];
      rest = rest;
      sound = lines_of_walls rules [] r (omega arith) refl;
      is = said ∙ ap (λ ws. record_text rules ws [] ++ rest) none;
      place = refl;
      breaks = ends (Lines rules [] []) rest causes.Wall n tt;
    })

pub some_walls : (walls : List (List ℕ)) (first : List ℕ) (needed : Bool) → needed ≡ needs_wall walls [] (first ++ 10 ∷ []) → needed ≡ false → 1 ≤ length walls
some_walls [] first needed e n = absurd (false≢true (sym n ∙ e))
some_walls (wall ∷ walls) first needed e n = omega arith

one_line : (text a b c d : List ℕ) → BeginsWithLine text a b → text ≡ c ++ 10 ∷ d → has_byte 10 c ≡ false → c ≡ a
one_line text a b c d h e n =
    let same : a ∷ whole_lines b ≡ c ∷ whole_lines d = sym h.lines ∙ ap whole_lines e ∙ whole_lines-at c d n in cc same

pub none_needed : (walls : List (List ℕ)) (rest first others : List ℕ) (needed : Bool) → BeginsWithLine rest first others →
    needed ≡ needs_wall walls [] (first ++ 10 ∷ []) → needed ≡ false → NoneNeeded walls [] rest
none_needed walls rest first others needed b e n one more is plain = rw (one_line rest first others one more b is plain) (sym e ∙ n)

pub none_left : (walls : List (List ℕ)) (deeds : List Deed) (rest : List ℕ) → HasNoLine rest → NoneNeeded walls deeds rest
none_left walls deeds rest n one more is plain = absurd (false≢true (sym n.plain ∙ ap (has_byte 10) is ∙ has_byte-at 10 one more))

pub tells_from : (rules : Rules) (walls : List (List ℕ)) (text rest : List ℕ) (answer : Checked) (keeps : Bool) (kept : List Deed) →
    header_line rules ++ text ≡ record_text rules walls [] ++ rest → TellsKept (record_text rules walls [] ++ rest) answer keeps kept →
    TellsKept (header_line rules ++ text) answer keeps kept
tells_from rules walls text rest answer keeps kept said t = subst (λ xs. TellsKept xs answer keeps kept) (sym said) t

-- the deeds
pub record InPlay (rules : Rules) (walls : List (List ℕ)) (text rest : List ℕ) (play : Play) (number : ℕ) : Type 0 where
  pub said : record_text rules walls [] ++ text ≡ record_text rules walls play.deeds ++ rest
  pub rules_are : play.rules ≡ rules
  pub played : IsPlayed rules walls play.deeds
  pub count : number ≡ length play.deeds
  pub other : NoneNeeded walls play.deeds rest

deed_more : (rules : Rules) (walls : List (List ℕ)) (deeds : List Deed) (deed : Deed) → record_text rules walls (deeds ++ deed ∷ []) ≡ record_text rules walls deeds ++ line Record deed
unfolding record_text
deed_more rules walls deeds deed =
    ap (λ xs. header_line rules ++ flat_map wall_line walls ++ xs) (flat_map-append (line Record) deeds (deed ∷ []) ∙ ap (λ xs. flat_map (line Record) deeds ++ xs) (append-nil (line Record deed)))
    ∙ sym (append_assoc (header_line rules ++ flat_map wall_line walls) (flat_map (line Record) deeds) (line Record deed))

whole_line : (rest first others : List ℕ) → rest ≡ first ++ 10 ∷ others → take (length first + 1) rest ≡ first ++ 10 ∷ []
whole_line rest first others e =
    ap (take (length first + 1)) (e ∙ sym (append_assoc first (10 ∷ []) others)) ∙ ap (λ n. take n (first ++ 10 ∷ [] ++ others))
    (sym (length-append first (10 ∷ []))) ∙ take-append_seam (first ++ 10 ∷ []) others

pub whole_first : (text front rest : List ℕ) (many : ℕ) → BeginsWithLine text front rest → many ≡ length front + 1 → BeginsWithWhole text (take many text) rest
whole_first text front rest many b e = record { front = front; begins = b; is = ap (λ n. take n text) e ∙ whole_line text front rest b.parts }

act_many : (text front rest : List ℕ) → text ≡ front ++ 10 ∷ rest → length text - length rest ≡ length front + 1
act_many text front rest e = let long : length text ≡ length front + suc (length rest) = ap length e ∙ length-append front (10 ∷ rest) in omega (arith, long)

act_first : (text rest : List ℕ) (act : Act) (many : ℕ) → (b : BeginsWithAct text act rest) → many ≡ length text - length rest → take many text ≡ b.front ++ 10 ∷ []
act_first text rest act many b e = ap (λ n. take n text) (e ∙ act_many text b.front rest b.begins.parts) ∙ whole_line text b.front rest b.begins.parts

pub act_begins : (text rest : List ℕ) (act : Act) (many : ℕ) → BeginsWithAct text act rest → many ≡ length text - length rest → BeginsWithWhole text (take many text) rest
act_begins text rest act many b e = record { front = b.front; begins = b.begins; is = act_first text rest act many b e }

pub act_line : (text rest : List ℕ) (act : Act) (many : ℕ) → BeginsWithAct text act rest → many ≡ length text - length rest → IsOfAct (take many text) act
act_line text rest act many b e = subst (λ (xs : List ℕ). IsOfAct xs act) (sym (act_first text rest act many b e)) (record { line_of = b.line_of; read = b.read })

after_walls : (walls : List (List ℕ)) (deeds : List Deed) (deed : Deed) (text : List ℕ) → 1 ≤ length walls → needs_wall walls (deeds ++ deed ∷ []) text ≡ false
after_walls [] deeds deed text h = absurd (omega (arith, h))
after_walls (wall ∷ walls) [] deed text h = refl
after_walls (wall ∷ walls) (first ∷ deeds) deed text h = refl

pub play_begins : (rules : Rules) (walls : List (List ℕ)) (text : List ℕ) (play : Play) → play ≡ record { rules = rules; deeds = [] } → NoneNeeded walls [] text → InPlay rules walls text text play 0
play_begins rules walls text play e n = rw e (record { said = refl; rules_are = refl; played = tt; count = refl; other = n })

pub play_goes_on : (rules : Rules) (walls : List (List ℕ)) (text rest others told : List ℕ) (before after : Play) (number : ℕ) →
    1 ≤ length walls → InPlay rules walls text rest before number → BeginsWithWhole rest told others → Follows walls before after told →
    InPlay rules walls text others after (number + 1)
play_goes_on rules walls text rest others told before after number some p b f =
    let first = b.front in
    let deeds : after.deeds ≡ before.deeds ++ f.deed ∷ [] = ap (λ (x : Play). x.deeds) f.more in
    let is : line Record f.deed ≡ first ++ 10 ∷ [] = f.line_is ∙ b.is in
    record {
      said =
          p.said ∙ ap (λ xs. record_text rules walls before.deeds ++ xs) (b.begins.parts ∙ sym (append_assoc first (10 ∷ []) others) ∙ ap (λ xs. xs ++ others) (sym is))
          ∙ sym (append_assoc (record_text rules walls before.deeds) (line Record f.deed) others)
          ∙ ap (λ xs. xs ++ others) (sym (deed_more rules walls before.deeds f.deed)) ∙ ap (λ ds. record_text rules walls ds ++ others) (sym deeds);
      rules_are = ap (λ (x : Play). x.rules) f.more ∙ p.rules_are;
      played = subst (λ (r : Rules). IsPlayed r walls after.deeds) p.rules_are f.played;
      count = ap (λ n. n + 1) p.count ∙ sym (ap length deeds ∙ length-append before.deeds (f.deed ∷ []));
      other = λ one more e plain. ap (λ ds. needs_wall walls ds (one ++ 10 ∷ [])) deeds ∙ after_walls walls before.deeds f.deed (one ++ 10 ∷ []) some;
    }

pub few_played : (rules : Rules) (walls : List (List ℕ)) (text rest : List ℕ) (play : Play) (number : ℕ) → 1 ≤ length walls →
    list_all (is_wall rules.red) walls ≡ true → InPlay rules walls text rest play number → number ≤ 60002
few_played rules walls text rest play number some whole p =
    let few = (few_deeds rules walls play.deeds (each_is_wall rules.red walls some whole) p.played).1 in
    omega (arith, few, p.count)

all_walls : (rules : Rules) (walls : List (List ℕ)) → 1 ≤ length walls → length walls ≤ 200 → list_all (is_wall rules.red) walls ≡ true → are_walls rules walls ≡ true
all_walls rules walls some few whole =
    let least : nat_le 1 (length walls) ≡ true = le-leb 1 (length walls) some in
    both (nat_le 1 (length walls) && nat_le (length walls) 200) (list_all (is_wall rules.red) walls) (both (nat_le 1 (length walls)) (nat_le (length walls) 200) least (few_walls walls few)) whole

first_walls : (rules : Rules) (walls : List (List ℕ)) (deeds : List Deed) → 1 ≤ length walls → length walls ≤ 200 → list_all (is_wall rules.red) walls ≡ true → are_first_walls rules walls deeds ≡ true
first_walls rules walls [] some few whole = both (nat_le (length walls) 200) (list_all (is_wall rules.red) walls) (few_walls walls few) whole
first_walls rules walls (deed ∷ deeds) some few whole = all_walls rules walls some few whole

pub record Walled (rules : Rules) (walls : List (List ℕ)) : Type 0 where
  pub rules_fit : are_rules rules ≡ true
  pub some : 1 ≤ length walls
  pub few : length walls ≤ 200
  pub whole : list_all (is_wall rules.red) walls ≡ true

no_record : (rules : Rules) (walls : List (List ℕ)) (text rest : List ℕ) (play : Play) (number first : ℕ) (fault : Fault) → Walled rules walls →
    InPlay rules walls text rest play number → first ≡ length walls + 2 → Breaks (Lines rules walls play.deeds) (whole_lines rest) (unfinished rest)
    fault →
    IsNoRecord (record_text rules walls [] ++ text) (first + number) fault
no_record rules walls text rest play number first fault w p f breaks = record {
  before = Lines rules walls play.deeds;
  rest = rest;
  sound = record { rules_fit = w.rules_fit; walls_fit = first_walls rules walls play.deeds w.some w.few w.whole; played = p.played };
  is = p.said;
  place = omega (arith, p.count, f);
  breaks = breaks;
}

line_breaks : (needed : Bool) (rules : Rules) (walls : List (List ℕ)) (before after : Play) (told : List ℕ) (cause : Cause) → before.rules ≡ rules →
    needed ≡ false → FollowsOr (Some cause) walls before after told → BreaksByWall needed rules walls before.deeds told (fault_of cause)
line_breaks true rules walls before after told cause r n f = absurd (false≢true (sym n))
line_breaks false rules walls before after told causes.Line r n f = f
line_breaks false rules walls before after told causes.Next r n f = subst (λ (x : Rules). BreaksByWall false x walls before.deeds told (fault_of causes.Next)) r f
line_breaks false rules walls before after told causes.Header r n f = absurd f
line_breaks false rules walls before after told causes.Wall r n f = absurd f
line_breaks false rules walls before after told causes.Cut r n f = absurd f

pub bad_deed : (rules : Rules) (walls : List (List ℕ)) (text rest others told : List ℕ) (before after : Play) (number first : ℕ) (cause : Cause) →
    Walled rules walls → InPlay rules walls text rest before number → first ≡ length walls + 2 → BeginsWithWhole rest told others →
    FollowsOr (Some cause) walls before after told → Tells (record_text rules walls [] ++ text) (Bad (first + number) cause)
bad_deed rules walls text rest others told before after number first cause w p f b broken =
    let one = b.front in
    no_record rules walls text rest before number first (fault_of cause) w p f
    (breaks_at (Lines rules walls before.deeds) rest one others (fault_of cause) b.begins
    (line_breaks (needs_wall walls before.deeds (one ++ 10 ∷ [])) rules walls before after (one ++ 10 ∷ []) cause p.rules_are
    (p.other one others b.begins.parts b.begins.plain) (subst (λ xs. FollowsOr (Some cause) walls before after xs) b.is broken)))

cut_breaks : (before : Before) (rest : List ℕ) → HasNoLine rest → (length rest == 0) ≡ false → Breaks before (whole_lines rest) (unfinished rest) CutFault
cut_breaks before rest n some = by_rest rest n.ending n.lines some
  where
    by_rest : (bytes : List ℕ) → unfinished rest ≡ bytes → whole_lines rest ≡ [] → (length bytes == 0) ≡ false → Breaks before (whole_lines rest) (unfinished rest) CutFault
    by_rest [] u w some = cc some
    by_rest (byte ∷ bytes) u w some = rw (u, w) tt

pub cut : (rules : Rules) (walls : List (List ℕ)) (text rest : List ℕ) (play : Play) (number first : ℕ) (empty : Bool) → Walled rules walls →
    InPlay rules walls text rest play number → first ≡ length walls + 2 → HasNoLine rest → empty ≡ (length rest == 0) → empty ≡ false →
    Tells (record_text rules walls [] ++ text) (Bad (first + number) causes.Cut)
cut rules walls text rest play number first empty w p f n e some = no_record rules walls text rest play number first CutFault w p f (cut_breaks (Lines rules walls play.deeds) rest n (sym e ∙ some))

pub good : (rules : Rules) (walls : List (List ℕ)) (text rest : List ℕ) (play : Play) (number deposits_are : ℕ) (points_are : List ℤ)
    (empty keeps : Bool) (kept : List Deed) → Walled rules walls → InPlay rules walls text rest play number → IsList keeps kept play.deeds →
    empty ≡ (length rest == 0) → empty ≡ true →
    points_are ≡ points play.deeds → deposits_are ≡ deposits play.deeds → TellsKept (record_text rules walls [] ++ text)
    (Good (record { deeds = number; points = points_are; deposits = deposits_are })) keeps kept
good rules walls text rest play number deposits_are points_are empty keeps kept w p k e y pe de =
    let none : rest ≡ [] = no_bytes rest (sym e ∙ y) in
    record {
      record_is = record {
        rules = rules;
        walls = walls;
        deeds = play.deeds;
        rules_fit = w.rules_fit;
        walls_fit = all_walls rules walls w.some w.few w.whole;
        played = p.played;
        is = p.said ∙ ap (λ xs. record_text rules walls play.deeds ++ xs) none ∙ append-nil (record_text rules walls play.deeds);
        comes_to = rw (p.count, pe, de) refl;
      };
      kept_are = k;
    }
  where
    no_bytes : (bytes : List ℕ) → (length bytes == 0) ≡ true → bytes ≡ []
    no_bytes [] h = refl
    no_bytes (byte ∷ bytes) h = absurd (not_empty (length bytes) h)

-- the deeds that are kept, one further
pub list_more : (keeps : Bool) (walls : List (List ℕ)) (before after : Play) (told : List ℕ) (kept more : List Deed) → IsList keeps kept before.deeds → Follows walls before after told →
    more ≡ kept ++ (if keeps then option_to_list (newest after.deeds) else []) → IsList keeps more after.deeds
list_more false walls before after told kept more k f m = tt
list_more true walls before after told kept more k f m =
    let deeds : after.deeds ≡ before.deeds ++ f.deed ∷ [] = ap (λ (x : Play). x.deeds) f.more in
    let new : newest after.deeds ≡ Some f.deed = ap newest deeds ∙ newest_more before.deeds f.deed in
    m ∙ (λ i. k i ++ option_to_list (new i)) ∙ sym deeds

pub nothing_kept : (keeps : Bool) (kept : List Deed) (play : Play) (rules : Rules) → kept ≡ [] → play ≡ record { rules = rules; deeds = [] } → IsList keeps kept play.deeds
nothing_kept false kept play rules k p = tt
nothing_kept true kept play rules k p = k ∙ sym (ap (λ (x : Play). x.deeds) p)

-- what is said of a record whose deeds are kept is said of it
pub told_kept : (text : List ℕ) (answer : Checked) (keeps : Bool) (kept : List Deed) → TellsKept text answer keeps kept → Tells text answer
told_kept text (Good said) keeps kept h = h.record_is
told_kept text (Bad number cause) keeps kept h = h
told_kept text NoMemory keeps kept h = tt

pub told_played : (text : List ℕ) (said : Said) (kept : List Deed) → TellsKept text (Good said) true kept → IsRecordOf text kept
told_played text said kept h = record { summary = summary_said said; record_is = h.record_is; deeds_are = sym h.kept_are }

pub kept_few : (text : List ℕ) (said : Said) (kept : List Deed) → TellsKept text (Good said) true kept → length kept ≡ said.deeds
kept_few text said kept h = ap length h.kept_are ∙ sym (ap (λ (s : Summary). s.deeds) h.record_is.comes_to)
