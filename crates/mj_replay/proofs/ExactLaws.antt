-- What is said of a text as a record is the one thing that can be said of it: two beginnings of one text go line by line.
use Rattle.std.proofs.Common.{◌≡◌, ℕ, suc, ◌+◌, ◌<◌, ◌≤◌, List, [], ◌∷◌, ◌++◌, Bool, true, false, refl, ap, sym, ◌∙◌, subst, length, take, arith, append_assoc, append-nil}
use Rattle.std.specs.Prelude.{◌&&◌, nat_le, bytes_eq, codes, flat_map}
use Rattle.std.specs.List.{list_all}
use Rattle.std.proofs.lemmas.Bool.{false≢true, and_from, and_parts, leb-true, lt-ltb}
use Rattle.std.proofs.lemmas.Bool.Decides.{Decides-eqb}
use Rattle.std.proofs.lemmas.List.{length-append}
use Rattle.mj_bytes.specs.Parts.{has_byte, whole_lines, unfinished}
use Rattle.mj_bytes.proofs.PartLaws.{has_byte-head, whole_lines-at}
use Rattle.mj_deeds.specs.declared.deed.Deed.{Deed}
use Rattle.mj_deeds.specs.declared.deed.Deed.TheVariants.{StartGame, StartHand, Draw, Discard, Chi, Pon, OpenKan, ClosedKan, AddedKan, Dora, Reach, ReachAccepted, Win, DrawnHand, EndHand, EndGame}
use Rattle.mj_deeds.specs.declared.deed.Viewer.TheVariants.{Record}
use Rattle.mj_wall.specs.declared.setting.Rules.{Rules}
use Rattle.mj_wall.specs.Places.{is_wall}
use Rattle.mj_rules.specs.Outcome.{wall_of, outcome}
use Rattle.mj_rules.specs.Played.{IsPlayedBehind, AllPlayed, IsPlayed}
use Rattle.mj_rules.proofs.Playing.{each_is_wall, played_more}
use Rattle.mj_forms.specs.Lines.{line, start_game_line, start_hand_line, draw_line, discard_line, call_object, closed_kan_line, added_kan_line}
use Rattle.mj_forms.specs.Lines.{dora_line, reach_line, reach_accepted_line, win_line, drawn_hand_line, end_hand_line, end_game_line}
use Rattle.mj_history.specs.Told.{Summary, summary_of, told}
use Rattle.mj_forms.specs.Headers.{header_line, wall_line}
use Rattle.mj_history.specs.Records.{are_rules, are_walls, IsRecord, is_deed, IsLineOf, Fault, HeaderFault, WallFault, LineFault, NextFault, CutFault, Before, Nothing, Lines, text_before}
use Rattle.mj_history.specs.Records.{number_before, are_first_walls, AreLines, IsSound, needs_wall, IsNextWall, BreaksByWall, LineBreaks, EndBreaks, Breaks, IsNoRecord}
use Rattle.mj_forms.specs.RecordTexts.{record_text}
use Rattle.mj_history.proofs.Told.{told_answers_give}
use Rattle.mj_replay.specs.Checks.{AnswersAreExact}
use Rattle.mj_records.specs.Deeds.{deed_in}
use Rattle.mj_records.specs.Laws.{as_read}
use Rattle.mj_replay.proofs.FollowLaws.{same_told, start_is_read}
use Rattle.mj_records.proofs.PlainLaws.{Ended, header_ends, wall_ends, deed_ends}
use Rattle.mj_replay.proofs.PlayedLaws.{played_value}
use Rattle.mj_records.proofs.ReadLaws.{read_deeds_tell_the_same}
use Rattle.mj_records.proofs.SettingLaws.{one_header, one_wall}

-- two texts that begin with a line each
cut_at : (xs ys a b : List ℕ) → has_byte 10 xs ≡ false → has_byte 10 ys ≡ false → xs ++ 10 ∷ a ≡ ys ++ 10 ∷ b → (xs ≡ ys) × (a ≡ b)
cut_at [] [] a b h k e = let same : a ≡ b = cc e in (refl, same)
cut_at [] (y ∷ ys) a b h k e =
    let n = has_byte-head 10 y ys k in
    let same : y ≡ 10 = cc e in
    absurd (false≢true (sym n.0 ∙ (Decides-eqb y 10).1 same))
cut_at (x ∷ xs) [] a b h k e =
    let n = has_byte-head 10 x xs h in
    let same : x ≡ 10 = cc e in
    absurd (false≢true (sym n.0 ∙ (Decides-eqb x 10).1 same))
cut_at (x ∷ xs) (y ∷ ys) a b h k e =
    let first : x ≡ y = cc e in
    let others : xs ++ 10 ∷ a ≡ ys ++ 10 ∷ b = cc e in
    let p = cut_at xs ys a b (has_byte-head 10 x xs h).1 (has_byte-head 10 y ys k).1 others in
    (λ i. first i ∷ p.0 i, p.1)

opened : (text more : List ℕ) → (e : Ended text) → text ++ more ≡ e.body ++ 10 ∷ more
opened text more e = ap (λ xs. xs ++ more) e.is ∙ append_assoc e.body (10 ∷ []) more

cut : (one other a b : List ℕ) → Ended one → Ended other → one ++ a ≡ other ++ b → (one ≡ other) × (a ≡ b)
cut one other a b e f h =
    let p = cut_at e.body f.body a b e.plain f.plain (sym (opened one a e) ∙ h ∙ opened other b f) in
    (e.is ∙ ap (λ xs. xs ++ 10 ∷ []) p.0 ∙ sym f.is, p.1)

no_end : (text more : List ℕ) → Ended text → [] ≡ text ++ more → ⊥
no_end text more e h = by_body e.body (h ∙ opened text more e)
  where
    by_body : (body : List ℕ) → [] ≡ body ++ 10 ∷ more → ⊥
    by_body [] k = cc k
    by_body (x ∷ xs) k = cc k

-- what a deed's line begins with
begins : (deed : Deed) (more : List ℕ) → take 4 (line Record deed ++ more) ≡ codes "{\"ty"
unfolding start_game_line start_hand_line draw_line discard_line call_object closed_kan_line added_kan_line dora_line reach_line reach_accepted_line
    win_line drawn_hand_line end_hand_line end_game_line
begins (StartGame names) more = refl
begins (StartHand round number honba deposits dealer indicator hands) more = refl
begins (Draw seat tile replacement) more = refl
begins (Discard seat tile drawn) more = refl
begins (Chi seat target tile a b) more = refl
begins (Pon seat target tile a b) more = refl
begins (OpenKan seat target tile a b c) more = refl
begins (ClosedKan seat a b c d) more = refl
begins (AddedKan seat tile a b c) more = refl
begins (Dora tile) more = refl
begins (Reach seat) more = refl
begins (ReachAccepted seat points bid) more = refl
begins (Win seat target tile unders hand yaku fu han value deltas points rest) more = refl
begins (DrawnHand reason hands ready deltas points) more = refl
begins EndHand more = refl
begins (EndGame points deposits) more = refl

wall_begins : (tiles more : List ℕ) → take 4 (wall_line tiles ++ more) ≡ codes "wall"
unfolding wall_line
wall_begins tiles more = refl

no_deed_is_wall : (deed : Deed) (tiles a b : List ℕ) → line Record deed ++ a ≡ wall_line tiles ++ b → ⊥
no_deed_is_wall deed tiles a b h = let same : codes "{\"ty" ≡ codes "wall" = sym (begins deed a) ∙ ap (take 4) h ∙ wall_begins tiles b in cc same

deed_needs_none : (walls : List (List ℕ)) (deeds : List Deed) (deed : Deed) → 1 ≤ length walls → needs_wall walls deeds (line Record deed) ≡ false
deed_needs_none [] deeds deed h = absurd (omega (arith, h))
deed_needs_none (wall ∷ walls) [] deed h = ap (λ xs. bytes_eq xs (codes "wall")) (ap (take 4) (sym (append-nil (line Record deed))) ∙ begins deed [])
deed_needs_none (wall ∷ walls) (first ∷ deeds) deed h = refl

wall_needed : (walls : List (List ℕ)) (tiles : List ℕ) → needs_wall walls [] (wall_line tiles) ≡ true
wall_needed [] tiles = refl
wall_needed (wall ∷ walls) tiles = ap (λ xs. bytes_eq xs (codes "wall")) (ap (take 4) (sym (append-nil (wall_line tiles))) ∙ wall_begins tiles [])

-- a line that leads on: the next one of a record
data Next (before : Before) (rest : List ℕ) : Type 0 where
  ByHeader : (rules : Rules) (others : List ℕ) → before ≡ Nothing → are_rules rules ≡ true → rest ≡ header_line rules ++ others → Next before rest
  ByWall : (rules : Rules) (walls : List (List ℕ)) (tiles others : List ℕ) → before ≡ Lines rules walls [] → is_wall rules.red tiles ≡ true →
      length walls < 200 → rest ≡ wall_line tiles ++ others → Next before rest
  ByDeed : (rules : Rules) (walls : List (List ℕ)) (deeds : List Deed) (deed : Deed) (others : List ℕ) → before ≡ Lines rules walls deeds →
      1 ≤ length walls → is_deed deed ≡ true → IsPlayedBehind rules walls deeds deed →
      rest ≡ line Record deed ++ others → Next before rest

next_ends : (before : Before) → Next before [] → ⊥
next_ends before (ByHeader rules others b h e) = no_end (header_line rules) others (header_ends rules h) e
next_ends before (ByWall rules walls tiles others b h few e) = no_end (wall_line tiles) others (wall_ends rules.red tiles h) e
next_ends before (ByDeed rules walls deeds deed others b some h played e) = no_end (line Record deed) others (deed_ends deed h) e

-- it doesn't break the form
broken : (before after : Before) (rest text others : List ℕ) (fault : Fault) → Ended text → before ≡ after → rest ≡ text ++ others →
    Breaks before (whole_lines rest) (unfinished rest) fault → LineBreaks after text fault
broken before after rest text others fault e b r h =
    let lines : whole_lines rest ≡ e.body ∷ whole_lines others = ap whole_lines (r ∙ opened text others e) ∙ whole_lines-at e.body others e.plain in
    let first : LineBreaks before (e.body ++ 10 ∷ []) fault = subst (λ (xs : List (List ℕ)). Breaks before xs (unfinished rest) fault) lines h in
    subst (λ (x : Before). LineBreaks x text fault) b (subst (λ (xs : List ℕ). LineBreaks before xs fault) (sym e.is) first)

header_holds : (rules : Rules) (fault : Fault) → are_rules rules ≡ true → LineBreaks Nothing (header_line rules) fault → ⊥
header_holds rules HeaderFault h b = b rules h refl
header_holds rules WallFault h b = b
header_holds rules LineFault h b = b
header_holds rules NextFault h b = b
header_holds rules CutFault h b = b

wall_holds : (needed : Bool) (rules : Rules) (walls : List (List ℕ)) (text : List ℕ) (fault : Fault) → needed ≡ true → IsNextWall rules walls text → BreaksByWall needed rules walls [] text fault → ⊥
wall_holds false rules walls text fault n w b = false≢true n
wall_holds true rules walls text HeaderFault n w b = b
wall_holds true rules walls text WallFault n w b = b w
wall_holds true rules walls text LineFault n w b = b
wall_holds true rules walls text NextFault n w b = b
wall_holds true rules walls text CutFault n w b = b

deed_holds : (needed : Bool) (rules : Rules) (walls : List (List ℕ)) (deeds : List Deed) (text : List ℕ) (deed : Deed) (fault : Fault) →
    needed ≡ false → IsLineOf text deed → IsPlayedBehind rules walls deeds deed → BreaksByWall needed rules walls deeds text fault → ⊥
deed_holds true rules walls deeds text deed fault n l p b = false≢true (sym n)
deed_holds false rules walls deeds text deed HeaderFault n l p b = b
deed_holds false rules walls deeds text deed WallFault n l p b = b
deed_holds false rules walls deeds text deed LineFault n l p b = b deed l
deed_holds false rules walls deeds text deed NextFault n l p b = b.never deed l p
deed_holds false rules walls deeds text deed CutFault n l p b = b

next_holds : (before : Before) (rest : List ℕ) (fault : Fault) → Next before rest → Breaks before (whole_lines rest) (unfinished rest) fault → ⊥
next_holds before rest fault (ByHeader rules others b h e) k =
    header_holds rules fault h (broken before Nothing rest (header_line rules) others fault (header_ends rules h) b e k)
next_holds before rest fault (ByWall rules walls tiles others b h few e) k =
    wall_holds (needs_wall walls [] (wall_line tiles)) rules walls (wall_line tiles) fault (wall_needed walls tiles) (record {
      tiles = tiles;
      fits = h;
      few = lt-ltb (length walls) 200 few;
      is = refl;
    })
    (broken before (Lines rules walls []) rest (wall_line tiles) others fault (wall_ends rules.red tiles h) b e k)
next_holds before rest fault (ByDeed rules walls deeds deed others b some h played e) k =
    deed_holds (needs_wall walls deeds (line Record deed)) rules walls deeds (line Record deed) deed fault (deed_needs_none walls deeds deed some) (record { fits = h; is = refl }) played
    (broken before (Lines rules walls deeds) rest (line Record deed) others fault (deed_ends deed h) b e k)

-- a text that breaks the form does so in one way
wall_faults : (rules : Rules) (walls : List (List ℕ)) (deeds : List Deed) (text : List ℕ) (fault : Fault) → BreaksByWall true rules walls deeds text fault → fault ≡ WallFault
wall_faults rules walls deeds text HeaderFault b = absurd b
wall_faults rules walls deeds text WallFault b = refl
wall_faults rules walls deeds text LineFault b = absurd b
wall_faults rules walls deeds text NextFault b = absurd b
wall_faults rules walls deeds text CutFault b = absurd b

deed_faults : (rules : Rules) (walls : List (List ℕ)) (deeds : List Deed) (text : List ℕ) (one other : Fault) → BreaksByWall false rules walls deeds
    text one → BreaksByWall false rules walls deeds text other → one ≡ other
deed_faults rules walls deeds text LineFault LineFault b c = refl
deed_faults rules walls deeds text LineFault NextFault b c = absurd (b c.deed c.line_of)
deed_faults rules walls deeds text LineFault HeaderFault b c = absurd c
deed_faults rules walls deeds text LineFault WallFault b c = absurd c
deed_faults rules walls deeds text LineFault CutFault b c = absurd c
deed_faults rules walls deeds text NextFault NextFault b c = refl
deed_faults rules walls deeds text NextFault LineFault b c = absurd (c b.deed b.line_of)
deed_faults rules walls deeds text NextFault HeaderFault b c = absurd c
deed_faults rules walls deeds text NextFault WallFault b c = absurd c
deed_faults rules walls deeds text NextFault CutFault b c = absurd c
deed_faults rules walls deeds text HeaderFault other b c = absurd b
deed_faults rules walls deeds text WallFault other b c = absurd b
deed_faults rules walls deeds text CutFault other b c = absurd b

either_faults : (needed : Bool) (rules : Rules) (walls : List (List ℕ)) (deeds : List Deed) (text : List ℕ) (one other : Fault) →
    BreaksByWall needed rules walls deeds text one → BreaksByWall needed rules walls deeds text other → one ≡ other
either_faults true rules walls deeds text one other b c = wall_faults rules walls deeds text one b ∙ sym (wall_faults rules walls deeds text other c)
either_faults false rules walls deeds text one other b c = deed_faults rules walls deeds text one other b c

header_faults : (text : List ℕ) (fault : Fault) → LineBreaks Nothing text fault → fault ≡ HeaderFault
header_faults text HeaderFault b = refl
header_faults text WallFault b = absurd b
header_faults text LineFault b = absurd b
header_faults text NextFault b = absurd b
header_faults text CutFault b = absurd b

cut_faults : (before : Before) (byte : ℕ) (bytes : List ℕ) (fault : Fault) → Breaks before [] (byte ∷ bytes) fault → fault ≡ CutFault
cut_faults before byte bytes HeaderFault b = absurd b
cut_faults before byte bytes WallFault b = absurd b
cut_faults before byte bytes LineFault b = absurd b
cut_faults before byte bytes NextFault b = absurd b
cut_faults before byte bytes CutFault b = refl

end_of_nothing : (fault : Fault) → EndBreaks Nothing fault → fault ≡ HeaderFault
end_of_nothing HeaderFault b = refl
end_of_nothing WallFault b = absurd b
end_of_nothing LineFault b = absurd b
end_of_nothing NextFault b = absurd b
end_of_nothing CutFault b = absurd b

end_of_header : (rules : Rules) (deeds : List Deed) (fault : Fault) → EndBreaks (Lines rules [] deeds) fault → fault ≡ WallFault
end_of_header rules deeds HeaderFault b = absurd b
end_of_header rules deeds WallFault b = refl
end_of_header rules deeds LineFault b = absurd b
end_of_header rules deeds NextFault b = absurd b
end_of_header rules deeds CutFault b = absurd b

end_of_walls : (rules : Rules) (wall : List ℕ) (walls : List (List ℕ)) (deeds : List Deed) (fault : Fault) → EndBreaks (Lines rules (wall ∷ walls) deeds) fault → ⊥
end_of_walls rules wall walls deeds HeaderFault b = b
end_of_walls rules wall walls deeds WallFault b = b
end_of_walls rules wall walls deeds LineFault b = b
end_of_walls rules wall walls deeds NextFault b = b
end_of_walls rules wall walls deeds CutFault b = b

one_break : (before : Before) (lines : List (List ℕ)) (rest : List ℕ) (one other : Fault) → Breaks before lines rest one → Breaks before lines rest other → one ≡ other
one_break Nothing (text ∷ texts) rest one other b c = header_faults (text ++ 10 ∷ []) one b ∙ sym (header_faults (text ++ 10 ∷ []) other c)
one_break (Lines rules walls deeds) (text ∷ texts) rest one other b c = either_faults (needs_wall walls deeds (text ++ 10 ∷ [])) rules walls deeds (text ++ 10 ∷ []) one other b c
one_break before [] (byte ∷ bytes) one other b c = cut_faults before byte bytes one b ∙ sym (cut_faults before byte bytes other c)
one_break Nothing [] [] one other b c = end_of_nothing one b ∙ sym (end_of_nothing other c)
one_break (Lines rules [] deeds) [] [] one other b c = end_of_header rules deeds one b ∙ sym (end_of_header rules deeds other c)
one_break (Lines rules (wall ∷ walls) deeds) [] [] one other b c = absurd (end_of_walls rules wall walls deeds one b)

-- two beginnings of one text: they are the same, or one leads on
data Compared (one : Before) (rest : List ℕ) (other : Before) (more : List ℕ) : Type 0 where
  Same : one ≡ other → rest ≡ more → Compared one rest other more
  Shorter : Next one rest → Compared one rest other more
  Longer : Next other more → Compared one rest other more

-- the walls
data Walls (red : Bool) (one : List (List ℕ)) (rest : List ℕ) (other : List (List ℕ)) (more : List ℕ) : Type 0 where
  Equal : one ≡ other → rest ≡ more → Walls red one rest other more
  Fewer : (tiles others : List ℕ) (later : List (List ℕ)) → other ≡ one ++ tiles ∷ later → is_wall red tiles ≡ true → rest ≡ wall_line tiles ++ others → Walls red one rest other more
  Further : (tiles others : List ℕ) (later : List (List ℕ)) → one ≡ other ++ tiles ∷ later → is_wall red tiles ≡ true → more ≡ wall_line tiles ++ others → Walls red one rest other more

wall_same : (red : Bool) (one other : List ℕ) → is_wall red one ≡ true → is_wall red other ≡ true → wall_line one ≡ wall_line other → one ≡ other
wall_same red one other h k e = let w = wall_ends red one h in one_wall red w.body one other h k w.is (sym e ∙ w.is)

wall_more : (red : Bool) (x y : List ℕ) (one other : List (List ℕ)) (rest more : List ℕ) → x ≡ y → Walls red one rest other more → Walls red (x ∷ one) rest (y ∷ other) more
wall_more red x y one other rest more e (Equal f g) = Equal (λ i. e i ∷ f i) g
wall_more red x y one other rest more e (Fewer tiles others later f h g) = Fewer tiles others later (λ i. sym e i ∷ f i) h g
wall_more red x y one other rest more e (Further tiles others later f h g) = Further tiles others later (λ i. e i ∷ f i) h g

walls_compared : (red : Bool) (one other : List (List ℕ)) (rest more : List ℕ) → list_all (is_wall red) one ≡ true →
    list_all (is_wall red) other ≡ true → flat_map wall_line one ++ rest ≡ flat_map wall_line other ++ more → Walls red one rest other more
walls_compared red [] [] rest more h k e = Equal refl e
walls_compared red [] (y ∷ other) rest more h k e = Fewer y (flat_map wall_line other ++ more) other refl
    (and_parts (is_wall red y) (list_all (is_wall red) other) k).0 (e ∙ append_assoc (wall_line y) (flat_map wall_line other) more)
walls_compared red (x ∷ one) [] rest more h k e = Further x (flat_map wall_line one ++ rest) one refl
    (and_parts (is_wall red x) (list_all (is_wall red) one) h).0 (sym e ∙ append_assoc (wall_line x) (flat_map wall_line one) rest)
walls_compared red (x ∷ one) (y ∷ other) rest more h k e =
    let p = and_parts (is_wall red x) (list_all (is_wall red) one) h in
    let q = and_parts (is_wall red y) (list_all (is_wall red) other) k in
    let c = cut (wall_line x) (wall_line y) (flat_map wall_line one ++ rest) (flat_map wall_line other ++ more) (wall_ends red x p.0) (wall_ends red y q.0)
    (sym (append_assoc (wall_line x) (flat_map wall_line one) rest) ∙ e ∙ append_assoc (wall_line y) (flat_map wall_line other) more) in
    wall_more red x y one other rest more (wall_same red x y p.0 q.0 c.0) (walls_compared red one other rest more p.1 q.1 c.1)

-- the deeds
deed_same : (rules : Rules) (walls : List (List ℕ)) (before : List Deed) (one other : Deed) → ((number : ℕ) → is_wall rules.red (wall_of walls number) ≡ true) → IsPlayed rules walls before →
    IsPlayedBehind rules walls before one → IsPlayedBehind rules walls before other → line Record one ≡ line Record other → one ≡ other
deed_same rules walls before one other whole played p q e = by_before before played p q (played_value rules walls before one whole played p) (played_value rules walls before other whole played q)
  where
    read : is_deed one ≡ true → is_deed other ≡ true → as_read one ≡ as_read other
    read h k =
        let a = read_deeds_tell_the_same.reads one h in
        let b = read_deeds_tell_the_same.reads other k in
        let c = ap deed_in e in
        cc (a, b, c)

    by_before : (ds : List Deed) → IsPlayed rules walls ds → IsPlayedBehind rules walls ds one → IsPlayedBehind rules walls ds other → is_deed one ≡ true → is_deed other ≡ true → one ≡ other
    by_before [] played p q h k = sym (start_is_read one p).0 ∙ read h k ∙ (start_is_read other q).0
    by_before (first ∷ ds) played p q h k =
        let a = (told_answers_give rules walls (first ∷ ds) one whole played p).gives in
        let b = (told_answers_give rules walls (first ∷ ds) other whole played q).gives in
        let same : told (first ∷ ds) one ≡ told (first ∷ ds) other = sym (same_told (first ∷ ds) (as_read one) one refl) ∙ same_told (first ∷ ds) (as_read one) other (read h k) in
        let c = ap (outcome rules walls (first ∷ ds)) same in
        cc (a, b, c)

record Walled (rules : Rules) (walls : List (List ℕ)) : Type 0 where
  some : 1 ≤ length walls
  whole : (number : ℕ) → is_wall rules.red (wall_of walls number) ≡ true

deeds_compared : (rules : Rules) (walls : List (List ℕ)) (before one other : List Deed) (rest more : List ℕ) → Walled rules walls →
    IsPlayed rules walls before → AllPlayed rules walls before one → AllPlayed rules walls before other →
    flat_map (line Record) one ++ rest ≡ flat_map (line Record) other ++ more → Compared (Lines rules walls (before ++ one)) rest (Lines rules walls (before ++ other)) more
deeds_compared rules walls before [] [] rest more w played p q e = Same refl e
deeds_compared rules walls before [] (y ∷ other) rest more w played p q e =
    Shorter (ByDeed rules walls before y (flat_map (line Record) other ++ more) (ap (Lines rules walls) (append-nil before)) w.some
    (played_value rules walls before y w.whole played q.0) q.0 (e ∙ append_assoc (line Record y) (flat_map (line Record) other) more))
deeds_compared rules walls before (x ∷ one) [] rest more w played p q e =
    Longer (ByDeed rules walls before x (flat_map (line Record) one ++ rest) (ap (Lines rules walls) (append-nil before)) w.some
    (played_value rules walls before x w.whole played p.0) p.0 (sym e ∙ append_assoc (line Record x) (flat_map (line Record) one) rest))
deeds_compared rules walls before (x ∷ one) (y ∷ other) rest more w played p q e =
    let c = cut (line Record x) (line Record y) (flat_map (line Record) one ++ rest) (flat_map (line Record) other ++ more)
    (deed_ends x (played_value rules walls before x w.whole played p.0)) (deed_ends y (played_value rules walls before y w.whole played q.0))
    (sym (append_assoc (line Record x) (flat_map (line Record) one) rest) ∙ e ∙ append_assoc (line Record y) (flat_map (line Record) other) more) in
    let same : x ≡ y = deed_same rules walls before x y w.whole played p.0 q.0 c.0 in
    let others = deeds_compared rules walls (before ++ x ∷ []) one other rest more w (played_more rules walls before x played p.0) p.1
    (subst (λ (d : Deed). AllPlayed rules walls (before ++ d ∷ []) other) (sym same) q.1) c.1 in
    subst (λ (d : Deed). Compared (Lines rules walls (before ++ x ∷ one)) rest (Lines rules walls (before ++ d ∷ other)) more) same
    (subst (λ (ds : List Deed). Compared (Lines rules walls (before ++ x ∷ one)) rest (Lines rules walls ds) more) (append_assoc before (x ∷ []) other)
    (subst (λ (ds : List Deed). Compared (Lines rules walls ds) rest (Lines rules walls (before ++ x ∷ [] ++ other)) more) (append_assoc before (x ∷ []) one) others))

-- the walls and the deeds after one header
record WallParts (rules : Rules) (walls : List (List ℕ)) : Type 0 where
  few : length walls ≤ 200
  whole : list_all (is_wall rules.red) walls ≡ true

wall_parts : (rules : Rules) (walls : List (List ℕ)) (deeds : List Deed) → are_first_walls rules walls deeds ≡ true → WallParts rules walls
wall_parts rules walls [] h = let p = and_parts (nat_le (length walls) 200) (list_all (is_wall rules.red) walls) h in record { few = leb-true (length walls) 200 p.0; whole = p.1 }
wall_parts rules walls (deed ∷ deeds) h =
    let p = and_parts (nat_le 1 (length walls) && nat_le (length walls) 200) (list_all (is_wall rules.red) walls) h in
    record { few = leb-true (length walls) 200 (and_parts (nat_le 1 (length walls)) (nat_le (length walls) 200) p.0).1; whole = p.1 }

walled : (rules : Rules) (walls : List (List ℕ)) → are_walls rules walls ≡ true → Walled rules walls
walled rules walls h =
    let p = and_parts (nat_le 1 (length walls) && nat_le (length walls) 200) (list_all (is_wall rules.red) walls) h in
    let some = leb-true 1 (length walls) (and_parts (nat_le 1 (length walls)) (nat_le (length walls) 200) p.0).0 in
    record { some = some; whole = each_is_wall rules.red walls some p.1 }

same_walls : (rules : Rules) (walls : List (List ℕ)) (one other : List Deed) (rest more : List ℕ) → AreLines rules walls one →
    AreLines rules walls other → flat_map (line Record) one ++ rest ≡ flat_map (line Record) other ++ more →
    Compared (Lines rules walls one) rest (Lines rules walls other) more
same_walls rules walls [] [] rest more s t e = Same refl e
same_walls rules walls [] (y ∷ other) rest more s t e = deeds_compared rules walls [] [] (y ∷ other) rest more (walled rules walls t.walls_fit) tt s.played t.played e
same_walls rules walls (x ∷ one) other rest more s t e = deeds_compared rules walls [] (x ∷ one) other rest more (walled rules walls s.walls_fit) tt s.played t.played e

room : (one other : List (List ℕ)) (tiles : List ℕ) (later : List (List ℕ)) → other ≡ one ++ tiles ∷ later → length other ≤ 200 → length one < 200
room one other tiles later e h =
    let long : length other ≡ length one + suc (length later) = ap length e ∙ length-append one (tiles ∷ later) in
    omega (arith, long, h)

wall_leads : (rules : Rules) (walls : List (List ℕ)) (deeds : List Deed) (rest tiles others : List ℕ) → is_wall rules.red tiles ≡ true →
    length walls < 200 → flat_map (line Record) deeds ++ rest ≡ wall_line tiles ++ others → Next (Lines rules walls deeds) rest
wall_leads rules walls [] rest tiles others h few e = ByWall rules walls tiles others refl h few e
wall_leads rules walls (deed ∷ deeds) rest tiles others h few e =
    absurd (no_deed_is_wall deed tiles (flat_map (line Record) deeds ++ rest) others
    (sym (append_assoc (line Record deed) (flat_map (line Record) deeds) rest) ∙ e))

by_walls : (rules : Rules) (walls others : List (List ℕ)) (one other : List Deed) (rest more : List ℕ) → AreLines rules walls one →
    AreLines rules others other → Walls rules.red walls (flat_map (line Record) one ++ rest) others (flat_map (line Record) other ++ more) →
    Compared (Lines rules walls one) rest (Lines rules others other) more
by_walls rules walls others one other rest more s t (Equal f g) =
    subst (λ (ws : List (List ℕ)). Compared (Lines rules walls one) rest (Lines rules ws other) more) f (same_walls rules walls one other rest more s
    (subst (λ (ws : List (List ℕ)). AreLines rules ws other) (sym f) t) g)
by_walls rules walls others one other rest more s t (Fewer tiles behind later f h g) =
    Shorter (wall_leads rules walls one rest tiles behind h (room walls others tiles later f (wall_parts rules others other t.walls_fit).few) g)
by_walls rules walls others one other rest more s t (Further tiles behind later f h g) =
    Longer (wall_leads rules others other more tiles behind h (room others walls tiles later f (wall_parts rules walls one s.walls_fit).few) g)

said : (rules : Rules) (walls : List (List ℕ)) (deeds : List Deed) (rest : List ℕ) → record_text rules walls deeds ++ rest ≡ header_line rules ++
    (flat_map wall_line walls ++ (flat_map (line Record) deeds ++ rest))
unfolding record_text
said rules walls deeds rest = append_assoc (header_line rules ++ flat_map wall_line walls) (flat_map (line Record) deeds) rest
    ∙ append_assoc (header_line rules) (flat_map wall_line walls) (flat_map (line Record) deeds ++ rest)

header_same : (one other : Rules) → are_rules one ≡ true → are_rules other ≡ true → header_line one ≡ header_line other → one ≡ other
header_same one other h k e = let w = header_ends one h in one_header w.body one other h k w.is (sym e ∙ w.is)

compare : (one : Before) (rest : List ℕ) (other : Before) (more : List ℕ) → IsSound one → IsSound other → text_before one ++ rest ≡ text_before other ++ more → Compared one rest other more
compare Nothing rest Nothing more s t e = Same refl e
compare Nothing rest (Lines rules walls deeds) more s t e =
    Shorter (ByHeader rules (flat_map wall_line walls ++ (flat_map (line Record) deeds ++ more)) refl t.rules_fit (e ∙ said rules walls deeds more))
compare (Lines rules walls deeds) rest Nothing more s t e =
    Longer (ByHeader rules (flat_map wall_line walls ++ (flat_map (line Record) deeds ++ rest)) refl s.rules_fit (sym e
    ∙ said rules walls deeds rest))
compare (Lines rules walls deeds) rest (Lines others tiles acts) more s t e =
    let c = cut (header_line rules) (header_line others) (flat_map wall_line walls ++ (flat_map (line Record) deeds ++ rest))
    (flat_map wall_line tiles ++ (flat_map (line Record) acts ++ more)) (header_ends rules s.rules_fit) (header_ends others t.rules_fit)
    (sym (said rules walls deeds rest) ∙ e ∙ said others tiles acts more) in
    let same : rules ≡ others = header_same rules others s.rules_fit t.rules_fit c.0 in
    let there : AreLines rules tiles acts = subst (λ (r : Rules). AreLines r tiles acts) (sym same) t in
    subst (λ (r : Rules). Compared (Lines rules walls deeds) rest (Lines r tiles acts) more) same
    (by_walls rules walls tiles deeds acts rest more s there
    (walls_compared rules.red walls tiles (flat_map (line Record) deeds ++ rest) (flat_map (line Record) acts ++ more)
    (wall_parts rules walls deeds s.walls_fit).whole (wall_parts rules tiles acts there.walls_fit).whole c.1))

-- a record
first_walls : (rules : Rules) (walls : List (List ℕ)) (deeds : List Deed) → are_walls rules walls ≡ true → are_first_walls rules walls deeds ≡ true
first_walls rules walls [] h =
    let p = and_parts (nat_le 1 (length walls) && nat_le (length walls) 200) (list_all (is_wall rules.red) walls) h in
    and_from (nat_le (length walls) 200) (list_all (is_wall rules.red) walls) (and_parts (nat_le 1 (length walls)) (nat_le (length walls) 200) p.0).1 p.1
first_walls rules walls (deed ∷ deeds) h = h

record_lines : (text : List ℕ) (summary : Summary) → (r : IsRecord text summary) → AreLines r.rules r.walls r.deeds
record_lines text summary r = record { rules_fit = r.rules_fit; walls_fit = first_walls r.rules r.walls r.deeds r.walls_fit; played = r.played }

record_is : (text : List ℕ) (summary : Summary) → (r : IsRecord text summary) → record_text r.rules r.walls r.deeds ++ [] ≡ text
record_is text summary r = append-nil (record_text r.rules r.walls r.deeds) ∙ sym r.is

deeds_of : Before → List Deed
deeds_of Nothing = []
deeds_of (Lines rules walls deeds) = deeds

same_deeds : (rules others : Rules) (walls tiles : List (List ℕ)) (one other : List Deed) → Lines rules walls one ≡ Lines others tiles other → one ≡ other
unfolding deeds_of
same_deeds rules others walls tiles one other e = ap deeds_of e

one_summary : (text : List ℕ) (one other : Summary) → IsRecord text one → IsRecord text other → one ≡ other
one_summary text one other a b =
    by (compare (Lines a.rules a.walls a.deeds) [] (Lines b.rules b.walls b.deeds) [] (record_lines text one a) (record_lines text other b) (record_is text one a ∙ sym (record_is text other b)))
  where
    by : Compared (Lines a.rules a.walls a.deeds) [] (Lines b.rules b.walls b.deeds) [] → one ≡ other
    by (Same e f) = a.comes_to ∙ ap summary_of (same_deeds a.rules b.rules a.walls b.walls a.deeds b.deeds e) ∙ sym b.comes_to
    by (Shorter n) = absurd (next_ends (Lines a.rules a.walls a.deeds) n)
    by (Longer n) = absurd (next_ends (Lines b.rules b.walls b.deeds) n)

no_end_breaks : (rules : Rules) (walls : List (List ℕ)) (deeds : List Deed) (fault : Fault) → 1 ≤ length walls → EndBreaks (Lines rules walls deeds) fault → ⊥
no_end_breaks rules [] deeds fault h b = absurd (omega (arith, h))
no_end_breaks rules (wall ∷ walls) deeds fault h b = end_of_walls rules wall walls deeds fault b

not_both : (text : List ℕ) (summary : Summary) (number : ℕ) (fault : Fault) → IsRecord text summary → IsNoRecord text number fault → ⊥
not_both text summary number fault a b =
    by (compare (Lines a.rules a.walls a.deeds) [] b.before b.rest (record_lines text summary a) b.sound (record_is text summary a ∙ b.is))
  where
    by : Compared (Lines a.rules a.walls a.deeds) [] b.before b.rest → ⊥
    by (Same e f) =
        no_end_breaks a.rules a.walls a.deeds fault (walled a.rules a.walls a.walls_fit).some
        (subst (λ (x : Before). Breaks x [] [] fault) (sym e) (subst (λ (xs : List ℕ). Breaks b.before (whole_lines xs) (unfinished xs) fault) (sym f) b.breaks))
    by (Shorter n) = next_ends (Lines a.rules a.walls a.deeds) n
    by (Longer n) = next_holds b.before b.rest fault n b.breaks

one_fault : (text : List ℕ) (one other : ℕ) (fault another : Fault) → IsNoRecord text one fault → IsNoRecord text other another → (one ≡ other) × (fault ≡ another)
one_fault text one other fault another a b = by (compare a.before a.rest b.before b.rest a.sound b.sound (sym a.is ∙ b.is))
  where
    by : Compared a.before a.rest b.before b.rest → (one ≡ other) × (fault ≡ another)
    by (Same e f) = (
      a.place ∙ ap (λ (x : Before). number_before x + 1) e ∙ sym b.place,
      one_break a.before (whole_lines a.rest) (unfinished a.rest) fault another a.breaks
          (subst (λ (x : Before). Breaks x (whole_lines a.rest) (unfinished a.rest) another) (sym e)
          (subst (λ (xs : List ℕ). Breaks b.before (whole_lines xs) (unfinished xs) another) (sym f) b.breaks)),
    )
    by (Shorter n) = absurd (next_holds a.before a.rest fault n a.breaks)
    by (Longer n) = absurd (next_holds b.before b.rest another n b.breaks)

pub answers_are_exact : AnswersAreExact
answers_are_exact = record { one_summary = one_summary; not_both = not_both; one_fault = one_fault }
