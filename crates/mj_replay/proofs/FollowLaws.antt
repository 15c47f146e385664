-- Whether the deed that a line tells may follow.
use Rattle.std.proofs.Common.{◌≡◌, ℕ, ◌≤◌, List, [], ◌∷◌, ◌++◌, Bool, true, false, refl, ap, sym, ◌∙◌, ◌-◌, arith, subst, length, ◌<◌, zero, suc}
use Rattle.std.specs.Prelude.{Option, Some, None, bytes_eq, ◌&&◌, ◌↔◌, IsTrue, slice_get}
use Rattle.std.specs.List.{list_all}
use Rattle.std.proofs.lemmas.Bool.{and_parts, false≢true}
use Rattle.std.proofs.lemmas.Slice.Eq.{bytes_eq-Decides}
use Rattle.mj_ports.specs.Names.{is_name, are_different}
use Rattle.mj_deeds.specs.declared.four.Four.{Four}
use Rattle.mj_deeds.specs.declared.answer.Answer.{Answer}
use Rattle.mj_deeds.specs.declared.answer.Answer.TheVariants.{Pass}
use Rattle.mj_deeds.specs.declared.deed.Deed.{Deed}
use Rattle.mj_deeds.specs.declared.deed.Deed.TheVariants.{StartGame, StartHand, Draw, Discard, Chi, Pon, OpenKan, ClosedKan, AddedKan, Dora, Reach, ReachAccepted, Win, DrawnHand, EndHand, EndGame}
use Rattle.mj_deeds.specs.declared.deed.Viewer.TheVariants.{Record}
use Rattle.mj_deeds.specs.Facts.{newest}
use Rattle.mj_deeds.specs.Fits.{fits}
use Rattle.mj_deeds.specs.Four.{for_each_seat}
use Rattle.mj_deeds.specs.Hand.{is_hand_start}
use Rattle.mj_wall.specs.declared.setting.Rules.{Rules}
use Rattle.mj_wall.specs.Places.{is_wall}
use Rattle.mj_rules.specs.Outcome.{outcome, goes_on}
use Rattle.mj_rules.specs.Played.{AllLawful, IsPlayed, IsPlayedBehind, is_game_start}
use Rattle.mj_rules.proofs.Playing.{each_is_wall, behind_fits}
use Rattle.mj_table.specs.Plays.{Play}
use Rattle.mj_forms.specs.Lines.{line}
use Rattle.mj_history.specs.Told.{told_of, told}
use Rattle.mj_history.specs.Records.{IsLineOf, IsOfNoNext, is_deed}
use Rattle.mj_history.proofs.Ended.{no_outcome}
use Rattle.mj_history.proofs.Told.{told_answers_give}
use Rattle.mj_records.specs.Deeds.{deed_in}
use Rattle.mj_records.specs.Laws.{as_read}
use Rattle.mj_records.specs.declared.usual.Act.{Act}
use Rattle.mj_records.specs.declared.usual.Act.TheVariants as acts
use Rattle.mj_records.specs.Usual.{deed_of}
use Rattle.mj_replay.specs.Inner.Steps.{Follows, FollowsBy, IsLine, IsLineIf, has_different_names}
use Rattle.mj_records.proofs.ReadLaws.{read_deeds_tell_the_same}
use Rattle.mj_records.proofs.ValueLaws.{read_is_value}

-- the deed of a line is read as one that has the line too
read_as : (text : List ℕ) (other : Deed) → IsLineOf text other → deed_in text ≡ Some (as_read other)
read_as text other l = ap deed_in (sym l.is) ∙ read_deeds_tell_the_same.reads other l.fits

is_read : (text : List ℕ) (deed other : Deed) → Some deed ≡ deed_in text → IsLineOf text other → deed ≡ as_read other
is_read text deed other r l = let e = read_as text other l in cc (r, e)

line_read : (text : List ℕ) (deed other : Deed) → Some deed ≡ deed_in text → IsLineOf text other → line Record deed ≡ text
line_read text deed other r l = ap (line Record) (is_read text deed other r l) ∙ read_deeds_tell_the_same.lines other ∙ l.is

lines_differ : (xs ys : List ℕ) → bytes_eq xs ys ≡ false → xs ≡ ys → ⊥
lines_differ xs ys h e = false≢true (sym h ∙ (bytes_eq-Decides xs ys).1 e)

-- the causes
pub no_deed : (text : List ℕ) → None ≡ deed_in text → (deed : Deed) → IsLineOf text deed → ⊥
no_deed text n deed l = let e = read_as text deed l in cc (n, e)

pub other_line : (text : List ℕ) (deed : Deed) (same : Bool) → Some deed ≡ deed_in text → same ≡ bytes_eq (line Record deed) text → same ≡ false → (other : Deed) → IsLineOf text other → ⊥
other_line text deed same r e n other l = lines_differ (line Record deed) text (sym e ∙ n) (line_read text deed other r l)

pub is_next : (rules : Rules) (walls : List (List ℕ)) (deeds : List Deed) (text : List ℕ) (deed : Deed) (same : Bool) → Some deed ≡ deed_in text →
    same ≡ bytes_eq (line Record deed) text → same ≡ true →
    ((other : Deed) → IsLineOf text other → IsPlayedBehind rules walls deeds other → ⊥) → IsOfNoNext rules walls deeds text
is_next rules walls deeds text deed same r e y none = record {
  deed = deed;
  line_of = record { fits = read_is_value text deed r; is = (bytes_eq-Decides (line Record deed) text).0 (sym e ∙ y) };
  never = none;
}

-- the game is over
pub over : (rules : Rules) (walls : List (List ℕ)) (deeds : List Deed) (deed : Deed) → goes_on (newest deeds) ≡ false → (newest deeds ≡ None → ⊥) → IsPlayedBehind rules walls deeds deed → ⊥
over rules walls [] deed h some p = some refl
over rules walls (first ∷ others) deed h some p = let none = no_outcome rules walls (first ∷ others) p.given h in let given = p.gives in cc (none, given)

-- four answers that the deed tells of
pub same_told : (deeds : List Deed) (deed other : Deed) → deed ≡ as_read other → for_each_seat (told_of (newest deeds) deed) ≡ told deeds other
same_told deeds deed other e =
    let at = λ (seat : ℕ). ap (λ (d : Deed). told_of (newest deeds) d seat) e ∙ read_deeds_tell_the_same.tells (newest deeds) other seat in
    rw (at 0, at 1, at 2, at 3) refl

pub none_told : (rules : Rules) (walls : List (List ℕ)) (deeds : List Deed) (text : List ℕ) (deed : Deed) (answers : Four Answer) → 1 ≤ length walls →
    list_all (is_wall rules.red) walls ≡ true → IsPlayed rules walls deeds →
    Some deed ≡ deed_in text → goes_on (newest deeds) ≡ true → answers ≡ for_each_seat (told_of (newest deeds) deed) →
    ((other : Deed) → line Record other ≡ text → AllLawful rules deeds answers → outcome rules walls deeds answers ≡ Some other → ⊥) →
    (other : Deed) → IsLineOf text other → IsPlayedBehind rules walls deeds other → ⊥
none_told rules walls [] text deed answers some whole played r on e none other l p = absurd (false≢true on)
none_told rules walls (first ∷ others) text deed answers some whole played r on e none other l p =
    let give = told_answers_give rules walls (first ∷ others) other (each_is_wall rules.red walls some whole) played p in
    let same : told (first ∷ others) other ≡ answers = sym (e ∙ same_told (first ∷ others) deed other (is_read text deed other r l)) in
    none other l.is (subst (λ (given : Four Answer). AllLawful rules (first ∷ others) given) same give.lawful)
    (ap (λ (given : Four Answer). outcome rules walls (first ∷ others) given) (sym same) ∙ give.gives)

pub not_lawful : (rules : Rules) (walls : List (List ℕ)) (deeds : List Deed) (answers : Four Answer) (text : List ℕ) (all : Bool) → (IsTrue all ↔ AllLawful rules deeds answers) → all ≡ false →
    (other : Deed) → line Record other ≡ text → AllLawful rules deeds answers → outcome rules walls deeds answers ≡ Some other → ⊥
not_lawful rules walls deeds answers text all h n other l lawful gives = false≢true (sym n ∙ h.1 lawful)

pub other_given : (rules : Rules) (walls : List (List ℕ)) (deeds : List Deed) (answers : Four Answer) (text : List ℕ) (followed : Deed) (same : Bool)
    → Some followed ≡ outcome rules walls deeds answers → same ≡ bytes_eq (line Record followed) text → same ≡ false →
    (other : Deed) → line Record other ≡ text → AllLawful rules deeds answers → outcome rules walls deeds answers ≡ Some other → ⊥
other_given rules walls deeds answers text followed same e s n other l lawful gives =
    let is : followed ≡ other = cc (e, gives) in
    lines_differ (line Record followed) text (sym s ∙ n) (ap (line Record) is ∙ l)

pub line_is : (text : List ℕ) (deed : Deed) (same : Bool) → same ≡ bytes_eq (line Record deed) text → same ≡ true → line Record deed ≡ text
line_is text deed same e y = (bytes_eq-Decides (line Record deed) text).0 (sym e ∙ y)

pub followed_by : (walls : List (List ℕ)) (before after : Play) (text : List ℕ) (followed : Deed) (same : Bool) → same ≡ bytes_eq (line Record followed) text → same ≡ true →
    after ≡ record { rules = before.rules; deeds = before.deeds ++ followed ∷ [] } → IsPlayed before.rules walls after.deeds → Follows walls before after text
followed_by walls before after text followed same e y more played = record { deed = followed; line_is = line_is text followed same e y; more = more; played = played }

pub followed_if : (walls : List (List ℕ)) (before after : Play) (given : Four Answer) (text : List ℕ) (followed : Deed) (yes : Bool) →
    Some followed ≡ outcome before.rules walls before.deeds given → yes ≡ bytes_eq (line Record followed) text →
    after ≡ record { rules = before.rules; deeds = before.deeds ++ followed ∷ [] } → IsPlayed before.rules walls after.deeds → FollowsBy yes walls before after given text
followed_if walls before after given text followed true e s more played = followed_by walls before after text followed true s refl more played
followed_if walls before after given text followed false e s more played = other_given before.rules walls before.deeds given text followed false e s refl

-- a start of a game
some_at : {A : Type 0} (xs : List A) (i : ℕ) → i < length xs → slice_get xs i ≡ None → ⊥
some_at [] i h e = absurd (omega (arith, h))
some_at (x ∷ xs) zero h e = cc e
some_at (x ∷ xs) (suc i) h e = some_at xs i (omega (arith, h)) e

has_newest : (deed : Deed) (deeds : List Deed) → newest (deed ∷ deeds) ≡ None → ⊥
has_newest deed deeds h = some_at (deed ∷ deeds) (length (deed ∷ deeds) - 1) (omega arith) h

no_newest : (deeds : List Deed) → newest deeds ≡ None → deeds ≡ []
no_newest [] h = refl
no_newest (first ∷ others) h = absurd (has_newest first others h)

starts_game : (deed : Deed) → is_deed deed ≡ true → has_different_names deed ≡ true → is_game_start deed ≡ true
starts_game (StartGame names) h d =
    let p3 = and_parts (is_name names.first && is_name names.second && is_name names.third) (is_name names.fourth) h in
    let p2 = and_parts (is_name names.first && is_name names.second) (is_name names.third) p3.0 in
    let p1 = and_parts (is_name names.first) (is_name names.second) p2.0 in
    rw (p1.0, p1.1, p2.1, p3.1, d) refl
starts_game (StartHand round number honba deposits dealer indicator hands) h d = cc d
starts_game (Draw seat tile replacement) h d = cc d
starts_game (Discard seat tile drawn) h d = cc d
starts_game (Chi seat target tile a b) h d = cc d
starts_game (Pon seat target tile a b) h d = cc d
starts_game (OpenKan seat target tile a b c) h d = cc d
starts_game (ClosedKan seat a b c d2) h d = cc d
starts_game (AddedKan seat tile a b c) h d = cc d
starts_game (Dora tile) h d = cc d
starts_game (Reach seat) h d = cc d
starts_game (ReachAccepted seat points bid) h d = cc d
starts_game (Win seat target tile unders hand yaku fu han value deltas points rest) h d = cc d
starts_game (DrawnHand reason hands ready deltas points) h d = cc d
starts_game EndHand h d = cc d
starts_game (EndGame points deposits) h d = cc d

pub start_is_read : (other : Deed) → is_game_start other ≡ true → (as_read other ≡ other) × (has_different_names other ≡ true)
start_is_read (StartGame names) h = (refl, (and_parts _ (are_different (names.first ∷ names.second ∷ names.third ∷ names.fourth ∷ [])) h).1)
start_is_read (StartHand round number honba deposits dealer indicator hands) h = cc h
start_is_read (Draw seat tile replacement) h = cc h
start_is_read (Discard seat tile drawn) h = cc h
start_is_read (Chi seat target tile a b) h = cc h
start_is_read (Pon seat target tile a b) h = cc h
start_is_read (OpenKan seat target tile a b c) h = cc h
start_is_read (ClosedKan seat a b c d) h = cc h
start_is_read (AddedKan seat tile a b c) h = cc h
start_is_read (Dora tile) h = cc h
start_is_read (Reach seat) h = cc h
start_is_read (ReachAccepted seat points bid) h = cc h
start_is_read (Win seat target tile unders hand yaku fu han value deltas points rest) h = cc h
start_is_read (DrawnHand reason hands ready deltas points) h = cc h
start_is_read EndHand h = cc h
start_is_read (EndGame points deposits) h = cc h

pub no_start : (rules : Rules) (walls : List (List ℕ)) (deeds : List Deed) (text : List ℕ) (deed : Deed) → newest deeds ≡ None → Some deed ≡ deed_in text → has_different_names deed ≡ false →
    (other : Deed) → IsLineOf text other → IsPlayedBehind rules walls deeds other → ⊥
no_start rules walls deeds text deed n r d other l p =
    let start : is_game_start other ≡ true = subst (λ (xs : List Deed). IsPlayedBehind rules walls xs other) (no_newest deeds n) p in
    let k = start_is_read other start in
    false≢true (sym d ∙ ap has_different_names (is_read text deed other r l ∙ k.0) ∙ k.1)

pub start_played : (rules : Rules) (walls : List (List ℕ)) (deeds : List Deed) (text : List ℕ) (deed : Deed) → newest deeds ≡ None →
    Some deed ≡ deed_in text → has_different_names deed ≡ true → IsPlayed rules walls (deeds ++ deed ∷ [])
start_played rules walls deeds text deed n r d =
    subst (λ (xs : List Deed). IsPlayed rules walls (xs ++ deed ∷ [])) (sym (no_newest deeds n)) (starts_game deed (read_is_value text deed r) d, tt)

pub start_fits : (rules : Rules) (walls : List (List ℕ)) (deeds : List Deed) (text : List ℕ) (deed : Deed) → 1 ≤ length walls →
    list_all (is_wall rules.red) walls ≡ true → newest deeds ≡ None → Some deed ≡ deed_in text → has_different_names deed ≡ true →
    fits rules.red deeds deed ≡ true
start_fits rules walls deeds text deed some whole n r d =
    subst (λ (xs : List Deed). fits rules.red xs deed ≡ true) (sym (no_newest deeds n))
    (behind_fits rules walls [] deed (each_is_wall rules.red walls some whole) tt (starts_game deed (read_is_value text deed r) d))

-- a draw or a discard is no start of a game, and tells of the same answers after whatever deed
no_names : (act : Act) → has_different_names (deed_of act) ≡ false
no_names (acts.Draw seat tile) = refl
no_names (acts.Discard seat tile drawn) = refl

act_tells : (last : Option Deed) (act : Act) (seat : ℕ) → told_of None (deed_of act) seat ≡ told_of last (deed_of act) seat
act_tells last (acts.Draw who tile) seat = refl
act_tells last (acts.Discard who tile drawn) seat = refl

act_told : (last : Option Deed) (act : Act) → for_each_seat (told_of None (deed_of act)) ≡ for_each_seat (told_of last (deed_of act))
act_told last act =
    let at = λ (seat : ℕ). act_tells last act seat in
    rw (at 0, at 1, at 2, at 3) refl

pub act_over : (rules : Rules) (walls : List (List ℕ)) (deeds : List Deed) (text : List ℕ) (act : Act) → goes_on (newest deeds) ≡ false →
    deed_in text ≡ Some (deed_of act) → (other : Deed) → IsLineOf text other → IsPlayedBehind rules walls deeds other → ⊥
act_over rules walls [] text act h r other l p = no_start rules walls [] text (deed_of act) refl (sym r) (no_names act) other l p
act_over rules walls (first ∷ others) text act h r other l p = over rules walls (first ∷ others) other h (has_newest first others) p

pub act_none : (rules : Rules) (walls : List (List ℕ)) (deeds : List Deed) (text : List ℕ) (act : Act) (answers : Four Answer) → 1 ≤ length walls →
    list_all (is_wall rules.red) walls ≡ true → IsPlayed rules walls deeds →
    deed_in text ≡ Some (deed_of act) → goes_on (newest deeds) ≡ true → answers ≡ for_each_seat (told_of None (deed_of act)) →
    ((other : Deed) → line Record other ≡ text → AllLawful rules deeds answers → outcome rules walls deeds answers ≡ Some other → ⊥) →
    (other : Deed) → IsLineOf text other → IsPlayedBehind rules walls deeds other → ⊥
act_none rules walls deeds text act answers some whole played r on e none = none_told rules walls deeds text (deed_of act) answers some whole played (sym r) on (e ∙ act_told (newest deeds) act) none

pub act_next : (rules : Rules) (walls : List (List ℕ)) (deeds : List Deed) (text : List ℕ) (act : Act) → IsLineOf text (deed_of act) →
    ((other : Deed) → IsLineOf text other → IsPlayedBehind rules walls deeds other → ⊥) → IsOfNoNext rules walls deeds text
act_next rules walls deeds text act l never = record { deed = deed_of act; line_of = l; never = never }

-- a start of a hand is no start of a game, and tells of four passes after whatever deed
record IsUntold (deed : Deed) : Type 0 where
  no_names : has_different_names deed ≡ false
  tells : (last : Option Deed) (seat : ℕ) → told_of last deed seat ≡ Pass None

hand_starts : (deed : Deed) → is_hand_start deed ≡ true → IsUntold deed
hand_starts (StartHand round number honba deposits dealer indicator hands) h = record { no_names = refl; tells = λ last seat. refl }
hand_starts (StartGame names) h = absurd (false≢true h)
hand_starts (Draw seat tile replacement) h = absurd (false≢true h)
hand_starts (Discard seat tile drawn) h = absurd (false≢true h)
hand_starts (Chi seat target tile a b) h = absurd (false≢true h)
hand_starts (Pon seat target tile a b) h = absurd (false≢true h)
hand_starts (OpenKan seat target tile a b c) h = absurd (false≢true h)
hand_starts (ClosedKan seat a b c d) h = absurd (false≢true h)
hand_starts (AddedKan seat tile a b c) h = absurd (false≢true h)
hand_starts (Dora tile) h = absurd (false≢true h)
hand_starts (Reach seat) h = absurd (false≢true h)
hand_starts (ReachAccepted seat points bid) h = absurd (false≢true h)
hand_starts (Win seat target tile unders hand yaku fu han value deltas points rest) h = absurd (false≢true h)
hand_starts (DrawnHand reason hands ready deltas points) h = absurd (false≢true h)
hand_starts EndHand h = absurd (false≢true h)
hand_starts (EndGame points deposits) h = absurd (false≢true h)

untold : (text : List ℕ) (other : Deed) → ((deed : Deed) → deed_in text ≡ Some deed → is_hand_start deed ≡ true) → IsLineOf text other → IsUntold (as_read other)
untold text other start l = hand_starts (as_read other) (start (as_read other) (read_as text other l))

all_pass : (last : Option Deed) (deed : Deed) → IsUntold deed → for_each_seat (told_of last deed) ≡ for_each_seat (λ (seat : ℕ). Pass None)
all_pass last deed u = rw (u.tells last 0, u.tells last 1, u.tells last 2, u.tells last 3) refl

pub start_over : (rules : Rules) (walls : List (List ℕ)) (deeds : List Deed) (text : List ℕ) → goes_on (newest deeds) ≡ false →
    ((deed : Deed) → deed_in text ≡ Some deed → is_hand_start deed ≡ true) → (other : Deed) → IsLineOf text other → IsPlayedBehind rules walls deeds other → ⊥
start_over rules walls [] text h start other l p =
    let u = untold text other start l in
    no_start rules walls [] text (as_read other) refl (sym (read_as text other l)) u.no_names other l p
start_over rules walls (first ∷ others) text h start other l p = over rules walls (first ∷ others) other h (has_newest first others) p

pub start_none : (rules : Rules) (walls : List (List ℕ)) (deeds : List Deed) (text : List ℕ) (answers : Four Answer) → 1 ≤ length walls →
    list_all (is_wall rules.red) walls ≡ true → IsPlayed rules walls deeds →
    ((deed : Deed) → deed_in text ≡ Some deed → is_hand_start deed ≡ true) → goes_on (newest deeds) ≡ true → answers ≡ for_each_seat (λ (seat : ℕ). Pass None) →
    ((other : Deed) → line Record other ≡ text → AllLawful rules deeds answers → outcome rules walls deeds answers ≡ Some other → ⊥) →
    (other : Deed) → IsLineOf text other → IsPlayedBehind rules walls deeds other → ⊥
start_none rules walls deeds text answers some whole played start on e none other l p =
    none_told rules walls deeds text (as_read other) answers some whole played (sym (read_as text other l)) on
    (e ∙ sym (all_pass (newest deeds) (as_read other) (untold text other start l))) none other l p

-- a line that is that of a deed, or of none
pub is_line : (text : List ℕ) (deed : Deed) (same : Bool) → Some deed ≡ deed_in text → same ≡ bytes_eq (line Record deed) text → IsLineIf same text
is_line text deed true r s = record { deed = deed; line_of = record { fits = read_is_value text deed r; is = line_is text deed true s refl } }
is_line text deed false r s = other_line text deed false r s refl

pub line_next : (rules : Rules) (walls : List (List ℕ)) (deeds : List Deed) (text : List ℕ) → IsLine text →
    ((other : Deed) → IsLineOf text other → IsPlayedBehind rules walls deeds other → ⊥) → IsOfNoNext rules walls deeds text
line_next rules walls deeds text l never = record { deed = l.deed; line_of = l.line_of; never = never }

pub ruleset following = (over)

pub ruleset by_answers = (not_lawful)

pub started : (walls : List (List ℕ)) (before after : Play) (text : List ℕ) (deed : Deed) (same : Bool) → newest before.deeds ≡ None →
    Some deed ≡ deed_in text → has_different_names deed ≡ true → same ≡ bytes_eq (line Record deed) text → same ≡ true →
    after ≡ record { rules = before.rules; deeds = before.deeds ++ deed ∷ [] } → Follows walls before after text
started walls before after text deed same n r d e y more = record {
  deed = deed;
  line_is = line_is text deed same e y;
  more = more;
  played = subst (λ (ds : List Deed). IsPlayed before.rules walls ds) (sym (ap (λ (x : Play). x.deeds) more)) (start_played before.rules walls before.deeds text deed n r d);
}
