-- What the calls on a game tell a seat that is watched.
use Rattle.std.proofs.Common.{◌≡◌, ℕ, ◌==◌, ◌<◌, ◌≤◌, Bool, true, false, List, [], ◌++◌, length, refl, ap, sym, ◌∙◌, subst, arith, append-nil, append_assoc, inl, inr, true≢false}
use Rattle.std.specs.Prelude.{Option, Some, None, slice_get, if◌then◌else◌, ◌&&◌, Result, Ok, Err, OnOk, is_ok}
use Rattle.std.specs.Option.{option_map_or}
use Rattle.std.specs.declared.alloc.AllocError.{AllocError}
use Rattle.std.proofs.lemmas.Option.{slice_get_within}
use Rattle.std.proofs.lemmas.Bool.Decides.{nat_tests, eqb_tells}
use Rattle.mj_bytes.specs.Adds.{Adds}
use Rattle.mj_ports.specs.declared.entry.Entry.TheVariants.{Back, Said, Gone}
use Rattle.mj_ports.specs.declared.sitting.JoinLine.{JoinLine}
use Rattle.mj_ports.specs.declared.answers.SitAnswer.{SitAnswer}
use Rattle.mj_ports.specs.declared.answers.SitAnswer.TheVariants as sits
use Rattle.mj_ports.specs.declared.answers.Heard.{Heard}
use Rattle.mj_ports.specs.declared.answers.Heard.TheVariants as heard
use Rattle.mj_ports.specs.declared.answers.Left.{Left}
use Rattle.mj_ports.specs.declared.answers.Left.TheVariants as left
use Rattle.mj_ports.specs.declared.answers.Expiry.{Expiry}
use Rattle.mj_ports.specs.declared.answers.Expiry.TheVariants as expiry
use Rattle.mj_seating.specs.declared.desk.Placed.TheVariants as places
use Rattle.mj_deeds.specs.declared.answer.Answer.{Answer}
use Rattle.mj_deeds.specs.declared.rule.Rule.{Rule}
use Rattle.mj_forms.specs.AnswerForms.{join_of}
use Rattle.mj_history.specs.After.{Chair, Verdict, Taken, Late, Refused, Closing, is_present}
use Rattle.mj_history.specs.Legal.{Game}
use Rattle.mj_history.specs.Sitting.{placing}
use Rattle.mj_core.specs.Calls.{after_of, Enters, TakesSeat, IsSitAnswer, IsHeard, IsLeft, IsExpiry, author_of_seat, pending_at, verdict_at}
use Rattle.mj_refereeing.specs.Inner.Intake.{told_of, told_in, greeting, greeting_again, last_lines}
use Rattle.mj_refereeing.specs.Inner.Watching.{told_by_sitting, IsBelowFour, TellsVerdict, has_left}
use Rattle.mj_refereeing.proofs.Placing.{sat-next, back-held}
use Rattle.mj_refereeing.proofs.Telling.{told-sat, few-sat, told-own, told-other, few-said, told-gone, told-gone_other, few-gone, same-expired, has_chair, error_of}
use Rattle.mj_refereeing.proofs.Returning.{told-back, told-back_other, few-back}

-- Four seats at most are held, and the bytes are what the connections of the seat were told by its own entries.
pub record Watches (seat : ℕ) (game : Game) (told : List ℕ) : Type 0 where
  pub few : length (after_of game).chairs ≤ 4
  pub bytes : told ≡ told_in seat (after_of game)

watches-same : (seat : ℕ) (old new : Game) (told : List ℕ) → new ≡ old → Watches seat old told → Watches seat new told
watches-same seat old new told e w = subst (λ (game : Game). Watches seat game told) (sym e) w

-- somebody wants a seat
sat-by : (seat taken author : ℕ) (old new : Game) (join : Option JoinLine) (told more : List ℕ) → Watches seat old told →
    placing (after_of old) join ≡ places.Sat taken → TakesSeat join old new author → Adds told more (greeting taken seat) → Watches seat new more
sat-by seat taken author old new None told more w h t adds = absurd t
sat-by seat taken author old new (Some join) told more w h t adds =
    let next = sat-next (after_of old) (Some join) taken h in record {
      few = few-sat author join.name join.key old new t (below (length (after_of old).chairs) w.few next.1);
      bytes = adds.is ∙ ap (λ (bytes : List ℕ). bytes ++ greeting taken seat) w.bytes ∙ ap (λ (n : ℕ). told_in seat (after_of old) ++ greeting n seat) next.0
          ∙ sym (told-sat seat author join.name join.key old new t);
    }
  where
    below : (n : ℕ) → n ≤ 4 → (n == 4) ≡ false → n < 4
    below n h k = grind (arith, nat_tests)

back-by : (seat taken author : ℕ) (old new : Game) (chair : Chair) (told more : List ℕ) → Watches seat old told →
    slice_get (after_of old).chairs taken ≡ Some chair → Enters old new (Back author taken) → Adds told more (greeting_again taken seat new) →
    Watches seat new more
back-by seat taken author old new chair told more w at e adds = record {
  few = few-back author taken old new chair e at w.few;
  bytes = adds.is ∙ ap (λ (bytes : List ℕ). bytes ++ greeting_again taken seat new) w.bytes ∙ own_or_not;
}
  where
    own_or_not : told_in seat (after_of old) ++ greeting_again taken seat new ≡ told_in seat (after_of new)
    own_or_not = elim (eqb_tells taken seat) [
      | inl p ↦ rw p.0 (sym (told-back author seat old new chair (subst (λ (n : ℕ). Enters old new (Back author n)) p.1 e) (subst (λ (n : ℕ). slice_get (after_of old).chairs n ≡ Some chair) p.1 at)))
      | inr p ↦ rw p.0 (append-nil (told_in seat (after_of old)) ∙ sym (told-back_other author taken seat old new chair p.1 e at))
    ]

adds-none : (seat : ℕ) (game : Game) (told more : List ℕ) → Adds told more [] → Watches seat game told → Watches seat game more
adds-none seat game told more adds w = record { few = w.few; bytes = adds.is ∙ append-nil told ∙ w.bytes }

pub watches-sitting : (answer : SitAnswer) (seat author : ℕ) (old new : Game) (text told more : List ℕ) →
    IsSitAnswer answer old new author (join_of text) → Watches seat old told → Adds told more (told_by_sitting answer seat new) →
    Watches seat new more
watches-sitting (sits.Sat taken) seat author old new text told more h w adds = sat-by seat taken author old new (join_of text) told more w h.0 h.1 adds
watches-sitting (sits.Back taken) seat author old new text told more h w adds =
    let held = back-held old.setting (after_of old) text taken w.few h.0 in back-by seat taken author old new held.0 told more w held.1 h.1 adds
watches-sitting (sits.Refused why) seat author old new text told more h w adds = watches-same seat old new more h.1 (adds-none seat old told more adds w)
watches-sitting sits.NoMemory seat author old new text told more h w adds = watches-same seat old new more h (adds-none seat old told more adds w)

pub few-sitting : (answer : SitAnswer) (author : ℕ) (old new : Game) (text : List ℕ) → IsSitAnswer answer old new author (join_of text) →
    length (after_of old).chairs ≤ 4 → length (after_of new).chairs ≤ 4
few-sitting answer author old new text h few =
    (watches-sitting answer 0 author old new text (told_in 0 (after_of old)) (told_in 0 (after_of old) ++ told_by_sitting answer 0 new) h
    (record { few = few; bytes = refl }) (record { is = refl })).few

pub below-four : (answer : SitAnswer) (author : ℕ) (old new : Game) (text : List ℕ) → IsSitAnswer answer old new author (join_of text) → length (after_of old).chairs ≤ 4 → IsBelowFour answer
below-four (sits.Sat taken) author old new text h few = record {}
below-four (sits.Back taken) author old new text h few =
    let held = back-held old.setting (after_of old) text taken few h.0 in
    below taken (length (after_of old).chairs) (slice_get_within (after_of old).chairs taken held.0 held.1) few
  where
    below : (n m : ℕ) → n < m → m ≤ 4 → n < 4
    below n m h k = omega arith
below-four (sits.Refused why) author old new text h few = record {}
below-four sits.NoMemory author old new text h few = record {}

-- a seat says a line
said-by : (seat author who : ℕ) (old new : Game) (answer : Answer) (chair : Chair) (verdict : Verdict) (told more : List ℕ) → Watches seat old told →
    slice_get (after_of old).chairs who ≡ Some chair → is_present chair ≡ true
    → verdict_at old who answer ≡ Some verdict → Enters old new (Said author who answer) → more ≡ told ++ (if who == seat then pending_at old seat ++ error_of verdict else []) → Watches seat new more
said-by seat author who old new answer chair verdict told more w at here v e bytes = record {
  few = few-said author who answer old new chair e at w.few;
  bytes = bytes ∙ ap (λ (xs : List ℕ). xs ++ (if who == seat then pending_at old seat ++ error_of verdict else [])) w.bytes ∙ own_or_not;
}
  where
    own_or_not : told_in seat (after_of old) ++ (if who == seat then pending_at old seat ++ error_of verdict else []) ≡ told_in seat (after_of new)
    own_or_not = elim (eqb_tells who seat) [
      | inl p ↦ rw p.0 (sym (append_assoc (told_in seat (after_of old)) (pending_at old seat) (error_of verdict))
          ∙ sym (told-own author seat answer old new chair verdict (subst (λ (n : ℕ). Enters old new (Said author n answer)) p.1 e)
          (subst (λ (n : ℕ). slice_get (after_of old).chairs n ≡ Some chair) p.1 at) here (subst (λ (n : ℕ). verdict_at old n answer ≡ Some verdict) p.1 v)))
      | inr p ↦ rw p.0 (append-nil (told_in seat (after_of old)) ∙ sym (told-other author who seat answer old new chair p.1 e at))
    ]

-- what is told of a verdict
silent-verdict : (b : Bool) (told mid more due : List ℕ) → Adds told mid (if b then due else []) → more ≡ mid → more ≡ told ++ (if b then due ++ [] else [])
silent-verdict false told mid more due a t = t ∙ a.is
silent-verdict true told mid more due a t = t ∙ a.is ∙ ap (λ (xs : List ℕ). told ++ xs) (sym (append-nil due))

spoken-verdict : (b : Bool) (told mid more due error : List ℕ) → Adds told mid (if b then due else []) → (b ≡ false → more ≡ mid) →
    (b ≡ true → Adds mid more error) → more ≡ told ++ (if b then due ++ error else [])
spoken-verdict false told mid more due error a apart own = apart refl ∙ a.is
spoken-verdict true told mid more due error a apart own = (own refl).is ∙ ap (λ (xs : List ℕ). xs ++ error) a.is ∙ append_assoc told due error

taken-so : (b : Bool) (mid more : List ℕ) → TellsVerdict b heard.Taken mid more → more ≡ mid
taken-so false mid more t = t
taken-so true mid more t = t

late-so : (b : Bool) (mid more : List ℕ) → TellsVerdict b heard.Late mid more → more ≡ mid
late-so false mid more t = t
late-so true mid more t = t

apart-so : (b : Bool) (verdict : Heard Rule) (mid more : List ℕ) → TellsVerdict b verdict mid more → b ≡ false → more ≡ mid
apart-so false verdict mid more t e = t
apart-so true verdict mid more t e = absurd (cc e)

refused-so : (b : Bool) (rule : Rule) (mid more : List ℕ) → TellsVerdict b (heard.Refused rule) mid more → b ≡ true → Adds mid more (error_of (Refused rule))
refused-so true rule mid more t e = t
refused-so false rule mid more t e = absurd (cc e)

closing-so : (b : Bool) (rule : Rule) (mid more : List ℕ) → TellsVerdict b (heard.Closing rule) mid more → b ≡ true → Adds mid more (error_of (Closing rule))
closing-so true rule mid more t e = t
closing-so false rule mid more t e = absurd (cc e)

nothing-so : (b : Bool) (told mid more due : List ℕ) → Adds told mid (if b then due else []) → TellsVerdict b heard.NoMemory mid more → more ≡ told
nothing-so false told mid more due a t = t ∙ a.is ∙ append-nil told
nothing-so true told mid more due a t = absurd t

pub watches-hearing : (verdict : Heard Rule) (seat author who : ℕ) (old new : Game) (answer : Answer) (told mid more : List ℕ) →
    IsHeard verdict old new author who answer → author_of_seat old who ≡ Some author → Watches seat old told
    → Adds told mid (last_lines who seat old) → TellsVerdict (who == seat) verdict mid more → Watches seat new more
watches-hearing heard.Taken seat author who old new answer told mid more h by w a t =
    let c = has_chair (slice_get (after_of old).chairs who) author by in
    said-by seat author who old new answer c.0 Taken told more w c.1 c.2 h.0 h.1 (silent-verdict (who == seat) told mid more (pending_at old seat) a (taken-so (who == seat) mid more t))
watches-hearing heard.Late seat author who old new answer told mid more h by w a t =
    let c = has_chair (slice_get (after_of old).chairs who) author by in
    said-by seat author who old new answer c.0 Late told more w c.1 c.2 h.0 h.1 (silent-verdict (who == seat) told mid more (pending_at old seat) a (late-so (who == seat) mid more t))
watches-hearing (heard.Refused rule) seat author who old new answer told mid more h by w a t =
    let c = has_chair (slice_get (after_of old).chairs who) author by in
    said-by seat author who old new answer c.0 (Refused rule) told more w c.1 c.2 h.0 h.1
    (spoken-verdict (who == seat) told mid more (pending_at old seat) (error_of (Refused rule)) a (apart-so (who == seat) (heard.Refused rule) mid more t) (refused-so (who == seat) rule mid more t))
watches-hearing (heard.Closing rule) seat author who old new answer told mid more h by w a t =
    let c = has_chair (slice_get (after_of old).chairs who) author by in
    said-by seat author who old new answer c.0 (Closing rule) told more w c.1 c.2 h.0 h.1
    (spoken-verdict (who == seat) told mid more (pending_at old seat) (error_of (Closing rule)) a (apart-so (who == seat) (heard.Closing rule) mid more t) (closing-so (who == seat) rule mid more t))
watches-hearing heard.NoMemory seat author who old new answer told mid more h by w a t =
    watches-same seat old new more h (record { few = w.few; bytes = nothing-so (who == seat) told mid more (pending_at old seat) a t ∙ w.bytes })

few-same : (old new : Game) → new ≡ old → length (after_of old).chairs ≤ 4 → length (after_of new).chairs ≤ 4
few-same old new e few = subst (λ (game : Game). length (after_of game).chairs ≤ 4) (sym e) few

few-one : (author who : ℕ) (old new : Game) (answer : Answer) → Enters old new (Said author who answer) → author_of_seat old who ≡ Some author →
    length (after_of old).chairs ≤ 4 → length (after_of new).chairs ≤ 4
few-one author who old new answer e by few = let c = has_chair (slice_get (after_of old).chairs who) author by in few-said author who answer old new c.0 e c.1 few

pub few-hearing : (verdict : Heard Rule) (author who : ℕ) (old new : Game) (answer : Answer) → IsHeard verdict old new author who answer →
    author_of_seat old who ≡ Some author → length (after_of old).chairs ≤ 4 → length (after_of new).chairs ≤ 4
few-hearing heard.Taken author who old new answer h by few = few-one author who old new answer h.1 by few
few-hearing heard.Late author who old new answer h by few = few-one author who old new answer h.1 by few
few-hearing (heard.Refused rule) author who old new answer h by few = few-one author who old new answer h.1 by few
few-hearing (heard.Closing rule) author who old new answer h by few = few-one author who old new answer h.1 by few
few-hearing heard.NoMemory author who old new answer h by few = few-same old new h few

-- a seat leaves
pub few-going : (answer : Left) (author who : ℕ) (old new : Game) → IsLeft answer old new author who → author_of_seat old who ≡ Some author →
    length (after_of old).chairs ≤ 4 → length (after_of new).chairs ≤ 4
few-going left.Gone author who old new h by few = let c = has_chair (slice_get (after_of old).chairs who) author by in few-gone author who old new c.0 h c.1 few
few-going left.NoMemory author who old new h by few = few-same old new h few

pub watches-going : (answer : Left) (seat author who : ℕ) (old new : Game) (told more : List ℕ) → IsLeft answer old new author who →
    has_left answer ≡ true → author_of_seat old who ≡ Some author → Watches seat old told
    → Adds told more (last_lines who seat old) → Watches seat new more
watches-going left.NoMemory seat author who old new told more h gone by w a = absurd (cc gone)
watches-going left.Gone seat author who old new told more h gone by w a =
    let c = has_chair (slice_get (after_of old).chairs who) author by in record {
      few = few-gone author who old new c.0 h c.1 w.few;
      bytes = a.is ∙ ap (λ (bytes : List ℕ). bytes ++ last_lines who seat old) w.bytes ∙ own_or_not c.0 c.1 c.2;
    }
  where
    own_or_not : (chair : Chair) → slice_get (after_of old).chairs who ≡ Some chair → is_present chair ≡ true → told_in seat (after_of old) ++ last_lines who seat old ≡ told_in seat (after_of new)
    own_or_not chair at here = elim (eqb_tells who seat) [
      | inl p ↦ rw p.0 (sym (told-gone author seat old new chair (subst (λ (n : ℕ). Enters old new (Gone author n)) p.1 h)
          (subst (λ (n : ℕ). slice_get (after_of old).chairs n ≡ Some chair) p.1 at) here))
      | inr p ↦ rw p.0 (append-nil (told_in seat (after_of old)) ∙ sym (told-gone_other author who seat old new chair p.1 h at))
    ]

-- time runs out
pub watches-expiry : (answer : Expiry) (seat author window t1 t2 : ℕ) (old new : Game) (told : List ℕ) → IsExpiry answer old new author window t1 t2 → Watches seat old told → Watches seat new told
watches-expiry expiry.Closed seat author window t1 t2 old new told h w =
    let same = same-expired author window t1 t2 old new h.1 in record {
      few = subst (λ (chairs : List Chair). length chairs ≤ 4) (sym same) w.few;
      bytes = w.bytes ∙ ap (λ (chairs : List Chair). option_map_or told_of (slice_get chairs seat) []) (sym same);
    }
watches-expiry expiry.Stale seat author window t1 t2 old new told h w = watches-same seat old new told h.1 w
watches-expiry expiry.Early seat author window t1 t2 old new told h w = watches-same seat old new told h.2 w
watches-expiry expiry.NoMemory seat author window t1 t2 old new told h w = watches-same seat old new told h w

pub few-expiry : (answer : Expiry) (author window t1 t2 : ℕ) (old new : Game) → IsExpiry answer old new author window t1 t2 → length (after_of old).chairs ≤ 4 → length (after_of new).chairs ≤ 4
few-expiry answer author window t1 t2 old new h few =
    (watches-expiry answer 0 author window t1 t2 old new (told_in 0 (after_of old)) h (record { few = few; bytes = refl })).few

-- All is told still, where it was and this was told.
told-whole : {P : Type 0} (done : Result (Unit {0}) AllocError) (before now : Bool) → now ≡ (is_ok done && before) → now ≡ true → OnOk done P → (before ≡ true) × P
told-whole (Ok x) before now is e p = (sym is ∙ e, p)
told-whole (Err error) before now is e p = absurd (true≢false (sym e ∙ is))

gone-whole : (left : Left) (before now : Bool) → now ≡ (has_left left && before) → now ≡ true → (before ≡ true) × (has_left left ≡ true)
gone-whole left.Gone before now is e = (sym is ∙ e, refl)
gone-whole left.NoMemory before now is e = absurd (true≢false (sym e ∙ is))

-- What a seat was told, where it was told all before a call.
module _ (seat : ℕ) (old new : Game) (told : List ℕ) (before : Bool) (few : length (after_of old).chairs ≤ 4) (same : before ≡ true → told ≡ told_in seat (after_of old)) where
  watches-so : before ≡ true → Watches seat old told
  watches-so e = record { few = few; bytes = same e }

  pub sitting-told : (answer : SitAnswer) (author : ℕ) (text more : List ℕ) (done : Result (Unit {0}) AllocError) (now : Bool) →
      IsSitAnswer answer old new author (join_of text) → OnOk done (Adds told more (told_by_sitting answer seat new)) → now ≡ (is_ok done && before)
      → now ≡ true → more ≡ told_in seat (after_of new)
  sitting-told answer author text more done now h adds is e =
      let t = told-whole done before now is e adds in (watches-sitting answer seat author old new text told more h (watches-so t.0) t.1).bytes

  pub hearing-told : (verdict : Heard Rule) (author who : ℕ) (answer : Answer) (mid more : List ℕ) (first last : Result (Unit {0}) AllocError)
      (between now : Bool) → IsHeard verdict old new author who answer → author_of_seat old who ≡ Some author
      → OnOk first (Adds told mid (last_lines who seat old)) → OnOk last (TellsVerdict (who == seat) verdict mid more) →
      between ≡ (is_ok first && before) → now ≡ (is_ok last && between) → now ≡ true → more ≡ told_in seat (after_of new)
  hearing-told verdict author who answer mid more first last between now h by adds tells is_first is e =
      let t = told-whole last between now is e tells in
      let s = told-whole first before between is_first t.0 adds in (watches-hearing verdict seat author who old new answer told mid more h by (watches-so s.0) s.1 t.1).bytes

  pub going-told : (answer : Left) (author who : ℕ) (more : List ℕ) (first : Result (Unit {0}) AllocError) (between now : Bool) →
      IsLeft answer old new author who → author_of_seat old who ≡ Some author → OnOk first (Adds told more (last_lines who seat old))
      → between ≡ (is_ok first && before) → now ≡ (has_left answer && between) → now ≡ true → more ≡ told_in seat (after_of new)
  going-told answer author who more first between now h by adds is_first is e =
      let g = gone-whole answer between now is e in
      let s = told-whole first before between is_first g.0 adds in (watches-going answer seat author who old new told more h g.1 by (watches-so s.0) s.1).bytes

  pub expiry-told : (answer : Expiry) (author window t1 t2 : ℕ) → IsExpiry answer old new author window t1 t2 → before ≡ true → told ≡ told_in seat (after_of new)
  expiry-told answer author window t1 t2 h e = (watches-expiry answer seat author window t1 t2 old new told h (watches-so e)).bytes

-- The bytes of a seat, by a number that is the same.
pub of-seat : (old new : ℕ) (game : Game) (told : List ℕ) → new ≡ old → told ≡ told_in old (after_of game) → told ≡ told_in new (after_of game)
of-seat old new game told e h = h ∙ ap (λ (seat : ℕ). told_in seat (after_of game)) (sym e)
