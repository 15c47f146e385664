-- How games go on from where their journals ended.
use Rattle.std.proofs.Common.{◌≡◌, ℕ, ◌<◌, Bool, true, false, List, [], ◌∷◌, ◌++◌, Option, refl, sym, ◌∙◌, ap, ap₂, subst, arith, if◌then◌else◌}
use Rattle.std.specs.Prelude.{All}
use Rattle.std.proofs.lemmas.Option.{slice_get_within}
use Rattle.mj_ports.specs.declared.answers.Left.{Left}
use Rattle.mj_ports.specs.declared.answers.Left.TheVariants as lefts
use Rattle.mj_ports.specs.declared.entry.Entry.{Entry}
use Rattle.mj_ports.specs.declared.seated.Seated.{Ghosts}
use Rattle.mj_ports.specs.Entries.{author_of}
use Rattle.mj_deeds.specs.declared.answer.Answer.{Answer}
use Rattle.mj_deeds.specs.declared.rule.Rule.{Rule}
use Rattle.mj_wall.specs.declared.setting.Setting.{Setting}
use Rattle.mj_forms.specs.AnswerForms.{answer_of, join_of}
use Rattle.mj_history.specs.Legal.{Game, IsLegal}
use Rattle.mj_history.specs.Shown.{shown_of, sits_of, hears_of, expires_of, control_line}
use Rattle.mj_ticker.specs.Beside.{Matches, Beside}
use Rattle.mj_ticker.proofs.Besides.{found, all_at, all_from, matches_more}
use Rattle.mj_session.specs.Wires.{at_link}
use Rattle.mj_handlers.specs.declared.visit.Session.{Session}
use Rattle.mj_seats.specs.Tables.{ComesBack, IsPlayedAt}
use Rattle.mj_hosting.specs.declared.rooms.Rooms.{Rooms}
use Rattle.mj_hosting.specs.Rooms.{handlers_for, picked_for}
use Rattle.mj_written.specs.declared.written.WrittenSetting.{WrittenSetting}
use Rattle.mj_written.specs.Vacating.{vacated, Vacates}
use Rattle.mj_written.specs.Writing.{Journaled}
use Rattle.mj_written.proofs.Present.{vacated_below}
use Rattle.mj_durable.specs.Inner.Steps.{written_as, GoesOn, resumed_game, AreBelow, IsSamePage, Resumes, IsPlayedAs, ArePlayedOn}

-- one game
module _ {G S A R : Type 0} (g : Ghosts G S A R) where
  pub over_stays : (w : G) → (g.after (g.setting w) (g.history w)).over ≡ true → GoesOn g lefts.Gone w w
  over_stays w over = (refl, ap (λ (b : Bool). if b then g.history w else vacated (g.after (g.setting w)) (g.history w) 4) (sym over))

  pub goes : (r : Left) (old new : G) → (g.after (g.setting old) (g.history old)).over ≡ false → g.setting new ≡ g.setting old
      → Vacates r (g.after (g.setting old)) (g.history old) (g.history new) → GoesOn g r old new
  goes lefts.Gone old new ongoing same leaves =
      (same, leaves ∙ ap (λ (b : Bool). if b then g.history old else vacated (g.after (g.setting old)) (g.history old) 4) (sym ongoing))
  goes lefts.NoMemory old new ongoing same leaves = same

-- the games of riichi, as what plays them sees them
abbrev pub riichi : Ghosts Game Setting Answer Rule
riichi = record {
  setting = λ game. game.setting;
  history = λ game. game.entries;
  reads = λ text. answer_of text;
  joins = λ text. join_of text;
  after = λ setting entries. shown_of setting entries;
  is_legal = λ setting entries. IsLegal setting entries;
  sits = λ setting entries text. sits_of setting entries text;
  hears = λ setting entries author seat answer. hears_of setting entries seat answer;
  expires = λ setting entries window t1 t2. expires_of setting entries window t1 t2;
  says = λ control. control_line control;
}

-- the authors of the entries with which a game goes on
below_by : (n : ℕ) (s : Setting) (entries : List (Entry Answer)) (b : Bool) → All (λ e. author_of e < n) entries
    → All (λ (e : Entry Answer). author_of e < n) (if b then entries else vacated (shown_of s) entries 4)
below_by n s entries true all = all
below_by n s entries false all = vacated_below n s entries 4 all

module _ {D : Type 0} where
  -- pages
  same_page : (v w : Journaled Game D) → (written_as riichi).setting w ≡ (written_as riichi).setting v → IsSamePage v w
  same_page v w e = record {
    setting = ap (λ (p : WrittenSetting Setting Game D). p.game) e;
    began = ap (λ (p : WrittenSetting Setting Game D). p.began) e;
    opened = ap (λ (p : WrittenSetting Setting Game D). p.opened) e;
    tag = ap (λ (p : WrittenSetting Setting Game D). p.tag) e;
  }

  page_self : (w : Journaled Game D) → IsSamePage w w
  page_self w = record { setting = refl; began = refl; opened = refl; tag = refl }

  page_on : (u v w : Journaled Game D) → IsSamePage u v → IsSamePage v w → IsSamePage u w
  page_on u v w p q = record { setting = q.setting ∙ p.setting; began = q.began ∙ p.began; opened = q.opened ∙ p.opened; tag = q.tag ∙ p.tag }

  pages_on : (ws mids finals : List (Journaled Game D)) → Matches IsSamePage ws mids → Matches IsSamePage mids finals → Matches IsSamePage ws finals
  pages_on ws mids finals p q = record {
    many = q.many ∙ p.many;
    each = λ t w final a b.
        let mid = found mids t (omega (arith, slice_get_within ws t w a, p.many)) in
        page_on w mid.0 final (p.each t w mid.0 a mid.1) (q.each t mid.0 final mid.1 b);
  }

  resumed_pages : (ws mids : List (Journaled Game D)) → Matches (Resumes lefts.Gone) ws mids → Matches IsSamePage ws mids
  resumed_pages ws mids m = record { many = m.many; each = λ t v w a b. (m.each t v w a b).0 }

  -- a game that goes on, and one more
  resumes : (r : Left) (v w : Journaled Game D) → GoesOn (written_as riichi) r v w → Resumes r v w
  resumes lefts.Gone v w h = (same_page v w h.0, h.1)
  resumes lefts.NoMemory v w h = same_page v w h

  less : (r : Left) (olds news : List (Journaled Game D)) → Matches (Resumes lefts.Gone) olds news → Matches (Resumes r) olds news
  less lefts.Gone olds news m = m
  less lefts.NoMemory olds news m = resumed_pages olds news m

  pub one_more : (r : Left) (rest mids olds news : List (Journaled Game D)) (v w : Journaled Game D) → olds ≡ rest ++ v ∷ [] → news ≡ mids ++ w ∷ []
      → Matches (Resumes lefts.Gone) rest mids → GoesOn (written_as riichi) r v w → Matches (Resumes r) olds news
  one_more r rest mids olds news v w a b m h = matches_more (Resumes r) rest olds mids news v w a b (less r rest mids m) (resumes r v w h)

  pub one_waits : (rest mids olds news : List (Journaled Game D)) (v : Journaled Game D) → olds ≡ rest ++ v ∷ [] → news ≡ mids ++ v ∷ []
      → Matches (Resumes lefts.NoMemory) rest mids → Matches (Resumes lefts.NoMemory) olds news
  one_waits rest mids olds news v a b m = matches_more (Resumes lefts.NoMemory) rest olds mids news v v a b m (page_self v)

  -- games that go on, from their journals' ends
  game_is : (w mid : Journaled Game D) → Resumes lefts.Gone w mid → mid.game ≡ resumed_game w.game
  game_is w mid r = ap₂ (λ (s : Setting) (es : List (Entry Answer)). record { setting = s; entries = es }) r.0.setting r.1

  pub resumed_below : (n : ℕ) (ws mids : List (Journaled Game D)) → AreBelow n ws → Matches (Resumes lefts.Gone) ws mids → AreBelow n mids
  resumed_below n ws mids below m = all_from (λ (w : Journaled Game D). All (λ e. author_of e < n) w.game.entries) mids (λ t mid at.
      let w = found ws t (omega (arith, slice_get_within mids t mid at, m.many)) in
      subst (λ (es : List (Entry Answer)). All (λ e. author_of e < n) es) (sym (m.each t w.0 mid w.1 at).1)
      (below_by n w.0.game.setting w.0.game.entries (shown_of w.0.game.setting w.0.game.entries).over
      (all_at (λ (x : Journaled Game D). All (λ e. author_of e < n) x.game.entries) ws t w.0 below w.1)))

  -- what comes of them where they are played
  played_pages : (mids finals : List (Journaled Game D)) → Matches (ComesBack (written_as riichi)) mids finals → Matches IsSamePage mids finals
  played_pages mids finals m = record { many = m.many; each = λ t v w a b. same_page v w (m.each t v w a b).0 }

  pub pages_of : (ws mids finals : List (Journaled Game D)) → Matches (Resumes lefts.Gone) ws mids → Matches (ComesBack (written_as riichi)) mids finals → Matches IsSamePage ws finals
  pages_of ws mids finals went back = pages_on ws mids finals (resumed_pages ws mids went) (played_pages mids finals back)

  module _ {L : Type 0} (read left written : L → Option (List ℕ)) (read_faults write_faults : L → ℕ) (rooms : Rooms) (old_readings new_readings : Option (List ℕ)) where
    pub played_on : (ws mids finals : List (Journaled Game D)) (rows : List (List (Session L))) → Matches (Resumes lefts.Gone) ws mids
        → Beside (IsPlayedAt (written_as riichi) (at_link read left written read_faults write_faults) (picked_for rooms) (handlers_for rooms) old_readings new_readings) mids finals rows
        → ArePlayedOn read left written read_faults write_faults rooms old_readings new_readings ws finals rows
    played_on ws mids finals rows went played = record {
      second = played.second ∙ went.many;
      third = played.third ∙ went.many;
      each = λ t w final sessions a b c.
          let mid = found mids t (omega (arith, slice_get_within ws t w a, went.many)) in
          let is = played.each t mid.0 final sessions mid.1 b c in
          subst (λ (game : Game). IsPlayedAs read left written read_faults write_faults rooms old_readings new_readings t game final.game sessions) (game_is w mid.0 (went.each t w mid.0 a mid.1))
          (ap (λ (p : WrittenSetting Setting Game D). p.game) is.0, is.1, is.2);
    }
