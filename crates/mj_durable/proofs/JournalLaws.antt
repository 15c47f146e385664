-- What may have stood on the disk of a hosted game.
use Rattle.std.proofs.Common.{◌≡◌, ◌⊎◌, inl, inr, ℕ, ◌<◌, ◌≤◌, Bool, true, false, List, [], ◌∷◌, Option, Some, None, refl, sym, ◌∙◌, ap, subst, arith, append-nil}
use Rattle.std.specs.Prelude.{All, Result, Ok, Err, IfOk, IfErr}
use Rattle.std.proofs.lemmas.Option.{same_Some}
use mathlib.Core.List.{IsPrefix}
use Rattle.mj_ports.specs.declared.entry.Entry.{Entry}
use Rattle.mj_ports.specs.Entries.{author_of}
use Rattle.mj_deeds.specs.declared.answer.Answer.{Answer}
use Rattle.mj_wall.specs.declared.setting.Setting.{Setting}
use Rattle.mj_history.specs.Legal.{Game}
use Rattle.mj_journal.specs.Disks.{LeavesOnly, SyncsOnly, Only}
use Rattle.mj_journal.specs.Founding.{GivesEntries}
use Rattle.mj_journal.specs.Keeping.{TellsOn}
use Rattle.mj_journal.specs.Looking.{OnlyLooks}
use Rattle.mj_journal.specs.Openings.{Opening, Fresh, Other, Bad, Open, is_fresh, IsNewOrTag}
use Rattle.mj_journal.specs.Playing.{opens}
use Rattle.mj_journal.specs.Replays.{CountsOpeningFault}
use Rattle.mj_journal.specs.declared.not_opened.NotOpened.{NotOpened}
use Rattle.mj_journal.specs.declared.not_opened.NotOpened.TheVariants as not_opened
use Rattle.mj_journal.proofs.Firsts.{opens_fresh, opens_tag}
use Rattle.mj_journal.proofs.Looks.{still}
use Rattle.mj_journal.proofs.Moments.{goes_on, weaker}
use Rattle.mj_refereeing.specs.Keep.{play_of, Gives}
use Rattle.mj_written.specs.Authors.{IsReason, OpensAs}
use Rattle.mj_written.specs.Writing.{IsPartOf, OpensPart, OpensAll, CountsStop, Journaled, IsWritten, IsJustOpened, disk_of, end_of}
use Rattle.mj_written.specs.declared.stop.Stop.{Stop}
use Rattle.mj_written.specs.declared.stop.Stop.TheVariants as stops
use Rattle.mj_durable.specs.Journals.{tag_of, opens_game, IsBetween, LostNothing, OpensNear, IsCertain, HasKept, IsDurable, LosesNothing}
use Rattle.mj_durable.specs.Inner.Steps.{IsSamePage, IsKept, IsOpenedOn, IsOpening, IsRight, IsBack}

abbrev Entries : Type 0
Entries = List (Entry Answer)

prefix_self : (xs : Entries) → IsPrefix xs xs
prefix_self xs = ([], append-nil xs)

prefix_none : (xs : Entries) → IsPrefix [] xs
prefix_none xs = (xs, refl)

-- A journal opens to a part of the entries, at a moment, of a game that may be stopped.
record OpensPartly (stop : Option Stop) (kept all : Entries) (now : Opening Entries) : Type 0 where
  part : Entries
  end : ℕ
  opened : now ≡ Open part end
  begins : IsPrefix kept part
  goes : IsPartOf stop all part

abbrev Partly : Option Stop → Opening Entries → Entries → Opening Entries → Type 0
Partly stop Fresh all now = (now ≡ Fresh) ⊎ OpensPartly stop [] all now
Partly stop (Open kept end) all now = OpensPartly stop kept all now
Partly stop Other all now = ⊥
Partly stop (Bad place) all now = ⊥

between_of : (o : Opening Entries) (all : Entries) (now : Opening Entries) → Partly None o all now → IsBetween o all now
between_of Fresh all now (inl fresh) = inl fresh
between_of Fresh all now (inr p) = inr (record { part = p.part; end = p.end; opened = p.opened; begins = p.begins; goes = p.goes })
between_of (Open kept end) all now p = record { part = p.part; end = p.end; opened = p.opened; begins = p.begins; goes = p.goes }
between_of Other all now p = absurd p
between_of (Bad place) all now p = absurd p

lost_of : (stop : Option Stop) (o : Opening Entries) (all : Entries) (now : Opening Entries) → Partly stop o all now → LostNothing o now
lost_of stop Fresh all now (inl fresh) = inl fresh
lost_of stop Fresh all now (inr p) = inr (record { entries = p.part; end = p.end; opened = p.opened; begins = p.begins })
lost_of stop (Open kept end) all now p = record { entries = p.part; end = p.end; opened = p.opened; begins = p.begins }
lost_of stop Other all now p = absurd p
lost_of stop (Bad place) all now p = absurd p

lost_same : (o : Opening Entries) → LostNothing o o
lost_same Fresh = inl refl
lost_same (Open kept end) = record { entries = kept; end = end; opened = refl; begins = prefix_self kept }
lost_same Other = refl
lost_same (Bad place) = refl

certain_same : (o : Opening Entries) (opening : List ℕ → Opening Entries) (images : List ℕ → Type 0) → ((image : List ℕ) → images image → opening image ≡ o) → IsCertain o opening images
certain_same Fresh opening images same = inr (λ image left. inl (same image left))
certain_same (Open kept end) opening images same = record { entries = kept; begins = prefix_self kept; near = λ image left. inl (end, same image left) }
certain_same Other opening images same = same
certain_same (Bad place) opening images same = same

-- every image opens to all entries, or to one more
certain_all : (o : Opening Entries) (kept all : Entries) (opening : List ℕ → Opening Entries) (images : List ℕ → Type 0) → Gives o kept → IsPrefix kept all
    → ((image : List ℕ) → images image → OpensNear all (opening image)) → IsCertain o opening images
certain_all Fresh kept all opening images gives begins near = inl (record { entries = all; begins = prefix_none all; near = near })
certain_all (Open last end) kept all opening images gives begins near = record { entries = all; begins = subst (λ (l : Entries). IsPrefix l all) gives begins; near = near }
certain_all Other kept all opening images gives begins near = absurd gives
certain_all (Bad place) kept all opening images gives begins near = absurd gives

near_of : (stop : Option Stop) (all : Entries) (opening : List ℕ → Opening Entries) (image : List ℕ) → OpensAll opening stop all image → OpensNear all (opening image)
near_of None all opening image so = inl so
near_of (Some why) all opening image (inl so) = inl so
near_of (Some why) all opening image (inr so) = inr (so.0, so.1.0, so.1.1)

part_within : (stop : Option Stop) (kept all : Entries) → IsPrefix kept all → IsPartOf stop all kept
part_within None kept all p = p
part_within (Some why) kept all p = inl p

-- an image of a game with entries, of which it kept the first
module _ (s : Setting) (stop : Option Stop) (kept all : Entries) (begins : IsPrefix kept all) where
  abbrev opens_it : List ℕ → Opening Entries
  opens_it = opens (play_of s) (tag_of s)

  -- the same bytes
  partly_same : (o : Opening Entries) (bytes image : List ℕ) → opens_it bytes ≡ o → Gives o kept → image ≡ bytes → Partly stop o all (opens_it image)
  partly_same Fresh bytes image is gives same = inl (ap opens_it same ∙ is)
  partly_same (Open last end) bytes image is gives same = record {
    part = last;
    end = end;
    opened = ap opens_it same ∙ is;
    begins = prefix_self last;
    goes = part_within stop last all (subst (λ (l : Entries). IsPrefix l all) gives begins);
  }
  partly_same Other bytes image is gives same = absurd gives
  partly_same (Bad place) bytes image is gives same = absurd gives

  -- a new journal, or one with the tag alone
  partly_new : (image : List ℕ) → IsNewOrTag (tag_of s) image → Partly stop Fresh all (opens_it image)
  partly_new image (inl fresh) = inl (opens_fresh (play_of s) (tag_of s) image fresh)
  partly_new image (inr stands) = inr (record {
    part = [];
    end = _;
    opened = opens_tag (play_of s) (tag_of s) image stands;
    begins = prefix_self [];
    goes = part_within stop [] all (prefix_none all);
  })

  -- a part of the entries
  partly_part : (o : Opening Entries) (image : List ℕ) → Gives o kept → OpensPart opens_it stop kept all image → Partly stop o all (opens_it image)
  partly_part Fresh image gives p = inr (record { part = p.part; end = p.opened.0; opened = p.opened.1; begins = prefix_none p.part; goes = p.goes })
  partly_part (Open last end) image gives p = record {
    part = p.part;
    end = p.opened.0;
    opened = p.opened.1;
    begins = subst (λ (l : Entries). IsPrefix l p.part) gives p.begins;
    goes = p.goes;
  }
  partly_part Other image gives p = absurd gives
  partly_part (Bad place) image gives p = absurd gives

module _ {D : Type 0} (told : D → Option (List ℕ)) (may_leave : D → List ℕ → Type 0) (moment : D → ℕ) (left_since secured_since : D → ℕ → List ℕ → Type 0) (disk_faults : D → ℕ) where
  -- A game keeps what it was opened on.
  pub same_opened : (authors : ℕ) (was : D) (v w : Journaled Game D) → IsSamePage v w → IsOpenedOn told may_leave moment left_since secured_since disk_faults authors was v
      → IsOpenedOn told may_leave moment left_since secured_since disk_faults authors was w
  same_opened authors was v w same o = record {
    tag = same.tag ∙ o.tag ∙ ap tag_of (sym same.setting);
    had = subst (λ (s : Setting). HasKept told s authors w.began.entries was) (sym same.setting)
        (subst (λ (g : Game). HasKept told v.game.setting authors g.entries was) (sym same.began) o.had);
    on = subst (λ (d : D). TellsOn (told was) (told d)) (sym same.opened) o.on;
    looks = λ bytes at is. subst (λ (d : D). OnlyLooks told may_leave moment left_since secured_since was d) (sym same.opened) (o.looks bytes at is);
    fresh = λ bytes at is only.
        subst (λ (d : D). LeavesOnly moment left_since was d (IsNewOrTag w.tag)) (sym same.opened)
        (subst (λ (t : List ℕ). LeavesOnly moment left_since was v.opened (IsNewOrTag t)) (sym same.tag) (o.fresh bytes at is only));
    syncs = λ bytes at is only.
        subst (λ (d : D). SyncsOnly moment secured_since was d (IsNewOrTag w.tag)) (sym same.opened)
        (subst (λ (t : List ℕ). SyncsOnly moment secured_since was v.opened (IsNewOrTag t)) (sym same.tag) (o.syncs bytes at is only));
    faults = subst (λ (d : D). disk_faults was ≤ disk_faults d) (sym same.opened) o.faults;
  }

  -- the count of a disk's faults never fell, and rose where it stopped the game
  never_fell : (stop : Option Stop) (old new : ℕ) → CountsStop stop old new → old ≤ new
  never_fell None old new counts = counts
  never_fell (Some stops.DiskFault) old new counts = omega (arith, counts)
  never_fell (Some stops.NoMemory) old new counts = counts

  rose : (stop : Option Stop) (old new : ℕ) → stop ≡ Some stops.DiskFault → CountsStop stop old new → old < new
  rose stop old new is counts = subst (λ (o : Option Stop). CountsStop o old new) is counts

  -- a game that was opened on this disk, as it stands
  module _ (authors : ℕ) (was : D) (w : Journaled Game D) (o : IsOpenedOn told may_leave moment left_since secured_since disk_faults authors was w)
      (k : IsKept told may_leave moment left_since secured_since disk_faults w) where
    abbrev here : List ℕ → Opening Entries
    here = opens (play_of w.game.setting) (tag_of w.game.setting)

    kept : IsWritten told may_leave moment left_since secured_since disk_faults here w.began.entries w.game.entries w.opened w.disk w.end w.stop
    kept = subst (λ (t : List ℕ). IsWritten told may_leave moment left_since secured_since disk_faults
        (opens (play_of w.game.setting) t) w.began.entries w.game.entries w.opened w.disk w.end w.stop) o.tag k

    new_here : (image : List ℕ) → IsNewOrTag w.tag image → IsNewOrTag (tag_of w.game.setting) image
    new_here image new = subst (λ (t : List ℕ). IsNewOrTag t image) o.tag new

    module _ (bytes : List ℕ) (at : told was ≡ Some bytes) where
      abbrev Stood : List ℕ → Type 0
      Stood image = Partly w.stop (here bytes) w.game.entries (here image)

      same : (image : List ℕ) → image ≡ bytes → Stood image
      same image is = partly_same w.game.setting w.stop w.began.entries w.game.entries kept.begins (here bytes) bytes image refl (o.had.had bytes at) is

      new : is_fresh bytes ≡ true → (image : List ℕ) → IsNewOrTag w.tag image → Stood image
      new fresh image is =
          subst (λ (x : Opening Entries). Partly w.stop x w.game.entries (here image)) (sym (opens_fresh (play_of w.game.setting) (tag_of w.game.setting) bytes fresh))
          (partly_new w.game.setting w.stop w.began.entries w.game.entries kept.begins image (new_here image is))

      more : (image : List ℕ) → OpensPart here w.stop w.began.entries w.game.entries image → Stood image
      more image p = partly_part w.game.setting w.stop w.began.entries w.game.entries kept.begins (here bytes) image (o.had.had bytes at) p

      -- a crash at any moment
      stood : Only bytes (may_leave was) → LeavesOnly moment left_since was w.disk Stood
      stood only = by (is_fresh bytes) refl
        where
          by : (b : Bool) → is_fresh bytes ≡ b → LeavesOnly moment left_since was w.disk Stood
          by true is =
              let now = o.on bytes at in
              goes_on moment left_since was w.opened w.disk _ _ (weaker moment left_since was w.opened _ _ (o.fresh bytes at is only) (new is)) (kept.since now.0 now.1) more
          by false is =
              let now = o.on bytes at in
              goes_on moment left_since was w.opened w.disk _ _
              (weaker moment left_since was w.opened _ _ (o.looks bytes at is).any_moment (λ image left. same image (only image left))) (kept.since now.0 now.1) more

      -- what each sync put there
      put : Only bytes (may_leave was) → SyncsOnly moment secured_since was w.disk Stood
      put only = by (is_fresh bytes) refl
        where
          by : (b : Bool) → is_fresh bytes ≡ b → SyncsOnly moment secured_since was w.disk Stood
          by true is =
              let now = o.on bytes at in
              goes_on moment secured_since was w.opened w.disk _ _ (weaker moment secured_since was w.opened _ _ (o.syncs bytes at is only) (new is)) (kept.syncs now.0 now.1) more
          by false is =
              let now = o.on bytes at in
              goes_on moment secured_since was w.opened w.disk _ _
              (weaker moment secured_since was w.opened _ _ (o.looks bytes at is).syncs (λ image reads. same image (same_Some image bytes (sym reads ∙ at)))) (kept.syncs now.0 now.1) more

    pub loses_nothing : LosesNothing told may_leave moment left_since w.game.setting was w.disk
    loses_nothing = record {
      any_moment = λ bytes at only. weaker moment left_since was w.disk _ _ (stood bytes at only) (λ image p. lost_of w.stop (here bytes) w.game.entries (here image) p);
      at_end = λ bytes at only. certain_all (here bytes) w.began.entries w.game.entries here (may_leave w.disk) (o.had.had bytes at) kept.begins
          (λ image left. let now = o.on bytes at in near_of w.stop w.game.entries here image (kept.stands now.0 image now.1 left));
    }

    pub faults_stay : disk_faults was ≤ disk_faults w.disk
    faults_stay = omega (arith, o.faults, never_fell w.stop (disk_faults w.opened) (disk_faults w.disk) kept.faults)

    pub faults_rose : w.stop ≡ Some stops.DiskFault → disk_faults was < disk_faults w.disk
    faults_rose is = omega (arith, o.faults, rose w.stop (disk_faults w.opened) (disk_faults w.disk) is kept.faults)

    module _ (goes : w.stop ≡ None) where
      going : (bytes image : List ℕ) → Partly w.stop (here bytes) w.game.entries (here image) → IsBetween (here bytes) w.game.entries (here image)
      going bytes image p = between_of (here bytes) w.game.entries (here image) (subst (λ (x : Option Stop). Partly x (here bytes) w.game.entries (here image)) goes p)

      pub durable : IsDurable told may_leave moment left_since secured_since w.game.setting w.game.entries was w.disk
      durable = record {
        stands = λ bytes at.
            let then = o.on bytes at in
            let now = kept.on goes then.0 then.1 in
            record { bytes = now.0; reads = now.1; end = w.end; opened = kept.tells goes now.0 now.1; only = (kept.rest goes).kept now.0 now.1 };
        any_moment = λ bytes at only. weaker moment left_since was w.disk _ _ (stood bytes at only) (going bytes);
        acknowledged = λ bytes at only. weaker moment secured_since was w.disk _ _ (put bytes at only) (going bytes);
      }

  -- a disk that isn't touched
  pub untouched : (s : Setting) (disk : D) → ((image : List ℕ) → left_since disk (moment disk) image → may_leave disk image)
      → IsBack told may_leave moment left_since secured_since disk_faults s disk disk
  untouched s disk only_now = record {
    lost = record {
      any_moment = λ bytes at only. still told may_leave moment left_since secured_since disk _ only_now
          (λ image left. subst (λ (x : List ℕ). LostNothing (opens_game s bytes) (opens_game s x)) (sym (only image left)) (lost_same (opens_game s bytes)));
      at_end = λ bytes at only. certain_same (opens_game s bytes) (opens_game s) (may_leave disk) (λ image left. ap (opens_game s) (only image left));
    };
    faults = omega arith;
  }

  -- how a journal is opened
  module _ (authors : ℕ) (s : Setting) (tag : List ℕ) (is : tag ≡ tag_of s) (was : D) (r : Result (Journaled Game D) (NotOpened × D))
      (setting : IfOk r (λ w. w.game.setting ≡ s)) (front : IfOk r (IsJustOpened tag))
      (opened : (bytes : List ℕ) → told was ≡ Some bytes → OpensAs (λ (g : Game). g.entries) authors (opens (play_of s) tag bytes) r)
      (few : IfOk r (λ w. All (λ e. author_of e < authors) w.game.entries))
      (on : IfOk r (λ w. TellsOn (told was) (told w.disk)))
      (looks : (bytes : List ℕ) → told was ≡ Some bytes → is_fresh bytes ≡ false → OnlyLooks told may_leave moment left_since secured_since was (disk_of r))
      (fresh : (bytes : List ℕ) → told was ≡ Some bytes → is_fresh bytes ≡ true → Only bytes (may_leave was) → LeavesOnly moment left_since was (disk_of r) (IsNewOrTag tag))
      (syncs : (bytes : List ℕ) → told was ≡ Some bytes → is_fresh bytes ≡ true → Only bytes (may_leave was) → SyncsOnly moment secured_since was (disk_of r) (IsNewOrTag tag))
      (faults : CountsOpeningFault (end_of r) (disk_faults was) (disk_faults (disk_of r)))
      (counts_now : (disk : D) (t : ℕ) (image : List ℕ) → t ≤ moment disk → may_leave disk image → left_since disk t image) where
    gives : (o : Opening Entries) (entries : Entries) (end : ℕ) → GivesEntries o entries end → Gives o entries
    gives Fresh entries end g = g
    gives Other entries end g = absurd g
    gives (Bad place) entries end g = absurd g
    gives (Open last place) entries end g = g.0

    pub opens_one : IfOk r (IsOpening told may_leave moment left_since secured_since disk_faults authors s was)
    opens_one = by r setting front opened few on looks fresh syncs faults
      where
        by : (x : Result (Journaled Game D) (NotOpened × D)) → IfOk x (λ w. w.game.setting ≡ s) → IfOk x (IsJustOpened tag)
            → ((bytes : List ℕ) → told was ≡ Some bytes → OpensAs (λ (g : Game). g.entries) authors (opens (play_of s) tag bytes) x)
            → IfOk x (λ w. All (λ e. author_of e < authors) w.game.entries) → IfOk x (λ w. TellsOn (told was) (told w.disk))
            → ((bytes : List ℕ) → told was ≡ Some bytes → is_fresh bytes ≡ false → OnlyLooks told may_leave moment left_since secured_since was (disk_of x))
            → ((bytes : List ℕ) → told was ≡ Some bytes → is_fresh bytes ≡ true → Only bytes (may_leave was) → LeavesOnly moment left_since was (disk_of x) (IsNewOrTag tag))
            → ((bytes : List ℕ) → told was ≡ Some bytes → is_fresh bytes ≡ true → Only bytes (may_leave was) → SyncsOnly moment secured_since was (disk_of x) (IsNewOrTag tag))
            → CountsOpeningFault (end_of x) (disk_faults was) (disk_faults (disk_of x)) → IfOk x (IsOpening told may_leave moment left_since secured_since disk_faults authors s was)
        by (Err e) a b c d f g h i j = tt
        by (Ok w) set just so below tells look new sync count = record {
          setting = set;
          began = just.began;
          goes = just.stop;
          opened = record {
            tag = just.tag ∙ is ∙ ap tag_of (sym set);
            had = subst (λ (x : Setting). HasKept told x authors w.began.entries was) (sym set)
                (subst (λ (g : Game). HasKept told s authors g.entries was) (sym just.began) (record {
                  had = λ bytes at. gives (opens_game s bytes) w.game.entries w.end (subst (λ (t : List ℕ). GivesEntries (opens (play_of s) t bytes) w.game.entries w.end) is (so bytes at));
                  few = below;
                }));
            on = subst (λ (d : D). TellsOn (told was) (told d)) (sym just.opened) tells;
            looks = λ bytes at old. subst (λ (d : D). OnlyLooks told may_leave moment left_since secured_since was d) (sym just.opened) (look bytes at old);
            fresh = λ bytes at first only.
                subst (λ (d : D). LeavesOnly moment left_since was d (IsNewOrTag w.tag)) (sym just.opened)
                (subst (λ (t : List ℕ). LeavesOnly moment left_since was w.disk (IsNewOrTag t)) (sym just.tag) (new bytes at first only));
            syncs = λ bytes at first only.
                subst (λ (d : D). SyncsOnly moment secured_since was d (IsNewOrTag w.tag)) (sym just.opened)
                (subst (λ (t : List ℕ). SyncsOnly moment secured_since was w.disk (IsNewOrTag t)) (sym just.tag) (sync bytes at first only));
            faults = subst (λ (d : D). disk_faults was ≤ disk_faults d) (sym just.opened) count;
          };
        }

    count_on : (e : NotOpened) (old new : ℕ) → CountsOpeningFault {T = ℕ} (Err e) old new → old ≤ new
    count_on not_opened.DiskFault old new c = omega (arith, c)
    count_on not_opened.OtherGame old new c = c
    count_on (not_opened.BadJournal place) old new c = c
    count_on not_opened.NoMemory old new c = c

    pub comes_back : IfErr r (λ e. IsBack told may_leave moment left_since secured_since disk_faults s was e.1)
    comes_back = by r looks fresh faults
      where
        by : (x : Result (Journaled Game D) (NotOpened × D))
            → ((bytes : List ℕ) → told was ≡ Some bytes → is_fresh bytes ≡ false → OnlyLooks told may_leave moment left_since secured_since was (disk_of x))
            → ((bytes : List ℕ) → told was ≡ Some bytes → is_fresh bytes ≡ true → Only bytes (may_leave was) → LeavesOnly moment left_since was (disk_of x) (IsNewOrTag tag))
            → CountsOpeningFault (end_of x) (disk_faults was) (disk_faults (disk_of x)) → IfErr x (λ e. IsBack told may_leave moment left_since secured_since disk_faults s was e.1)
        by (Ok w) look begun count = tt
        by (Err e) look begun count = record {
          lost = record {
            any_moment = λ bytes at only. by_fresh bytes at only (is_fresh bytes) refl;
            at_end = λ bytes at only. certain bytes at only (is_fresh bytes) refl;
          };
          faults = count_on e.0 (disk_faults was) (disk_faults e.1) count;
        }
          where
            of_new : (image : List ℕ) → Partly None Fresh [] (opens_game s image) → (opens_game s image ≡ Fresh) ⊎ ((end : ℕ) × (opens_game s image ≡ Open [] end))
            of_new image (inl new) = inl new
            of_new image (inr p) = inr (p.end, subst (λ (l : Entries). opens_game s image ≡ Open l p.end) (none p.part p.goes) p.opened)
              where
                none : (part : Entries) → IsPrefix part [] → part ≡ []
                none [] goes = refl
                none (e ∷ part) goes = absurd (cc goes.1)

            certain : (bytes : List ℕ) → told was ≡ Some bytes → Only bytes (may_leave was) → (b : Bool) → is_fresh bytes ≡ b → IsCertain (opens_game s bytes) (opens_game s) (may_leave e.1)
            certain bytes at only true first =
                let run = begun bytes at first only in
                subst (λ (x : Opening Entries). IsCertain x (opens_game s) (may_leave e.1)) (sym (opens_fresh (play_of s) (tag_of s) bytes first))
                (inr (λ image left. of_new image (partly_new s None [] [] (prefix_self []) image
                (subst (λ (t : List ℕ). IsNewOrTag t image) is (run.each image (counts_now e.1 (moment was) image run.later left))))))
            certain bytes at only false old =
                certain_same (opens_game s bytes) (opens_game s) (may_leave e.1) (λ image left. ap (opens_game s) (only image ((look bytes at old).crash image left)))

            by_fresh : (bytes : List ℕ) → told was ≡ Some bytes → Only bytes (may_leave was) → (b : Bool) → is_fresh bytes ≡ b
                → LeavesOnly moment left_since was e.1 (λ image. LostNothing (opens_game s bytes) (opens_game s image))
            by_fresh bytes at only true first =
                weaker moment left_since was e.1 _ _ (begun bytes at first only)
                (λ image n. subst (λ (x : Opening Entries). LostNothing x (opens_game s image)) (sym (opens_fresh (play_of s) (tag_of s) bytes first))
                (lost_of None Fresh [] (opens_game s image) (partly_new s None [] [] (prefix_self []) image (subst (λ (t : List ℕ). IsNewOrTag t image) is n))))
            by_fresh bytes at only false old =
                weaker moment left_since was e.1 _ _ (look bytes at old).any_moment
                (λ image left. subst (λ (x : List ℕ). LostNothing (opens_game s bytes) (opens_game s x)) (sym (only image left)) (lost_same (opens_game s bytes)))

    pub is_right : IfErr r (λ e. IsRight told may_leave moment left_since secured_since disk_faults authors e.0 s was e.1)
    is_right = by r opened faults
      where
        by_why : (why : NotOpened) (now : D) → ((bytes : List ℕ) → told was ≡ Some bytes → IsReason authors (opens (play_of s) tag bytes) why)
            → CountsOpeningFault {T = ℕ} (Err why) (disk_faults was) (disk_faults now) → IsRight told may_leave moment left_since secured_since disk_faults authors why s was now
        by_why not_opened.DiskFault now so count = count
        by_why not_opened.OtherGame now so count = λ bytes at. subst (λ (t : List ℕ). IsReason authors (opens (play_of s) t bytes) not_opened.OtherGame) is (so bytes at)
        by_why (not_opened.BadJournal place) now so count = λ bytes at. subst (λ (t : List ℕ). IsReason authors (opens (play_of s) t bytes) (not_opened.BadJournal place)) is (so bytes at)
        by_why not_opened.NoMemory now so count = λ bytes at. tt

        by : (x : Result (Journaled Game D) (NotOpened × D)) → ((bytes : List ℕ) → told was ≡ Some bytes → OpensAs (λ (g : Game). g.entries) authors (opens (play_of s) tag bytes) x)
            → CountsOpeningFault (end_of x) (disk_faults was) (disk_faults (disk_of x)) → IfErr x (λ e. IsRight told may_leave moment left_since secured_since disk_faults authors e.0 s was e.1)
        by (Ok w) so count = tt
        by (Err e) so count = by_why e.0 e.1 so count
