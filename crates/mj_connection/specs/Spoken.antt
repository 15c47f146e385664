-- Which lines a connection heard, what was entered by them, and what a call leaves of a connection.
use Rattle.std.specs.Prelude.{◌≡◌, ◌⊎◌, ℕ, ◌<◌, ◌≤◌, Bool, true, false, List, [], ◌∷◌, ◌++◌, length}
use Rattle.mj_ports.specs.declared.entry.Entry.TheVariants.{Gone}
use Rattle.mj_ports.specs.declared.answers.SitAnswer.TheVariants as sit
use Rattle.mj_ports.specs.declared.seated.Seated.{Ghosts}
use Rattle.mj_connection.specs.Seating.{Enters, said_by, Entry, Showing, GetsSeat, EndsBy, Owes, EndsByRefusal}
use Rattle.mj_connection.specs.Stages.{SeatAt, Refused, Over, Closed, Left, Dry, Cut, Connection, New, Greeted, Free, Asked, Ended, Stands, Fits, Tells}

-- The link of a connection isn't lost, and to one that waits for a look nothing was written, unless this excuses it.
abbrev pub IsQuiet : Type 0 → Connection → List ℕ → List ℕ → Type 0
IsQuiet unless New before text = (text ≡ before) ⊎ unless
IsQuiet unless (Free at) before text = (text ≡ before) ⊎ unless
IsQuiet unless (Ended (Left at)) before text = ⊥
IsQuiet unless _ before text = Unit {0}

-- Memory ran out for a connection.
abbrev pub IsShort : Connection → Type 0
IsShort (Ended Dry) = Unit {0}
IsShort (Ended (Cut at)) = Unit {0}
IsShort _ = ⊥

-- The link was lost of a connection without a seat, or of one that had a deed to answer, unless this excuses it.
abbrev pub IsLost : {A : Type 0} → (List (Entry A) → Showing) → ℕ → Type 0 → Connection → List (Entry A) → Type 0
IsLost after author unless Greeted es = Unit {0}
IsLost after author unless (Ended (Left at)) es = EndsBy after at.seat at.place es (Gone author at.seat) (λ before. unless ⊎ Owes (after before) at.seat)
IsLost after author unless _ es = ⊥

-- The line of the due deed of a seat was written, or there is no such deed yet.
abbrev pub FindsDue : Bool → Showing → ℕ → List ℕ → List ℕ → Type 0
FindsDue true w seat old new = (w.due seat < w.deeds) × (new ≡ old ++ w.text seat (w.due seat))
FindsDue false w seat old new = (w.deeds ≤ w.due seat) × (new ≡ old)

-- Of a seated game with this setting, and of the connections of this author.
module _ {G S A R : Type 0} (g : Ghosts G S A R) (s : S) (author : ℕ) where
  -- The first line was given the seat at the place, and each line after it, but for those left out at the end, was entered, once
  -- each, in order, with what it reads as. Since the start the author entered nothing else but this, at the end.
  pub record Spoke (start es : List (Entry A)) (at : SeatAt) (lines left_out : List (List ℕ)) (last : List (Entry A)) : Type 0 where
    pub before : List (Entry A)
    pub first : Entry A
    pub line : List ℕ
    pub said : List (List ℕ)
    pub nothing_before : Enters author start before []
    pub gets_seat : GetsSeat (g.sits s) g.joins before line author at.seat first
    pub place_is : at.place ≡ length before
    pub lines_are : lines ≡ line ∷ (said ++ left_out)
    pub entered : Enters author (before ++ first ∷ []) es (said_by g.reads author at.seat said ++ last)

  -- What was entered by the lines of a connection since the history was the start, and how its end shows.
  abbrev pub Entered : Connection → List (Entry A) → List (Entry A) → List (List ℕ) → Type 0
  Entered (Free at) start es lines = Spoke start es at lines [] []
  Entered (Asked at) start es lines = Spoke start es at lines [] []
  Entered (Ended (Refused why)) start es lines = (line : List ℕ) × (lines ≡ line ∷ []) × (g.sits s es line ≡ sit.Refused why) × Enters author start es []
  Entered (Ended (Over at)) start es lines = Spoke start es at lines [] []
  Entered (Ended (Closed at)) start es lines = Spoke start es at lines [] [] × EndsByRefusal (g.after s) (g.hears s) author at.seat at.place es
  Entered (Ended (Left at)) start es lines = Spoke start es at lines [] (Gone author at.seat ∷ []) × EndsBy (g.after s) at.seat at.place es
      (Gone author at.seat) (λ before. Stands (g.after s before) author at)
  Entered (Ended Dry) start es lines = (length lines ≤ 1) × Enters author start es []
  Entered (Ended (Cut at)) start es lines = (left_out : List (List ℕ)) × (length left_out ≤ 1) × Spoke start es at lines left_out []
  Entered _ start es lines = (lines ≡ []) × Enters author start es []

  -- The connection stands so in the history, it heard these lines since the history was the start, and was told this.
  pub record IsAt (start : List (Entry A)) (c : Connection) (es : List (Entry A)) (lines : List (List ℕ)) (out : List ℕ) : Type 0 where
    pub fits : Fits c author (g.after s es)
    pub entered : Entered c start es lines
    pub tells : Tells g.says c (g.after s es) out

  module _ (b c : Connection) (old new : List (Entry A)) where
    -- One connection became another, which heard these lines more.
    abbrev pub Hears : List (List ℕ) → Type 0
    Hears heard = (start : List (Entry A)) (lines : List (List ℕ)) → Entered b start old lines → Entered c start new (lines ++ heard)

    -- What was written is what it was told more.
    abbrev pub Told : List ℕ → List ℕ → Type 0
    Told before text = (out : List ℕ) → Tells g.says b (g.after s old) (out ++ before) → Tells g.says c (g.after s new) (out ++ text)

    -- A step takes the connection from the one state to the other: it then stands in the game as its state says; the entries of its
    -- author are those of its lines, the lines that this step heard among them; and what it was told is what it was told before and
    -- what the step appended to the text.
    pub record Takes (before text : List ℕ) (heard : List (List ℕ)) : Type 0 where
      pub fits : Fits c author (g.after s new)
      pub hears : Hears heard
      pub tells : Told before text
