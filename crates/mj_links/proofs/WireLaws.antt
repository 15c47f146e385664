-- A line that is read from a link, read by read.
use Rattle.std.proofs.Common.{◌≡◌, ℕ, ◌+◌, ◌<◌, ◌≤◌, List, [], ◌∷◌, ◌++◌, length, take, drop, refl, sym, ap, ◌∙◌, arith, subst, append_assoc, append-nil, length-take, false}
use Rattle.std.specs.Prelude.{Option}
use Rattle.std.specs.Io.KnownBytes.{Consumes, Appends, Keeps}
use Rattle.mj_links.specs.declared.source.Got.TheVariants.{Bytes, End, Failed}
use Rattle.mj_links.specs.Fills.{Fills}
use Rattle.mj_links.specs.Links.{Passes, GivesLine, EndsFirst, KeepsAll, WritingStays, ReadingStays, ReadsOn, has_newline}
use Rattle.mj_links.proofs.KnownLaws.{Consumes-nothing, Consumes-more, Consumes-keeps, Appends-nothing, Appends-more}
use Rattle.mj_links.proofs.HeldLaws.{Parts, found, none_found}

-- nothing is gone yet, the caller's line and the writing half are as they were, and the count of faults did not fall
pub record ReadingLine (left left' read read' written written' : Option (List ℕ)) (held held' text text' : List ℕ) (faults faults' write write' : ℕ) : Type 0 where
  pub passes : Passes left left' read read' held held' []
  pub line : text' ≡ text
  pub writing : WritingStays written written' write write'
  pub risen : faults ≤ faults'

pub passes_nothing : (l r : Option (List ℕ)) (h : List ℕ) → Passes l l r r h h []
passes_nothing l r h = record { bytes = []; taken = Consumes-nothing l; read = Appends-nothing r; held = append-nil h }

pub passes_more : (l l' l2 r r' r2 : Option (List ℕ)) (h h' h2 bytes : List ℕ) → Passes l l' r r' h h' [] → Consumes l' l2 bytes → Appends r' r2 bytes → h2 ≡ h' ++ bytes
    → Passes l l2 r r2 h h2 []
passes_more l l' l2 r r' r2 h h' h2 bytes p t a e = record {
  bytes = p.bytes ++ bytes;
  taken = Consumes-more l l' l2 p.bytes bytes p.taken t;
  read = Appends-more r r' r2 p.bytes bytes p.read a;
  held = sym (append_assoc h p.bytes bytes) ∙ (ap (λ (x : List ℕ). x ++ bytes) p.held ∙ sym e);
}

pub passes_keeps : (l l' l2 r r' r2 : Option (List ℕ)) (h h' front : List ℕ) → Passes l l' r r' h h' front → Keeps l' l2 → Appends r' r2 [] → Passes l l2 r r2 h h' front
passes_keeps l l' l2 r r' r2 h h' front p k a = record {
  bytes = p.bytes;
  taken = Consumes-keeps l l' l2 p.bytes p.taken k;
  read = subst (λ (x : List ℕ). Appends r r2 x) (append-nil p.bytes) (Appends-more r r' r2 p.bytes [] p.read a);
  held = p.held;
}

pub passes_front : (l l' r r' : Option (List ℕ)) (h h' front rest : List ℕ) → Passes l l' r r' h h' [] → h' ≡ front ++ rest → Passes l l' r r' h rest front
passes_front l l' r r' h h' front rest p e = record { bytes = p.bytes; taken = p.taken; read = p.read; held = p.held ∙ e }

-- a read that fails adds nothing to what is held
pub still_no_line : (l l' r r' : Option (List ℕ)) (h h' : List ℕ) → Fills Failed l l' (λ into. ReadsOn Failed into r r') h h' → has_newline h ≡ false → has_newline h' ≡ false
still_no_line l l' r r' h h' fill none = subst (λ (x : List ℕ). has_newline x ≡ false) (sym (fill.added ∙ append-nil h)) none

-- nor is there less room after it
pub still_short : (l l' r r' : Option (List ℕ)) (h h' : List ℕ) → Fills Failed l l' (λ into. ReadsOn Failed into r r') h h' → length h < 4096 → length h' < 4096
still_short l l' r r' h h' fill short = subst (λ (x : List ℕ). length x < 4096) (sym (fill.added ∙ append-nil h)) short

module _ (l l' r r' w w' : Option (List ℕ)) (h h' line line' : List ℕ) (f f' v v' : ℕ) where
  pub reading_line-start : ReadingLine l l r r w w h h line line f f v v
  reading_line-start = record { passes = passes_nothing l r h; line = refl; writing = record { written = refl; faults = refl }; risen = omega arith }

  module _ (l2 r2 w2 : Option (List ℕ)) (h2 : List ℕ) (f2 v2 : ℕ) (s : ReadingLine l l' r r' w w' h h' line line' f f' v v') (stays : WritingStays w' w2 v' v2) where
    stay_on : WritingStays w w2 v v2
    stay_on = record { written = stays.written ∙ s.writing.written; faults = stays.faults ∙ s.writing.faults }

    pub reading_line-more : (n : ℕ) → Fills (Bytes n) l' l2 (λ into. ReadsOn (Bytes n) into r' r2) h' h2 → f' ≤ f2 → ReadingLine l l2 r r2 w w2 h h2 line line' f f2 v v2
    reading_line-more n fill up = record {
      passes = passes_more l l' l2 r r' r2 h h' h2 (take n fill.into) s.passes fill.reads.2 fill.others fill.added;
      line = s.line;
      writing = stay_on;
      risen = omega (arith, s.risen);
    }

    pub reading_line-failed : Fills Failed l' l2 (λ into. ReadsOn Failed into r' r2) h' h2 → KeepsAll l l2 r r2 h h2 line line' × WritingStays w w2 v v2
    reading_line-failed fill =
        let same : h2 ≡ h' = fill.added ∙ append-nil h' in
        (record { passes = subst (λ (x : List ℕ). Passes l l2 r r2 h x []) (sym same) (passes_keeps l l' l2 r r' r2 h h' [] s.passes fill.reads fill.others); line = s.line }, stay_on)

    pub reading_line-ended : (h3 : List ℕ) → Fills End l' l2 (λ into. ReadsOn End into r' r2) h' h2 → has_newline h' ≡ false → length h' < 4096 → h3 ≡ []
        → EndsFirst l l2 r r2 h h3 × WritingStays w w2 v v2
    reading_line-ended h3 fill none short gone = (
      record {
        rest = h';
        passes = passes_front l l2 r r2 h h' h' h3 (passes_keeps l l' l2 r r' r2 h h' [] s.passes fill.reads.1 fill.others) (sym (append-nil h') ∙ ap (λ (x : List ℕ). h' ++ x) (sym gone));
        unfinished = none;
        short = short;
        none = gone;
        ended = fill.reads.0;
      },
      stay_on,
    )

  pub reading_line-kept : ReadingLine l l' r r' w w' h h' line line' f f' v v' → KeepsAll l l' r r' h h' line line'
  reading_line-kept s = record { passes = s.passes; line = s.line }

  pub reading_line-line : (n : ℕ) (h2 line2 : List ℕ) → ReadingLine l l' r r' w w' h h' line line' f f' v v' → Parts h' n → length h' ≤ 4096 → line2 ≡ take n h' → h2 ≡ drop (n + 1) h'
      → GivesLine l l' r r' h h2 line2
  reading_line-line n h2 line2 s part room is rest = record {
    passes = passes_front l l' r r' h h' (line2 ++ 10 ∷ []) h2 s.passes (part.split ∙ (sym (append_assoc (take n h') (10 ∷ []) (drop (n + 1) h'))
        ∙ (ap (λ (x : List ℕ). (x ++ 10 ∷ []) ++ drop (n + 1) h') (sym is) ∙ ap (λ (x : List ℕ). (line2 ++ 10 ∷ []) ++ x) (sym rest))));
    first = subst (λ (x : List ℕ). has_newline x ≡ false) (sym is) part.first;
    short = omega (arith, ap length is, length-take n h', part.within, room);
  }

pub ruleset reading_lines = (reading_line-start, reading_line-more, reading_line-failed, reading_line-ended, reading_line-kept, reading_line-line, found, none_found)

pub reading_stays-start : (read left : Option (List ℕ)) (faults : ℕ) → ReadingStays read read left left faults faults
reading_stays-start read left faults = record { read = refl; left = refl; faults = refl }

pub reading_stays-more : (r r' r2 l l' l2 : Option (List ℕ)) (f f' f2 : ℕ) → ReadingStays r r' l l' f f' → ReadingStays r' r2 l' l2 f' f2 → ReadingStays r r2 l l2 f f2
reading_stays-more r r' r2 l l' l2 f f' f2 s t = record { read = t.read ∙ s.read; left = t.left ∙ s.left; faults = t.faults ∙ s.faults }

pub ruleset sending = (reading_stays-start, reading_stays-more)
