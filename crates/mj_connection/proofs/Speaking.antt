-- What was entered by the lines of a connection, line after line.
use Rattle.std.proofs.Common.{◌≡◌, ℕ, List, [], ◌∷◌, ◌++◌, length, refl, sym, ap, ◌∙◌, subst, append-nil}
use Rattle.mj_connection.specs.Stages.{SeatAt}
use Rattle.mj_ports.specs.declared.entry.Entry.TheVariants.{Said}
use Rattle.mj_ports.specs.declared.seated.Seated.{Ghosts}
use Rattle.mj_connection.specs.Seating.{Enters, said_by, Entry, GetsSeat}
use Rattle.mj_connection.specs.Spoken.{Spoke}
use Rattle.mj_connection.proofs.Growing.{enters_nothing, enters_chain, enters_one, said_append}

module _ {G S A R : Type 0} (g : Ghosts G S A R) (s : S) (author : ℕ) (start old new : List (Entry A)) (at : SeatAt) where
  abbrev Has : List (Entry A) → List (List ℕ) → List (List ℕ) → List (Entry A) → Type 0
  Has es lines left_out last = Spoke g s author start es at lines left_out last

  -- the first line
  pub spoke_first : (line : List ℕ) (lines : List (List ℕ)) (first : Entry A) → GetsSeat (g.sits s) g.joins old line author at.seat first →
      at.place ≡ length old → new ≡ old ++ first ∷ [] → (lines ≡ []) × Enters author start old [] → Has new (lines ++ line ∷ []) [] []
  spoke_first line lines first gets place added (none, nothing) = record {
    before = old;
    first = first;
    line = line;
    said = [];
    nothing_before = nothing;
    gets_seat = gets;
    place_is = place;
    lines_are = ap (λ (l : List (List ℕ)). l ++ line ∷ []) none;
    entered = subst (λ (l : List (Entry A)). Enters author l new []) added (enters_nothing author new);
  }

  -- the same first line, with other lines after it
  spoke_as : (lines ls left_out : List (List ℕ)) (es : List (Entry A)) (last : List (Entry A)) (k : Has old lines [] []) (said : List (List ℕ)) → ls ≡ k.line ∷ (said ++ left_out)
      → Enters author (k.before ++ k.first ∷ []) es (said_by g.reads author at.seat said ++ last) → Has es ls left_out last
  spoke_as lines ls left_out es last k said is entered = record {
    before = k.before;
    first = k.first;
    line = k.line;
    said = said;
    nothing_before = k.nothing_before;
    gets_seat = k.gets_seat;
    place_is = k.place_is;
    lines_are = is;
    entered = entered;
  }

  abbrev own : List (List ℕ) → List (Entry A)
  own said = said_by g.reads author at.seat said

  -- what was entered since
  spoke_then : (lines : List (List ℕ)) (mine : List (Entry A)) (k : Has old lines [] []) → Enters author old new mine → Enters author (k.before ++ k.first ∷ []) new (own k.said ++ mine)
  spoke_then lines mine k e = subst (λ (l : List (Entry A)). Enters author (k.before ++ k.first ∷ []) new (l ++ mine)) (append-nil (own k.said))
      (enters_chain author (k.before ++ k.first ∷ []) old new (own k.said ++ []) mine k.entered e)

  -- a history that the author left alone
  pub spoke_on : (lines : List (List ℕ)) → Enters author old new [] → Has old lines [] [] → Has new lines [] []
  spoke_on lines nothing k = spoke_as lines lines [] new [] k k.said k.lines_are (spoke_then lines [] k nothing)

  -- a later line that was entered
  pub spoke_more : (line : List ℕ) (lines : List (List ℕ)) → new ≡ old ++ Said author at.seat (g.reads line) ∷ [] → Has old lines [] [] → Has new (lines ++ line ∷ []) [] []
  spoke_more line lines added k =
      let one : Entry A = Said author at.seat (g.reads line) in
      spoke_as lines (lines ++ line ∷ []) [] new [] k (k.said ++ line ∷ [])
      (ap (λ (l : List (List ℕ)). l ++ line ∷ []) k.lines_are ∙ ap (λ (l : List (List ℕ)). k.line ∷ l) (ap (λ (l : List (List ℕ)). l ++ line ∷ [])
      (append-nil k.said) ∙ sym (append-nil (k.said ++ line ∷ []))))
      (subst (λ (l : List (Entry A)). Enters author (k.before ++ k.first ∷ []) new l) (sym (said_append g.reads author at.seat k.said (line ∷ [])) ∙ sym (append-nil (own (k.said ++ line ∷ []))))
      (spoke_then lines (one ∷ []) k (enters_one author old new one refl added)))

  -- a later line that was not entered
  pub spoke_less : (line : List ℕ) (lines : List (List ℕ)) → new ≡ old → Has old lines [] [] → Has new (lines ++ line ∷ []) (line ∷ []) []
  spoke_less line lines same k =
      spoke_as lines (lines ++ line ∷ []) (line ∷ []) new [] k k.said (ap (λ (l : List (List ℕ)). l ++ line ∷ []) k.lines_are
      ∙ ap (λ (l : List (List ℕ)). k.line ∷ (l ++ line ∷ [])) (append-nil k.said))
      (subst (λ (l : List (Entry A)). Enters author (k.before ++ k.first ∷ []) l (own k.said ++ [])) (sym same) k.entered)
