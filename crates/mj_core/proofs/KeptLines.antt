-- The line that is kept for a seat is the one that the game shows.
use Rattle.std.proofs.Common.{◌≡◌, ℕ, zero, suc, ◌<◌, ◌≤◌, List, [], ◌∷◌, ◌++◌, length, refl, ap, ◌∙◌, sym, arith, append-nil}
use Rattle.std.specs.Prelude.{Option, Some, None, unwrap_or, option_copied, slice_get, MatchOption}
use Rattle.std.specs.Borrow.{Bor}
use Rattle.std.proofs.lemmas.Option.{slice_get_within}
use Rattle.mj_deeds.specs.declared.answer.Answer.{Answer}
use Rattle.mj_deeds.specs.declared.deed.Deed.{Deed}
use Rattle.mj_deeds.specs.declared.four.Four.{Four}
use Rattle.mj_deeds.specs.Four.{at_seat}
use Rattle.mj_wall.specs.declared.setting.Rules.{Rules}
use Rattle.mj_history.specs.After.{lines_for}
use Rattle.mj_history.specs.Shown.{line_at}
use Rattle.mj_history.proofs.LinesGrow.{lines_for-more, length-lines, no_line_behind}
use Rattle.mj_bytes.specs.Adds.{Adds}
use Rattle.mj_streams.specs.Streams.{with_deed}
use Rattle.mj_core.specs.Inner.Streamed.{lines_of_all, possible_of_all}

-- A deed more that is told to the seats, each with what it may answer to it, is a line more for each.
pub told_more : (rules : Rules) (deeds : List Deed) (deed : Deed) →
    with_deed (lines_of_all rules deeds) deed (possible_of_all rules (deeds ++ deed ∷ [])) ≡ lines_of_all rules (deeds ++ deed ∷ [])
told_more rules deeds deed = λ i. record {
  first = sym (lines_for-more rules 0 deeds deed) i;
  second = sym (lines_for-more rules 1 deeds deed) i;
  third = sym (lines_for-more rules 2 deeds deed) i;
  fourth = sym (lines_for-more rules 3 deeds deed) i;
}

pub told_next : (rules rules' : Rules) (deeds played deeds' : List Deed) (deed : Deed) (old new : Four (List (List ℕ))) (lists : Four (List Answer)) →
    old ≡ lines_of_all rules deeds → rules' ≡ rules → played ≡ deeds ++ deed ∷ [] → deeds' ≡ deeds ++ deed ∷ [] → lists ≡ possible_of_all rules' played → new ≡ with_deed old deed lists →
    new ≡ lines_of_all rules' deeds'
told_next rules rules' deeds played deeds' deed old new lists o r p q l is =
    is
    ∙ (λ i. with_deed (o i) deed (l i))
    ∙ (λ i. with_deed (lines_of_all (sym r i) deeds) deed (possible_of_all rules' (p i)))
    ∙ told_more rules' deeds deed
    ∙ ap (lines_of_all rules') (sym q)

-- The lines of a seat among those of the four.
pub lines_of_seat : (rules : Rules) (deeds : List Deed) (seat : ℕ) → seat < 4 → at_seat (lines_of_all rules deeds) seat ≡ lines_for rules seat deeds
lines_of_seat rules deeds zero h = refl
lines_of_seat rules deeds (suc zero) h = refl
lines_of_seat rules deeds (suc (suc zero)) h = refl
lines_of_seat rules deeds (suc (suc (suc zero))) h = refl
lines_of_seat rules deeds (suc (suc (suc (suc n)))) h = absurd (omega (arith, h))

absent : (lines : List (List ℕ)) (k : ℕ) → slice_get lines k ≡ None → length lines ≤ k
absent [] k e = omega arith
absent (line ∷ lines) zero e = cc
absent (line ∷ lines) (suc k) e = let h : length lines ≤ k = absent lines k e in omega arith

no-line : (n : ℕ) (lines : List (List ℕ)) (k : ℕ) → length lines ≡ n → None ≡ slice_get lines k → n ≤ k
no-line n lines k long e = omega (arith, long, absent lines k (sym e))

one-line : (n : ℕ) (lines : List (List ℕ)) (k : ℕ) (text : List ℕ) → length lines ≡ n → Some text ≡ slice_get lines k → (k < n) × (text ≡ unwrap_or (slice_get lines k) [])
one-line n lines k text long e =
    (omega (arith, long, slice_get_within lines k text (sym e)), ap (λ (o : Option (List ℕ)). unwrap_or o []) e)

pub kept-line : (rules : Rules) (deeds : List Deed) (seat k : ℕ) (kept : Option (Bor (List ℕ))) → option_copied kept ≡ slice_get (lines_for rules seat deeds) k
    → MatchOption kept (length deeds ≤ k) (λ l. (k < length deeds) × (l.now ≡ line_at rules deeds seat k))
kept-line rules deeds seat k None e = no-line (length deeds) (lines_for rules seat deeds) k (length-lines rules seat deeds) e
kept-line rules deeds seat k (Some text) e = one-line (length deeds) (lines_for rules seat deeds) k text.now (length-lines rules seat deeds) e

-- There is no line after the last deed.
pub no_line : (rules : Rules) (seat k : ℕ) (deeds : List Deed) (told : List ℕ) → length deeds ≤ k → Adds told told (line_at rules deeds seat k)
no_line rules seat k deeds told behind = record { is = rw (no_line_behind rules seat k deeds behind) (sym (append-nil told)) }
