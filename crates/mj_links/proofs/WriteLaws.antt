-- A piece that is written, write by write.
use Rattle.std.proofs.Common.{◌≡◌, ℕ, ◌+◌, ◌<◌, ◌≤◌, List, ◌++◌, length, take, drop, refl, sym, ap, ◌∙◌, subst, arith, length-drop, take-add}
use Rattle.std.specs.Prelude.{Option}
use Rattle.std.specs.Io.KnownBytes.{Appends, Keeps}
use Rattle.std.proofs.lemmas.List.{take_all, drop-drop}
use Rattle.mj_links.specs.Sinks.{WritesPrefix}
use Rattle.mj_links.proofs.KnownLaws.{Appends-nothing, Appends-more, Appends-keeps}

-- so many bytes of the piece are written, the rest is still to be, and the count of faults did not fall
pub record WrittenSoFar (first now : Option (List ℕ)) (piece rest : List ℕ) (faults count : ℕ) : Type 0 where
  pub done : ℕ
  pub within : done ≤ length piece
  pub todo : rest ≡ drop done piece
  pub written : Appends first now (take done piece)
  pub risen : faults ≤ count

pub written_so_far-start : (a : Option (List ℕ)) (piece : List ℕ) (faults : ℕ) → WrittenSoFar a a piece piece faults faults
written_so_far-start a piece faults = record { done = 0; within = omega arith; todo = refl; written = Appends-nothing a; risen = omega arith }

pub written_so_far-more : (a b c : Option (List ℕ)) (piece rest next : List ℕ) (faults count later n : ℕ)
    → WrittenSoFar a b piece rest faults count → Appends b c (take n rest) → n ≤ length rest → next ≡ drop n rest → count ≤ later
    → WrittenSoFar a c piece next faults later
written_so_far-more a b c piece rest next faults count later n s p fits e more = record {
  done = s.done + n;
  within = omega (arith, s.within, ap length s.todo, length-drop s.done piece);
  todo = e ∙ (ap (drop n) s.todo ∙ drop-drop n s.done piece);
  written = subst (λ (l : List ℕ). Appends a c l) (ap (λ l. take s.done piece ++ take n l) s.todo ∙ sym (take-add s.done n piece)) (Appends-more a b c (take s.done piece) (take n rest) s.written p);
  risen = omega (arith, s.risen);
}

pub written_so_far-whole : (a b : Option (List ℕ)) (piece rest : List ℕ) (faults count : ℕ) → WrittenSoFar a b piece rest faults count → length rest ≡ 0 → Appends a b piece
written_so_far-whole a b piece rest faults count s z =
    let all : length piece ≤ s.done = omega (arith, z, ap length s.todo, length-drop s.done piece) in
    subst (λ (l : List ℕ). Appends a b l) (take_all s.done piece all) s.written

pub written_so_far-cut : (a b c : Option (List ℕ)) (piece rest : List ℕ) (faults count : ℕ) → WrittenSoFar a b piece rest faults count → 0 < length rest → Keeps b c → WritesPrefix a c piece
written_so_far-cut a b c piece rest faults count s some k = record {
  count = s.done;
  short = omega (arith, ap length s.todo, length-drop s.done piece);
  written = Appends-keeps a b c (take s.done piece) s.written k;
}

pub ruleset writing = (written_so_far-start, written_so_far-more, written_so_far-whole, written_so_far-cut)
