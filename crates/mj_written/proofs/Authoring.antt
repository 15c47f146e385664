-- Whose the entry of a call is.
use Rattle.std.proofs.Common.{arith, inr, ◌<◌, ◌≡◌, ℕ, Bool, true, false, List, [], ◌∷◌, ◌++◌, Option, Some, None, refl, sym, ◌∙◌, ap}
use Rattle.std.specs.Prelude.{◌&&◌, nat_lt}
use Rattle.std.specs.Prelude.{All}
use Rattle.std.proofs.lemmas.Bool.Decides.{nat_tests}
use Rattle.std.proofs.lemmas.List.Elements.{All-nil, All-cons}
use Rattle.std.proofs.lemmas.List.Folds.{list_all-append}
use Rattle.mj_ports.specs.declared.entry.Entry.{Entry}
use Rattle.mj_ports.specs.declared.sitting.JoinLine.{JoinLine}
use Rattle.mj_ports.specs.declared.answers.SitAnswer.{SitAnswer}
use Rattle.mj_ports.specs.declared.answers.SitAnswer.TheVariants as sits
use Rattle.mj_ports.specs.declared.answers.Heard.{Heard}
use Rattle.mj_ports.specs.declared.answers.Heard.TheVariants as heard
use Rattle.mj_ports.specs.declared.answers.Expiry.{Expiry}
use Rattle.mj_ports.specs.declared.answers.Expiry.TheVariants as expiry
use Rattle.mj_ports.specs.Entries.{author_of}
use Rattle.mj_written.specs.Authors.{are_below, stays_below, IsOther}
use Rattle.mj_journal.specs.Founding.{GivesEntries}
use Rattle.mj_journal.specs.Openings.{Opening, Fresh, Other, Bad, Open}
use Rattle.mj_journal.specs.Outcomes.{Enters}
use Rattle.mj_journal.specs.Playing.{sat, said, expired}
use Rattle.mj_journal.specs.declared.outcome.Outcome.{Outcome}
use Rattle.mj_journal.specs.declared.outcome.Outcome.TheVariants.{Entered, Nothing, NoMemory}

-- an entry is by this author
abbrev pub IsBy : {A : Type 0} → Option (Entry A) → ℕ → Type 0
IsBy None author = Unit {0}
IsBy (Some e) author = author_of e ≡ author

pub sat_by : (A : Type 0) (right : SitAnswer) (author : ℕ) (join : Option JoinLine) → IsBy (sat {A = A} right author join) author
sat_by A (sits.Sat seat) author None = record {}
sat_by A (sits.Sat seat) author (Some join) = refl
sat_by A (sits.Back seat) author join = refl
sat_by A (sits.Refused why) author join = record {}
sat_by A sits.NoMemory author join = record {}

pub expired_by : (A : Type 0) (right : Expiry) (author window t1 t2 : ℕ) → IsBy (expired {A = A} right author window t1 t2) author
expired_by A expiry.Closed author window t1 t2 = refl
expired_by A expiry.Stale author window t1 t2 = record {}
expired_by A expiry.Early author window t1 t2 = record {}
expired_by A expiry.NoMemory author window t1 t2 = record {}

and_parts : (a b : Bool) → (a && b) ≡ true → (a ≡ true) × (b ≡ true)
and_parts true b is = (refl, is)
and_parts false b is = absurd (cc is)

and_true : (b : Bool) → (b && true) ≡ b
and_true true = refl
and_true false = refl

module _ {A : Type 0} where
  pub said_by : {R : Type 0} (right : Heard R) (author seat : ℕ) (answer : A) → IsBy (said right author seat answer) author
  said_by heard.Taken author seat answer = refl
  said_by heard.Late author seat answer = refl
  said_by (heard.Refused rule) author seat answer = refl
  said_by (heard.Closing rule) author seat answer = refl
  said_by heard.NoMemory author seat answer = record {}

  one_more_by : (e : Entry A) (author authors : ℕ) (old : List (Entry A)) → author_of e ≡ author → (are_below authors old && nat_lt author authors) ≡ are_below authors (old ++ e ∷ [])
  one_more_by e author authors old by =
      sym (
      list_all-append (λ (x : Entry A). nat_lt (author_of x) authors) old (e ∷ [])
      ∙ ap (λ (b : Bool). are_below authors old && b) (and_true (nat_lt (author_of e) authors))
      ∙ ap (λ (n : ℕ). are_below authors old && nat_lt n authors) by
      )

  -- whether all are below stays known
  pub below_after : (o : Outcome) (right : Option (Entry A)) (below : Bool) (author authors : ℕ) (old new : List (Entry A)) → Enters o right old new → IsBy right author → below ≡ are_below authors old
      → stays_below o below author authors ≡ are_below authors new
  below_after Entered (Some e) below author authors old new enters by was =
      ap (λ (b : Bool). b && nat_lt author authors) was ∙ one_more_by e author authors old by ∙ ap (are_below authors) (sym enters)
  below_after Entered None below author authors old new enters by was = absurd enters
  below_after Nothing (Some e) below author authors old new enters by was = absurd enters
  below_after Nothing None below author authors old new enters by was = was ∙ ap (are_below authors) (sym enters)
  below_after NoMemory right below author authors old new enters by was = was ∙ ap (are_below authors) (sym enters)

  -- and so they are each below
  pub all_below : (authors : ℕ) (entries : List (Entry A)) → are_below authors entries ≡ true → All (λ e. author_of e < authors) entries
  all_below authors [] is = All-nil (λ (e : Entry A). author_of e < authors)
  all_below authors (e ∷ entries) is =
      let parts = and_parts (nat_lt (author_of e) authors) (are_below authors entries) is in
      let first = parts.0 in
      All-cons (λ (x : Entry A). author_of x < authors) e entries (grind (arith, nat_tests)) (all_below authors entries parts.1)

  -- a journal that keeps others is another game's
  pub other_if : (opening : Opening (List (Entry A))) (entries : List (Entry A)) (end authors : ℕ) → GivesEntries opening entries end → are_below authors entries ≡ false → IsOther authors opening
  other_if Fresh entries end authors gives is = absurd (cc (gives, is))
  other_if Other entries end authors gives is = absurd gives
  other_if (Bad place) entries end authors gives is = absurd gives
  other_if (Open last place) entries end authors gives is = inr (last, place, refl, ap (are_below authors) (sym gives.0) ∙ is)
