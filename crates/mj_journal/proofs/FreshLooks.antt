-- A disk at which one only looked before a new journal was made there, or the opening ended otherwise.
use Rattle.std.proofs.Common.{◌≡◌, inl, ℕ, true, List, [], Option, Some, Result, Ok, Err, IfErr, OnOk, sym, ◌∙◌, ap, subst}
use Rattle.mj_journal.specs.Disks.{LeavesOnly, SyncsOnly, Only}
use Rattle.mj_journal.specs.Looking.{OnlyLooks}
use Rattle.mj_journal.specs.Openings.{Opening, Fresh, is_fresh, IsNewOrTag}
use Rattle.mj_journal.specs.Founding.{GivesEntries, EndsAs, IsFromOutside}
use Rattle.mj_journal.specs.declared.not_opened.NotOpened.{NotOpened}
use Rattle.mj_journal.specs.declared.not_opened.NotOpened.TheVariants.{DiskFault, OtherGame, BadJournal, NoMemory}
use Rattle.mj_journal.proofs.Moments.{goes_on, weaker}

some_bytes : (x y : List ℕ) → Some x ≡ Some y → x ≡ y
some_bytes x y e = cc e

module _ {D : Type 0} (told : D → Option (List ℕ)) (may_leave : D → List ℕ → Type 0) (moment : D → ℕ) (left_since secured_since : D → ℕ → List ℕ → Type 0)
    (tag bytes : List ℕ) (old new : D) (looks : OnlyLooks told may_leave moment left_since secured_since old new) (is : told old ≡ Some bytes) (fresh : is_fresh bytes ≡ true) where
  pub fresh_left : Only bytes (may_leave old) → LeavesOnly moment left_since old new (IsNewOrTag tag)
  fresh_left only = weaker moment left_since old new _ _ looks.any_moment (λ image left. inl (ap is_fresh (only image left) ∙ fresh))

  pub fresh_put : SyncsOnly moment secured_since old new (IsNewOrTag tag)
  fresh_put = weaker moment secured_since old new _ _ looks.syncs (λ image so. inl (ap is_fresh (some_bytes image bytes (sym so ∙ is)) ∙ fresh))

  pub then_left : (last : D) → Only bytes (may_leave old) → LeavesOnly moment left_since new last (IsNewOrTag tag) → LeavesOnly moment left_since old last (IsNewOrTag tag)
  then_left last only more = goes_on moment left_since old new last (IsNewOrTag tag) (IsNewOrTag tag) (fresh_left only) more (λ image so. so)

  pub then_put : (last : D) → SyncsOnly moment secured_since new last (IsNewOrTag tag) → SyncsOnly moment secured_since old last (IsNewOrTag tag)
  then_put last more = goes_on moment secured_since old new last (IsNewOrTag tag) (IsNewOrTag tag) fresh_put more (λ image so. so)

-- a new journal gives no entries
pub new_ends : {E : Type 0} (result : Result ℕ NotOpened) (opening : Opening (List E)) (entries : List E) → opening ≡ Fresh → entries ≡ [] → IfErr result IsFromOutside → EndsAs result opening entries
new_ends (Ok end) opening entries is none from = subst (λ o. GivesEntries o entries end) (sym is) none
new_ends (Err DiskFault) opening entries is none from = record {}
new_ends (Err OtherGame) opening entries is none from = absurd from
new_ends (Err (BadJournal place)) opening entries is none from = absurd from
new_ends (Err NoMemory) opening entries is none from = record {}

pub on_any : {T E : Type 0} (result : Result T E) (P : Type 0) → P → OnOk result P
on_any (Ok x) P holds = holds
on_any (Err e) P holds = record {}
