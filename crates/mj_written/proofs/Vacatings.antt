-- One seat more leaves.
use Rattle.std.proofs.Common.{◌≡◌, ℕ, suc, List, ◌++◌, ◌∙◌, ap, sym}
use Rattle.mj_ports.specs.declared.entry.Entry.{Entry}
use Rattle.mj_ports.specs.Seats.{Showing}
use Rattle.mj_written.specs.Vacating.{gone_of, vacated}

module _ {S A : Type 0} (after : S → List (Entry A) → Showing) (first now : S) (old es fs : List (Entry A)) (n m : ℕ) (same : now ≡ first) (so_far : es ≡ vacated (after first) old n)
    (left : fs ≡ es ++ gone_of ((after now es).present n) n) (next : m ≡ suc n) where
  at_now : es ++ gone_of ((after now es).present n) n ≡ vacated (after first) old (suc n)
  at_now =
      ap (λ (s : S). es ++ gone_of ((after s es).present n) n) same
      ∙ ap (λ (l : List (Entry A)). l ++ gone_of ((after first l).present n) n) so_far

  pub one_more_left : fs ≡ vacated (after first) old m
  one_more_left = left ∙ at_now ∙ sym (ap (λ (k : ℕ). vacated (after first) old k) next)
