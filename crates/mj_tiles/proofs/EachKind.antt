-- Tests of each of the 34 kinds.
use Rattle.std.proofs.Common.{ℕ, ◌≡◌, ◌<◌, Bool, true, false, ap, ◌∙◌, arith, zero-add}
use Rattle.std.specs.List.{list_all, list_any}
use Rattle.mj_lists.proofs.Ranges.{all_in, one_fails, passes, any_in, none_in}
use Rattle.mj_tiles.specs.Counts.{all_kinds}

-- All kinds pass a test where each number below 34 does.
pub all_kinds-pass : (p : ℕ → Bool) → ((kind : ℕ) → kind < 34 → p kind ≡ true) → list_all p all_kinds ≡ true
unfolding all_kinds
all_kinds-pass p each = all_in p 0 34 (λ kind above below. each kind (omega arith))

-- Not all kinds pass a test that one of them fails.
pub all_kinds-fail : (p : ℕ → Bool) (kind : ℕ) → kind < 34 → p kind ≡ false → list_all p all_kinds ≡ false
unfolding all_kinds
all_kinds-fail p kind within fails = one_fails p 34 kind within fails

-- Where all kinds pass, each does.
pub each_kind : (p : ℕ → Bool) (kind : ℕ) → kind < 34 → list_all p all_kinds ≡ true → p kind ≡ true
unfolding all_kinds
each_kind p kind within all = passes p 34 kind all within

-- Some kind passes where one does.
pub any_kind : (p : ℕ → Bool) (kind : ℕ) → kind < 34 → p kind ≡ true → list_any p all_kinds ≡ true
unfolding all_kinds
any_kind p kind within passes = any_in p 0 34 kind within (ap p (zero-add kind) ∙ passes)

-- None passes where each fails.
pub no_kind : (p : ℕ → Bool) → ((kind : ℕ) → kind < 34 → p kind ≡ false) → list_any p all_kinds ≡ false
unfolding all_kinds
no_kind p fails = none_in p 0 34 (λ k inside. ap p (zero-add k) ∙ fails k inside)
