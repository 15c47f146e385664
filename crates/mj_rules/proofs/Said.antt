-- What deeds say beside what they do.
use Rattle.std.proofs.Common.{◌≡◌, ℕ, zero, suc, ◌<◌, ◌≤◌, true, List, [], ◌∷◌, refl, sym, ap, ◌∙◌, arith}
use Rattle.std.specs.Prelude.{ℤ, pos, ◌+ℤ◌}
use Rattle.std.specs.List.{slice_index_or}
use Rattle.mj_deeds.specs.declared.deed.Deed.{Deed}
use Rattle.mj_deeds.specs.declared.deed.Deed.TheVariants.{ReachAccepted, Win, DrawnHand, EndGame}
use Rattle.mj_deeds.specs.Fits.{are_points, has_points}
use Rattle.mj_deeds.specs.Points.{change_by, points_of, points}
use Rattle.mj_deeds.proofs.Fitted.{parts_of}
use Rattle.mj_deeds.proofs.PointLaws.{points_more, said_is}
use Rattle.mj_rules.specs.Said.{points_said, PointsAreRead}
use Rattle.mj_rules.proofs.Playing.{played_less, behind_fits}

-- What is said is what is tested.
tested : (before : List ℤ) (deed : Deed) (said : List ℤ) → points_said deed ≡ said ∷ [] → has_points before deed ≡ true → are_points before deed said ≡ true
tested before (ReachAccepted who points bid) said e h = ap (are_points before (ReachAccepted who points bid)) (sym (only points said e)) ∙ h
  where
    only : (a b : List ℤ) → a ∷ [] ≡ b ∷ [] → a ≡ b
    only a b e = cc
tested before (Win who target tile unders hand yaku fu han value deltas points rest) said e h =
    ap (are_points before (Win who target tile unders hand yaku fu han value deltas points rest)) (sym (only points said e)) ∙ h
  where
    only : (a b : List ℤ) → a ∷ [] ≡ b ∷ [] → a ≡ b
    only a b e = cc
tested before (DrawnHand reason hands ready deltas points) said e h = ap (are_points before (DrawnHand reason hands ready deltas points)) (sym (only points said e)) ∙ h
  where
    only : (a b : List ℤ) → a ∷ [] ≡ b ∷ [] → a ≡ b
    only a b e = cc
tested before (EndGame points deposits) said e h = ap (are_points before (EndGame points deposits)) (sym (only points said e)) ∙ h
  where
    only : (a b : List ℤ) → a ∷ [] ≡ b ∷ [] → a ≡ b
    only a b e = cc
tested before other said e h = cc

of_four : (ds : List Deed) (seat : ℕ) → seat < 4 → slice_index_or (points ds) seat (pos 0) ≡ points_of ds seat
of_four ds zero h = refl
of_four ds (suc zero) h = refl
of_four ds (suc (suc zero)) h = refl
of_four ds (suc (suc (suc zero))) h = refl
of_four ds (suc (suc (suc (suc seat)))) h = absurd (omega arith)

pub points_are_read : PointsAreRead
points_are_read rules walls deeds deed said seat whole played e small =
    let parts = played_less rules walls deeds deed played in
    said_is (points deeds) deed said seat (below seat small) (tested (points deeds) deed said e (parts_of rules.red deeds deed (behind_fits rules walls deeds deed whole parts.0 parts.1)).pointed)
    ∙ ap (λ (n : ℤ). n +ℤ change_by seat deed) (of_four deeds seat small) ∙ sym (points_more deeds deed seat)
  where
    below : (n : ℕ) → n < 4 → n ≤ 3
    below n h = omega arith
