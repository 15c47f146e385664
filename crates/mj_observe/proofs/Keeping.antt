-- What an observer keeps of the newest hand, one deed further.
use Rattle.std.proofs.Common.{◌≡◌, ℕ, suc, ◌+◌, ◌-◌, ◌*◌, ◌≤◌, ◌==◌, Bool, true, false, cond, List, [], ◌∷◌, ◌++◌, length, take, flat_map, refl, ap, sym, ◌∙◌, arith, append-nil}
use Rattle.std.specs.Prelude.{codes}
use Rattle.std.proofs.Math.Seq.{take-append_seam}
use Rattle.std.proofs.lemmas.Bool.Decides.{Decides-eqb}
use Rattle.std.proofs.lemmas.Grind.{flat_map-append}
use Rattle.std.proofs.lemmas.List.{length-append}
use Rattle.mj_deeds.specs.declared.deed.Deed.{Deed}
use Rattle.mj_deeds.specs.declared.deed.Deed.TheVariants as deeds
use Rattle.mj_deeds.specs.declared.deed.Viewer.TheVariants.{Record}
use Rattle.mj_deeds.specs.Hand.{is_hand_start, hand}
use Rattle.mj_deeds.proofs.HandSteps.{behind, hand_more}
use Rattle.mj_forms.specs.Lines.{line}
use Rattle.mj_forms.proofs.Closing.{lines_close}
use Rattle.mj_observe.specs.Views.{public_line, public_part, is_hand_end, hand_shown_line}
use Rattle.mj_observe.specs.Inner.Kept.{KeepsHand, one_more, of_hand, shown_at}

begins : (before : List Deed) (d : Deed) → is_hand_start d ≡ true → hand (before ++ d ∷ []) ≡ d ∷ []
begins before d h = hand_more before d ∙ ap (λ (b : Bool). cond b (d ∷ []) (behind (hand before) d)) h

goes_on : (before : List Deed) (d : Deed) → is_hand_start d ≡ false → hand (before ++ d ∷ []) ≡ behind (hand before) d
goes_on before d h = hand_more before d ∙ ap (λ (b : Bool). cond b (d ∷ []) (behind (hand before) d)) h

pub kept_first : (before : List Deed) (d : Deed) → is_hand_start d ≡ true → KeepsHand (line Record d) 1 (before ++ d ∷ [])
kept_first before d h = record {
  lines_are = sym (ap (flat_map (line Record)) (begins before d h) ∙ append-nil (line Record d));
  count_is = sym (ap length (begins before d h));
}

not_none : (number : ℕ) → (suc number == 0) ≡ false
not_none number = by_test (suc number == 0) refl
  where
    by_test : (b : Bool) → (suc number == 0) ≡ b → (suc number == 0) ≡ false
    by_test false e = e
    by_test true e = let none : suc number ≡ 0 = (Decides-eqb (suc number) 0).0 e in absurd (omega (arith, none))

lines_of : (h : List Deed) (d : Deed) → flat_map (line Record) (behind h d) ≡ flat_map (line Record) h ++ of_hand (length h) (line Record d)
lines_of [] d = refl
lines_of (x ∷ h) d =
    flat_map-append (line Record) (x ∷ h) (d ∷ [])
    ∙ ap (λ (text : List ℕ). flat_map (line Record) (x ∷ h) ++ text) (append-nil (line Record d) ∙ sym (ap (λ (b : Bool). cond b [] (line Record d)) (not_none (length h))))

number_of : (h : List Deed) (d : Deed) → length (behind h d) ≡ one_more (length h)
number_of [] d = refl
number_of (x ∷ h) d = length-append (x ∷ h) (d ∷ []) ∙ sym (ap (λ (b : Bool). cond b 0 (length (x ∷ h) + 1)) (not_none (length h)))

pub kept_next : (before : List Deed) (d : Deed) (kept last : List ℕ) (count number : ℕ) → is_hand_start d ≡ false → KeepsHand kept count before →
    number ≡ one_more count → last ≡ of_hand count (line Record d) →
    KeepsHand (kept ++ last) number (before ++ d ∷ [])
kept_next before d kept last count number h k n l = record {
  lines_are =
      (λ i. k.lines_are i ++ (l ∙ ap (λ (c : ℕ). of_hand c (line Record d)) k.count_is) i)
      ∙ sym (ap (flat_map (line Record)) (goes_on before d h) ∙ lines_of (hand before) d);
  count_is = n ∙ ap one_more k.count_is ∙ sym (ap length (goes_on before d h) ∙ number_of (hand before) d);
}

-- what was put after a text is taken back
pub back : (old last more now : List ℕ) (long : ℕ) → long ≡ length old → more ≡ old ++ last → now ≡ take long more → now ≡ old
back old last more now long e m n = n ∙ (λ i. take (e i) (m i)) ∙ take-append_seam old last

-- each line has two bytes or more, so the lines are no fewer than twice their number
line_long : (d : Deed) → 2 ≤ length (line Record d)
line_long d =
    let both = ap length (lines_close Record d) ∙ length-append (take (length (line Record d) - 2) (line Record d)) (codes "}\n") in
    omega (arith, both)

lines_long : (ds : List Deed) → 2 * length ds ≤ length (flat_map (line Record) ds)
lines_long [] = omega arith
lines_long (d ∷ ds) =
    let first = line_long d in
    let later = lines_long ds in
    let all = length-append (line Record d) (flat_map (line Record) ds) in
    omega (arith, first, later, all)

pub count_small : (kept : List ℕ) (count : ℕ) (before : List Deed) → KeepsHand kept count before → 2 * count ≤ length kept
count_small kept count before k =
    let long = lines_long (hand before) in
    let size : length kept ≡ length (flat_map (line Record) (hand before)) = ap length k.lines_are in
    omega (arith, long, size, k.count_is)

pub kept_none : (kept : List ℕ) (deeds : List Deed) → kept ≡ [] → deeds ≡ [] → KeepsHand kept 0 deeds
unfolding hand
kept_none kept deeds k d = rw (k, d) (record { lines_are = refl; count_is = refl })

pub kept_as : (kept other : List ℕ) (count : ℕ) (deeds more : List Deed) → kept ≡ other → deeds ≡ more → KeepsHand other count more → KeepsHand kept count deeds
kept_as kept other count deeds more k d h = rw (k, d) h

-- what is shown at a deed that starts no hand, after its public line
pub part_next : (before : List Deed) (d : Deed) (lines : List ℕ) (number : ℕ) → KeepsHand lines number (before ++ d ∷ []) → public_line d ++ shown_at d number lines ≡ public_part before d
part_next before d lines number k = λ i. public_line d ++ cond (is_hand_end d) (hand_shown_line (k.count_is i) ++ k.lines_are i) []
