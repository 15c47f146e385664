use Rattle.std.proofs.Common.{rules, refl, sym, subst, ◌∙◌, ◌≡◌, ◌<◌, ◌≤◌, ◌+◌, ℕ, List, get_or, arith}
use Rattle.mj_wall.proofs.Extras.{place_fits, extra_found, extra_passed, within-none, AreLeft, left-all, left_of, left-next}
use Rattle.mj_wall.proofs.wall.extra_tile.Goals as goal

pub loop-i-init : goal.loop-i-init
loop-i-init c = record {
  same = refl;
  within = within-none c.args.red;
  left = subst (λ (left : List ℕ). AreLeft c.args.red left _) (sym c.copies-left.ensures) (left-all c.args.red);
}

pub overflow_cast-result : goal.overflow_cast-result
overflow_cast-result c = let small = place_fits _ _ _ c.loop-i-test.true c.loop-i.invariant.within in search rules

small : (face t : ℕ) → face ≡ t → face < 37 → t < 37
small face t is within = rw is at within

none_left : (left before most : ℕ) → left ≡ 0 → left + before ≡ most → most ≤ before
none_left left before most none are = omega (arith, none, are)

some_left : (left before most : ℕ) → 0 < left → left + before ≡ most → before < most
some_left left before most some are = omega (arith, some, are)

pub returns-then-left-face-eq0 : goal.returns-then-left-face-eq0
returns-then-left-face-eq0 c =
    let below = small _ _ c.face.ensures.value c.face.ensures.within in
    let place = c.from-face.ensures ∙ c.face.ensures.value in
    let are = left_of _ _ _ _ _ place below c.loop-i.invariant.left in
    let none : get_or c.loop-i.left c.from-face.result 0 ≡ 0 = search rules in
    record { value = extra_found _ _ _ _ _ _ c.loop-i-test.true c.index-tiles-i.is refl refl (none_left _ _ _ none are) c.loop-i.invariant.same }

pub loop-i-preserved : goal.loop-i-preserved
loop-i-preserved c =
    let below = small _ _ c.face.ensures.value c.face.ensures.within in
    let place = c.from-face.ensures ∙ c.face.ensures.value in
    let are = left_of _ _ _ _ _ place below c.loop-i.invariant.left in
    let some : 0 < get_or c.loop-i.left c.from-face.result 0 = search rules in
    let next = extra_passed _ _ _ _ _ _ c.loop-i-test.true c.index-tiles-i.is refl refl (some_left _ _ _ some are) c.loop-i.invariant.same c.loop-i.invariant.within in
    record { same = next.0; within = next.1; left = left-next _ _ _ _ _ _ c.loop-i-test.true c.index-tiles-i.is place below some c.loop-i.invariant.left }
