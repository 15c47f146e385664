use Rattle.std.proofs.Common.{rules, ◌≡◌, ◌==◌, ◌+◌, ℕ, true, false, refl, ap, ◌∙◌, arith}
use Rattle.mj_replay.specs.Inner.Steps.{IsNext}
use Rattle.mj_replay.proofs.CheckLaws.{said_first, none_needed, none_left, bad_wall, said_wall, few_more, whole_more, lacks_wall}
use Rattle.mj_replay.proofs.checking.behind_header.Goals as goal

pub loop-line-init : goal.loop-line-init
loop-line-init c = rw c.new-walls.ensures.items (record { said = said_first c.args.rules c.args.text.now; few = omega arith; whole = refl; none = c.requires.none })

pub behind_walls-requires-clause-other : goal.behind_walls-requires-clause-other
behind_walls-requires-clause-other c =
    let other : c.must_be_wall.result ≡ false = search rules in
    rw c.as_slice-then-not-must_be_wall.ensures.value (none_needed c.loop-line.walls.items _ _ _ _ c.in-Some.ensures (rw c.as_slice.ensures.value at c.must_be_wall.ensures) other)

pub returns-in_default-2 : goal.returns-in_default-2
returns-in_default-2 c =
    let must : c.must_be_wall.result ≡ true = search rules in
    bad_wall _ c.loop-line.walls.items _ _ c.in-Some.line.now c.in-Some.others.now c.len.result _ c.must_be_wall.result c.requires.rules
    c.loop-line.invariant.few c.loop-line.invariant.whole c.loop-line.invariant.said c.in-Some.ensures
    (rw c.as_slice.ensures.value at c.must_be_wall.ensures) must (c.len.ensures ∙ c.loop-line.walls.ok.0)
    (rw c.in_default-2.is at c.in_ok-wall.ensures) (ap (λ (n : ℕ). n + 2) (c.len-in_default-2.ensures ∙ c.loop-line.walls.ok.0))

pub loop-line-preserved : goal.loop-line-preserved
loop-line-preserved c =
    let next : IsNext c.args.rules.red c.len.result c.in-Some.line.now c.in-Some-2.wall = rw c.in-Some-2.is at c.in_ok-wall.ensures in
    record {
      said = said_wall c.args.rules c.loop-line.walls.items _ c.in-Some-2.wall _ _ c.in-Some.line.now c.in-Some.others.now c.len.result
          c.loop-line.invariant.said c.in-Some.ensures next c.in_ok-push.ensures.items;
      few = few_more c.args.rules.red c.loop-line.walls.items _ c.in-Some.line.now c.in-Some-2.wall c.len.result (c.len.ensures ∙ c.loop-line.walls.ok.0) next c.in_ok-push.ensures.items;
      whole = whole_more c.args.rules.red c.loop-line.walls.items _ c.in-Some.line.now c.in-Some-2.wall c.len.result next c.in_ok-push.ensures.items c.loop-line.invariant.whole;
      none = c.loop-line.invariant.none;
    }

pub returns-then-is_empty : goal.returns-then-is_empty
returns-then-is_empty c =
    lacks_wall _ c.loop-line.walls.items _ _ _ _ _ _ c.requires.rules c.loop-line.invariant.said c.in_default.ensures (c.is_empty.ensures
    ∙ ap (λ (n : ℕ). n == 0) c.loop-line.walls.ok.0) c.if-is_empty.true c.ending.ensures

pub behind_walls-requires-2-clause-other : goal.behind_walls-requires-2-clause-other
behind_walls-requires-2-clause-other c = none_left _ _ _ c.in_default.ensures

pub behind_walls-requires-clause-none : goal.behind_walls-requires-clause-none
behind_walls-requires-clause-none c = c.loop-line.invariant.none

pub behind_walls-requires-2-clause-none : goal.behind_walls-requires-2-clause-none
behind_walls-requires-2-clause-none c = c.loop-line.invariant.none
