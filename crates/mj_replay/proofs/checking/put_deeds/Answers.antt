use Rattle.std.proofs.Common.{rules, ◌≡◌, true, false, refl, arith}
use Rattle.mj_replay.specs.Inner.Steps.{Follows}
use Rattle.mj_replay.proofs.CheckLaws.{Walled, few_played, play_begins, nothing_kept, bad_deed, play_goes_on, list_more, cut, good}
use Rattle.mj_replay.proofs.checking.put_deeds.Goals as goal

pub loop-line-init : goal.loop-line-init
loop-line-init c = record {
  play = play_begins _ _ _ _ c.requires.new c.requires.other;
  list = nothing_kept _ _ _ c.args.table.now.rules c.requires.none c.requires.new;
}

pub overflow_add-result : goal.overflow_add-result
overflow_add-result c = let small = few_played _ _ _ _ _ _ c.requires.some c.requires.whole c.loop-line.invariant.play in omega (arith, small, c.requires.few)

pub returns-in-Some-2 : goal.returns-in-Some-2
returns-in-Some-2 c =
    let walled : Walled c.args.table.now.rules c.args.walls.now = record { rules_fit = c.requires.rules; some = c.requires.some; few = c.requires.few; whole = c.requires.whole } in
    bad_deed _ _ _ _ _ _ _ _ _ _ _ walled c.loop-line.invariant.play refl c.in-Some.ensures.cases (rw c.in-Some-2.is at c.in_ok-cause.ensures)

pub overflow_add-deeds : goal.overflow_add-deeds
overflow_add-deeds c = let small = few_played _ _ _ _ _ _ c.requires.some c.requires.whole c.loop-line.invariant.play in omega (arith, small)

pub loop-line-preserved : goal.loop-line-preserved
loop-line-preserved c =
    let follows : Follows c.args.walls.now _ _ _ = rw c.in_default-2.is at c.in_ok-cause.ensures in
    record {
      play = play_goes_on _ _ _ _ _ _ _ _ _ c.requires.some c.loop-line.invariant.play c.in-Some.ensures.cases follows;
      list = list_more c.args.keeps _ _ _ _ _ _ c.loop-line.invariant.list follows c.in_ok-keep_newest.ensures;
    }

pub overflow_add-result-then-not-is_empty : goal.overflow_add-result-then-not-is_empty
overflow_add-result-then-not-is_empty c = let small = few_played _ _ _ _ _ _ c.requires.some c.requires.whole c.loop-line.invariant.play in omega (arith, small, c.requires.few)

pub returns-then-not-is_empty : goal.returns-then-not-is_empty
returns-then-not-is_empty c =
    let walled : Walled c.args.table.now.rules c.args.walls.now = record { rules_fit = c.requires.rules; some = c.requires.some; few = c.requires.few; whole = c.requires.whole } in
    let some : c.is_empty.result ≡ false = search rules in
    cut _ _ _ _ _ _ _ _ walled c.loop-line.invariant.play refl c.in_default.ensures.cases c.is_empty.ensures some

pub returns : goal.returns
returns c =
    let walled : Walled c.args.table.now.rules c.args.walls.now = record { rules_fit = c.requires.rules; some = c.requires.some; few = c.requires.few; whole = c.requires.whole } in
    let none : c.is_empty.result ≡ true = search rules in
    good _ _ _ _ _ _ _ _ _ _ _ walled c.loop-line.invariant.play c.loop-line.invariant.list c.is_empty.ensures none c.points.ensures c.deposits.ensures
