use Rattle.std.proofs.Common.{refl, ◌∙◌, Some}
use Rattle.mj_bytes.specs.Parts.{whole_lines}
use Rattle.mj_refereeing.proofs.WallLaws.{IsWallLine, heard-wall, few-more, whole-more, counted, nothing-bad_wall}
use Rattle.mj_refereeing.proofs.AskLaws.{nothing_at_end, told_nothing}
use Rattle.mj_refereeing.proofs.intake.take_headed.Goals as goal

pub returns-in_default-next_wall : goal.returns-in_default-next_wall
returns-in_default-next_wall c =
    told_nothing c.args.question _ _ c.args.seat _ c.nothing_told.ensures
    (nothing-bad_wall c.loop-line.number _ c.args.rules c.loop-line.walls.items _ _ _ _ c.loop-line.invariant.same
    (record {
      line = c.in-Some.line.now;
      tiles = c.in-Wall.tiles.items;
      before = c.len.result;
      seen = c.as_slice.result.now;
      lines_are = c.in-Some.ensures.lines;
      form = rw c.in-Wall.is at c.in_ok-tiles.ensures.form;
      many = c.len.ensures ∙ c.loop-line.walls.ok.0;
      same = c.as_slice.ensures.value;
      read = c.in_default-next_wall.ensures;
    })
    refl)

pub loop-line-preserved : goal.loop-line-preserved
loop-line-preserved c =
    let read : IsWallLine c.args.rules.red c.loop-line.walls.items (whole_lines c.loop-line.rest.now) (whole_lines c.in-Some.others.now) (Some c.in-Some-next_wall.wall) = record {
      line = c.in-Some.line.now;
      tiles = c.in-Wall.tiles.items;
      before = c.len.result;
      seen = c.as_slice.result.now;
      lines_are = c.in-Some.ensures.lines;
      form = rw c.in-Wall.is at c.in_ok-tiles.ensures.form;
      many = c.len.ensures ∙ c.loop-line.walls.ok.0;
      same = c.as_slice.ensures.value;
      read = c.in-Some-next_wall.ensures;
    } in record {
      same = c.loop-line.invariant.same ∙ heard-wall c.args.rules _ _ _ _ _ _ _ c.loop-line.number read c.in-Some.ensures.ending c.in_ok-push.ensures.items;
      few = few-more c.args.rules _ _ _ _ _ read c.in_ok-push.ensures.items;
      whole = whole-more c.args.rules _ _ _ _ _ read c.in_ok-push.ensures.items c.loop-line.invariant.whole;
      count = counted _ _ _ _ c.loop-line.invariant.count c.in-Some.ensures.shorter;
    }

pub returns : goal.returns
returns c =
    told_nothing c.args.question _ _ c.args.seat _ c.nothing_told-2.ensures
    (nothing_at_end _ _ _ _ _ c.loop-line.rest.now _ c.loop-line.invariant.same c.in_default.ensures.lines c.in_default.ensures.ending (c.end_at.ensures _) refl)
