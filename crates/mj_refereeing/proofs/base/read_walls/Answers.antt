use Rattle.std.proofs.Common.{refl, ◌∙◌}
use Rattle.std.specs.Prelude.{Some, None}
use Rattle.mj_bytes.specs.Parts.{whole_lines}
use Rattle.mj_refereeing.proofs.WallLaws.{IsWallLine, counted}
use Rattle.mj_refereeing.proofs.BaseLaws.{reads-more, stops-bad, walled, shorter-still}
use Rattle.mj_refereeing.proofs.base.read_walls.Goals as goal

pub returns-in_default-next_wall : goal.returns-in_default-next_wall
returns-in_default-next_wall c =
    let read : IsWallLine c.args.rules.red c.loop-line.walls.items (whole_lines c.loop-line.rest.now) (whole_lines c.in-Some.next.now) None = record {
      line = c.in-Some.line.now;
      tiles = c.in-Wall.tiles.items;
      before = c.len.result;
      seen = c.as_slice.result.now;
      lines_are = c.in-Some.ensures.lines;
      form = rw c.in-Wall.is at c.in_ok-tiles.ensures.form;
      many = c.len.ensures ∙ c.loop-line.walls.ok.0;
      same = c.as_slice.ensures.value;
      read = c.in_default-next_wall.ensures;
    } in
    λ first start.
    walled c.base_at-in_default-next_wall.result c.args.rules c.args.input.now first c.args.others.now c.loop-line.rest.now c.loop-line.walls.items
    c.loop-line.number c.base_at-in_default-next_wall.ensures.rules
    c.base_at-in_default-next_wall.ensures.walls c.base_at-in_default-next_wall.ensures.tag c.base_at-in_default-next_wall.ensures.rest
    c.base_at-in_default-next_wall.ensures.number c.requires.shortest c.requires.longest c.requires.fits
    c.requires.within c.loop-line.invariant.within c.loop-line.invariant.count c.loop-line.invariant.reads (stops-bad c.args.rules c.loop-line.walls.items _ _ read) start

pub loop-line-preserved : goal.loop-line-preserved
loop-line-preserved c =
    let read : IsWallLine c.args.rules.red c.loop-line.walls.items (whole_lines c.loop-line.rest.now) (whole_lines c.in-Some.next.now) (Some c.in-Some-next_wall.wall) = record {
      line = c.in-Some.line.now;
      tiles = c.in-Wall.tiles.items;
      before = c.len.result;
      seen = c.as_slice.result.now;
      lines_are = c.in-Some.ensures.lines;
      form = rw c.in-Wall.is at c.in_ok-tiles.ensures.form;
      many = c.len.ensures ∙ c.loop-line.walls.ok.0;
      same = c.as_slice.ensures.value;
      read = c.in-Some-next_wall.ensures;
    } in record {
      reads = reads-more c.args.rules c.args.input.now c.args.others.now c.loop-line.rest.now c.in-Some.line.now c.in-Some.next.now
          c.in-Some-next_wall.wall c.loop-line.walls.items _ c.loop-line.number c.loop-line.invariant.reads
          c.in-Some.ensures read refl c.in_ok-push.ensures.items;
      count = counted _ _ _ _ c.loop-line.invariant.count c.in-Some.ensures.shorter;
      within = shorter-still _ _ _ c.in-Some.ensures.shorter c.loop-line.invariant.within;
    }
