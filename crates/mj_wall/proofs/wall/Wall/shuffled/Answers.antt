use Rattle.std.proofs.Common.{◌-◌, arith, refl}
use Rattle.rand_chacha.specs.ChaCha.{key_of}
use Rattle.mj_wall.proofs.Shuffles.{sorted_has, swap_has, has_is_wall, leaves_all, leaves_none, leaves_next, stream_begins, stream_goes, number_read}
use Rattle.mj_wall.proofs.wall.Wall.shuffled.Goals as goal

pub loop-place-init : goal.loop-place-init
loop-place-init c = (
  omega arith,
  stream_begins c.args.seed c.args.n c.from_seed-stream.result c.set_stream.new.self c.from_seed-stream.ensures c.set_stream.ensures,
  sorted_has c.args.red c.sorted-tiles.result c.sorted-tiles.ensures,
  leaves_all c.args.seed c.args.n c.args.red 135 c.sorted-tiles.result refl c.sorted-tiles.ensures,
)

pub loop-place-preserved : goal.loop-place-preserved
loop-place-preserved c =
    let place = c.loop-place.place in
    let kept = c.loop-place.invariant in (
      omega arith,
      stream_goes (key_of c.args.seed) c.args.n place (place - 1) c.loop-place.stream c.next_place.new.stream (omega arith) kept.0 refl kept.1 c.next_place.ensures.left,
      swap_has c.args.red c.loop-place.tiles c.swap.new.self kept.2 c.swap.ensures.permutation c.swap.ensures.len,
      leaves_next c.args.seed c.args.n c.args.red place (place - 1) c.next_place.result c.loop-place.tiles c.swap.new.self (omega arith) refl
          (number_read c.args.seed c.args.n place c.next_place.result c.loop-place.stream kept.1 c.next_place.ensures.value) c.swap.ensures.after kept.3,
    )

pub returns-clause-value : goal.returns-clause-value
returns-clause-value c = leaves_none c.args.seed c.args.n c.args.red c.loop-place.place c.loop-place.tiles (omega (arith, c.loop-place-test.false)) c.loop-place.invariant.3

pub returns-clause-whole : goal.returns-clause-whole
returns-clause-whole c = has_is_wall c.args.red c.loop-place.tiles c.loop-place.invariant.2
