use Rattle.std.proofs.Common.{◌≡◌, ◌≤◌, ◌-◌, ◌*◌}
use Rattle.rand_chacha.specs.ChaCha.{key_of}
use Rattle.mj_wall.proofs.Shuffles.{HasWall, Leaves}
use Rattle.mj_wall.proofs.wall.Wall.shuffled.Given as goal

abbrev pub invariant-loop-place : goal.invariant-loop-place
invariant-loop-place l = (l.place ≤ 135) × (l.stream ≡ record { key = key_of l.fn.seed; stream = l.n; word_pos = 2 * (135 - l.place) }) × HasWall l.red l.tiles
    × Leaves l.fn.seed l.n l.red l.place l.tiles

abbrev pub decreases-loop-place : goal.decreases-loop-place
decreases-loop-place l = l.place
