use Rattle.std.proofs.Common.{◌≡◌, ◌≤◌, ◌+◌, ◌*◌, length, vec_len, vec_capacity}
use Rattle.mj_bytes.specs.Parts.{fields}
use Rattle.mj_lists.proofs.Onto.{onto}
use Rattle.mj_forms.specs.Headers.{tiles_in}
use Rattle.mjai_answers.proofs.setting.read_tiles.Given as goal

abbrev pub invariant-loop-named : goal.invariant-loop-named
invariant-loop-named l = record {
  whole : tiles_in (fields l.text) ≡ onto l.tiles.items (tiles_in (fields l.rest));
  room : length l.rest + 1 + 2 * vec_len l.tiles ≤ 2 * vec_capacity l.tiles;
}

abbrev pub decreases-loop-named : goal.decreases-loop-named
decreases-loop-named l = length l.rest
