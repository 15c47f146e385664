-- What was taken of the words so far.
use Rattle.std.proofs.Common.{◌≤◌, map, drop}
use Rattle.std.specs.String.{string_bytes}
use Rattle.mj_hand.proofs.HandSteps.{GathersBefore}
use Rattle.mj_hand.proofs.hand.gather.Given as goal

abbrev pub invariant-loop-word : goal.invariant-loop-word
invariant-loop-word l = record {
  gathers : GathersBefore (map string_bytes l.words) (map string_bytes (drop l.word-index l.words)) l.gathered.held.items l.gathered.melded.items l.gathered.melds;
  few : l.gathered.melds ≤ l.word-index;
}
