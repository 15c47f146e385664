-- No one and no nine of the suits gone through is held, and no honour.
use Rattle.std.proofs.Common.{ℕ, ◌≡◌, ◌<◌, ◌+◌, ◌*◌, get_or}
use Rattle.mj_yaku.proofs.some_yaku.has_outside.Given as goal

abbrev pub invariant-loop-suit : goal.invariant-loop-suit
invariant-loop-suit l = (s : ℕ) → s < l.suit → (get_or l.numbers (9 * s) 0 ≡ 0) × (get_or l.numbers (9 * s + 8) 0 ≡ 0)

abbrev pub invariant-loop-honour : goal.invariant-loop-honour
invariant-loop-honour l = record {
  suits : (s : ℕ) → s < 3 → (get_or l.numbers (9 * s) 0 ≡ 0) × (get_or l.numbers (9 * s + 8) 0 ≡ 0);
  honours : (h : ℕ) → h < l.honour → get_or l.numbers (27 + h) 0 ≡ 0;
}
