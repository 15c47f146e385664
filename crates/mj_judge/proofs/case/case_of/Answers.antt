use Rattle.std.proofs.Common.{◌≡◌, ℕ, ◌==◌, Bool, cond, List, ap, sym, ◌∙◌}
use Rattle.mj_rounds.specs.declared.rounds.Standing.{Standing}
use Rattle.mj_readings.specs.declared.reading.Case.{Case}
use Rattle.mj_readings.specs.declared.reading.Riichi.{Riichi}
use Rattle.mj_readings.specs.declared.reading.Riichi.TheVariants.{No, Single, Double}
use Rattle.mj_yaku.specs.Hands.{are_concealed}
use Rattle.mj_deeds.specs.declared.deed.Deed.{Deed}
use Rattle.mj_deeds.specs.Course.{before_wins}
use Rattle.mj_deeds.specs.Facts.{newest, seat_melds, live_tiles}
use Rattle.mj_deeds.specs.Firsts.{is_first}
use Rattle.mj_deeds.specs.Hand.{hand}
use Rattle.mj_deeds.specs.Riichi.{is_ippatsu}
use Rattle.mj_facts.proofs.WinSteps.{riichi_without, double_without, first_without, melds_without, live_without}
use Rattle.mj_rules.specs.Wins.{case_of, seat_wind, riichi_of, is_draw, is_replacement, is_added}
use Rattle.mj_judge.proofs.case.case_of.Goals as goal

riichi_same : (hs : List Deed) (seat : ℕ) → riichi_of hs seat ≡ riichi_of (before_wins hs) seat
riichi_same hs seat =
    let accepted = sym (riichi_without hs seat) in
    let double = sym (double_without hs seat) in
    λ i. cond (accepted i) (cond (double i) Double Single) No

-- No circumstance of a win changes where the winners are left out.
case_is : (now : Standing) (hs : List Deed) (seat wind : ℕ) (drawn closed ippatsu last rinshan robbed first : Bool) (riichi : Riichi) →
    wind ≡ seat_wind now.dealer seat → drawn ≡ is_draw (newest (before_wins hs)) →
    closed ≡ are_concealed (seat_melds hs seat) → riichi ≡ riichi_of hs seat → ippatsu ≡ is_ippatsu (before_wins hs) seat →
    last ≡ (live_tiles hs == 0) → rinshan ≡ is_replacement (newest (before_wins hs)) →
    robbed ≡ is_added (newest (before_wins hs)) → first ≡ is_first hs seat →
    ◌≡◌ {A = Case} (record {
      seat_wind = wind;
      round_wind = now.round;
      by_draw = drawn;
      closed = closed;
      riichi = riichi;
      ippatsu = ippatsu;
      last = last;
      rinshan = rinshan;
      robbed = robbed;
      first = first;
    })
    (case_of now (before_wins hs) seat)
unfolding case_of
case_is now hs seat wind drawn closed ippatsu last rinshan robbed first riichi e f g h k l m n o =
    let melds = g ∙ ap are_concealed (sym (melds_without hs seat)) in
    let in_riichi = h ∙ riichi_same hs seat in
    let live = l ∙ ap (λ n. n == 0) (sym (live_without hs)) in
    let begun = o ∙ sym (first_without hs seat) in
    λ i. record {
      seat_wind = e i;
      round_wind = now.round;
      by_draw = f i;
      closed = melds i;
      riichi = in_riichi i;
      ippatsu = k i;
      last = live i;
      rinshan = m i;
      robbed = n i;
      first = begun i;
    }

pub returns : goal.returns
returns c =
    let hs = hand c.args.table.now.deeds in
    case_is c.standing-standing.result hs c.args.seat _ _ _ _ _ _ _ _ _ c.seat_wind.ensures (c.is_draw.ensures ∙ ap is_draw c.before_wins-giving.ensures)
    (c.is_closed.ensures ∙ ap are_concealed (c.as_slice.ensures.value ∙ c.melds.ensures)) c.riichi_of.ensures c.ippatsu_before_wins.ensures (ap (λ n. n == 0) c.live.ensures.value)
    (c.is_replacement.ensures ∙ ap is_replacement c.before_wins-giving.ensures) (c.is_added.ensures ∙ ap is_added c.before_wins-giving.ensures) c.is_first.ensures
    ∙ ap (λ (now : Standing). case_of now (before_wins hs) c.args.seat) c.standing-standing.ensures
