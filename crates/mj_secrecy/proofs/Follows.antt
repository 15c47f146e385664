-- What follows from what a seat learns: two games that agree for a seat are the same as the seat sees them, and so in each
-- fact that is of deeds so seen.
use Rattle.std.proofs.Common.{◌≡◌, ℕ, ◌<◌, ◌==◌, Bool, true, false, cond, List, [], ◌∷◌, ◌++◌, length, map, refl, ap, sym, ◌∙◌}
use Rattle.std.specs.Prelude.{Option, Some, None, option_map, flat_map, take, slice_get}
use Rattle.std.proofs.lemmas.List.{length-map, take-map}
use Rattle.mj_tiles.specs.Faces.{less}
use Rattle.mj_tiles.specs.Melds.{tiles_of_meld}
use Rattle.mj_rounds.specs.declared.rounds.Standing.{Standing}
use Rattle.mj_readings.specs.declared.reading.Riichi.TheVariants as riichi
use Rattle.mj_deeds.specs.Four.{at_seat}
use Rattle.mj_deeds.specs.declared.answer.Answer.{Answer}
use Rattle.mj_deeds.specs.declared.rule.Rule.{Rule}
use Rattle.mj_deeds.specs.declared.deed.Deed.{Deed}
use Rattle.mj_deeds.specs.declared.deed.Deed.TheVariants as deeds
use Rattle.mj_deeds.specs.declared.token.Token.TheVariants as tokens
use Rattle.mj_deeds.specs.Hand.{hand}
use Rattle.mj_deeds.specs.Facts.{concealed_tiles, drawn_tile, river_tiles, seat_melds, kans, live_tiles, indicators}
use Rattle.mj_deeds.specs.Riichi.{has_reached, is_ippatsu}
use Rattle.mj_deeds.specs.Passed.{passed_kinds, passed_in_riichi}
use Rattle.mj_deeds.specs.Points.{points, deposits}
use Rattle.mj_deeds.specs.Course.{before_wins}
use Rattle.mj_deeds.specs.Ends.{winners}
use Rattle.mj_deeds.specs.Standings.{standing}
use Rattle.mj_deeds.proofs.Masked.{masked, all_masked, gains-masked, tiles_gained-masked, tiles_lost-masked, drawn_tile-masked, river-masked, seat_melds-masked}
use Rattle.mj_deeds.proofs.Masked.{has_reached-masked, is_in_riichi-masked, is_double-masked, is_ippatsu-masked, passed_kinds-masked, passed_in_riichi-masked}
use Rattle.mj_deeds.proofs.Masked.{kans-masked, live_tiles-masked, indicators_all-masked, winners-masked, standing-masked, points-masked, deposits-masked}
use Rattle.mj_wall.specs.declared.setting.Rules.{Rules}
use Rattle.mj_view.specs.Tokens.{token}
use Rattle.mj_view.specs.Seen.{own_tile}
use Rattle.mj_rules.specs.View.{SeatView, view_of}
use Rattle.mj_rules.specs.Broken.{questions, broken_by, broken_rule}
use Rattle.mj_rules.specs.Default.{lawful_faces, default_by}
use Rattle.mj_rules.specs.Wins.{riichi_of, case_of, extra_by, win_shown}
use Rattle.mj_rules.specs.Draws.{draw_shown}
use Rattle.mj_rules.proofs.MaskedView.{of_hand, view-masked, case_of-masked, before_wins_of_hand, win_shown-masked, draw_shown-masked}
use Rattle.mj_sights.specs.Seen.{seen_tiles}
use Rattle.mj_safety.specs.Safe.{has_to_discard, safe_reason, safe_kinds}
use Rattle.mj_safety.proofs.MaskedSafe.{seen_tiles-masked, has_to_discard-masked, safe_reason-masked, safe_kinds-masked}
use Rattle.mj_history.specs.After.{After, Chair, verdict, pending, after, lines_for}
use Rattle.mj_history.specs.Shown.{verdict_at}
use Rattle.mj_history.specs.Legal.{Game}
use Rattle.mj_secrecy.specs.Trace.{Agree}
use Rattle.mj_secrecy.specs.Follows.{SameFacts, SameVerdicts, SameJudgement, SameArguments, SameLines}
use Rattle.mj_secrecy.proofs.MaskedLine.{lines-masked}
use Rattle.mj_secrecy.proofs.Solo.{Part, Solo, untimed, untimed_verdict, untimed_lines}
use Rattle.mj_secrecy.proofs.Heard.{same_heard}
use Rattle.mj_secrecy.proofs.OneWorld.{part_of, part_at, legal_game_follows, learnt_alike}

-- two games as a seat sees them
pub record Alike (seat : ℕ) (one other : After) : Type 0 where
  pub part : part_at one.chairs seat ≡ part_at other.chairs seat
  pub deeds : all_masked seat one.deeds ≡ all_masked seat other.deeds
  pub slot : at_seat one.slots seat ≡ at_seat other.slots seat

-- games that agree for a seat are alike, since the machine that learns their trace is as far as both
pub agreeing_are_alike : (seat : ℕ) (g h : Game) → seat < 4 → Agree seat g h → Alike seat (after g.setting g.entries) (after h.setting h.entries)
agreeing_are_alike seat g h small a =
    let m = legal_game_follows seat g.setting g.entries small a.legal in
    let n = legal_game_follows seat h.setting h.entries small a.other_legal in
    let same = learnt_alike seat g h a in
    record {
      part = m.part ∙ ap (λ (s : Solo). s.part) same ∙ sym n.part;
      deeds = m.deeds ∙ ap (λ (s : Solo). s.deeds) same ∙ sym n.deeds;
      slot = m.slot ∙ ap (λ (s : Solo). s.slot) same ∙ sym n.slot;
    }

-- games that agree are under the same switches
same_switches : (seat : ℕ) (g h : Game) → Agree seat g h → untimed g.setting.rules ≡ untimed h.setting.rules
same_switches seat g h a = λ i. record { limit = 0; draws = a.draws i; red = a.red i }

-- a fact of deeds as a seat sees them is the same of lists that it sees alike
of_masks : {A : Type 0} (seat : ℕ) (f : List Deed → A) → ((ds : List Deed) → f ds ≡ f (all_masked seat ds)) → (ds es : List Deed) → all_masked seat ds ≡ all_masked seat es → f ds ≡ f es
of_masks seat f same ds es e = same ds ∙ ap f e ∙ sym (same es)

-- and so is a fact of the newest hand
of_hands : {A : Type 0} (seat : ℕ) (f : List Deed → A) → ((ds : List Deed) → f ds ≡ f (all_masked seat ds)) → (ds es : List Deed) → all_masked seat ds ≡ all_masked seat es → f (hand ds) ≡ f (hand es)
of_hands seat f same ds es e = of_masks seat (λ (xs : List Deed). f (hand xs)) (of_hand seat f same) ds es e

own-masked : (seat : ℕ) (ds : List Deed) → concealed_tiles ds seat ≡ concealed_tiles (all_masked seat ds) seat
own-masked seat ds =
    let got = tiles_gained-masked seat ds in
    let gone = tiles_lost-masked seat seat ds in
    λ i. less (got i) (gone i)

riichi-masked : (seat who : ℕ) (ds : List Deed) → riichi_of ds who ≡ riichi_of (all_masked seat ds) who
riichi-masked seat who ds =
    let accepted = is_in_riichi-masked seat who ds in
    let double = is_double-masked seat who ds in
    λ i. cond (accepted i) (cond (double i) riichi.Double riichi.Single) riichi.No

long-masked : (seat : ℕ) (ds : List Deed) → length ds ≡ length (all_masked seat ds)
long-masked seat ds = sym (length-map ds (masked seat))

-- a fact of a seat's chair that is of its part
of_part : {A : Type 0} (f : Part → A) (o p : Option Chair) → option_map part_of o ≡ option_map part_of p →
    option_map (λ (chair : Chair). f (part_of chair)) o ≡ option_map (λ (chair : Chair). f (part_of chair)) p
of_part f o p e = through o ∙ ap (option_map f) e ∙ sym (through p)
  where
    through : (o : Option Chair) → option_map (λ (chair : Chair). f (part_of chair)) o ≡ option_map f (option_map part_of o)
    through None = refl
    through (Some chair) = refl

-- the lines of deeds that are seen alike, under the same switches
lines_alike : (seat : ℕ) (rules others : Rules) → untimed rules ≡ untimed others → (ds es : List Deed) → all_masked seat ds ≡ all_masked seat es → lines_for rules seat ds ≡ lines_for others seat es
lines_alike seat rules others switches ds es e =
    untimed_lines rules seat ds
    ∙ of_masks seat (lines_for (untimed rules) seat) (lines-masked (untimed rules) seat) ds es e
    ∙ ap (λ (r : Rules). lines_for r seat es) switches
    ∙ sym (untimed_lines others seat es)

facts_of_alike : (seat : ℕ) (rules others : Rules) (one other : After) → untimed rules ≡ untimed others → Alike seat one other → SameFacts seat rules others one other
facts_of_alike seat rules others one other switches a =
    let e = a.deeds in
    let lines = lines_alike seat rules others switches one.deeds other.deeds e in
    let now = of_masks seat standing (standing-masked seat) one.deeds other.deeds e in
    record {
      number = of_masks seat length (long-masked seat) one.deeds other.deeds e;
      points = of_masks seat points (points-masked seat) one.deeds other.deeds e;
      deposits = of_masks seat deposits (deposits-masked seat) one.deeds other.deeds e;
      honba = ap (λ (s : Standing). s.honba) now;
      dealer = ap (λ (s : Standing). s.dealer) now;
      round = ap (λ (s : Standing). s.round) now;
      hand_number = ap (λ (s : Standing). s.hand) now;
      live = of_hands seat live_tiles (live_tiles-masked seat) one.deeds other.deeds e;
      kans = of_hands seat kans (kans-masked seat) one.deeds other.deeds e;
      indicators = of_hands seat indicators (indicators_all-masked seat) one.deeds other.deeds e;
      river = λ who. of_hands seat (λ (xs : List Deed). river_tiles xs who) (river-masked seat who) one.deeds other.deeds e;
      melds = λ who. of_hands seat (λ (xs : List Deed). seat_melds xs who) (seat_melds-masked seat who) one.deeds other.deeds e;
      reached = λ who. of_hands seat (λ (xs : List Deed). has_reached xs who) (has_reached-masked seat who) one.deeds other.deeds e;
      riichi = λ who. of_hands seat (λ (xs : List Deed). riichi_of xs who) (riichi-masked seat who) one.deeds other.deeds e;
      ippatsu = λ who. of_hands seat (λ (xs : List Deed). is_ippatsu xs who) (is_ippatsu-masked seat who) one.deeds other.deeds e;
      passed = λ who. of_hands seat (λ (xs : List Deed). passed_kinds xs who) (passed_kinds-masked seat who) one.deeds other.deeds e;
      passed_in_riichi = λ who. of_hands seat (λ (xs : List Deed). passed_in_riichi xs who) (passed_in_riichi-masked seat who) one.deeds other.deeds e;
      seen = of_hands seat (λ (xs : List Deed). seen_tiles xs seat) (seen_tiles-masked seat) one.deeds other.deeds e;
      discards = of_masks seat (λ (xs : List Deed). has_to_discard xs seat) (has_to_discard-masked seat seat) one.deeds other.deeds e;
      safe = λ against kind. of_masks seat (λ (xs : List Deed). safe_reason xs seat against kind) (safe_reason-masked seat against kind) one.deeds other.deeds e;
      safe_kinds = λ against. of_masks seat (λ (xs : List Deed). safe_kinds xs seat against) (safe_kinds-masked seat against) one.deeds other.deeds e;
      own = of_hands seat (λ (xs : List Deed). concealed_tiles xs seat) (own-masked seat) one.deeds other.deeds e;
      drawn = of_masks seat (λ (xs : List Deed). drawn_tile xs seat) (drawn_tile-masked seat) one.deeds other.deeds e;
      view = of_masks seat (λ (xs : List Deed). view_of xs seat) (view-masked seat) one.deeds other.deeds e;
      slot = a.slot;
      present = of_part (λ (p : Part). p.present) (slice_get one.chairs seat) (slice_get other.chairs seat) a.part;
      due = of_part (λ (p : Part). p.progress.due) (slice_get one.chairs seat) (slice_get other.chairs seat) a.part;
      prompt =
          prompt_by (lines_for rules seat one.deeds) (slice_get one.chairs seat)
          ∙ (λ i. option_map (λ (p : Part). pending (lines i) p.progress) (a.part i))
          ∙ sym (prompt_by (lines_for others seat other.deeds) (slice_get other.chairs seat));
      refused = of_part (λ (p : Part). p.progress.refused) (slice_get one.chairs seat) (slice_get other.chairs seat) a.part;
    }
  where
    prompt_by : (ls : List (List ℕ)) (o : Option Chair) → option_map (λ (chair : Chair). pending ls chair.progress) o ≡ option_map (λ (p : Part). pending ls p.progress) (option_map part_of o)
    prompt_by ls None = refl
    prompt_by ls (Some chair) = refl

-- facts follow
pub same_facts : (seat : ℕ) (g h : Game) → seat < 4 → Agree seat g h → SameFacts seat g.setting.rules h.setting.rules (after g.setting g.entries) (after h.setting h.entries)
same_facts seat g h small a =
    facts_of_alike seat g.setting.rules h.setting.rules (after g.setting g.entries) (after h.setting h.entries) (same_switches seat g h a) (agreeing_are_alike seat g h small a)

-- each rule's question is asked of the same view, under the same switches
questions_of : (seat : ℕ) (rules : Rules) (view : SeatView) (answer : Answer) → questions rules seat view answer ≡ questions (untimed rules) seat view answer
questions_of seat rules view answer = refl

default_of : (seat : ℕ) (rules : Rules) (view : SeatView) → default_by rules seat view ≡ default_by (untimed rules) seat view
unfolding default_by lawful_faces broken_by
default_of seat rules view = refl

verdicts_of_alike : (seat : ℕ) (rules others : Rules) (one other : After) → untimed rules ≡ untimed others → Alike seat one other → SameVerdicts seat rules others one other
verdicts_of_alike seat rules others one other switches a =
    let view : view_of one.deeds seat ≡ view_of other.deeds seat = of_masks seat (λ (xs : List Deed). view_of xs seat) (view-masked seat) one.deeds other.deeds a.deeds in
    let long : length one.deeds ≡ length other.deeds = of_masks seat length (long-masked seat) one.deeds other.deeds a.deeds in
    let broken : (answer : Answer) → broken_rule rules one.deeds seat answer ≡ broken_rule others other.deeds seat answer =
    λ answer. untimed_verdict rules seat (view_of one.deeds seat) answer ∙ (λ i. broken_by (switches i) seat (view i) answer) ∙ sym (untimed_verdict others seat (view_of other.deeds seat) answer) in
    record {
      each = λ answer. questions_of seat rules (view_of one.deeds seat) answer ∙ (λ i. questions (switches i) seat (view i) answer) ∙ sym (questions_of seat others (view_of other.deeds seat) answer);
      first = broken;
      verdict = λ answer. judged_by rules one answer
          ∙ (λ i. option_map (λ (p : Part). verdict p.progress.due p.progress.refused (long i) (broken answer i)) (a.part i))
          ∙ sym (judged_by others other answer);
      default = default_of seat rules (view_of one.deeds seat) ∙ (λ i. default_by (switches i) seat (view i)) ∙ sym (default_of seat others (view_of other.deeds seat));
    }
  where
    by_part : (n : ℕ) (rule : Option Rule) (o : Option Chair) → option_map (λ (chair : Chair). verdict chair.progress.due chair.progress.refused n
        rule) o ≡ option_map (λ (p : Part). verdict p.progress.due p.progress.refused n rule) (option_map part_of o)
    by_part n rule None = refl
    by_part n rule (Some chair) = refl

    judged_by : (r : Rules) (now : After) (answer : Answer) → verdict_at r now seat answer ≡ option_map
        (λ (p : Part). verdict p.progress.due p.progress.refused (length now.deeds) (broken_rule r now.deeds seat answer)) (part_at now.chairs seat)
    judged_by r now answer = by_part (length now.deeds) (broken_rule r now.deeds seat answer) (slice_get now.chairs seat)

-- verdicts follow
pub same_verdicts : (seat : ℕ) (g h : Game) → seat < 4 → Agree seat g h → SameJudgement seat g h
same_verdicts seat g h small a = record {
  said = same_heard seat g h small a;
  next = verdicts_of_alike seat g.setting.rules h.setting.rules (after g.setting g.entries) (after h.setting h.entries)
      (same_switches seat g h a) (agreeing_are_alike seat g h small a);
}

-- what a seat learns of a deed is of the deed as it sees it
token-masked : (seat : ℕ) (d : Deed) → token seat d ≡ token seat (masked seat d)
token-masked seat (deeds.StartHand round number honba deposits dealer indicator hands) =
    ap (tokens.StartHand indicator) (gains-masked seat (deeds.StartHand round number honba deposits dealer indicator hands))
token-masked seat (deeds.Draw who tile replacement) = by_test (who == seat)
  where
    by_test : (b : Bool) → tokens.Draw who (own_tile b tile) ≡ tokens.Draw who (own_tile b (cond b tile 0))
    by_test true = refl
    by_test false = refl
token-masked seat other = refl

tokens-masked : (seat : ℕ) (ds : List Deed) → map (token seat) ds ≡ map (token seat) (all_masked seat ds)
tokens-masked seat [] = refl
tokens-masked seat (d ∷ ds) = λ i. token-masked seat d i ∷ tokens-masked seat ds i

-- beginnings are seen alike
front_alike : (seat n : ℕ) (ds es : List Deed) → all_masked seat ds ≡ all_masked seat es → all_masked seat (take n ds) ≡ all_masked seat (take n es)
front_alike seat n ds es e = sym (take-map (masked seat) n ds) ∙ ap (take n) e ∙ take-map (masked seat) n es

arguments_of_alike : (seat : ℕ) (ds es : List Deed) → all_masked seat ds ≡ all_masked seat es → SameArguments ds es
arguments_of_alike seat ds es e =
    let now : standing ds ≡ standing es = of_masks seat standing (standing-masked seat) ds es e in
    let before : all_masked seat (before_wins (hand ds)) ≡ all_masked seat (before_wins (hand es)) = before_wins_of_hand seat ds
    ∙ ap (λ (xs : List Deed). before_wins (hand xs)) e ∙ sym (before_wins_of_hand seat es) in
    let melds : (who : ℕ) → seat_melds (before_wins (hand ds)) who ≡ seat_melds (before_wins (hand es)) who =
    λ who. of_masks seat (λ (xs : List Deed). seat_melds xs who) (seat_melds-masked seat who) (before_wins (hand ds)) (before_wins (hand es)) before in
    let seen : indicators (before_wins (hand ds)) ≡ indicators (before_wins (hand es)) = of_masks seat indicators (indicators_all-masked seat) (before_wins (hand ds)) (before_wins (hand es)) before in
    let case : (who : ℕ) → case_of (standing ds) (before_wins (hand ds)) who ≡ case_of (standing ds) (before_wins (hand es)) who =
    λ who. of_masks seat (λ (xs : List Deed). case_of (standing ds) xs who) (case_of-masked seat who (standing ds)) (before_wins (hand ds)) (before_wins (hand es)) before in
    let won : winners (hand ds) ≡ winners (hand es) = of_hands seat winners (winners-masked seat) ds es e in
    let laid : deposits ds ≡ deposits es = of_masks seat deposits (deposits-masked seat) ds es e in
    record {
      melds = melds;
      case = λ who. case who ∙ ap (λ (s : Standing). case_of s (before_wins (hand es)) who) now;
      extra = λ who shows i. extra_by (seen i) shows.unders (shows.own ++ shows.tile ∷ flat_map tiles_of_meld (melds who i));
      dealer = ap (λ (s : Standing). s.dealer) now;
      honba = λ i. cond (length (won i) == 0) (now i).honba 0;
      deposits = λ i. cond (length (won i) == 0) (laid i) 0;
      points = of_masks seat points (points-masked seat) ds es e;
      win = λ who target shows rest. of_masks seat (λ (xs : List Deed). win_shown xs who target shows rest) (win_shown-masked seat who target shows rest) ds es e;
      drawn_hand = λ reason hands. of_masks seat (λ (xs : List Deed). draw_shown xs reason hands) (draw_shown-masked seat reason hands) ds es e;
    }

lines_of_alike : (seat : ℕ) (rules others : Rules) (ds es : List Deed) → untimed rules ≡ untimed others → all_masked seat ds ≡ all_masked seat es → SameLines seat rules others ds es
lines_of_alike seat rules others ds es switches e = record {
  lines = lines_alike seat rules others switches ds es e;
  tokens = of_masks seat (λ (xs : List Deed). map (token seat) xs) (tokens-masked seat) ds es e;
  arguments = λ n. arguments_of_alike seat (take n ds) (take n es) (front_alike seat n ds es e);
}

-- lines follow
pub same_lines : (seat : ℕ) (g h : Game) → seat < 4 → Agree seat g h → SameLines seat g.setting.rules h.setting.rules (after g.setting g.entries).deeds (after h.setting h.entries).deeds
same_lines seat g h small a =
    lines_of_alike seat g.setting.rules h.setting.rules (after g.setting g.entries).deeds (after h.setting h.entries).deeds (same_switches seat g h a) (agreeing_are_alike seat g h small a).deeds
