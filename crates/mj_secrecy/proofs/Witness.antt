-- Two pairs of games, one that agree for seat 0 and one that agree for each other seat: the same four seats, a hand that is dealt
-- from two walls which hold other tiles for the seats that aren't asked, and a discard that two seats bid for.
use Rattle.std.proofs.Common.{◌≡◌, ◌≢◌, ◌≤◌, ℕ, zero, suc, ◌+◌, ◌==◌, ◌&&◌, Bool, true, false, List, [], ◌∷◌, length, refl, ap, sym, ◌∙◌, arith}
use Rattle.std.specs.Prelude.{codes, Some, None, flat_map, replicate}
use Rattle.std.proofs.lemmas.Bool.{true≢false}
use Rattle.std.specs.List.{slice_index_or}
use Rattle.std.specs.Str.{chars, is_utf8}
use Rattle.mj_ports.specs.declared.entry.Entry.{Entry}
use Rattle.mj_ports.specs.declared.entry.Entry.TheVariants.{Sat, Back, Said, Gone, Expired}
use Rattle.mj_ports.specs.Names.{is_name}
use Rattle.mj_deeds.specs.declared.answer.Answer.{Answer}
use Rattle.mj_deeds.specs.declared.answer.Answer.TheVariants.{Unread, Pass, Discard, Chi, Pon}
use Rattle.mj_deeds.specs.declared.answer.Pai.TheVariants.{Known}
use Rattle.mj_deeds.specs.Facts.{tiles_gained}
use Rattle.mj_calls.specs.Shapes.{is_run_of}
use Rattle.mj_calls.specs.Bans.{run_kinds, banned_by_chi}
use Rattle.mj_wall.specs.declared.setting.Rules.{Rules}
use Rattle.mj_wall.specs.Places.{is_wall}
use Rattle.mj_tiles.specs.Counts.{all_kinds}
use Rattle.mj_tiles.specs.Faces.{number_in, tile_order, in_tile_order, less}
use Rattle.mj_deeds.specs.Hand.{hand}
use Rattle.mj_window.specs.Decided.{best_bid}
use Rattle.mj_rules.specs.Broken.{broken_by, has_nothing_else}
use Rattle.mj_rules.specs.Default.{default_by}
use Rattle.mj_rules.specs.View.{view_of}
use Rattle.mj_rules.specs.Outcome.{outcome, hand_start, next_draw}
use Rattle.mj_history.specs.After.{before_all, own_part, after_said, after_gone, after_back, step, next_deed, after}
use Rattle.mj_history.specs.Legal.{Game, IsLegal, can_sit, can_return, may_say, can_expire, all_permitted}
use Rattle.mj_secrecy.specs.Trace.{trace}
use Rattle.mj_secrecy.specs.Witness.{answers_of_others, tiles_drawn, refusals, bids, lost_bids, AgreeApart, SomeAgreeApart}

-- So many of each tile, in order.
abbrev tiles : List (ℕ × ℕ) → List ℕ
tiles groups = flat_map (λ (group : ℕ × ℕ). replicate group.0 group.1) groups

-- The wall of a game.
abbrev first_wall : List ℕ
first_wall =
    tiles ((4, 0) ∷ (4, 1) ∷ (4, 2) ∷ (4, 3) ∷ (4, 4) ∷ (4, 5) ∷ (1, 6) ∷ (1, 20) ∷ (3, 6) ∷ (4, 7) ∷ (4, 8) ∷ (4, 9) ∷
    (4, 10) ∷ (4, 11) ∷ (1, 12) ∷ (2, 20) ∷ (2, 13) ∷ (3, 12) ∷ (2, 13) ∷ (4, 14) ∷ (4, 15) ∷ (4, 16) ∷ (4, 17) ∷ (4, 18) ∷
    (4, 19) ∷ (1, 20) ∷ (4, 21) ∷ (4, 22) ∷ (4, 23) ∷ (4, 24) ∷ (4, 25) ∷ (4, 26) ∷ (4, 27) ∷ (4, 28) ∷ (4, 29) ∷ (4, 30) ∷
    (4, 31) ∷ (4, 32) ∷ (4, 33) ∷ [])

-- The first wall with other tiles for the other seats and another second draw, and with the tiles that seats 1 and 3 discard
-- and take.
abbrev first_other_wall : List ℕ
first_other_wall =
    tiles ((4, 0) ∷ (4, 1) ∷ (4, 2) ∷ (1, 3) ∷ (2, 12) ∷ (4, 11) ∷ (4, 10) ∷ (2, 9) ∷ (1, 20) ∷ (2, 9) ∷ (4, 8) ∷ (4, 7) ∷
    (1, 6) ∷ (1, 21) ∷ (1, 22) ∷ (3, 6) ∷ (4, 5) ∷ (3, 4) ∷ (1, 3) ∷ (2, 20) ∷ (1, 13) ∷ (1, 14) ∷ (2, 3) ∷ (1, 4) ∷ (2, 12) ∷
    (3, 13) ∷ (3, 14) ∷ (4, 15) ∷ (4, 16) ∷ (4, 17) ∷ (4, 18) ∷ (4, 19) ∷ (1, 20) ∷ (3, 21) ∷ (3, 22) ∷ (4, 23) ∷ (4, 24) ∷
    (4, 25) ∷ (4, 26) ∷ (4, 27) ∷ (4, 28) ∷ (4, 29) ∷ (4, 30) ∷ (4, 31) ∷ (4, 32) ∷ (4, 33) ∷ [])

-- Another wall.
abbrev second_wall : List ℕ
second_wall =
    tiles ((4, 0) ∷ (4, 1) ∷ (4, 2) ∷ (1, 30) ∷ (4, 3) ∷ (4, 4) ∷ (4, 5) ∷ (4, 6) ∷ (4, 7) ∷ (4, 8) ∷ (2, 20) ∷ (4, 9) ∷
    (4, 10) ∷ (2, 11) ∷ (2, 30) ∷ (1, 20) ∷ (1, 13) ∷ (2, 11) ∷ (4, 12) ∷ (3, 13) ∷ (4, 14) ∷ (4, 15) ∷ (4, 16) ∷ (4, 17) ∷
    (4, 18) ∷ (4, 19) ∷ (1, 20) ∷ (4, 21) ∷ (4, 22) ∷ (4, 23) ∷ (4, 24) ∷ (4, 25) ∷ (4, 26) ∷ (4, 27) ∷ (4, 28) ∷ (4, 29) ∷
    (1, 30) ∷ (4, 31) ∷ (4, 32) ∷ (4, 33) ∷ [])

-- The second wall with other tiles for seat 0, and another first draw.
abbrev second_other_wall : List ℕ
second_other_wall =
    tiles ((4, 0) ∷ (4, 1) ∷ (2, 2) ∷ (1, 21) ∷ (1, 22) ∷ (1, 30) ∷ (4, 3) ∷ (4, 4) ∷ (4, 5) ∷ (4, 6) ∷ (4, 7) ∷ (4, 8) ∷
    (2, 20) ∷ (4, 9) ∷ (4, 10) ∷ (2, 11) ∷ (2, 30) ∷ (1, 20) ∷ (1, 14) ∷ (2, 2) ∷ (2, 11) ∷ (4, 12) ∷ (4, 13) ∷ (3, 14) ∷
    (4, 15) ∷ (4, 16) ∷ (4, 17) ∷ (4, 18) ∷ (4, 19) ∷ (1, 20) ∷ (3, 21) ∷ (3, 22) ∷ (4, 23) ∷ (4, 24) ∷ (4, 25) ∷ (4, 26) ∷
    (4, 27) ∷ (4, 28) ∷ (4, 29) ∷ (1, 30) ∷ (4, 31) ∷ (4, 32) ∷ (4, 33) ∷ [])

first_wall_whole : is_wall false first_wall ≡ true
unfolding is_wall tile_order
first_wall_whole = refl

first_other_wall_whole : is_wall false first_other_wall ≡ true
unfolding is_wall tile_order
first_other_wall_whole = refl

second_wall_whole : is_wall false second_wall ≡ true
unfolding is_wall tile_order
second_wall_whole = refl

second_other_wall_whole : is_wall false second_other_wall ≡ true
unfolding is_wall tile_order
second_other_wall_whole = refl

abbrev rules_of : ℕ → Rules
rules_of limit = record { limit = limit; draws = false; red = false }

-- A seat lets a window pass.
abbrev passes : ℕ → ℕ → Entry Answer
passes author seat = Said author seat (Pass None)

-- A seat discards a tile: the one that it drew, or one that it held.
abbrev throws : ℕ → ℕ → ℕ → Entry Answer
throws author seat tile = Said author seat (Discard seat (Known tile) true)

abbrev plays : ℕ → ℕ → ℕ → Entry Answer
plays author seat tile = Said author seat (Discard seat (Known tile) false)

-- A seat takes a tile for a triplet, or for a run of which it is the lowest tile.
abbrev triplets : ℕ → ℕ → ℕ → ℕ → Entry Answer
triplets author seat target tile = Said author seat (Pon seat target (Known tile) (Known tile) (Known tile))

abbrev runs : ℕ → ℕ → ℕ → ℕ → Entry Answer
runs author seat target tile = Said author seat (Chi seat target (Known tile) (Known (tile + 1)) (Known (tile + 2)))

-- One game: one author enters all, and in each window the seats answer in turn. Seat 0 draws and discards, seat 1 draws and discards
-- another tile, and seat 3 takes that.
abbrev first : Game
first = record {
  setting = record { walls = first_wall ∷ []; rules = rules_of 1000 };
  entries =
      Sat 1 (codes "a") None ∷ Sat 1 (codes "b") None ∷ Sat 1 (codes "c") None ∷ Sat 1 (codes "d") None
      ∷ passes 1 0 ∷ passes 1 1 ∷ passes 1 2 ∷ passes 1 3
      ∷ passes 1 0 ∷ passes 1 1 ∷ passes 1 2 ∷ passes 1 3
      ∷ throws 1 0 13 ∷ passes 1 1 ∷ passes 1 2 ∷ passes 1 3
      ∷ passes 1 0 ∷ passes 1 1 ∷ passes 1 2 ∷ passes 1 3
      ∷ passes 1 0 ∷ plays 1 1 20 ∷ passes 1 2 ∷ passes 1 3
      ∷ passes 1 0 ∷ passes 1 1 ∷ passes 1 2 ∷ triplets 1 3 1 20 ∷ [];
}

-- The other: each seat has an author of its own, the others answer the other way round, and what seat 1 says first is refused.
-- Seat 3 leaves while the start of the hand is open, comes back by another author while seat 0 is to discard, and doesn't answer
-- until the time of that window has run out. Seat 2 bids for what seat 3 takes.
abbrev first_other : Game
first_other = record {
  setting = record { walls = first_other_wall ∷ first_wall ∷ []; rules = rules_of 2000 };
  entries =
      Sat 1 (codes "a") None ∷ Sat 2 (codes "b") None ∷ Sat 3 (codes "c") None ∷ Sat 4 (codes "d") (Some (codes "k"))
      ∷ Said 2 1 Unread ∷ passes 1 0 ∷ passes 4 3 ∷ passes 3 2 ∷ passes 2 1
      ∷ passes 1 0 ∷ Gone 4 3 ∷ passes 3 2 ∷ passes 2 1
      ∷ throws 1 0 13 ∷ Back 5 3 ∷ passes 3 2 ∷ passes 2 1 ∷ Expired 0 2 500 2500
      ∷ passes 1 0 ∷ passes 5 3 ∷ passes 5 3 ∷ passes 3 2 ∷ passes 2 1
      ∷ passes 1 0 ∷ passes 5 3 ∷ passes 3 2 ∷ plays 2 1 20
      ∷ passes 1 0 ∷ triplets 5 3 1 20 ∷ runs 3 2 1 20 ∷ passes 2 1 ∷ [];
}

-- One game of the second pair: seat 0 draws and discards another tile, seat 3 takes that and discards, and seat 2 takes that.
abbrev second : Game
second = record {
  setting = record { walls = second_wall ∷ []; rules = rules_of 1000 };
  entries =
      Sat 1 (codes "a") None ∷ Sat 1 (codes "b") None ∷ Sat 1 (codes "c") None ∷ Sat 1 (codes "d") None
      ∷ passes 1 0 ∷ passes 1 1 ∷ passes 1 2 ∷ passes 1 3
      ∷ passes 1 0 ∷ passes 1 1 ∷ passes 1 2 ∷ passes 1 3
      ∷ plays 1 0 30 ∷ passes 1 1 ∷ passes 1 2 ∷ passes 1 3
      ∷ passes 1 0 ∷ passes 1 1 ∷ passes 1 2 ∷ triplets 1 3 0 30
      ∷ passes 1 0 ∷ passes 1 1 ∷ passes 1 2 ∷ plays 1 3 20
      ∷ passes 1 0 ∷ passes 1 1 ∷ triplets 1 2 3 20 ∷ passes 1 3 ∷ [];
}

-- The other: what seat 0 says first is refused, it leaves and comes back, is late for a window, and bids for what seat 2 takes.
abbrev second_other : Game
second_other = record {
  setting = record { walls = second_other_wall ∷ second_wall ∷ []; rules = rules_of 2000 };
  entries =
      Sat 1 (codes "a") (Some (codes "k")) ∷ Sat 2 (codes "b") None ∷ Sat 3 (codes "c") None ∷ Sat 4 (codes "d") None
      ∷ Said 1 0 Unread ∷ passes 4 3 ∷ passes 3 2 ∷ passes 2 1 ∷ passes 1 0
      ∷ passes 4 3 ∷ Gone 1 0 ∷ passes 3 2 ∷ passes 2 1
      ∷ passes 4 3 ∷ Back 5 0 ∷ passes 3 2 ∷ plays 5 0 30 ∷ passes 2 1
      ∷ triplets 4 3 0 30 ∷ passes 3 2 ∷ passes 2 1 ∷ Expired 0 3 500 2500
      ∷ plays 4 3 20 ∷ passes 3 2 ∷ passes 2 1 ∷ passes 5 0 ∷ passes 5 0
      ∷ runs 5 0 3 20 ∷ triplets 3 2 3 20 ∷ passes 4 3 ∷ passes 2 1 ∷ [];
}

first_permitted : all_permitted first.setting before_all first.entries ≡ true
unfolding own_part after_said after_gone after_back step next_deed can_sit can_return may_say can_expire default_by broken_by
    outcome hand_start view_of hand is_name in_tile_order less tile_order next_draw best_bid has_nothing_else banned_by_chi
    is_run_of run_kinds all_kinds chars is_utf8 lib.Utf8.encode
first_permitted = refl

first_other_permitted : all_permitted first_other.setting before_all first_other.entries ≡ true
unfolding own_part after_said after_gone after_back step next_deed can_sit can_return may_say can_expire default_by broken_by
    outcome hand_start view_of hand is_name in_tile_order less tile_order next_draw best_bid has_nothing_else banned_by_chi
    is_run_of run_kinds all_kinds chars is_utf8 lib.Utf8.encode
first_other_permitted = refl

second_permitted : all_permitted second.setting before_all second.entries ≡ true
unfolding own_part after_said after_gone after_back step next_deed can_sit can_return may_say can_expire default_by broken_by
    outcome hand_start view_of hand is_name in_tile_order less tile_order next_draw best_bid has_nothing_else banned_by_chi
    is_run_of run_kinds all_kinds chars is_utf8 lib.Utf8.encode
second_permitted = refl

second_other_permitted : all_permitted second_other.setting before_all second_other.entries ≡ true
unfolding own_part after_said after_gone after_back step next_deed can_sit can_return may_say can_expire default_by broken_by
    outcome hand_start view_of hand is_name in_tile_order less tile_order next_draw best_bid has_nothing_else banned_by_chi
    is_run_of run_kinds all_kinds chars is_utf8 lib.Utf8.encode
second_other_permitted = refl

same_trace_0 : trace 0 first.setting first.entries ≡ trace 0 first_other.setting first_other.entries
unfolding own_part after_said after_gone after_back step next_deed can_sit can_return may_say can_expire default_by broken_by
    outcome hand_start view_of hand in_tile_order less tile_order next_draw best_bid has_nothing_else banned_by_chi is_run_of
    run_kinds all_kinds
same_trace_0 = refl

same_trace_1 : trace 1 second.setting second.entries ≡ trace 1 second_other.setting second_other.entries
unfolding own_part after_said after_gone after_back step next_deed can_sit can_return may_say can_expire default_by broken_by
    outcome hand_start view_of hand in_tile_order less tile_order next_draw best_bid has_nothing_else banned_by_chi is_run_of
    run_kinds all_kinds
same_trace_1 = refl

same_trace_2 : trace 2 second.setting second.entries ≡ trace 2 second_other.setting second_other.entries
unfolding own_part after_said after_gone after_back step next_deed can_sit can_return may_say can_expire default_by broken_by
    outcome hand_start view_of hand in_tile_order less tile_order next_draw best_bid has_nothing_else banned_by_chi is_run_of
    run_kinds all_kinds
same_trace_2 = refl

same_trace_3 : trace 3 second.setting second.entries ≡ trace 3 second_other.setting second_other.entries
unfolding own_part after_said after_gone after_back step next_deed can_sit can_return may_say can_expire default_by broken_by
    outcome hand_start view_of hand in_tile_order less tile_order next_draw best_bid has_nothing_else banned_by_chi is_run_of
    run_kinds all_kinds
same_trace_3 = refl

-- What differs by a test differs.
differ : {A : Type 0} (test : A → Bool) (a b : A) → test a ≡ true → test b ≡ false → a ≢ b
differ test a b h k e = true≢false (sym h ∙ ap test e ∙ k)

-- Of a game the tiles that are drawn, the seats of refused answers, those of taken bids and those of lost ones, and how many tiles of
-- a kind a seat is given.
abbrev Facts : Type 0
Facts = List ℕ × (List ℕ × (List ℕ × (List ℕ × ℕ)))

abbrev facts_of : ℕ → ℕ → Game → Facts
facts_of seat kind game = (tiles_drawn game, (refusals game, (bids game, (lost_bids game, number_in (tiles_gained (after game.setting game.entries).deeds seat) kind))))

first_facts : facts_of 1 3 first ≡ (13 ∷ 13 ∷ [], ([], (3 ∷ [], ([], 3))))
unfolding own_part after_said after_gone after_back step next_deed can_sit can_return may_say can_expire default_by broken_by
    outcome hand_start view_of hand in_tile_order less tile_order next_draw best_bid has_nothing_else banned_by_chi is_run_of
    run_kinds all_kinds
first_facts = refl

first_other_facts : facts_of 1 3 first_other ≡ (13 ∷ 14 ∷ [], (1 ∷ [], (3 ∷ 2 ∷ [], (2 ∷ [], 0))))
unfolding own_part after_said after_gone after_back step next_deed can_sit can_return may_say can_expire default_by broken_by
    outcome hand_start view_of hand in_tile_order less tile_order next_draw best_bid has_nothing_else banned_by_chi is_run_of
    run_kinds all_kinds
first_other_facts = refl

second_facts : facts_of 0 2 second ≡ (13 ∷ [], ([], (3 ∷ 2 ∷ [], ([], 4))))
unfolding own_part after_said after_gone after_back step next_deed can_sit can_return may_say can_expire default_by broken_by
    outcome hand_start view_of hand in_tile_order less tile_order next_draw best_bid has_nothing_else banned_by_chi is_run_of
    run_kinds all_kinds
second_facts = refl

second_other_facts : facts_of 0 2 second_other ≡ (14 ∷ [], (0 ∷ [], (3 ∷ 0 ∷ 2 ∷ [], (0 ∷ [], 2))))
unfolding own_part after_said after_gone after_back step next_deed can_sit can_return may_say can_expire default_by broken_by
    outcome hand_start view_of hand in_tile_order less tile_order next_draw best_bid has_nothing_else banned_by_chi is_run_of
    run_kinds all_kinds
second_other_facts = refl

few_walls : (walls : List (List ℕ)) (n : ℕ) → length walls ≡ n → n ≤ 200 → length walls ≤ 200
few_walls walls n e h = omega (arith, e, h)

first_legal : IsLegal first.setting first.entries
first_legal = record { few = few_walls first.setting.walls 1 refl (omega arith); whole = ap (λ b. b && true) first_wall_whole; ground = refl; permitted = first_permitted }

first_other_legal : IsLegal first_other.setting first_other.entries
first_other_legal = record {
  few = few_walls first_other.setting.walls 2 refl (omega arith);
  whole = (λ i. first_other_wall_whole i && (first_wall_whole i && true));
  ground = refl;
  permitted = first_other_permitted;
}

second_legal : IsLegal second.setting second.entries
second_legal = record { few = few_walls second.setting.walls 1 refl (omega arith); whole = ap (λ b. b && true) second_wall_whole; ground = refl; permitted = second_permitted }

second_other_legal : IsLegal second_other.setting second_other.entries
second_other_legal = record {
  few = few_walls second_other.setting.walls 2 refl (omega arith);
  whole = (λ i. second_other_wall_whole i && (second_wall_whole i && true));
  ground = refl;
  permitted = second_other_permitted;
}

-- The first pair agrees for seat 0.
first_apart : AgreeApart 0
first_apart = record {
  one = first;
  other = first_other;
  agree = record { legal = first_legal; other_legal = first_other_legal; draws = refl; red = refl; same = same_trace_0 };
  walls = differ (λ walls. length walls == 1) _ _ refl refl;
  number = differ (λ n. n == 1) _ _ refl refl;
  deeds = differ (λ ds. number_in (tiles_gained ds 1) 3 == 3) _ _ (ap (λ (f : Facts). f.1.1.1.1 == 3) first_facts) (ap (λ (f : Facts). f.1.1.1.1 == 3) first_other_facts);
  drawn = differ (λ tiles. slice_index_or tiles 1 0 == 13) _ _ (ap (λ (f : Facts). slice_index_or f.0 1 0 == 13) first_facts) (ap (λ (f : Facts). slice_index_or f.0 1 0 == 13) first_other_facts);
  limits = differ (λ limit. limit == 1000) _ _ refl refl;
  writers = differ (λ authors. slice_index_or authors 1 0 == 1) _ _ refl refl;
  order = differ (λ seats. slice_index_or seats 1 0 == 2) _ _ refl refl;
  refused = differ (λ n. n == 0) _ _ (ap (λ (f : Facts). length f.1.0 == 0) first_facts) (ap (λ (f : Facts). length f.1.0 == 0) first_other_facts);
  taken = differ (λ n. n == 1) _ _ (ap (λ (f : Facts). length f.1.1.0 == 1) first_facts) (ap (λ (f : Facts). length f.1.1.0 == 1) first_other_facts);
  bidding = differ (λ n. n == 0) _ _ (ap (λ (f : Facts). length f.1.1.1.0 == 0) first_facts) (ap (λ (f : Facts). length f.1.1.1.0 == 0) first_other_facts);
  leaving = differ (λ seats. length seats == 0) _ _ refl refl;
  coming = differ (λ seats. length seats == 0) _ _ refl refl;
  time = differ (λ windows. length windows == 0) _ _ refl refl;
}

-- The second agrees for each seat that learns the same of both, in which the others answer in another order.
second_apart : (seat : ℕ) → trace seat second.setting second.entries ≡ trace seat second_other.setting second_other.entries →
    answers_of_others seat second ≢ answers_of_others seat second_other → AgreeApart seat
second_apart seat same order = record {
  one = second;
  other = second_other;
  agree = record { legal = second_legal; other_legal = second_other_legal; draws = refl; red = refl; same = same };
  walls = differ (λ walls. length walls == 1) _ _ refl refl;
  number = differ (λ n. n == 1) _ _ refl refl;
  deeds = differ (λ ds. number_in (tiles_gained ds 0) 2 == 4) _ _ (ap (λ (f : Facts). f.1.1.1.1 == 4) second_facts) (ap (λ (f : Facts). f.1.1.1.1 == 4) second_other_facts);
  drawn = differ (λ tiles. slice_index_or tiles 0 0 == 13) _ _ (ap (λ (f : Facts). slice_index_or f.0 0 0 == 13) second_facts) (ap (λ (f : Facts). slice_index_or f.0 0 0 == 13) second_other_facts);
  limits = differ (λ limit. limit == 1000) _ _ refl refl;
  writers = differ (λ authors. slice_index_or authors 1 0 == 1) _ _ refl refl;
  order = order;
  refused = differ (λ n. n == 0) _ _ (ap (λ (f : Facts). length f.1.0 == 0) second_facts) (ap (λ (f : Facts). length f.1.0 == 0) second_other_facts);
  taken = differ (λ n. n == 2) _ _ (ap (λ (f : Facts). length f.1.1.0 == 2) second_facts) (ap (λ (f : Facts). length f.1.1.0 == 2) second_other_facts);
  bidding = differ (λ n. n == 0) _ _ (ap (λ (f : Facts). length f.1.1.1.0 == 0) second_facts) (ap (λ (f : Facts). length f.1.1.1.0 == 0) second_other_facts);
  leaving = differ (λ seats. length seats == 0) _ _ refl refl;
  coming = differ (λ seats. length seats == 0) _ _ refl refl;
  time = differ (λ windows. length windows == 0) _ _ refl refl;
}

pub games_agree_apart : SomeAgreeApart
games_agree_apart zero small = first_apart
games_agree_apart (suc zero) small = second_apart 1 same_trace_1 (differ (λ seats. slice_index_or seats 1 0 == 2) _ _ refl refl)
games_agree_apart (suc (suc zero)) small = second_apart 2 same_trace_2 (differ (λ seats. slice_index_or seats 1 0 == 1) _ _ refl refl)
games_agree_apart (suc (suc (suc zero))) small = second_apart 3 same_trace_3 (differ (λ seats. slice_index_or seats 1 0 == 1) _ _ refl refl)
games_agree_apart (suc (suc (suc (suc seat)))) small = absurd (omega (arith, small))
