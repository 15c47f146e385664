-- What everybody sees of a deed holds no secret; and two lists of played deeds that are alike for watchers: a hand that is dealt from
-- two walls, the first draw, a discard that both dealers hold, and the next draw.
use Rattle.std.proofs.Common.{◌≡◌, ◌≢◌, ◌<◌, ℕ, zero, suc, ◌==◌, ◌&&◌, Bool, true, false, List, [], ◌∷◌, length, refl, ap, sym, ◌∙◌, arith}
use Rattle.std.specs.Prelude.{codes, None, flat_map, replicate}
use Rattle.std.specs.List.{slice_index_or}
use Rattle.std.specs.Str.{chars, is_utf8}
use Rattle.std.proofs.lemmas.Bool.{true≢false}
use Rattle.mj_ports.specs.Names.{is_name}
use Rattle.mj_tiles.specs.Counts.{all_kinds}
use Rattle.mj_tiles.specs.Faces.{tile_order, in_tile_order, less}
use Rattle.mj_rounds.specs.Rounds.{first_standing}
use Rattle.mj_calls.specs.Shapes.{is_run_of}
use Rattle.mj_calls.specs.Bans.{run_kinds, banned_by_chi}
use Rattle.mj_deeds.specs.declared.four.Four.{Four}
use Rattle.mj_deeds.specs.declared.answer.Answer.{Answer}
use Rattle.mj_deeds.specs.declared.answer.Answer.TheVariants as answers
use Rattle.mj_deeds.specs.declared.answer.Pai.TheVariants.{Known}
use Rattle.mj_deeds.specs.declared.deed.Deed.{Deed}
use Rattle.mj_deeds.specs.declared.deed.Deed.TheVariants.{StartGame, Draw, Discard}
use Rattle.mj_deeds.specs.Facts.{concealed_tiles}
use Rattle.mj_deeds.specs.Hand.{hand}
use Rattle.mj_wall.specs.declared.setting.Rules.{Rules}
use Rattle.mj_wall.specs.Places.{is_wall, live_tile}
use Rattle.mj_window.specs.Decided.{best_bid}
use Rattle.mj_rules.specs.Broken.{broken_by, has_nothing_else}
use Rattle.mj_rules.specs.Outcome.{outcome, hand_start, next_draw}
use Rattle.mj_rules.specs.Played.{IsPlayed}
use Rattle.mj_rules.specs.View.{view_of}
use Rattle.mj_observe.specs.Laws.{TokensHoldNoSecret, AreAlikeInPublic}
use Rattle.mj_observe.specs.Traces.{secrets, public_trace}

pub tokens_hold_no_secret : TokensHoldNoSecret
tokens_hold_no_secret = record {
  dealt = λ round number honba deposits dealer indicator hands others. refl;
  drawn = λ seat tile other replacement. refl;
  kept = λ seat points bid other. refl;
  winners = λ seat target tile unders own yaku fu han value deltas points rest others. refl;
}

-- So many of each tile, in order.
abbrev tiles : List (ℕ × ℕ) → List ℕ
tiles groups = flat_map (λ (group : ℕ × ℕ). replicate group.0 group.1) groups

-- The tiles after the second draw.
abbrev others : List (ℕ × ℕ)
others = (4, 15) ∷ (4, 16) ∷ (4, 17) ∷ (4, 18) ∷ (4, 19) ∷ (4, 20) ∷ (4, 21) ∷ (4, 22) ∷ (4, 23) ∷ (4, 24) ∷ (4, 25) ∷ (4, 26) ∷ (4, 27) ∷
    (4, 28) ∷ (4, 29) ∷ (4, 30) ∷ (4, 31) ∷ (4, 32) ∷ (4, 33) ∷ []

-- A wall in tile order; and one in which each seat is dealt other tiles, and other tiles are drawn.
abbrev one_wall : List ℕ
one_wall =
    tiles ((4, 0) ∷ (4, 1) ∷ (4, 2) ∷ (4, 3) ∷ (4, 4) ∷ (4, 5) ∷ (4, 6) ∷ (4, 7) ∷ (4, 8) ∷ (4, 9) ∷ (4, 10) ∷ (4, 11) ∷ (4, 12) ∷ (4, 13) ∷ (4, 14) ∷ others)

abbrev other_wall : List ℕ
other_wall =
    tiles ((4, 3) ∷ (4, 4) ∷ (4, 5) ∷ (4, 6) ∷ (4, 7) ∷ (4, 8) ∷ (4, 9) ∷ (4, 10) ∷ (4, 11) ∷ (4, 12) ∷ (4, 0) ∷ (4, 1) ∷ (4, 2) ∷ (4, 14) ∷ (4, 13) ∷ others)

abbrev plain : Rules
plain = record { limit = 1000; draws = false; red = false }

one_whole : is_wall false one_wall ≡ true
unfolding is_wall tile_order
one_whole = refl

other_whole : is_wall false other_wall ≡ true
unfolding is_wall tile_order
other_whole = refl

-- The deeds of a game with a wall.
abbrev named : Deed
named = StartGame (record { first = codes "a"; second = codes "b"; third = codes "c"; fourth = codes "d" })

abbrev started : List ℕ → List Deed
started wall = named ∷ hand_start wall first_standing 0 ∷ []

abbrev drawn_once : List ℕ → List Deed
drawn_once wall = named ∷ hand_start wall first_standing 0 ∷ Draw 0 (live_tile wall 0) false ∷ []

abbrev discarded : List ℕ → List Deed
discarded wall = named ∷ hand_start wall first_standing 0 ∷ Draw 0 (live_tile wall 0) false ∷ Discard 0 3 false ∷ []

abbrev deeds_with : List ℕ → List Deed
deeds_with wall = named ∷ hand_start wall first_standing 0 ∷ Draw 0 (live_tile wall 0) false ∷ Discard 0 3 false ∷ Draw 1 (live_tile wall 1) false ∷ []

-- All let a window pass; or the first seat discards.
abbrev all_pass : Four Answer
all_pass = record { first = answers.Pass None; second = answers.Pass None; third = answers.Pass None; fourth = answers.Pass None }

abbrev first_discards : Four Answer
first_discards = record { first = answers.Discard 0 (Known 3) false; second = answers.Pass None; third = answers.Pass None; fourth = answers.Pass None }

one_played : IsPlayed plain (one_wall ∷ []) (deeds_with one_wall)
unfolding broken_by outcome hand_start view_of hand is_name in_tile_order less tile_order next_draw best_bid has_nothing_else banned_by_chi is_run_of run_kinds all_kinds chars is_utf8 lib.Utf8.encode
one_played = (
  refl,
  (
    record {
      given = all_pass;
      lawful = record {
        first = record { form = refl; clean = refl };
        second = record { form = refl; clean = refl };
        third = record { form = refl; clean = refl };
        fourth = record { form = refl; clean = refl };
      };
      gives = refl;
    },
    (
      record {
        given = all_pass;
        lawful = record {
          first = record { form = refl; clean = refl };
          second = record { form = refl; clean = refl };
          third = record { form = refl; clean = refl };
          fourth = record { form = refl; clean = refl };
        };
        gives = refl;
      },
      (
        record {
          given = first_discards;
          lawful = record {
            first = record { form = refl; clean = refl };
            second = record { form = refl; clean = refl };
            third = record { form = refl; clean = refl };
            fourth = record { form = refl; clean = refl };
          };
          gives = refl;
        },
        (
          record {
            given = all_pass;
            lawful = record {
              first = record { form = refl; clean = refl };
              second = record { form = refl; clean = refl };
              third = record { form = refl; clean = refl };
              fourth = record { form = refl; clean = refl };
            };
            gives = refl;
          },
          tt,
        ),
      ),
    ),
  ),
)

other_played : IsPlayed plain (other_wall ∷ []) (deeds_with other_wall)
unfolding broken_by outcome hand_start view_of hand is_name in_tile_order less tile_order next_draw best_bid has_nothing_else banned_by_chi is_run_of run_kinds all_kinds chars is_utf8 lib.Utf8.encode
other_played = (
  refl,
  (
    record {
      given = all_pass;
      lawful = record {
        first = record { form = refl; clean = refl };
        second = record { form = refl; clean = refl };
        third = record { form = refl; clean = refl };
        fourth = record { form = refl; clean = refl };
      };
      gives = refl;
    },
    (
      record {
        given = all_pass;
        lawful = record {
          first = record { form = refl; clean = refl };
          second = record { form = refl; clean = refl };
          third = record { form = refl; clean = refl };
          fourth = record { form = refl; clean = refl };
        };
        gives = refl;
      },
      (
        record {
          given = first_discards;
          lawful = record {
            first = record { form = refl; clean = refl };
            second = record { form = refl; clean = refl };
            third = record { form = refl; clean = refl };
            fourth = record { form = refl; clean = refl };
          };
          gives = refl;
        },
        (
          record {
            given = all_pass;
            lawful = record {
              first = record { form = refl; clean = refl };
              second = record { form = refl; clean = refl };
              third = record { form = refl; clean = refl };
              fourth = record { form = refl; clean = refl };
            };
            gives = refl;
          },
          tt,
        ),
      ),
    ),
  ),
)

same_trace : public_trace (deeds_with one_wall) ≡ public_trace (deeds_with other_wall)
unfolding hand_start hand
same_trace = refl

-- What differs by a test differs.
differ : {A : Type 0} (test : A → Bool) (a b : A) → test a ≡ true → test b ≡ false → a ≢ b
differ test a b h k e = true≢false (sym h ∙ ap test e ∙ k)

-- The second tile that a seat holds: it is another in the other game.
abbrev second_held : ℕ → List ℕ → Bool
second_held tile held = slice_index_or held 1 0 == tile

held_apart : (seat : ℕ) → seat < 4 → concealed_tiles (hand (deeds_with one_wall)) seat ≢ concealed_tiles (hand (deeds_with other_wall)) seat
unfolding hand hand_start in_tile_order less tile_order
held_apart zero low = differ (second_held 0) _ _ refl refl
held_apart (suc zero) low = differ (second_held 3) _ _ refl refl
held_apart (suc (suc zero)) low = differ (second_held 6) _ _ refl refl
held_apart (suc (suc (suc zero))) low = differ (second_held 10) _ _ refl refl
held_apart (suc (suc (suc (suc seat)))) low = absurd (omega (arith, low))

drawn_apart : (place : ℕ) → place < 2 → slice_index_or (secrets (deeds_with one_wall)).drawn place 0 ≢ slice_index_or (secrets (deeds_with other_wall)).drawn place 0
unfolding hand_start
drawn_apart zero low = differ (λ tile. tile == 13) _ _ refl refl
drawn_apart (suc zero) low = differ (λ tile. tile == 13) _ _ refl refl
drawn_apart (suc (suc place)) low = absurd (omega (arith, low))

two_drawn : length (secrets (deeds_with one_wall)).drawn ≡ 2
unfolding hand_start
two_drawn = refl

pub alike_in_public : AreAlikeInPublic
alike_in_public = record {
  one = deeds_with one_wall;
  other = deeds_with other_wall;
  one_played = record { rules = plain; walls = one_wall ∷ []; some = omega arith; whole = ap (λ b. b && true) one_whole; played = one_played };
  other_played = record { rules = plain; walls = other_wall ∷ []; some = omega arith; whole = ap (λ b. b && true) other_whole; played = other_played };
  same = same_trace;
  held = held_apart;
  some = omega (arith, two_drawn);
  drawn = λ place low. drawn_apart place (omega (arith, low, two_drawn));
}
