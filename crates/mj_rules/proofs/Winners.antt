-- What is known of the seats that may win after played deeds: how many tiles they have, and of each kind.
use Rattle.std.proofs.Common.{◌≡◌, ℕ, suc, ◌+◌, ◌*◌, ◌%◌, ◌<◌, ◌≤◌, ◌==◌, inl, inr, ◌⊎◌, Bool, true, false, cond, eqb, List, [], ◌∷◌, ◌++◌, length, get_or, refl, sym, ap, ◌∙◌, subst, arith}
use Rattle.std.specs.Prelude.{Option, Some, None, flat_map, option_to_list}
use Rattle.std.proofs.lemmas.Bool.{cases_eq, cases_lt, ne_eqb, eq-eqb}
use Rattle.std.proofs.lemmas.List.{length-append, length-map, get_or_past}
use Rattle.std.proofs.lemmas.List.Concat.{flat_map-cons}
use Rattle.mj_tiles.specs.Faces.{kind_of, number_in, less}
use Rattle.mj_tiles.specs.Counts.{number_of, kind_counts, NoFifth}
use Rattle.mj_tiles.proofs.CountSteps.{length-kind_counts, get_or-kind_counts, number_of-push}
use Rattle.mj_tiles.specs.Melds.{tiles_of_meld}
use Rattle.mj_tiles.specs.declared.meld.Meld.{Meld}
use Rattle.mj_wall.proofs.TileOrder.{number-cons, count_by-less}
use Rattle.mj_rules.proofs.TilesLess.{count_all, count_without, count_less_one, count_but_one, length_less}
use Rattle.mj_wall.specs.Places.{is_wall}
use Rattle.mj_wall.specs.declared.setting.Rules.{Rules}
use Rattle.mj_deeds.specs.declared.deed.Deed.{Deed}
use Rattle.mj_deeds.specs.declared.deed.Deed.TheVariants.{Draw, Discard, AddedKan, Win}
use Rattle.mj_deeds.specs.Course.{before_wins, is_offer}
use Rattle.mj_deeds.specs.Facts.{newest, gains_by, losses_by, drawn_by, tiles_gained, tiles_lost, concealed_tiles, makes_by, seat_melds, indicators}
use Rattle.mj_deeds.specs.Fits.{all_fit, has_seats, has_held_by}
use Rattle.mj_deeds.specs.Hand.{hand}
use Rattle.mj_deeds.specs.Points.{is_win}
use Rattle.mj_deeds.proofs.Totals.{number_more}
use Rattle.mj_deeds.proofs.Fitted.{Parts, kept_in_hand, four_melds, of_four, four_of_kind}
use Rattle.mj_deeds.proofs.Gained.{two_gained}
use Rattle.mj_rules.specs.Outcome.{won_tile, seat_of, wall_of, wall_now}
use Rattle.mj_rules.specs.Played.{IsPlayed}
use Rattle.mj_rules.specs.Laws.{FewDraws}
use Rattle.mj_rules.specs.Wins.{is_draw, own_tiles_of}
use Rattle.mj_rules.proofs.Stages.{Stage, Waits, Acts, MadeKan, stage_of, is_begun, holds_more, StandsAt}
use Rattle.mj_rules.proofs.Kept.{first_seat, held_step}
use Rattle.mj_rules.proofs.Given.{drawn_more}
use Rattle.mj_rules.proofs.BeforeWins.{newest_before, concealed_before_wins, melds_before_wins, stage_led}
use Rattle.mj_rules.proofs.Playing.{played_sound}

-- how many tiles a seat has, and how many indicators are shown

few_made : (n g m l b o : ℕ) → n + l ≤ g → g + 3 * m ≡ l + b + o → b ≤ 13 → n + 3 * m ≤ 13 + o
few_made n g m l b o h e k = omega (arith, h, e, k)

-- After deeds that stand so a seat has thirteen tiles, each meld counted as three, and one more in its turn.
pub few_tiles : (wall : List ℕ) (hs : List Deed) (stage : Stage) (seat : ℕ) → StandsAt wall hs stage → length (concealed_tiles hs seat) + 3 * length
    (flat_map (makes_by seat) hs) ≤ 13 + holds_more stage seat
few_tiles wall hs stage seat s =
    few_made _ _ (length (flat_map (makes_by seat) hs)) _ _ _ (length_less (tiles_gained hs seat) (tiles_lost hs seat) (s.held seat)) (s.hands seat) (most (is_begun stage))
  where
    most : (b : Bool) → cond b 13 0 ≤ 13
    most true = omega arith
    most false = omega arith

-- At most five indicators are shown.
pub few_shown : (wall : List ℕ) (hs : List Deed) (stage : Stage) → StandsAt wall hs stage → length (indicators hs) ≤ 5
few_shown wall hs stage s = few _ _ _ _ s.shown s.four (most (is_begun stage))
  where
    few : (i o k b : ℕ) → i + o ≡ k + b → k ≤ 4 → b ≤ 1 → i ≤ 5
    few i o k b e h m = omega (arith, e, h, m)

    most : (b : Bool) → cond b 1 0 ≤ 1
    most true = omega arith
    most false = omega arith

-- A tile that the seat still holds stands for one of them.
few_but_one : (wall : List ℕ) (hs : List Deed) (stage : Stage) (seat tile : ℕ) → StandsAt wall hs stage → number_in (tiles_lost hs seat) tile < number_in (tiles_gained hs seat) tile →
    length (less (concealed_tiles hs seat) (tile ∷ [])) + 1 + 3 * length (flat_map (makes_by seat) hs) ≤ 13 + holds_more stage seat
few_but_one wall hs stage seat tile s more =
    sum _ _ _ _ _ _ _ _ (length (flat_map (makes_by seat) hs)) (count_all (less (concealed_tiles hs seat) (tile ∷ []))) (count_all (less (tiles_gained hs seat) (tile ∷ tiles_lost hs seat)))
    (count_less_one (λ t. true) (tiles_gained hs seat) (tiles_lost hs seat) tile) (length_less (tiles_gained hs seat) (tile ∷ tiles_lost hs seat) within) (s.hands seat) (most (is_begun stage))
  where
    within : (face : ℕ) → number_in (tile ∷ tiles_lost hs seat) face ≤ number_in (tiles_gained hs seat) face
    within face = elim (cases_eq tile face) [
      | inl e ↦
          subst (λ f. number_in (tile ∷ tiles_lost hs seat) f ≤ number_in (tiles_gained hs seat) f) e
          (one _ _ _ _ (number-cons tile tile (tiles_lost hs seat)) (ap {B = ℕ} (λ b. cond b 1 0) (eq-eqb tile tile refl)) more)
      | inr ne ↦ none _ _ _ _ (number-cons tile face (tiles_lost hs seat)) (ap {B = ℕ} (λ b. cond b 1 0) (ne_eqb tile face ne)) (s.held seat face)
    ]
      where
        one : (n a l g : ℕ) → n ≡ a + l → a ≡ 1 → l < g → n ≤ g
        one n a l g e f h = omega (arith, e, f, h)

        none : (n a l g : ℕ) → n ≡ a + l → a ≡ 0 → l ≤ g → n ≤ g
        none n a l g e f h = omega (arith, e, f, h)

    sum : (c n k d l g b o q : ℕ) → c ≡ n → d ≡ k → c ≤ d → k + suc l ≤ g → g + 3 * q ≡ l + b + o → b ≤ 13 → n + 1 + 3 * q ≤ 13 + o
    sum c n k d l g b o q e f h i j p = omega (arith, e, f, h, i, j, p)

    most : (b : Bool) → cond b 13 0 ≤ 13
    most true = omega arith
    most false = omega arith

-- A meld has at most four tiles.
tiles_of_melds : (melds : List Meld) → length (flat_map tiles_of_meld melds) ≤ 4 * length melds
tiles_of_melds [] = omega arith
tiles_of_melds (meld ∷ melds) =
    sum _ _ _ (length melds)
    (ap length (flat_map-cons tiles_of_meld meld melds) ∙ length-append (tiles_of_meld meld) (flat_map tiles_of_meld melds))
    (one meld.a meld.b meld.c meld.d) (tiles_of_melds melds)
  where
    one : (a b c : ℕ) (o : Option ℕ) → length (a ∷ b ∷ c ∷ option_to_list o) ≤ 4
    one a b c None = omega arith
    one a b c (Some d) = omega arith

    sum : (n a b m : ℕ) → n ≡ a + b → a ≤ 4 → b ≤ 4 * m → n ≤ 4 * suc m
    sum n a b m e h k = omega (arith, e, h, k)

-- So a seat that wins has at most eighteen tiles.
all_few : (own : List ℕ) (tile : ℕ) (melds : List Meld) → length own + 3 * length melds ≤ 13 → length melds ≤ 4 → length (own ++ tile ∷ flat_map tiles_of_meld melds) ≤ 18
all_few own tile melds h k = sum _ _ _ _ (length-append own (tile ∷ flat_map tiles_of_meld melds)) (tiles_of_melds melds) h k
  where
    sum : (n o t m : ℕ) → n ≡ o + suc t → t ≤ 4 * m → o + 3 * m ≤ 13 → m ≤ 4 → n ≤ 18
    sum n o t m e f h k = omega (arith, e, f, h, k)

-- the tile that is won on

-- A seat was given a tile.
abbrev pub WasGiven : List Deed → ℕ → ℕ → Type 0
WasGiven hs seat tile = (seat < 4) × (0 < number_in (tiles_gained hs seat) tile)

-- Up to the winners who drew a tile still holds it, and who offers one was given it.
pub record Holds (hs : List Deed) : Type 0 where
  within : (seat face : ℕ) → seat < 4 → number_in (tiles_lost hs seat) face ≤ number_in (tiles_gained hs seat) face
  pub drawn : (who tile : ℕ) (replacement : Bool) → newest (before_wins hs) ≡ Some (Draw who tile replacement) → (who < 4) × (number_in (tiles_lost hs who) tile < number_in (tiles_gained hs who) tile)
  pub offered : (d : Deed) → newest (before_wins hs) ≡ Some d → is_offer d ≡ true → WasGiven hs (seat_of d) (won_tile d)

pub holds : (red : Bool) (ds : List Deed) → all_fit red [] ds ≡ true → Holds (hand ds)
holds red ds fit =
    kept_in_hand Holds red ds step (record { within = λ seat face small. omega arith; drawn = λ who tile replacement e. cc; offered = λ d e h. absurd (nothing d e) }) fit
  where
    nothing : (d : Deed) → newest [] ≡ Some d → ⊥
    nothing d e = cc

    some_is : (a b : Deed) → Some a ≡ Some b → a ≡ b
    some_is a b e = cc

    by_draw : (hs : List Deed) (d : Deed) → Holds hs → has_seats d ≡ true → (who tile : ℕ) (replacement : Bool) →
        cond (is_win d) (newest (before_wins hs)) (Some d) ≡ Some (Draw who tile replacement) →
        (who < 4) × (number_in (tiles_lost (hs ++ d ∷ []) who) tile < number_in (tiles_gained (hs ++ d ∷ []) who) tile)
    by_draw hs (Win seat target taken unders own yaku fu han value deltas said rest) old seats who tile replacement e =
        let d : Deed = Win seat target taken unders own yaku fu han value deltas said rest in
        let past = old.drawn who tile replacement e in
        (past.0, same _ _ _ _ (number_more (losses_by who) hs d tile) (number_more (gains_by who) hs d tile) past.1)
      where
        same : (l' l g' g : ℕ) → l' ≡ l + 0 → g' ≡ g + 0 → l < g → l' < g'
        same l' l g' g e f h = omega (arith, e, f, h)
    by_draw hs (Draw seat taken replaced) old seats who tile replacement e =
        let low = subst (λ x. x < 4) (seat_is seat taken replaced who tile replacement e) (first_seat seat _ seats) in
        (low, drawn_more hs (Draw seat taken replaced) who tile (draws seat taken replaced who tile replacement e) (old.within who tile low))
      where
        seat_is : (a b : ℕ) (c : Bool) (x y : ℕ) (z : Bool) → Some (Draw a b c) ≡ Some (Draw x y z) → a ≡ x
        seat_is a b c x y z e = cc

        draws : (a b : ℕ) (c : Bool) (x y : ℕ) (z : Bool) → Some (Draw a b c) ≡ Some (Draw x y z) → drawn_by x (Draw a b c) ≡ Some y
        draws a b c x y z e = ap (λ t. cond t (Some b) None) (eq-eqb a x (seat_is a b c x y z e)) ∙ tile_is
          where
            tile_is : ◌≡◌ {A = Option ℕ} (Some b) (Some y)
            tile_is = cc
    by_draw hs other old seats who tile replacement e = cc

    -- Who puts down one tile was given it.
    put_down : (hs : List Deed) (d : Deed) (who tile : ℕ) → who < 4 → losses_by who d ≡ cond (eqb who who) (tile ∷ []) [] →
        ((face : ℕ) → number_in (tiles_lost (hs ++ d ∷ []) who) face ≤ number_in (tiles_gained (hs ++ d ∷ []) who) face) → WasGiven (hs ++ d ∷ []) who tile
    put_down hs d who tile low e within = (
      low,
      some _ _ _ _ (number_more (losses_by who) hs d tile)
          (ap (λ (xs : List ℕ). number_in xs tile) (e ∙ ap (λ b. cond b (tile ∷ []) []) (eq-eqb who who refl)) ∙ number-cons tile tile []
          ∙ ap (λ b. cond b 1 0 + 0) (eq-eqb tile tile refl)) (within tile),
    )
      where
        some : (l' l x g : ℕ) → l' ≡ l + x → x ≡ 1 → l' ≤ g → 0 < g
        some l' l x g e f h = omega (arith, e, f, h)

    at_offer : (hs : List Deed) (d : Deed) → has_seats d ≡ true → is_offer d ≡ true →
        ((seat face : ℕ) → seat < 4 → number_in (tiles_lost (hs ++ d ∷ []) seat) face ≤ number_in (tiles_gained (hs ++ d ∷ []) seat) face) → WasGiven (hs ++ d ∷ []) (seat_of d) (won_tile d)
    at_offer hs (Discard who tile drawn) seats h within =
        let low = first_seat who _ seats in
        put_down hs (Discard who tile drawn) who tile low refl (λ face. within who face low)
    at_offer hs (AddedKan who tile a b c) seats h within =
        let low = first_seat who _ seats in
        put_down hs (AddedKan who tile a b c) who tile low refl (λ face. within who face low)
    at_offer hs other seats h within = cc

    by_offer : (hs : List Deed) (d : Deed) → Holds hs → has_seats d ≡ true →
        ((seat face : ℕ) → seat < 4 → number_in (tiles_lost (hs ++ d ∷ []) seat) face ≤ number_in (tiles_gained (hs ++ d ∷ []) seat) face) → (offer : Deed) →
        cond (is_win d) (newest (before_wins hs)) (Some d) ≡ Some offer → is_offer offer ≡ true → WasGiven (hs ++ d ∷ []) (seat_of offer) (won_tile offer)
    by_offer hs (Win seat target taken unders own yaku fu han value deltas said rest) old seats within offer e h =
        let d : Deed = Win seat target taken unders own yaku fu han value deltas said rest in
        let past = old.offered offer e h in
        (past.0, same _ _ (number_more (gains_by (seat_of offer)) hs d (won_tile offer)) past.1)
      where
        same : (g' g : ℕ) → g' ≡ g + 0 → 0 < g → 0 < g'
        same g' g e h = omega (arith, e, h)
    by_offer hs other old seats within offer e h =
        let is = some_is other offer e in
        subst (λ (x : Deed). WasGiven (hs ++ other ∷ []) (seat_of x) (won_tile x)) is (at_offer hs other seats (subst (λ (x : Deed). is_offer x ≡ true) (sym is) h) within)

    step : (hs : List Deed) (d : Deed) → Holds hs → Parts red hs d → Holds (hs ++ d ∷ [])
    step hs d old p =
        let within : (seat face : ℕ) → seat < 4 → number_in (tiles_lost (hs ++ d ∷ []) seat) face ≤ number_in (tiles_gained (hs ++ d ∷ []) seat) face =
        λ seat face small. held_step hs d seat face (of_four (has_held_by hs d) seat small p.held) (old.within seat face small) in
        record {
          within = within;
          drawn = λ who tile replacement e. by_draw hs d old p.seats who tile replacement (sym (newest_before hs d) ∙ e);
          offered = λ offer e h. by_offer hs d old p.seats within offer (sym (newest_before hs d) ∙ e) h;
        }

-- over played deeds

-- A seat holds at most one tile more than else.
one_more : (stage : Stage) (seat : ℕ) → holds_more stage seat ≤ 1
one_more (Acts who) seat = at_most (who == seat)
  where
    at_most : (b : Bool) → cond b 1 0 ≤ 1
    at_most true = omega arith
    at_most false = omega arith
one_more other seat = omega arith

-- In played deeds a seat has at most fourteen tiles, each meld counted as three.
pub played_tiles : (rules : Rules) (walls : List (List ℕ)) (ds : List Deed) (seat : ℕ) → ((number : ℕ) → is_wall rules.red (wall_of walls number) ≡ true) → IsPlayed rules walls ds →
    length (concealed_tiles (hand ds) seat) + 3 * length (seat_melds (hand ds) seat) ≤ 14
played_tiles rules walls ds seat h played =
    sum _ _ _ _ (length-map (flat_map (makes_by seat) (hand ds)) _) (few_tiles (wall_now walls ds) (hand ds) (stage_of ds) seat
    (played_sound rules walls ds h played).standing) (one_more (stage_of ds) seat)
  where
    sum : (c m k o : ℕ) → m ≡ k → c + 3 * k ≤ 13 + o → o ≤ 1 → c + 3 * m ≤ 14
    sum c m k o e h l = omega (arith, e, h, l)

-- At most four of them are melds.
pub played_melds : (rules : Rules) (walls : List (List ℕ)) (ds : List Deed) (seat : ℕ) → ((number : ℕ) → is_wall rules.red (wall_of walls number) ≡ true) → IsPlayed rules walls ds →
    length (seat_melds (hand ds) seat) ≤ 4
played_melds rules walls ds seat h played = four_melds rules.red ds seat (played_sound rules walls ds h played).fit

-- And so many draws and kans.
pub few_draws : FewDraws
few_draws rules walls ds h played =
    let standing = (played_sound rules walls ds h played).standing in
    record { draws = standing.live; kans_four = standing.four; melds = λ seat. played_melds rules walls ds seat h played }

-- And at most five indicators are shown.
pub played_shown : (rules : Rules) (walls : List (List ℕ)) (ds : List Deed) → ((number : ℕ) → is_wall rules.red (wall_of walls number) ≡ true) → IsPlayed rules walls ds →
    length (indicators (hand ds)) ≤ 5
played_shown rules walls ds h played = few_shown (wall_now walls ds) (hand ds) (stage_of ds) (played_sound rules walls ds h played).standing

-- After an offer no seat holds a tile more.
offer_waits : (ds : List Deed) (d : Deed) (seat : ℕ) → newest (before_wins (hand ds)) ≡ Some d → is_offer d ≡ true → holds_more (stage_of ds) seat ≡ 0
offer_waits ds (Discard who tile drawn) seat e offer = ap (λ (stage : Stage). holds_more stage seat) (stage_led ds (Discard who tile drawn) Waits e (λ before. refl))
offer_waits ds (AddedKan who tile a b c) seat e offer = ap (λ (stage : Stage). holds_more stage seat) (stage_led ds (AddedKan who tile a b c) MadeKan e (λ before. refl))
offer_waits ds other seat e offer = cc

-- Where the newest deed before the winners is an offer, a seat has at most thirteen tiles.
pub offered_tiles : (rules : Rules) (walls : List (List ℕ)) (ds : List Deed) (d : Deed) (seat : ℕ) → ((number : ℕ) → is_wall rules.red (wall_of walls number) ≡ true) → IsPlayed rules walls ds →
    newest (before_wins (hand ds)) ≡ Some d → is_offer d ≡ true → length (concealed_tiles (hand ds) seat) + 3 * length (seat_melds (hand ds) seat) ≤ 13
offered_tiles rules walls ds d seat h played e offer =
    sum _ _ _ _ (length-map (flat_map (makes_by seat) (hand ds)) _) (few_tiles (wall_now walls ds) (hand ds) (stage_of ds) seat
    (played_sound rules walls ds h played).standing) (offer_waits ds d seat e offer)
  where
    sum : (c m k o : ℕ) → m ≡ k → c + 3 * k ≤ 13 + o → o ≡ 0 → c + 3 * m ≤ 13
    sum c m k o e h l = omega (arith, e, h, l)

pub own_offered : (deeds : List Deed) (d : Deed) (seat tile : ℕ) → newest deeds ≡ Some d → is_offer d ≡ true → own_tiles_of deeds seat tile ≡ concealed_tiles deeds seat
own_offered deeds d seat tile e offer = ap (λ (b : Bool). cond b (less (concealed_tiles deeds seat) (tile ∷ [])) (concealed_tiles deeds seat)) (ap is_draw e ∙ no_draw d offer)
  where
    no_draw : (d : Deed) → is_offer d ≡ true → is_draw (Some d) ≡ false
    no_draw (Draw who t replacement) h = cc
    no_draw other h = refl

pub own_drawn : (deeds : List Deed) (who tile : ℕ) (replacement : Bool) → newest deeds ≡ Some (Draw who tile replacement) → own_tiles_of deeds who tile ≡ less (concealed_tiles deeds who) (tile ∷ [])
own_drawn deeds who tile replacement e = ap (λ (b : Bool). cond b (less (concealed_tiles deeds who) (tile ∷ [])) (concealed_tiles deeds who)) (ap is_draw e)

-- A seat that wins on an offer has at most eighteen tiles.
pub winner_offered : (rules : Rules) (walls : List (List ℕ)) (ds : List Deed) (d : Deed) (seat tile : ℕ) → ((number : ℕ) → is_wall rules.red (wall_of walls number) ≡ true) → IsPlayed rules walls ds →
    newest (before_wins (hand ds)) ≡ Some d → is_offer d ≡ true →
    length (own_tiles_of (before_wins (hand ds)) seat tile ++ tile ∷ flat_map tiles_of_meld (seat_melds (before_wins (hand ds)) seat)) ≤ 18
winner_offered rules walls ds d seat tile h played e offer =
    all_few (own_tiles_of (before_wins (hand ds)) seat tile) tile (seat_melds (before_wins (hand ds)) seat)
    (same _ _ _ _
    (ap length (own_offered (before_wins (hand ds)) d seat tile e offer ∙ concealed_before_wins (hand ds) seat)) (ap length (melds_before_wins (hand ds) seat))
    (offered_tiles rules walls ds d seat h played e offer))
    (subst (λ (ms : List Meld). length ms ≤ 4) (sym (melds_before_wins (hand ds) seat)) (played_melds rules walls ds seat h played))
  where
    same : (a b c e : ℕ) → a ≡ c → b ≡ e → c + 3 * e ≤ 13 → a + 3 * b ≤ 13
    same a b c e f g h = omega (arith, f, g, h)

-- So has one that wins by its draw.
pub winner_drawn : (rules : Rules) (walls : List (List ℕ)) (ds : List Deed) (who tile : ℕ) (replacement : Bool) →
    ((number : ℕ) → is_wall rules.red (wall_of walls number) ≡ true) → IsPlayed rules walls ds →
    newest (before_wins (hand ds)) ≡ Some (Draw who tile replacement) →
    length (own_tiles_of (before_wins (hand ds)) who tile ++ tile ∷ flat_map tiles_of_meld (seat_melds (before_wins (hand ds)) who)) ≤ 18
winner_drawn rules walls ds who tile replacement h played e =
    let s = played_sound rules walls ds h played in
    all_few (own_tiles_of (before_wins (hand ds)) who tile) tile (seat_melds (before_wins (hand ds)) who)
    (same _ _ _ _ _
    (ap length (own_drawn (before_wins (hand ds)) who tile replacement e ∙ ap (λ (xs : List ℕ). less xs (tile ∷ [])) (concealed_before_wins (hand ds) who)))
    (ap length (melds_before_wins (hand ds) who) ∙ length-map (flat_map (makes_by who) (hand ds)) _)
    (few_but_one (wall_now walls ds) (hand ds) (stage_of ds) who tile s.standing ((holds rules.red ds s.fit).drawn who tile replacement e).1) (one_more (stage_of ds) who))
    (subst (λ (ms : List Meld). length ms ≤ 4) (sym (melds_before_wins (hand ds) who)) (played_melds rules walls ds who h played))
  where
    same : (a b c e o : ℕ) → a ≡ c → b ≡ e → c + 1 + 3 * e ≤ 13 + o → o ≤ 1 → a + 3 * b ≤ 13
    same a b c e o f g h k = omega (arith, f, g, h, k)

-- no fifth tile of a kind

no_fifth : (tiles : List ℕ) → ((kind : ℕ) → kind < 34 → number_of tiles kind ≤ 4) → NoFifth (kind_counts tiles)
no_fifth tiles few kind = by_kind (cases_lt kind 34)
  where
    same : (a b : ℕ) → a ≡ b → b ≤ 4 → a ≤ 4
    same a b e h = omega (arith, e, h)

    past : (a : ℕ) → a ≡ 0 → a ≤ 4
    past a e = omega (arith, e)

    by_kind : (kind < 34) ⊎ (34 ≤ kind) → get_or (kind_counts tiles) kind 0 ≤ 4
    by_kind (inl small) = same _ _ (get_or-kind_counts tiles kind small) (few kind small)
    by_kind (inr large) = past _ (get_or_past (kind_counts tiles) kind 0 (subst (λ (n : ℕ). n ≤ kind) (sym (length-kind_counts tiles)) large))

-- A seat that wins on the offer of another has no kind five times, among its concealed tiles with that one.
pub offered_no_fifth : (red : Bool) (ds : List Deed) (d : Deed) (seat : ℕ) → all_fit red [] ds ≡ true → newest (before_wins (hand ds)) ≡ Some d →
    is_offer d ≡ true → seat < 4 → (seat ≡ seat_of d → ⊥) →
    NoFifth (kind_counts (own_tiles_of (before_wins (hand ds)) seat (won_tile d) ++ won_tile d ∷ []))
offered_no_fifth red ds d seat fit e offer low apart = no_fifth (own_tiles_of (before_wins (hand ds)) seat (won_tile d) ++ won_tile d ∷ []) few
  where
    sum : (n o x c g y b : ℕ) → n ≡ o + x → o ≡ c → c ≤ g → x ≤ y → g + y ≤ b → b ≤ 4 → n ≤ 4
    sum n o x c g y b e f h k l m = omega (arith, e, f, h, k, l, m)

    among : (xs : List ℕ) (tile kind : ℕ) → 0 < number_in xs tile → cond (eqb (kind_of tile) kind) 1 0 ≤ number_of xs kind
    among xs tile kind h = at_most _ _ _ (count_without (λ t. eqb (kind_of t) kind) xs tile h)
      where
        at_most : (c a b : ℕ) → c ≡ a + b → b ≤ c
        at_most c a b e = omega (arith, e)

    few : (kind : ℕ) → kind < 34 → number_of (own_tiles_of (before_wins (hand ds)) seat (won_tile d) ++ won_tile d ∷ []) kind ≤ 4
    few kind small =
        let given = (holds red ds fit).offered d e offer in
        sum _ _ _ _ _ _ _
        (number_of-push (own_tiles_of (before_wins (hand ds)) seat (won_tile d)) (won_tile d) kind)
        (ap (λ (xs : List ℕ). number_of xs kind) (own_offered (before_wins (hand ds)) d seat (won_tile d) e offer ∙ concealed_before_wins (hand ds) seat))
        (count_by-less (λ t. eqb (kind_of t) kind) (tiles_gained (hand ds) seat) (tiles_lost (hand ds) seat))
        (among (tiles_gained (hand ds) (seat_of d)) (won_tile d) kind given.1)
        (two_gained (hand ds) seat (seat_of d) kind low given.0 apart) (four_of_kind red ds kind small fit)

-- Nor has one that wins by its draw.
pub drawn_no_fifth : (red : Bool) (ds : List Deed) (who tile : ℕ) (replacement : Bool) → all_fit red [] ds ≡ true → newest (before_wins (hand ds)) ≡ Some (Draw who tile replacement) →
    NoFifth (kind_counts (own_tiles_of (before_wins (hand ds)) who tile ++ tile ∷ []))
drawn_no_fifth red ds who tile replacement fit e = no_fifth (own_tiles_of (before_wins (hand ds)) who tile ++ tile ∷ []) few
  where
    sum : (n o x c g y b : ℕ) → n ≡ o + x → o ≡ c → c + x ≤ g → g + y ≤ b → b ≤ 4 → n ≤ 4
    sum n o x c g y b e f h k l = omega (arith, e, f, h, k, l)

    some : (l g : ℕ) → l < g → 0 < g
    some l g h = omega (arith, h)

    another : (who : ℕ) → who < 4 → who ≡ (who + 1) % 4 → ⊥
    another who low e = omega (arith, low, e)

    few : (kind : ℕ) → kind < 34 → number_of (own_tiles_of (before_wins (hand ds)) who tile ++ tile ∷ []) kind ≤ 4
    few kind small =
        let given = (holds red ds fit).drawn who tile replacement e in
        sum _ _ _ _ _ _ _
        (number_of-push (own_tiles_of (before_wins (hand ds)) who tile) tile kind)
        (ap (λ (xs : List ℕ). number_of xs kind)
        (own_drawn (before_wins (hand ds)) who tile replacement e ∙ ap (λ (xs : List ℕ). less xs (tile ∷ [])) (concealed_before_wins (hand ds) who)))
        (count_but_one (λ t. eqb (kind_of t) kind) (tiles_gained (hand ds) who) (tiles_lost (hand ds) who) tile (some _ _ given.1))
        (two_gained (hand ds) who ((who + 1) % 4) kind given.0 (omega arith) (another who given.0)) (four_of_kind red ds kind small fit)
