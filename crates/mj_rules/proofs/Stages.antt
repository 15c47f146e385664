-- What stays true from deed to deed of a hand: where the tiles that were brought in lay, how many tiles each seat holds, and
-- how many kans, indicators and replacement tiles there are.
use Rattle.std.proofs.Common.{◌≡◌, ℕ, ◌+◌, ◌-◌, ◌*◌, ◌<◌, ◌≤◌, ◌==◌, ◌&&◌, Bool, true, false, cond, eqb, ltb, List, [], ◌∷◌, ◌++◌, length, take, get_or, refl, ap, sym, ◌∙◌, subst, arith, add-one}
use Rattle.std.specs.Prelude.{Some, All, count_by, flat_map, fold}
use Rattle.std.proofs.lemmas.Bool.{and_parts, ltb-true}
use Rattle.std.proofs.lemmas.List.{take_more, take_all}
use Rattle.std.proofs.lemmas.Option.{slice_get-get_or, slice_get_within}
use Rattle.std.proofs.lemmas.List.Sums.{sum_by_push, fold-append}
use Rattle.std.proofs.lemmas.List.Concat.{length-flat_map}
use Rattle.mj_tiles.specs.Faces.{kind_of, number_in}
use Rattle.mj_tiles.specs.Counts.{number_of}
use Rattle.mj_tiles.specs.declared.meld.Meld.{Meld}
use Rattle.mj_deeds.specs.declared.four.Four.{Four}
use Rattle.mj_deeds.specs.declared.deed.Deed.{Deed}
use Rattle.mj_deeds.specs.declared.deed.Deed.TheVariants.{StartGame, StartHand, Draw, Discard, Chi, Pon, OpenKan, ClosedKan, AddedKan, Dora, Reach, ReachAccepted}
use Rattle.mj_deeds.specs.Four.{at_seat, for_each_seat}
use Rattle.mj_deeds.specs.Facts.{newest, gains_by, losses_by, tiles_gained, tiles_lost, makes_by, is_kan, kans, kan_seats, indicators_by, indicators, is_live_draw, live_draws}
use Rattle.mj_deeds.specs.Fits.{brought_by, has_live}
use Rattle.mj_wall.specs.Places.{live_tile, replacement_tile, indicator_tile}
use Rattle.mj_wall.proofs.WallKinds.{up}
use Rattle.mj_rules.specs.Outcome.{hand_dealt}

-- How far a game has come: a seat acts that holds one tile more than else.
pub data Stage : Type 0 where
  NoGame : Stage
  NoHand : Stage
  Waits : Stage
  Acts : (seat : ℕ) → Stage
  MadeKan : Stage
  ShowedDora : Stage

-- A draw leads from waiting, or from a shown indicator where it is a replacement.
abbrev pub drawn_from : Bool → Stage
drawn_from true = ShowedDora
drawn_from false = Waits

-- From where a deed leads, and to where. A win, the draw of a hand and the ends stand wherever the game has come to, and
-- leave it there.
abbrev pub stage_before : Stage → Deed → Stage
stage_before stage (StartGame names) = NoGame
stage_before stage (StartHand round number honba deposits dealer indicator hands) = NoHand
stage_before stage (Draw who tile replacement) = drawn_from replacement
stage_before stage (Discard who tile drawn) = Acts who
stage_before stage (Chi who target tile a b) = Waits
stage_before stage (Pon who target tile a b) = Waits
stage_before stage (OpenKan who target tile a b c) = Waits
stage_before stage (ClosedKan who a b c d) = Acts who
stage_before stage (AddedKan who tile a b c) = Acts who
stage_before stage (Dora tile) = MadeKan
stage_before stage (Reach who) = Acts who
stage_before stage (ReachAccepted who points bid) = Waits
stage_before stage other = stage

abbrev pub stage_after : Stage → Deed → Stage
stage_after stage (StartGame names) = NoHand
stage_after stage (StartHand round number honba deposits dealer indicator hands) = Waits
stage_after stage (Draw who tile replacement) = Acts who
stage_after stage (Discard who tile drawn) = Waits
stage_after stage (Chi who target tile a b) = Acts who
stage_after stage (Pon who target tile a b) = Acts who
stage_after stage (OpenKan who target tile a b c) = MadeKan
stage_after stage (ClosedKan who a b c d) = MadeKan
stage_after stage (AddedKan who tile a b c) = MadeKan
stage_after stage (Dora tile) = ShowedDora
stage_after stage (Reach who) = Acts who
stage_after stage (ReachAccepted who points bid) = Waits
stage_after stage other = stage

-- Where a game has come to by all its deeds.
abbrev pub stage_of : List Deed → Stage
stage_of ds = fold stage_after NoGame ds

pub stage_more : (ds : List Deed) (d : Deed) → stage_of (ds ++ d ∷ []) ≡ stage_after (stage_of ds) d
stage_more ds d = fold-append stage_after NoGame ds (d ∷ [])

-- The newest deed stands after those before it.
pub newest_behind : (ds : List Deed) (d : Deed) → newest ds ≡ Some d → ds ≡ take (length ds - 1) ds ++ d ∷ []
newest_behind ds d e =
    let i : ℕ = length ds - 1 in
    let within : i < length ds = slice_get_within ds i d e in
    let last : get_or ds i d ≡ d = some_is _ _ (sym (slice_get-get_or ds i d within) ∙ e) in
    sym (take_all (i + 1) ds (enough (length ds) i)) ∙ take_more ds i d within ∙ ap (λ x. take i ds ++ x ∷ []) last
  where
    some_is : (a b : Deed) → Some a ≡ Some b → a ≡ b
    some_is a b e = cc

    enough : (n i : ℕ) → n ≤ n - 1 + 1
    enough n i = omega arith

-- A game has come to where its newest deed leads.
pub stage_is : (ds : List Deed) (n : Deed) (stage : Stage) → newest ds ≡ Some n → ((before : Stage) → stage_after before n ≡ stage) → stage_of ds ≡ stage
stage_is ds n stage e leads = ap stage_of (newest_behind ds n e) ∙ stage_more (take (length ds - 1) ds) n ∙ leads (stage_of (take (length ds - 1) ds))

-- A hand was dealt.
abbrev pub is_begun : Stage → Bool
is_begun NoGame = false
is_begun NoHand = false
is_begun other = true

abbrev pub owes_dora : Stage → ℕ
owes_dora MadeKan = 1
owes_dora other = 0

abbrev pub owes_tile : Stage → ℕ
owes_tile MadeKan = 1
owes_tile ShowedDora = 1
owes_tile other = 0

abbrev pub holds_more : Stage → ℕ → ℕ
holds_more (Acts who) seat = cond (who == seat) 1 0
holds_more other seat = 0

abbrev pub is_replacement : Deed → Bool
is_replacement (Draw who tile replacement) = replacement
is_replacement other = false

-- Whether the tile at a place of a wall is of a kind.
abbrev pub at_place : List ℕ → ℕ → ℕ → ℕ
at_place wall kind place = cond (eqb (kind_of (get_or wall place 0)) kind) 1 0

-- How many tiles of a kind were dealt, drawn, shown and taken as replacements.
abbrev pub brought_from : (ℕ → ℕ) → Bool → ℕ → ℕ → ℕ → ℕ
brought_from f begun draws shown taken =
    cond begun (up f 52) 0 + up (λ k. f (52 + k)) draws + up (λ k. f (131 - 2 * k)) shown + up (λ k. f (135 - k)) taken

pub record StandsAt (wall : List ℕ) (ds : List Deed) (stage : Stage) : Type 0 where
  pub kinds : (kind : ℕ) → number_of (flat_map brought_by ds) kind ≡ brought_from (at_place wall kind) (is_begun stage) (live_draws ds) (length (indicators ds)) (count_by is_replacement ds)
  pub hands : (seat : ℕ) → length (tiles_gained ds seat) + 3 * length (flat_map (makes_by seat) ds) ≡ length (tiles_lost ds seat) + cond (is_begun stage) 13 0 + holds_more stage seat
  pub shown : length (indicators ds) + owes_dora stage ≡ kans ds + cond (is_begun stage) 1 0
  pub taken : count_by is_replacement ds + owes_tile stage ≡ kans ds
  pub fresh : cond (is_begun stage) 0 (length (indicators ds)) ≡ 0
  pub live : live_draws ds + kans ds ≤ 70
  pub four : kans ds ≤ 4
  pub held : (seat face : ℕ) → number_in (tiles_lost ds seat) face ≤ number_in (tiles_gained ds seat) face
  pub seats : All (λ s. s < 4) (kan_seats ds)

-- The tiles that a deed brings in are those of their places.
abbrev pub Brings : List ℕ → List Deed → Deed → Type 0
Brings wall ds (StartHand round number honba deposits dealer indicator hands) = (indicator ≡ indicator_tile wall 0) × (hands ≡ for_each_seat (hand_dealt wall dealer))
Brings wall ds (Draw who tile true) = tile ≡ replacement_tile wall (kans ds - 1)
Brings wall ds (Draw who tile false) = tile ≡ live_tile wall (live_draws ds)
Brings wall ds (Dora tile) = tile ≡ indicator_tile wall (length (indicators ds))
Brings wall ds other = Unit {0}

-- What is dealt of a wall: thirteen tiles to each seat, and all of them are the first 52 tiles.
pub record DealsWell (wall : List ℕ) : Type 0 where
  pub thirteen : (dealer seat : ℕ) → length (hand_dealt wall dealer seat) ≡ 13
  pub kinds : (dealer kind : ℕ) → dealer < 4 →
      number_of (hand_dealt wall dealer 0) kind + number_of (hand_dealt wall dealer 1) kind + number_of (hand_dealt wall dealer 2) kind + number_of (hand_dealt wall dealer 3) kind
      ≡ up (at_place wall kind) 52

-- A list that is put together by deeds, with one deed more.
pub length-more : {A : Type 0} (f : Deed → List A) (ds : List Deed) (d : Deed) → length (flat_map f (ds ++ d ∷ [])) ≡ length (flat_map f ds) + length (f d)
length-more f ds d =
    length-flat_map f (ds ++ d ∷ []) ∙ sum_by_push (λ x. length (f x)) ds d ∙ ap (λ n. n + length (f d)) (sym (length-flat_map f ds))

-- kans, indicators and replacement tiles

-- What a deed shows and draws for kans is what is owed before it and what it makes, less what is owed after it.
pays_for_kans : (s : Stage) (d : Deed) →
    (length (indicators_by d) + owes_dora (stage_after s d) + cond (is_begun (stage_before s d)) 1 0 ≡ owes_dora (stage_before s d) + cond (is_kan d) 1 0 + cond (is_begun (stage_after s d)) 1 0)
    × (cond (is_replacement d) 1 0 + owes_tile (stage_after s d) ≡ owes_tile (stage_before s d) + cond (is_kan d) 1 0)
pays_for_kans s (StartGame names) = (refl, refl)
pays_for_kans s (StartHand round number honba deposits dealer indicator hands) = (refl, refl)
pays_for_kans s (Draw who tile true) = (refl, refl)
pays_for_kans s (Draw who tile false) = (refl, refl)
pays_for_kans s (Discard who tile drawn) = (refl, refl)
pays_for_kans s (Chi who target tile a b) = (refl, refl)
pays_for_kans s (Pon who target tile a b) = (refl, refl)
pays_for_kans s (OpenKan who target tile a b c) = (refl, refl)
pays_for_kans s (ClosedKan who a b c d) = (refl, refl)
pays_for_kans s (AddedKan who tile a b c) = (refl, refl)
pays_for_kans s (Dora tile) = (refl, refl)
pays_for_kans s (Reach who) = (refl, refl)
pays_for_kans s (ReachAccepted who points bid) = (refl, refl)
pays_for_kans s other = (same _ _, nothing _)
  where
    same : (a b : ℕ) → 0 + a + b ≡ a + 0 + b
    same a b = omega arith

    nothing : (a : ℕ) → 0 + a ≡ a + 0
    nothing a = omega arith

pub shown_step : (s : Stage) (d : Deed) (i k : ℕ) → i + owes_dora (stage_before s d) ≡ k + cond (is_begun (stage_before s d)) 1 0 →
    i + length (indicators_by d) + owes_dora (stage_after s d) ≡ k + cond (is_kan d) 1 0 + cond (is_begun (stage_after s d)) 1 0
shown_step s d i k h = paid _ _ _ _ _ _ _ _ (pays_for_kans s d).0 h
  where
    paid : (i k shown kan before after begun begins : ℕ) → shown + after + begun ≡ before + kan + begins → i + before ≡ k + begun → i + shown + after ≡ k + kan + begins
    paid i k shown kan before after begun begins e h = omega arith

pub taken_step : (s : Stage) (d : Deed) (r k : ℕ) → r + owes_tile (stage_before s d) ≡ k →
    r + cond (is_replacement d) 1 0 + owes_tile (stage_after s d) ≡ k + cond (is_kan d) 1 0
taken_step s d r k h = paid _ _ _ _ _ _ (pays_for_kans s d).1 h
  where
    paid : (r k drawn kan before after : ℕ) → drawn + after ≡ before + kan → r + before ≡ k → r + drawn + after ≡ k + kan
    paid r k drawn kan before after e h = omega arith

pub fresh_step : (s : Stage) (d : Deed) (i j : ℕ) → j ≡ i + length (indicators_by d) → cond (is_begun (stage_before s d)) 0 i ≡ 0 → cond (is_begun (stage_after s d)) 0 j ≡ 0
fresh_step s (StartGame names) i j e h = omega arith
fresh_step s (StartHand round number honba deposits dealer indicator hands) i j e h = refl
fresh_step s (Draw who tile replacement) i j e h = refl
fresh_step s (Discard who tile drawn) i j e h = refl
fresh_step s (Chi who target tile a b) i j e h = refl
fresh_step s (Pon who target tile a b) i j e h = refl
fresh_step s (OpenKan who target tile a b c) i j e h = refl
fresh_step s (ClosedKan who a b c d) i j e h = refl
fresh_step s (AddedKan who tile a b c) i j e h = refl
fresh_step s (Dora tile) i j e h = refl
fresh_step s (Reach who) i j e h = refl
fresh_step s (ReachAccepted who points bid) i j e h = refl
fresh_step s other i j e h = still (is_begun s) i j e h
  where
    still : (b : Bool) (i j : ℕ) → j ≡ i + 0 → cond b 0 i ≡ 0 → cond b 0 j ≡ 0
    still true i j e h = refl
    still false i j e h = omega arith

-- live tiles
kan_live : (n k : ℕ) → (ltb k 4 && ltb 0 (70 - n - k)) ≡ true → (n + 0 + (k + 1) ≤ 70) × (k + 1 ≤ 4)
kan_live n k h =
    let parts = and_parts (ltb k 4) (ltb 0 (70 - n - k)) h in
    let a = ltb-true k 4 parts.0 in
    let b = ltb-true 0 (70 - n - k) parts.1 in
    (omega arith, omega arith)

draw_live : (n k : ℕ) → ltb 0 (70 - n - k) ≡ true → k ≤ 4 → (n + 1 + (k + 0) ≤ 70) × (k + 0 ≤ 4)
draw_live n k h i = let b = ltb-true 0 (70 - n - k) h in (omega arith, omega arith)

still_live : (n k : ℕ) → n + k ≤ 70 → k ≤ 4 → (n + 0 + (k + 0) ≤ 70) × (k + 0 ≤ 4)
still_live n k h i = (omega arith, omega arith)

pub live_step : (d : Deed) (ds : List Deed) → has_live ds d ≡ true → live_draws ds + kans ds ≤ 70 → kans ds ≤ 4 →
    (live_draws ds + cond (is_live_draw d) 1 0 + (kans ds + cond (is_kan d) 1 0) ≤ 70) × (kans ds + cond (is_kan d) 1 0 ≤ 4)
live_step (StartGame names) ds h i j = still_live (live_draws ds) (kans ds) i j
live_step (StartHand round number honba deposits dealer indicator hands) ds h i j = still_live (live_draws ds) (kans ds) i j
live_step (Draw who tile true) ds h i j = still_live (live_draws ds) (kans ds) i j
live_step (Draw who tile false) ds h i j = draw_live (live_draws ds) (kans ds) h j
live_step (Discard who tile drawn) ds h i j = still_live (live_draws ds) (kans ds) i j
live_step (Chi who target tile a b) ds h i j = still_live (live_draws ds) (kans ds) i j
live_step (Pon who target tile a b) ds h i j = still_live (live_draws ds) (kans ds) i j
live_step (OpenKan who target tile a b c) ds h i j = kan_live (live_draws ds) (kans ds) h
live_step (ClosedKan who a b c d) ds h i j = kan_live (live_draws ds) (kans ds) h
live_step (AddedKan who tile a b c) ds h i j = kan_live (live_draws ds) (kans ds) h
live_step (Dora tile) ds h i j = still_live (live_draws ds) (kans ds) i j
live_step other ds h i j = still_live (live_draws ds) (kans ds) i j

-- how many tiles a seat holds
draw_hand : (own : Bool) (tile g m l : ℕ) → g + 3 * m ≡ l + 13 + 0 → g + length (cond own (tile ∷ []) []) + 3 * (m + 0) ≡ l + 0 + 13 + cond own 1 0
draw_hand true tile g m l h = omega arith
draw_hand false tile g m l h = omega arith

discard_hand : (own : Bool) (tile g m l : ℕ) → g + 3 * m ≡ l + 13 + cond own 1 0 → g + 0 + 3 * (m + 0) ≡ l + length (cond own (tile ∷ []) []) + 13 + 0
discard_hand true tile g m l h = omega arith
discard_hand false tile g m l h = omega arith

call_hand : (own : Bool) (meld : Meld) (a b g m l : ℕ) → g + 3 * m ≡ l + 13 + 0 → g + 0 + 3 * (m + length (cond own (meld ∷ []) [])) ≡ l + length (cond own (a ∷ b ∷ []) []) + 13 + cond own 1 0
call_hand true meld a b g m l h = omega arith
call_hand false meld a b g m l h = omega arith

open_hand : (own : Bool) (meld : Meld) (a b c g m l : ℕ) → g + 3 * m ≡ l + 13 + 0 → g + 0 + 3 * (m + length (cond own (meld ∷ []) [])) ≡ l + length (cond own (a ∷ b ∷ c ∷ []) []) + 13 + 0
open_hand true meld a b c g m l h = omega arith
open_hand false meld a b c g m l h = omega arith

closed_hand : (own : Bool) (meld : Meld) (a b c d g m l : ℕ) → g + 3 * m ≡ l + 13 + cond own 1 0 → g + 0 + 3 * (m + length (cond own (meld ∷ []) []))
    ≡ l + length (cond own (a ∷ b ∷ c ∷ d ∷ []) []) + 13 + 0
closed_hand true meld a b c d g m l h = omega arith
closed_hand false meld a b c d g m l h = omega arith

length-at_seat : (four : Four (List ℕ)) (n seat : ℕ) → length four.first ≡ n → length four.second ≡ n → length four.third ≡ n → length four.fourth ≡ n → length (at_seat four seat) ≡ n
length-at_seat four n seat a b c d = chosen (seat == 0) _ _ a (chosen (seat == 1) _ _ b (chosen (seat == 2) _ _ c d))
  where
    chosen : (t : Bool) (x y : List ℕ) → length x ≡ n → length y ≡ n → length (cond t x y) ≡ n
    chosen true x y h k = h
    chosen false x y h k = k

deal_hand : (x g m l : ℕ) → x ≡ 13 → g + 3 * m ≡ l + 0 + 0 → g + x + 3 * (m + 0) ≡ l + 0 + 13 + 0
deal_hand x g m l e h = omega arith

still_hand : (own : Bool) (g m l : ℕ) → g + 3 * m ≡ l + 13 + cond own 1 0 → g + 0 + 3 * (m + 0) ≡ l + 0 + 13 + cond own 1 0
still_hand own g m l h = omega arith

kept_hand : (b x g m l : ℕ) → g + 3 * m ≡ l + b + x → g + 0 + 3 * (m + 0) ≡ l + 0 + b + x
kept_hand b x g m l h = omega arith

pub hands_step : (s : Stage) (wall : List ℕ) (ds : List Deed) (d : Deed) (seat g m l : ℕ) → DealsWell wall → Brings wall ds d →
    g + 3 * m ≡ l + cond (is_begun (stage_before s d)) 13 0 + holds_more (stage_before s d) seat →
    g + length (gains_by seat d) + 3 * (m + length (makes_by seat d)) ≡ l + length (losses_by seat d) + cond (is_begun (stage_after s d)) 13 0 + holds_more (stage_after s d) seat
hands_step s wall ds (StartGame names) seat g m l deals brings h = omega arith
hands_step s wall ds (StartHand round number honba deposits dealer indicator hands) seat g m l deals brings h =
    deal_hand (length (at_seat hands seat)) g m l
    (ap (λ (four : Four (List ℕ)). length (at_seat four seat)) brings.1
    ∙ length-at_seat (for_each_seat (hand_dealt wall dealer)) 13 seat (deals.thirteen dealer 0) (deals.thirteen dealer 1) (deals.thirteen dealer 2) (deals.thirteen dealer 3)) h
hands_step s wall ds (Draw who tile true) seat g m l deals brings h = draw_hand (who == seat) tile g m l h
hands_step s wall ds (Draw who tile false) seat g m l deals brings h = draw_hand (who == seat) tile g m l h
hands_step s wall ds (Discard who tile drawn) seat g m l deals brings h = discard_hand (who == seat) tile g m l h
hands_step s wall ds (Chi who target tile a b) seat g m l deals brings h = call_hand (who == seat) _ a b g m l h
hands_step s wall ds (Pon who target tile a b) seat g m l deals brings h = call_hand (who == seat) _ a b g m l h
hands_step s wall ds (OpenKan who target tile a b c) seat g m l deals brings h = open_hand (who == seat) _ a b c g m l h
hands_step s wall ds (ClosedKan who a b c d) seat g m l deals brings h = closed_hand (who == seat) _ a b c d g m l h
hands_step s wall ds (AddedKan who tile a b c) seat g m l deals brings h = discard_hand (who == seat) tile g m l h
hands_step s wall ds (Dora tile) seat g m l deals brings h = omega arith
hands_step s wall ds (Reach who) seat g m l deals brings h = still_hand (who == seat) g m l h
hands_step s wall ds (ReachAccepted who points bid) seat g m l deals brings h = omega arith
hands_step s wall ds other seat g m l deals brings h = kept_hand _ _ g m l h

-- tiles of a kind
grows : (g : ℕ → ℕ) (n m x : ℕ) (b : Bool) → m ≡ n + cond b 1 0 → x ≡ g n → up g m ≡ up g n + cond b x 0
unfolding up
grows g n m x true e h = ap (up g) (e ∙ add-one n) ∙ ap (λ y. up g n + y) (sym h)
grows g n m x false e h = subst (λ (k : ℕ). up g k ≡ up g n + 0) (sym (plain m n e)) (plus (up g n))
  where
    plain : (m n : ℕ) → m ≡ n + 0 → m ≡ n
    plain m n e = omega arith

    plus : (a : ℕ) → a ≡ a + 0
    plus a = omega arith

pub brings_more : (f : ℕ → ℕ) (begun a b c : Bool) (n x y z p q r p' q' r' t : ℕ) → p' ≡ p + cond a 1 0 → q' ≡ q + cond b 1 0 → r' ≡ r + cond c 1 0 →
    x ≡ f (52 + p) → y ≡ f (131 - 2 * q) → z ≡ f (135 - r) → t ≡ cond a x 0 + cond b y 0 + cond c z 0 →
    n ≡ brought_from f begun p q r → n + t ≡ brought_from f begun p' q' r'
brings_more f begun a b c n x y z p q r p' q' r' t e g h u v w k m =
    sums _ _ _ _ _ _ _ _ _ _ _ _ (grows (λ k. f (52 + k)) p p' x a e u) (grows (λ k. f (131 - 2 * k)) q q' y b g v) (grows (λ k. f (135 - k)) r r' z c h w) k m
  where
    sums : (n o i j k i' j' k' x y z t : ℕ) → i' ≡ i + x → j' ≡ j + y → k' ≡ k + z → t ≡ x + y + z → n ≡ o + i + j + k → n + t ≡ o + i' + j' + k'
    sums n o i j k i' j' k' x y z t e f g h m = omega arith
