-- Whether a deed fits, by what is kept of the deeds before it.
use Rattle.std.proofs.Common.{◌≡◌, ℕ, ◌+◌, ◌-◌, ◌<◌, ◌≤◌, ◌&&◌, ◌||◌, not, Bool, true, false, cond, leb, ltb, List, [], ◌∷◌, ◌++◌, length, drop, get_or, refl, sym, ap, ◌∙◌, subst, arith}
use Rattle.std.specs.Prelude.{flat_map, nat_lt}
use Rattle.std.specs.List.{list_any, list_all}
use Rattle.std.proofs.lemmas.Bool.{and_parts, eq-eqb, le-leb, ltb-true, lt-ltb}
use Rattle.std.proofs.lemmas.Bool.Decides.{nat_tests}
use Rattle.std.proofs.lemmas.List.{drop_more}
use Rattle.mj_tiles.specs.Faces.{number_in}
use Rattle.mj_tiles.specs.Counts.{all_kinds, number_of, has_no_fifth}
use Rattle.mj_tiles.specs.declared.meld.Meld.{Meld}
use Rattle.mj_tiles.proofs.CountSteps.{number_of-append}
use Rattle.mj_tiles.proofs.EachKind.{all_kinds-pass}
use Rattle.mj_deeds.specs.declared.deed.Deed.{Deed}
use Rattle.mj_deeds.specs.declared.deed.Deed.TheVariants.{Draw, Chi, Pon, OpenKan, ClosedKan, AddedKan, ReachAccepted}
use Rattle.mj_deeds.specs.Facts.{of_seat, losses_by, makes_by, seat_melds, is_call, is_kan}
use Rattle.mj_deeds.specs.Fits.{are_held, brought_by, fits_in, has_seats, has_held, has_held_by, has_triplet, has_tiles, keeps_kinds, has_room, has_live, is_first_riichi, is_triplet_of}
use Rattle.mj_facts.proofs.Gathered.{one_more}
use Rattle.mj_facts.specs.declared.hand_facts.HandFacts.{HandFacts}
use Rattle.mj_facts.specs.declared.seat_facts.SeatFacts.{SeatFacts}
use Rattle.mj_deeds.specs.declared.four.Four.{Four}
use Rattle.mj_deeds.specs.Four.{at_seat}
use Rattle.mj_facts.specs.Inner.Fitting.{are_four, adds_to_own, has_places, has_tile_left, reaches_first, fits_by}
use Rattle.mj_facts.specs.Hands.{Knows, Few}

-- tiles that are held

held_at : (p : ℕ → Bool) (tiles : List ℕ) (i face : ℕ) → i < length tiles → face ≡ get_or tiles i face → list_all p (drop i tiles) ≡ (p face && list_all p (drop (i + 1) tiles))
held_at p tiles i face h is = ap (list_all p) (drop_more tiles i face h) ∙ ap (λ x. p x && list_all p (drop (i + 1) tiles)) (sym is)

-- The next tile is held, or isn't.
pub held_more : (held got gone tiles : List ℕ) (i face number among : ℕ) → i < length tiles → face ≡ get_or tiles i face → face < 37 →
    ((f : ℕ) → f < 37 → get_or held f 0 + number_in gone f ≡ number_in got f) → number ≡ get_or held face 0 → among ≡ number_in tiles face → among ≤ number →
    list_all (λ f. leb (number_in tiles f) (number_in got f - number_in gone f)) (drop (i + 1) tiles) ≡ list_all (λ f. leb (number_in tiles f) (number_in got f - number_in gone f)) (drop i tiles)
held_more held got gone tiles i face number among h is small holds what much enough =
    sym (held_at (λ f. leb (number_in tiles f) (number_in got f - number_in gone f)) tiles i face h is
    ∙ ap (λ b. b && list_all (λ f. leb (number_in tiles f) (number_in got f - number_in gone f)) (drop (i + 1) tiles))
    (le-leb _ _ (plain _ _ _ _ _ _ (holds face small) what much enough)))
  where
    plain : (n l g number among a : ℕ) → n + l ≡ g → number ≡ n → among ≡ a → among ≤ number → a ≤ g - l
    plain n l g number among a e f k m = omega (arith, e, f, k, m)

pub held_no_more : (held got gone tiles : List ℕ) (i face number among : ℕ) → i < length tiles → face ≡ get_or tiles i face → face < 37 →
    ((f : ℕ) → f < 37 → get_or held f 0 + number_in gone f ≡ number_in got f) → number ≡ get_or held face 0 → among ≡ number_in tiles face → number < among →
    list_all (λ f. leb (number_in tiles f) (number_in got f - number_in gone f)) (drop i tiles) ≡ false
held_no_more held got gone tiles i face number among h is small holds what much less =
    held_at (λ f. leb (number_in tiles f) (number_in got f - number_in gone f)) tiles i face h is
    ∙ ap (λ b. b && list_all (λ f. leb (number_in tiles f) (number_in got f - number_in gone f)) (drop (i + 1) tiles)) (plain _ _ _ _ _ _ (holds face small) what much less)
  where
    plain : (n l g number among a : ℕ) → n + l ≡ g → number ≡ n → among ≡ a → number < among → leb a (g - l) ≡ false
    plain n l g number among a e f k m = let more : g - l < a = omega (arith, e, f, k, m) in grind (arith, nat_tests, more)

-- A seat puts down the tiles of its own deed.
pub own_held : (d : Deed) (held : List ℕ) (who seat : ℕ) (tiles : List ℕ) (result : Bool) → losses_by seat d ≡ of_seat seat who tiles → who ≡ seat →
    ((got gone : List ℕ) → ((f : ℕ) → f < 37 → get_or held f 0 + number_in gone f ≡ number_in got f) → result ≡ are_held got gone tiles) →
    (got gone : List ℕ) → ((f : ℕ) → f < 37 → get_or held f 0 + number_in gone f ≡ number_in got f) → result ≡ are_held got gone (losses_by seat d)
own_held d held who seat tiles result put own told got gone holds = told got gone holds ∙ ap (are_held got gone) (sym (put ∙ ap (λ b. cond b tiles []) (eq-eqb who seat own)))

-- Each of four seats holds what it puts down.
pub all_held : (hand : List Deed) (d : Deed) (a b c e result : Bool) → a ≡ has_held_by hand d 0 → b ≡ has_held_by hand d 1 →
    c ≡ has_held_by hand d 2 → e ≡ has_held_by hand d 3 → result ≡ are_four a b c e → result ≡ has_held hand d
all_held hand d a b c e result p q r s is = is ∙ (λ i. p i && q i && r i && s i) ∙ one_less (has_held_by hand d 0) (has_held_by hand d 1) (has_held_by hand d 2) (has_held_by hand d 3)
  where
    one_less : (a b c d : Bool) → (a && b && c && d) ≡ (a && (b && (c && (d && true))))
    one_less true true true true = refl
    one_less true true true false = refl
    one_less true true false d = refl
    one_less true false c d = refl
    one_less false b c d = refl

-- the other parts

below : (who : ℕ) (rest : Bool) → (nat_lt who 4 && rest) ≡ true → who ≤ 3
below who rest h = let low : who < 4 = ltb-true who 4 (and_parts (nat_lt who 4) rest h).0 in omega (arith, low)

adds_kept : (hand : List Deed) (facts : HandFacts) (d : Deed) → has_seats d ≡ true → Knows hand facts → adds_to_own facts.seats d ≡ has_triplet hand d
adds_kept hand facts (AddedKan who tile a b c) seats k = ap (λ (melds : List Meld). list_any (is_triplet_of tile a b c) melds) (k.seats who (below who true seats)).melds
adds_kept hand facts other seats k = refl

same_tests : (f g : ℕ → Bool) (kinds : List ℕ) → list_all (λ kind. ltb kind 34) kinds ≡ true → ((kind : ℕ) → kind < 34 → f kind ≡ g kind) → list_all f kinds ≡ list_all g kinds
same_tests f g [] all same = refl
same_tests f g (x ∷ xs) all same =
    let parts = and_parts (ltb x 34) (list_all (λ kind. ltb kind 34) xs) all in
    let first = same x (ltb-true x 34 parts.0) in
    let others = same_tests f g xs parts.1 same in
    λ i. first i && others i

pub kinds_kept : (hand : List Deed) (facts : HandFacts) (d : Deed) (kinds : Bool) → Knows hand facts →
    kinds ≡ list_all (λ kind. leb (get_or facts.brought kind 0 + number_of (brought_by d) kind) 4) all_kinds → kinds ≡ keeps_kinds hand d
unfolding has_no_fifth
kinds_kept hand facts d kinds k is =
    is
    ∙ same_tests (λ kind. leb (get_or facts.brought kind 0 + number_of (brought_by d) kind) 4) (λ kind. leb (number_of (flat_map brought_by (hand ++ d ∷ [])) kind) 4) all_kinds
    (all_kinds-pass (λ kind. ltb kind 34) (λ kind small. lt-ltb kind 34 small))
    (λ kind small. ap (λ n. leb n 4) (ap (λ n. n + number_of (brought_by d) kind) (k.brought kind small) ∙ sym (number_with kind)))
  where
    number_with : (kind : ℕ) → number_of (flat_map brought_by (hand ++ d ∷ [])) kind ≡ number_of (flat_map brought_by hand) kind + number_of (brought_by d) kind
    number_with kind = ap (λ (xs : List ℕ). number_of xs kind) (one_more brought_by hand d) ∙ number_of-append (flat_map brought_by hand) (brought_by d) kind

-- No kind was brought in more than four times.
pub few_brought : (hand : List Deed) (facts : HandFacts) → Few hand → Knows hand facts → (kind : ℕ) → kind < 34 → get_or facts.brought kind 0 ≤ 4
few_brought hand facts few k kind small = subst (λ (n : ℕ). n ≤ 4) (sym (k.brought kind small)) (few.brought kind small)

pub places_kept : (hand : List Deed) (facts : HandFacts) (d : Deed) (places : Bool) → Knows hand facts → places ≡ has_places facts.seats d → places ≡ has_room hand d
places_kept hand facts d places k is = is ∙ (λ i. at 0 (omega arith) i && (at 1 (omega arith) i && (at 2 (omega arith) i && (at 3 (omega arith) i && true))))
  where
    at : (seat : ℕ) → seat ≤ 3 → leb (length (at_seat facts.seats seat).melds + length (makes_by seat d)) 4 ≡ leb (length (seat_melds hand seat) + length (makes_by seat d)) 4
    at seat low = ap (λ (melds : List Meld). leb (length melds + length (makes_by seat d)) 4) (k.seats seat low).melds

-- No seat has more than four melds, and a deed that is no call makes none.
pub few_melds : (hand : List Deed) (facts : HandFacts) → Few hand → Knows hand facts → (seat : ℕ) → seat ≤ 3 → length (at_seat facts.seats seat).melds ≤ 4
few_melds hand facts few k seat low = subst (λ (melds : List Meld). length melds ≤ 4) (sym (k.seats seat low).melds) (few.melds seat)

none_made : (d : Deed) (seat : ℕ) → is_call d ≡ false → makes_by seat d ≡ []
none_made (Chi who target tile a b) seat h = cc
none_made (Pon who target tile a b) seat h = cc
none_made (OpenKan who target tile a b c) seat h = cc
none_made (ClosedKan who a b c d) seat h = cc
none_made other seat h = refl

pub no_call_fits : (seats : Four SeatFacts) (d : Deed) → is_call d ≡ false → ((seat : ℕ) → seat ≤ 3 → length (at_seat seats seat).melds ≤ 4) → true ≡ has_places seats d
no_call_fits seats d none few = λ i. at 0 (omega arith) i && (at 1 (omega arith) i && (at 2 (omega arith) i && (at 3 (omega arith) i && true)))
  where
    room : (n m : ℕ) → n ≤ 4 → m ≡ 0 → n + m ≤ 4
    room n m h e = omega (arith, h, e)

    at : (seat : ℕ) → seat ≤ 3 → true ≡ leb (length (at_seat seats seat).melds + length (makes_by seat d)) 4
    at seat low = sym (le-leb _ 4 (room (length (at_seat seats seat).melds) _ (few seat low) (ap length (none_made d seat none))))

live_kept : (hand : List Deed) (facts : HandFacts) (d : Deed) → Knows hand facts → has_tile_left facts d ≡ has_live hand d
live_kept hand facts (Draw who tile replacement) k = λ i. replacement || nat_lt 0 (70 - k.drawn i - k.kans i)
live_kept hand facts other k = λ i. not (is_kan other) || (nat_lt (k.kans i) 4 && nat_lt 0 (70 - k.drawn i - k.kans i))

first_kept : (hand : List Deed) (facts : HandFacts) (d : Deed) → has_seats d ≡ true → Knows hand facts → reaches_first facts.seats d ≡ is_first_riichi hand d
first_kept hand facts (ReachAccepted who points bid) seats k = ap not (k.seats who (below who _ seats)).marks.accepted
first_kept hand facts other seats k = refl

-- All parts.
pub fits_kept : (red held kinds places result : Bool) (hand : List Deed) (facts : HandFacts) (d : Deed) → Knows hand facts → held ≡ has_held hand d → kinds ≡ keeps_kinds hand d →
    places ≡ has_room hand d → result ≡ fits_by red held kinds places facts d → result ≡ fits_in red hand d
unfolding fits_by fits_in
fits_kept red held kinds places result hand facts d k h j p is = is ∙ by_seats (has_seats d) refl
  where
    live : has_tile_left facts d ≡ has_live hand d
    live = live_kept hand facts d k

    -- The other parts are looked at where each seat is one.
    by_seats : (b : Bool) → has_seats d ≡ b →
        (has_seats d && held && adds_to_own facts.seats d && has_tiles red d && kinds && places && has_tile_left facts d && reaches_first facts.seats d)
        ≡ (has_seats d && has_held hand d && has_triplet hand d && has_tiles red d && keeps_kinds hand d && has_room hand d && has_live hand d && is_first_riichi hand d)
    by_seats true e = λ i. has_seats d && h i && adds_kept hand facts d e k i && has_tiles red d && j i && p i && live i && first_kept hand facts d e k i
    by_seats false e =
        (λ i. e i && held && adds_to_own facts.seats d && has_tiles red d && kinds && places && has_tile_left facts d && reaches_first facts.seats d)
        ∙ sym (λ i. e i && has_held hand d && has_triplet hand d && has_tiles red d && keeps_kinds hand d && has_room hand d && has_live hand d && is_first_riichi hand d)
