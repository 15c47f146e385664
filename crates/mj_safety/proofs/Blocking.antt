-- Where a kind is blocked, no hand is complete by a tile of it.
use Rattle.std.proofs.Common.{◌≡◌, ℕ, ◌+◌, ◌<◌, ◌≤◌, ◌⊎◌, inl, inr, ◌||◌, ◌&&◌, not, Bool, true, false, cond, eqb, ltb, List, [], ◌∷◌, ◌++◌, length, get_or, refl, sym, ap, ◌∙◌, subst, arith}
use Rattle.std.specs.Prelude.{nat_lt}
use Rattle.std.proofs.lemmas.Bool.{and_parts, cases_lt, eq-eqb, eqb-true, ltb-true, lt-ltb, ne_eqb}
use Rattle.std.proofs.lemmas.List.{get_or_past}
use Rattle.mj_tiles.specs.Faces.{kind_of}
use Rattle.mj_tiles.specs.Counts.{all_kinds, number_of, kind_counts, IsCounts}
use Rattle.mj_tiles.specs.Terminals.{is_terminal_or_honour}
use Rattle.mj_tiles.proofs.CountSteps.{length-kind_counts, get_or-kind_counts, number_of-append, number_of-push}
use Rattle.mj_tiles.proofs.EachKind.{each_kind, all_kinds-pass}
use Rattle.mj_readings.specs.Sets.{begins_run}
use Rattle.mj_readings.proofs.Laws.{complete-are}
use Rattle.mj_deeds.specs.declared.deed.Deed.{Deed}
use Rattle.mj_deeds.specs.declared.deed.Deed.TheVariants.{Discard}
use Rattle.mj_deeds.specs.Facts.{concealed_tiles, seat_melds}
use Rattle.mj_deeds.specs.Hand.{hand}
use Rattle.mj_deeds.proofs.RealTiles.{member_passes}
use Rattle.mj_sights.specs.Seen.{opened_by, open_tiles}
use Rattle.mj_safety.specs.Safe.{sees_all, run_from, is_run_of, sees_all_beside, are_runs_blocked, are_orphans_blocked, is_blocked}
use Rattle.mj_sights.proofs.Somewhere.{four_together}
use Rattle.mj_safety.proofs.Unfinished.{some_member, Alone, not_complete}
use Rattle.mj_safety.proofs.Quiet.{more_of, concealed_stay}
use Rattle.mj_safety.proofs.Asked.{Asked}

-- With the discard another seat has no kind five times, and what lies open is elsewhere.
pub four_with : (red : Bool) (ds : List Deed) (seat against tile : ℕ) (drawn : Bool) → Asked red ds seat against tile drawn → against < 4 → (kind : ℕ) → kind < 34 →
    number_of (concealed_tiles (hand ds) against) kind + (number_of (open_tiles (hand ds)) kind + cond (eqb (kind_of tile) kind) 1 0) ≤ 4
four_with red ds seat against tile drawn a low kind known =
    few _ _ _ _ _ _ (four_together red (ds ++ Discard seat tile drawn ∷ []) seat against kind a.fit_with a.small low a.apart known)
    (ap (λ (hs : List Deed). number_of (concealed_tiles hs against) kind) a.inside ∙ ap (λ (xs : List ℕ). number_of xs kind) (concealed_stay (hand ds) seat tile against drawn a.apart))
    (ap (λ (hs : List Deed). number_of (open_tiles hs) kind) a.inside ∙ ap (λ (xs : List ℕ). number_of xs kind)
    (more_of opened_by (hand ds) (Discard seat tile drawn)) ∙ number_of-push (open_tiles (hand ds)) tile kind)
  where
    few : (x c o n m t : ℕ) → x + c + o ≤ 4 → c ≡ n → o ≡ m + t → n + (m + t) ≤ 4
    few x c o n m t h e f = omega (arith, h, e, f)

-- The counts of the hand with it.
pub counts_with : (red : Bool) (ds : List Deed) (seat against tile : ℕ) (drawn : Bool) → Asked red ds seat against tile drawn → against < 4 →
    IsCounts (kind_counts (concealed_tiles (hand ds) against ++ tile ∷ []))
counts_with red ds seat against tile drawn a low = record { size = length-kind_counts _; within = λ kind. by_kind kind (cases_lt kind 34) }
  where
    tiles : List ℕ
    tiles = concealed_tiles (hand ds) against ++ tile ∷ []

    few : (n m c o t : ℕ) → n ≡ m → m ≡ c + t → c + (o + t) ≤ 4 → n ≤ 4
    few n m c o t e f h = omega (arith, e, f, h)

    past : (n : ℕ) → n ≡ 0 → n ≤ 4
    past n e = omega (arith, e)

    by_kind : (kind : ℕ) → (kind < 34) ⊎ (34 ≤ kind) → get_or (kind_counts tiles) kind 0 ≤ 4
    by_kind kind (inl known) = few _ _ _ _ _ (get_or-kind_counts tiles kind known) (number_of-push (concealed_tiles (hand ds) against) tile kind)
        (four_with red ds seat against tile drawn a low kind known)
    by_kind kind (inr large) = past _ (get_or_past (kind_counts tiles) kind 0 (subst (λ (n : ℕ). n ≤ kind) (sym (length-kind_counts tiles)) large))

-- Of a kind of which all are seen another seat holds none.
holds_none : (red : Bool) (ds : List Deed) (seat against tile : ℕ) (drawn : Bool) → Asked red ds seat against tile drawn → against < 4 → (kind : ℕ) → kind < 34 → sees_all (hand ds) seat kind ≡ true →
    number_of (concealed_tiles (hand ds) against) kind ≡ 0
holds_none red ds seat against tile drawn a low kind known h =
    none _ _ _ _ (number_of-append (concealed_tiles (hand ds) seat) (open_tiles (hand ds)) kind) (eqb-true _ 4 h) (four_together red ds seat against kind a.fit a.small low a.apart known)
  where
    none : (n s o c : ℕ) → n ≡ s + o → n ≡ 4 → s + c + o ≤ 4 → c ≡ 0
    none n s o c e f h = omega (arith, e, f, h)

then_so : (a b : Bool) → (not a || b) ≡ true → a ≡ true → b ≡ true
then_so true b h e = h
then_so false b h e = cc

third : (a b c : Bool) → (not a || b || c) ≡ true → a ≡ true → b ≡ false → c ≡ true
third true true c h e f = cc
third true false c h e f = h
third false b c h e f = cc

run_low : (low : ℕ) → begins_run low ≡ true → low < 34
unfolding begins_run
run_low low h = let few : low < 27 = ltb-true low 27 (and_parts (ltb low 27) _ h).0 in omega (arith, few)

no_melds : (n : ℕ) → n ≡ 0 → nat_lt 0 n ≡ false
no_melds n e = ap (λ (m : ℕ). nat_lt 0 m) e

pub alone : (red : Bool) (ds : List Deed) (seat against tile : ℕ) (drawn : Bool) → Asked red ds seat against tile drawn → against < 4 → is_blocked (hand ds) seat against (kind_of tile) ≡ true →
    Alone (kind_counts (concealed_tiles (hand ds) against ++ tile ∷ [])) (length (seat_melds (hand ds) against)) (kind_of tile) (sees_all (hand ds) seat)
unfolding are_runs_blocked are_orphans_blocked
alone red ds seat against tile drawn a low blocked = record {
  known = a.known;
  one = one _ _ _ _ (get_or-kind_counts tiles (kind_of tile) a.known) (number_of-push cs tile (kind_of tile)) (holds_none red ds seat against tile drawn a low (kind_of tile) a.known both.0)
      (ap {B = ℕ} (λ b. cond b 1 0) (eq-eqb (kind_of tile) (kind_of tile) refl));
  none = λ other small ne seen.
      none _ _ _ _ (get_or-kind_counts tiles other small) (number_of-push cs tile other) (holds_none red ds seat against tile drawn a low other small seen)
      (ap {B = ℕ} (λ b. cond b 1 0) (ne_eqb (kind_of tile) other (λ e. never (eqb other (kind_of tile)) (eq-eqb other (kind_of tile) (sym e)) ne)));
  by_runs = λ from h.
      then_so (is_run_of (kind_of tile) from) _ (each_kind (λ k. not (is_run_of (kind_of tile) k) || sees_all_beside (hand ds) seat (kind_of tile)
      (run_from k)) from (run_low from (and_parts (begins_run from) _ h).0) both.1) h;
  by_orphans = λ closed orphan.
      let found = some_member (λ other. is_terminal_or_honour other && (not (eqb other (kind_of tile)) && sees_all (hand ds) seat other)) all_kinds
      (third (is_terminal_or_honour (kind_of tile)) (nat_lt 0 (length (seat_melds (hand ds) against))) _ parts.1 orphan (no_melds _ closed)) in
      let is = and_parts (is_terminal_or_honour found.0) _ found.1 in
      let beside = and_parts (not (eqb found.0 (kind_of tile))) _ is.1 in
      (found.0, ltb-true found.0 34 (member_passes (λ k. ltb k 34) all_kinds found.0 (all_kinds-pass (λ k. ltb k 34) (λ k small. lt-ltb k 34 small)) found.2), is.0, beside.0, beside.1);
}
  where
    cs : List ℕ
    cs = concealed_tiles (hand ds) against

    tiles : List ℕ
    tiles = cs ++ tile ∷ []

    parts : ((sees_all (hand ds) seat (kind_of tile) && are_runs_blocked (hand ds) seat (kind_of tile)) ≡ true) × (are_orphans_blocked (hand ds) seat against (kind_of tile) ≡ true)
    parts = and_parts (sees_all (hand ds) seat (kind_of tile) && are_runs_blocked (hand ds) seat (kind_of tile)) _ blocked

    both : (sees_all (hand ds) seat (kind_of tile) ≡ true) × (are_runs_blocked (hand ds) seat (kind_of tile) ≡ true)
    both = and_parts (sees_all (hand ds) seat (kind_of tile)) _ parts.0

    one : (n m c t : ℕ) → n ≡ m → m ≡ c + t → c ≡ 0 → t ≡ 1 → n ≡ 1
    one n m c t e f g h = omega (arith, e, f, g, h)

    none : (n m c t : ℕ) → n ≡ m → m ≡ c + t → c ≡ 0 → t ≡ 0 → n ≡ 0
    none n m c t e f g h = omega (arith, e, f, g, h)

    never : (b : Bool) → b ≡ true → not b ≡ true → ⊥
    never true e h = cc
    never false e h = cc

-- So no win on it is lawful.
pub blocked_never : (red : Bool) (ds : List Deed) (seat against tile : ℕ) (drawn : Bool) → Asked red ds seat against tile drawn → against < 4 →
    is_blocked (hand ds) seat against (kind_of tile) ≡ true → ⊥
blocked_never red ds seat against tile drawn a low blocked =
    not_complete _ _ (kind_of tile) (sees_all (hand ds) seat) (alone red ds seat against tile drawn a low blocked) (complete-are _ _ (counts_with red ds seat against tile drawn a low) a.finished)
