-- What a seat sees, and which kinds are safe for it, is the same of deeds as the seat sees them.
use Rattle.std.proofs.Common.{◌≡◌, ℕ, ◌==◌, ◌&&◌, ◌||◌, false, not, List, ◌++◌, length, refl, ap, sym, ◌∙◌}
use Rattle.std.specs.Prelude.{nat_lt, filter, find, Option, Some, None, is_some, option_map}
use Rattle.std.specs.List.{list_all, list_any}
use Rattle.std.specs.Option.{option_map_or}
use Rattle.mj_tiles.specs.Counts.{all_kinds, number_of}
use Rattle.mj_tiles.specs.Faces.{less}
use Rattle.mj_tiles.specs.Kinds.{has_kind}
use Rattle.mj_tiles.specs.Terminals.{is_terminal_or_honour}
use Rattle.mj_deeds.specs.declared.deed.Deed.{Deed}
use Rattle.mj_deeds.specs.declared.deed.Deed.TheVariants as deeds
use Rattle.mj_deeds.specs.Facts.{newest, concealed_tiles}
use Rattle.mj_deeds.specs.Passed.{own_kinds, passed_kinds, passed_in_riichi}
use Rattle.mj_deeds.proofs.Mapped.{flat_map-kept}
use Rattle.mj_deeds.proofs.Masked.{masked, all_masked, newest-masked, tiles_gained-masked, tiles_lost-masked, seat_melds-masked, own_kinds-masked, passed_kinds-masked, passed_in_riichi-masked}
use Rattle.mj_rules.proofs.MaskedView.{of_hand}
use Rattle.mj_safety.specs.declared.reason.Reason.{Reason}
use Rattle.mj_safety.specs.declared.reason.Reason.TheVariants.{OwnDiscard, PassedInRiichi, Passed, Blocked}
use Rattle.mj_sights.specs.Seen.{opened_by, open_tiles, seen_tiles}
use Rattle.mj_safety.specs.Safe.{wants_discard, has_to_discard, run_from, is_run_of, are_runs_blocked, are_orphans_blocked, is_blocked, reason_holds, all_reasons, safe_reason, safe_kinds}

opened-masked : (seat : ℕ) (d : Deed) → opened_by d ≡ opened_by (masked seat d)
opened-masked seat (deeds.Draw who tile replacement) = refl
opened-masked seat other = refl

concealed-masked : (seat : ℕ) (ds : List Deed) → concealed_tiles ds seat ≡ concealed_tiles (all_masked seat ds) seat
concealed-masked seat ds = let got = tiles_gained-masked seat ds in let gone = tiles_lost-masked seat seat ds in λ i. less (got i) (gone i)

pub seen_tiles-masked : (seat : ℕ) (ds : List Deed) → seen_tiles ds seat ≡ seen_tiles (all_masked seat ds) seat
seen_tiles-masked seat ds =
    let own = concealed-masked seat ds in
    let lies : open_tiles ds ≡ open_tiles (all_masked seat ds) = flat_map-kept opened_by (masked seat) (opened-masked seat) ds in
    λ i. own i ++ lies i

wants-masked : (seat who : ℕ) (d : Deed) → wants_discard who d ≡ wants_discard who (masked seat d)
wants-masked seat who (deeds.Draw other tile replacement) = refl
wants-masked seat who other = refl

pub has_to_discard-masked : (seat who : ℕ) (ds : List Deed) → has_to_discard ds who ≡ has_to_discard (all_masked seat ds) who
has_to_discard-masked seat who ds = by_newest (newest ds) ∙ ap (λ (o : Option Deed). option_map_or (wants_discard who) o false) (sym (newest-masked seat ds))
  where
    by_newest : (o : Option Deed) → option_map_or (wants_discard who) o false ≡ option_map_or (wants_discard who) (option_map (masked seat) o) false
    by_newest None = refl
    by_newest (Some d) = wants-masked seat who d

blocked-masked : (seat against kind : ℕ) (ds : List Deed) → is_blocked ds seat against kind ≡ is_blocked (all_masked seat ds) seat against kind
unfolding are_runs_blocked are_orphans_blocked
blocked-masked seat against kind ds =
    let seen = seen_tiles-masked seat ds in
    let melds = seat_melds-masked seat against ds in
    λ i.
    number_of (seen i) kind == 4 && list_all (λ low. not (is_run_of kind low) || list_any (λ other. not (other == kind) && (number_of (seen i) other == 4)) (run_from low)) all_kinds
    && (not (is_terminal_or_honour kind) || nat_lt 0 (length (melds i)) || list_any (λ other. is_terminal_or_honour other && (not (other == kind) && (number_of (seen i) other == 4))) all_kinds)

holds-masked : (seat against kind : ℕ) (ds : List Deed) (reason : Reason) → reason_holds ds seat against kind reason ≡ reason_holds (all_masked seat ds) seat against kind reason
holds-masked seat against kind ds OwnDiscard = of_hand seat (λ (hs : List Deed). has_kind (own_kinds hs against) kind) (λ hs. ap (λ kinds. has_kind kinds kind) (own_kinds-masked seat against hs)) ds
holds-masked seat against kind ds PassedInRiichi =
    of_hand seat (λ (hs : List Deed). has_kind (passed_in_riichi hs against) kind) (λ hs. ap (λ kinds. has_kind kinds kind) (passed_in_riichi-masked seat against hs)) ds
holds-masked seat against kind ds Passed = of_hand seat (λ (hs : List Deed). has_kind (passed_kinds hs against) kind) (λ hs. ap (λ kinds. has_kind kinds kind) (passed_kinds-masked seat against hs)) ds
holds-masked seat against kind ds Blocked = of_hand seat (λ (hs : List Deed). is_blocked hs seat against kind) (blocked-masked seat against kind) ds

pub safe_reason-masked : (seat against kind : ℕ) (ds : List Deed) → safe_reason ds seat against kind ≡ safe_reason (all_masked seat ds) seat against kind
unfolding safe_reason
safe_reason-masked seat against kind ds = λ i. find (λ (reason : Reason). holds-masked seat against kind ds reason i) all_reasons

pub safe_kinds-masked : (seat against : ℕ) (ds : List Deed) → safe_kinds ds seat against ≡ safe_kinds (all_masked seat ds) seat against
safe_kinds-masked seat against ds =
    let own = of_hand seat (λ (hs : List Deed). concealed_tiles hs seat) (concealed-masked seat) ds in
    λ i. filter (λ kind. nat_lt 0 (number_of (own i) kind) && is_some (safe_reason-masked seat against kind ds i)) all_kinds
