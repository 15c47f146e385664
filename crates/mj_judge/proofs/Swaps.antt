-- Sets and lists of banned kinds.
use Rattle.std.proofs.Common.{◌≡◌, ℕ, Bool, ◌||◌, List, [], ◌∷◌, eqb, refl, ap, ◌∙◌}
use Rattle.std.specs.Prelude.{nat_le}
use Rattle.std.specs.List.{list_all}
use Rattle.mj_tiles.specs.Faces.{number_in, kind_of, tile_order}
use Rattle.mj_tiles.specs.Kinds.{has_kind, set_of}
use Rattle.mj_tiles.proofs.KindSets.{has_kind-none, has_kind-with}
use Rattle.mj_calls.specs.Bans.{banned_kinds, is_banned}
use Rattle.mj_deeds.specs.declared.deed.Deed.{Deed}
use Rattle.mj_deeds.specs.declared.deed.Deed.TheVariants.{Chi, Pon}
use Rattle.mj_rules.specs.Broken.{banned_in, has_nothing_else}
use Rattle.mj_rules.specs.View.{SeatView, held_count, turn_by}
use Rattle.mj_judge.specs.Inner.Free.{is_used_up}

pub swap_of : (kinds : List ℕ) (kind : ℕ) → has_kind (set_of kinds) kind ≡ is_banned kinds kind
swap_of [] kind = has_kind-none kind
swap_of (other ∷ others) kind = has_kind-with (set_of others) other kind ∙ ap (λ b. eqb other kind || b) (swap_of others kind)

nothing_else : (view : SeatView) (used kinds : List ℕ) → list_all (is_used_up view.tiles_gained view.tiles_lost used (set_of kinds)) tile_order ≡ has_nothing_else view used kinds
unfolding has_nothing_else
nothing_else view used kinds i = list_all (λ (face : ℕ). nat_le (held_count view face) (number_in used face) || swap_of kinds (kind_of face) i) tile_order

pub stuck_is : (view : SeatView) (used kinds : List ℕ) (bans : ℕ) (result : Bool) → result ≡ list_all (is_used_up view.tiles_gained view.tiles_lost used bans) tile_order →
    bans ≡ set_of kinds → result ≡ has_nothing_else view used kinds
stuck_is view used kinds bans result h k =
    h ∙ ap (λ b. list_all (is_used_up view.tiles_gained view.tiles_lost used b) tile_order) k ∙ nothing_else view used kinds

pub bans_of_turn : (deed : Deed) → banned_in (turn_by deed) ≡ banned_kinds deed
bans_of_turn (Chi seat target tile a b) = refl
bans_of_turn (Pon seat target tile a b) = refl
bans_of_turn other = refl
