-- The spare table becomes the same as the first by the newest deed, where it lacks that one alone.
use Rattle.std.proofs.Common.{◌≡◌, ℕ, ◌≤◌, Bool, true, false, List, [], ◌∷◌, ◌++◌, length, refl, ap, sym, ◌∙◌, subst}
use Rattle.std.specs.Prelude.{Option, Some, None, unwrap_or, IsTrue}
use Rattle.std.specs.List.{list_all}
use Rattle.mj_wall.specs.declared.setting.Rules.{Rules}
use Rattle.mj_wall.specs.Places.{is_wall}
use Rattle.mj_deeds.specs.declared.deed.Deed.{Deed}
use Rattle.mj_deeds.specs.Facts.{newest}
use Rattle.mj_deeds.specs.Fits.{fits}
use Rattle.mj_deeds.proofs.Newest.{newest_more}
use Rattle.mj_table.specs.Plays.{Play}
use Rattle.mj_rules.specs.Played.{IsPlayed}
use Rattle.mj_rules.proofs.Playing.{each_is_wall, played_less, behind_fits}
use Rattle.mj_deeds.specs.declared.four.Four.{Four}
use Rattle.mj_streams.specs.Streams.{with_deed}
use Rattle.mj_core.specs.Inner.Streamed.{Follows, CanCatchUp, IsTold, lines_of_all, possible_of_all}
use Rattle.mj_core.proofs.KeptLines.{told_next}

-- The newest deed is played after the others, so it fits there.
pub can_catch_up : (walls : List (List ℕ)) (is_behind : Bool) (spare table : Play) → 1 ≤ length walls → IsTrue (list_all (is_wall table.rules.red) walls) →
    Follows is_behind spare table.rules table.deeds → IsPlayed table.rules walls table.deeds → CanCatchUp is_behind spare table (newest table.deeds)
can_catch_up walls is_behind spare table some whole follows played = by is_behind (newest table.deeds) follows refl
  where
    by : (behind : Bool) (last : Option Deed) → Follows behind spare table.rules table.deeds → last ≡ newest table.deeds → CanCatchUp behind spare table last
    by false last f is = tt
    by true None f is = tt
    by true (Some last) f is =
        let there : last ≡ f.newest = ap (λ (o : Option Deed). unwrap_or o last) (is ∙ ap newest f.others ∙ newest_more spare.deeds f.newest) in
        let less = played_less table.rules walls spare.deeds f.newest (subst (IsPlayed table.rules walls) f.others played) in
        let fit : fits table.rules.red spare.deeds f.newest ≡ true = behind_fits table.rules walls spare.deeds f.newest (each_is_wall table.rules.red walls some whole) less.0 less.1 in
        record {
          fit = subst (λ (d : Deed). fits spare.rules.red spare.deeds d ≡ true) (sym there) (subst (λ (now : Rules). fits now.red spare.deeds f.newest ≡ true) (sym f.same_rules) fit);
          same = λ i. record {
            rules = sym f.same_rules i;
            deeds = (f.others ∙ ap (λ (d : Deed). spare.deeds ++ d ∷ []) (sym there)) i;
          };
        }

-- A deed was added to the spare table, which was the same as the first, the seats are told it, and the two change places.
pub told_and_turned : (table spare first second : Play) (deed : Deed) (old new : Four (List (List ℕ))) → old ≡ lines_of_all table.rules table.deeds →
    spare ≡ record { rules = table.rules; deeds = table.deeds ++ deed ∷ [] } → new ≡ with_deed old deed (possible_of_all spare.rules spare.deeds) →
    first ≡ spare → second ≡ table → IsTold first new true second
told_and_turned table spare first second deed old new lines grown told one two = record {
  lines =
      told_next table.rules spare.rules table.deeds spare.deeds first.deeds deed old new (possible_of_all spare.rules spare.deeds) lines (ap (λ (p : Play). p.rules) grown)
      (ap (λ (p : Play). p.deeds) grown) (ap (λ (p : Play). p.deeds) (one ∙ grown)) refl told
      ∙ ap (λ (p : Play). lines_of_all p.rules first.deeds) (sym one);
  follows = record {
    newest = deed;
    same_rules = ap (λ (p : Play). p.rules) two ∙ sym (ap (λ (p : Play). p.rules) (one ∙ grown));
    others = ap (λ (p : Play). p.deeds) (one ∙ grown) ∙ ap (λ (p : Play). p.deeds ++ deed ∷ []) (sym two);
  };
}
