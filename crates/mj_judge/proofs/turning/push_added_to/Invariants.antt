use Rattle.std.proofs.Common.{◌≡◌, ◌++◌, take}
use Rattle.std.specs.Prelude.{filter}
use Rattle.mj_tiles.specs.declared.meld.Meld.{Meld}
use Rattle.mj_deeds.specs.Facts.{is_pon}
use Rattle.mj_rules.specs.Possible.{added_kans_of}
use Rattle.mj_judge.specs.Inner.Tried.{lawful_among}
use Rattle.mj_judge.proofs.turning.push_added_to.Given as goal

abbrev pub invariant-loop-meld : goal.invariant-loop-meld
invariant-loop-meld l =
    l.items.items ≡ l.initial.items.items ++ lawful_among l.table.rules l.table.deeds l.seat (added_kans_of l.seat l.tile (filter (λ (meld : Meld). is_pon meld.form) (take l.meld-index l.melds)))
