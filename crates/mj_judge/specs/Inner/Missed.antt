-- What a seat missed of the tiles that it might win on.
use Rattle.std.specs.Prelude.{◌&&◌, Bool, nat_lt, length}
use Rattle.mj_waits.specs.Furiten.{is_furiten}
use Rattle.mj_waits.specs.declared.furiten_rule.Facts.{Facts}
use Rattle.mj_rules.specs.Broken.{waits_of, offered_in}
use Rattle.mj_rules.specs.View.{SeatView}

-- What decides whether a seat is furiten, as it knows it.
abbrev pub facts_of : SeatView → Facts
facts_of view = record { waits = waits_of view; own = view.own; passed = view.passed; passed_in_riichi = view.passed_in_riichi }

-- The tile of another is offered to a seat that is furiten.
abbrev pub is_missing_out : SeatView → Bool
is_missing_out view = nat_lt 0 (length (offered_in view.turn)) && is_furiten (facts_of view)
