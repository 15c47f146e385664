use Rattle.std.proofs.Common.{refl, inl}
use Rattle.mj_suits.proofs.Comparing.{not_greater-equal, not_greater-back}
use Rattle.mj_suits.proofs.choosing.greater_of.Goals as goal

pub returns-in-Equal : goal.returns-in-Equal
returns-in-Equal c = inl (refl, not_greater-equal c.args.one.target c.args.other.target (cc))

pub returns-in-Greater : goal.returns-in-Greater
returns-in-Greater c = inl (refl, not_greater-back c.args.one.target c.args.other.target (cc))
