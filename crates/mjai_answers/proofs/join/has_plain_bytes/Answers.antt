use Rattle.std.proofs.Common.{rules, tests}
use Rattle.std.specs.Prelude.{nat_le, not, ◌&&◌, ◌==◌}
use Rattle.std.proofs.lemmas.Iterator.{YieldsList-from_slice}
use Rattle.std.proofs.lemmas.Iterator.Search.{all_from_yields_List}
use Rattle.mjai_answers.proofs.join.has_plain_bytes.Goals as goal

pub returns : goal.returns
returns c =
    all_from_yields_List (λ byte. nat_le 32 byte && not (byte == 34) && not (byte == 92)) _ _ _ c.all.ensures.ran
    (YieldsList-from_slice c.args.text.now cc) (λ x b q k. search (rules, tests))
