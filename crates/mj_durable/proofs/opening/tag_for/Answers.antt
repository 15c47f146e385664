use Rattle.std.proofs.Common.{◌++◌, ◌∙◌, ap, List, ℕ}
use Rattle.mj_core.specs.Calls.{record_of}
use Rattle.mj_durable.proofs.TagLaws.{tag_is}
use Rattle.mj_durable.proofs.opening.tag_for.Goals as goal

pub returns : goal.returns
returns c = c.in_ok-record.ensures.ok.is ∙ ap (λ (l : List ℕ). l ++ record_of c.args.core.now) c.new-tag.ensures.items ∙ tag_is c.args.core.now c.requires.none
