use Rattle.std.proofs.Common.{ap, ◌∙◌}
use Rattle.mj_deeds.specs.declared.deed.Deed.{Deed}
use Rattle.mj_deeds.specs.declared.deed.Viewer.TheVariants.{Record}
use Rattle.mj_forms.specs.Lines.{line}
use Rattle.mj_records.proofs.usual.has_line_of.Goals as goal

pub returns-in-Draw : goal.returns-in-Draw
returns-in-Draw c =
    λ yes. ap (λ (deed : Deed). line Record deed) c.in-Draw.is ∙ c.is_draw_of.ensures yes c.in-Draw.replacement
