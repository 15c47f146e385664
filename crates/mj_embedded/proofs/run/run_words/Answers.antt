use Rattle.std.proofs.Common.{Some, sym, ap, ◌∙◌}
use Rattle.std.specs.Prelude.{map, option_map}
use Rattle.std.specs.String.{string_bytes}
use Rattle.mj_embedded.specs.Runs.{Ran}
use Rattle.mj_embedded.proofs.run.run_words.Goals as goal

pub returns-in-Ok : goal.returns-in-Ok
returns-in-Ok c = Ran (map string_bytes c.as_slice.result.now)
    (sym c.in-Ok-Some.ensures ∙ (ap (option_map (λ w. map string_bytes w.items)) c.in-Ok-Some.field-0-is ∙ ap (λ ws. Some (map string_bytes ws)) (sym c.as_slice.ensures.value)))
    c.in-Ok.ensures.ok
