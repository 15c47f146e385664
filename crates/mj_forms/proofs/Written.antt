-- A list of answers as it is written.
use Rattle.std.proofs.Common.{refl, lit<}
use Rattle.std.proofs.lemmas.Fmt.{decimal_digit}
use Rattle.mj_tiles.specs.Faces.{texts, text_of}
use Rattle.mj_forms.specs.Lines.{bracketed, quoted_tile}
use Rattle.mj_forms.specs.Choices.{actor_field, target_field, pai_field, consumed_field, type_field, possible_text}
use Rattle.mj_forms.specs.Laws.{ListsAreWritten}

pub lists_written : ListsAreWritten
unfolding texts text_of bracketed quoted_tile actor_field target_field pai_field consumed_field type_field possible_text
lists_written = rw (decimal_digit 0 (lit< tt), decimal_digit 1 (lit< tt)) refl
