use Rattle.std.proofs.Common.{rules, ◌≡◌, ◌∷◌, ◌++◌, ap, ◌∙◌}
use Rattle.std.specs.Prelude.{Some}
use Rattle.mj_tiles.specs.Faces.{face_of}
use Rattle.mj_tiles.proofs.Texts.{text_of-face_of}
use Rattle.mj_records.proofs.usual.face_first.Goals as goal

pub returns-clause-parts : goal.returns-clause-parts
returns-clause-parts c =
    let named : face_of c.in_ok-name.name.now ≡ Some c.face.result = search rules in
    c.in_ok-name.ensures ∙ ap (λ t. t ++ 34 ∷ c.in_ok-name.rest.now) (text_of-face_of _ _ named).1
