-- What one entry more changes, stated once for each fold over entries.
use Rattle.std.proofs.Common.{◌≡◌, List, [], ◌∷◌, ◌++◌, Bool, true, false, ◌&&◌, refl, ap, ◌∙◌, sym}
use Rattle.std.proofs.Math.Bool.{and_assoc}
use Rattle.mj_ports.specs.declared.entry.Entry.{Entry}
use Rattle.mj_deeds.specs.declared.answer.Answer.{Answer}
use Rattle.mj_wall.specs.declared.setting.Setting.{Setting}
use Rattle.mj_history.specs.After.{After, before_all, step, after_from, after}
use Rattle.mj_history.specs.Legal.{is_permitted, all_permitted}

pub after_from-append : (setting : Setting) (now : After) (es : List (Entry Answer)) (e : Entry Answer) → after_from setting now (es ++ e ∷ []) ≡ step setting (after_from setting now es) e
after_from-append setting now [] e = refl
after_from-append setting now (d ∷ es) e = after_from-append setting (step setting now d) es e

pub after_from-list : (setting : Setting) (now : After) (es more : List (Entry Answer)) → after_from setting now (es ++ more) ≡ after_from setting (after_from setting now es) more
after_from-list setting now [] more = refl
after_from-list setting now (e ∷ es) more = after_from-list setting (step setting now e) es more

pub after-append : (setting : Setting) (es : List (Entry Answer)) (e : Entry Answer) → after setting (es ++ e ∷ []) ≡ step setting (after setting es) e
after-append setting es e = after_from-append setting before_all es e

and-true : (b : Bool) → (b && true) ≡ b
and-true true = refl
and-true false = refl

pub all_permitted-append : (setting : Setting) (now : After) (es : List (Entry Answer)) (e : Entry Answer) → all_permitted setting now (es ++ e ∷ [])
    ≡ (all_permitted setting now es && is_permitted setting (after_from setting now es) e)
all_permitted-append setting now [] e = and-true (is_permitted setting now e)
all_permitted-append setting now (d ∷ es) e =
    ap (λ b. is_permitted setting now d && b) (all_permitted-append setting (step setting now d) es e)
    ∙ sym (and_assoc (is_permitted setting now d) (all_permitted setting (step setting now d) es) (is_permitted setting (after_from setting (step setting now d) es) e))
