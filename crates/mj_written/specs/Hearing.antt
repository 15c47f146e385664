-- What a present seat says in a game of riichi is heard.
use Rattle.std.proofs.Common.{sym, subst}
use Rattle.std.specs.Prelude.{◌≡◌, ◌≢◌, ℕ, List, Option, Some, None, option_map, slice_get}
use Rattle.std.specs.Option.{option_map_or}
use Rattle.mj_ports.specs.declared.entry.Entry.{Entry}
use Rattle.mj_ports.specs.declared.answers.Heard.{Heard}
use Rattle.mj_ports.specs.declared.answers.Heard.TheVariants as heard
use Rattle.mj_deeds.specs.declared.answer.Answer.{Answer}
use Rattle.mj_deeds.specs.declared.rule.Rule.{Rule}
use Rattle.mj_wall.specs.declared.setting.Setting.{Setting}
use Rattle.mj_history.specs.After.{Chair, Verdict, Taken, Late, Refused, Closing, verdict_on, after}
use Rattle.mj_history.specs.Shown.{shown_of, heard_of, hears_of}

-- Memory wasn't wanting.
abbrev HadMemory : Heard Rule → Type 0
HadMemory heard.Taken = Unit {0}
HadMemory heard.Late = Unit {0}
HadMemory (heard.Refused rule) = Unit {0}
HadMemory (heard.Closing rule) = Unit {0}
HadMemory heard.NoMemory = ⊥

-- Somebody is present.
abbrev IsHere : Option ℕ → Type 0
IsHere None = ⊥
IsHere (Some author) = Unit {0}

each_is_heard : (verdict : Verdict) → HadMemory (heard_of verdict)
each_is_heard Taken = record {}
each_is_heard Late = record {}
each_is_heard (Refused rule) = record {}
each_is_heard (Closing rule) = record {}

-- A present seat is held, and the verdict on what a held seat says is heard.
pub present_is_heard : (setting : Setting) (entries : List (Entry Answer)) (author seat : ℕ) (answer : Answer) → (shown_of setting entries).present seat ≡ Some author
    → hears_of setting entries seat answer ≢ heard.NoMemory
present_is_heard setting entries author seat answer here = by (slice_get (after setting entries).chairs seat) here
  where
    by : (held : Option Chair) → option_map_or (λ (chair : Chair). chair.author) held None ≡ Some author →
        option_map_or heard_of (option_map (λ (chair : Chair). verdict_on setting.rules (after setting entries).deeds seat answer chair.progress) held) heard.NoMemory ≡ heard.NoMemory → ⊥
    by None h e = subst IsHere (sym h) (record {})
    by (Some chair) h e = subst HadMemory e (each_is_heard (verdict_on setting.rules (after setting entries).deeds seat answer chair.progress))
