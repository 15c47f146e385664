use Rattle.std.proofs.Common.{◌≡◌, ◌∙◌, rules, true, codes, sym, map}
use Rattle.std.specs.Prelude.{Some}
use Rattle.std.specs.String.{string_bytes}
use Rattle.std.proofs.KnownBytes.{Keeps-refl}
use Rattle.mj_words.specs.Asked.{serve_asked, tables_asked}
use Rattle.mj_words.specs.Commands.{asked_by_serving, asked_by_hosting}
use Rattle.mj_front.specs.Run.{begins_with}
use Rattle.mj_front.proofs.WaitLaws.{runs_serve, runs_tables, asked_serving, asked_hosting, runs_none, runs_no_tables, the_other}
use Rattle.mj_front.proofs.commands.run.Goals as goal

pub returns-in-Ok-Some-clause-run : goal.returns-in-Ok-Some-clause-run
returns-in-Ok-Some-clause-run g c =
    let begins : begins_with (codes "serve") (map string_bytes c.args.words.now) ≡ true = sym c.begins_with.ensures ∙ c.if-begins_with.true in
    let asks : asked_by_serving (Some c.in-Ok-Some.serving) ≡ serve_asked (map string_bytes c.args.words.now) = search rules in
    runs_serve _ _ _ c.in-Ok-Some.serving _ c.serve_game.result _ _ _ (asked_serving (map string_bytes c.args.words.now) (Some c.in-Ok-Some.serving) begins
    asks) c.status_of_serve.ensures c.serve_game.ensures.serves

pub returns-in-Err-clause-run : goal.returns-in-Err-clause-run
returns-in-Err-clause-run g c = runs_none _ _ (λ s. Keeps-refl _) (map string_bytes c.args.words.now) _ _ (sym c.begins_with.ensures ∙ c.if-begins_with.true)

pub returns-in-Ok-Some-tables_of-clause-run : goal.returns-in-Ok-Some-tables_of-clause-run
returns-in-Ok-Some-tables_of-clause-run g c =
    let begins : begins_with (codes "tables") (map string_bytes c.args.words.now) ≡ true = the_other c.is_for_waiting.result c.begins_with.result
    (begins_with (codes "serve") (map string_bytes c.args.words.now)) (begins_with (codes "tables") (map string_bytes c.args.words.now))
    c.is_for_waiting.ensures c.if-not-is_for_waiting.false c.begins_with.ensures c.if-begins_with.false in
    let asks : asked_by_hosting (Some c.in-Ok-Some-tables_of.hosting) ≡ tables_asked (map string_bytes c.args.words.now) = search rules in
    runs_tables _ _ _ c.in-Ok-Some-tables_of.hosting _ c.serve_tables.result _ _ _ (asked_hosting (map string_bytes c.args.words.now)
    (Some c.in-Ok-Some-tables_of.hosting) begins asks) c.status_of_serve-in-Ok-Some-tables_of.ensures c.serve_tables.ensures.plays

pub returns-in-Err-tables_of-clause-run : goal.returns-in-Err-tables_of-clause-run
returns-in-Err-tables_of-clause-run g c =
    runs_no_tables _ _ (λ rooms s. Keeps-refl _) (map string_bytes c.args.words.now) _ _
    (the_other c.is_for_waiting.result c.begins_with.result (begins_with (codes "serve") (map string_bytes c.args.words.now))
    (begins_with (codes "tables") (map string_bytes c.args.words.now)) c.is_for_waiting.ensures c.if-not-is_for_waiting.false
    c.begins_with.ensures c.if-begins_with.false)
