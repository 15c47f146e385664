use Rattle.std.proofs.Common.{◌≡◌, ◌<◌, length, sym, ◌∙◌, subst, rules}
use Rattle.std.specs.Prelude.{All}
use Rattle.std.proofs.lemmas.List.{length-map}
use Rattle.mj_handlers.specs.Handlers.{rows}
use Rattle.mj_tables.specs.Tables.{sessions_at}
use Rattle.mj_tables.proofs.Coming.{all_legal, played_new}
use Rattle.mj_tables.proofs.tables.run_tables.Goals as goal

pub returns-clause-legal : goal.returns-clause-legal
returns-clause-legal g c = all_legal g.G.Seated _ _ _ 0 _ _ c.args.games.items c.play_tables.new.games.items (rows c.in_ok-played.played.sessions.items) c.in_ok-played.ensures.played

pub returns-clause-played : goal.returns-clause-played
returns-clause-played g c =
    played_new g.G.Seated _ _ _ _ _ _ c.args.games.items c.play_tables.new.games.items (rows c.in_ok-played.played.sessions.items) c.in_ok-played.ensures.played (search rules) c.requires.new
    (λ t. sessions_at t c.in_ok-by_table.field-0.items) c.in_ok-by_table.ensures.each

pub returns-clause-rooms : goal.returns-clause-rooms
returns-clause-rooms g c =
    let many : length (rows c.in_ok-played.played.sessions.items) ≡ length c.in_ok-played.played.sessions.items = length-map c.in_ok-played.played.sessions.items (λ v. v.items) in
    subst (λ n. All (λ s. s.table < n) c.in_ok-by_table.field-0.items) (sym many ∙ c.in_ok-played.ensures.played.third) c.in_ok-by_table.ensures.rooms
