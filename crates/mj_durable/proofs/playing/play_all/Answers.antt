use Rattle.std.proofs.Common.{◌∙◌}
use Rattle.std.proofs.lemmas.Result.{IfOk-weaker}
use Rattle.mj_handlers.specs.Handlers.{rows}
use Rattle.mj_durable.specs.Host.{authors_for}
use Rattle.mj_durable.proofs.GoingLaws.{resumed_below, pages_of, played_on}
use Rattle.mj_durable.proofs.playing.play_all.Goals as goal

pub play_written-requires-clause-many : goal.play_written-requires-clause-many
play_written-requires-clause-many g c = λ κs o. c.in-Gone.ensures.games.many ∙ c.requires.many

pub play_written-requires-clause-below : goal.play_written-requires-clause-below
play_written-requires-clause-below g c = λ κs o.
    resumed_below (authors_for c.args.rooms) c.args.games.now.items c.resume_all.new.games.items c.requires.below c.in-Gone.ensures.games

pub returns-in-Gone-clause-pages : goal.returns-in-Gone-clause-pages
returns-in-Gone-clause-pages g c =
    pages_of c.args.games.now.items c.resume_all.new.games.items c.play_written.new.games.items c.in-Gone.ensures.games c.play_written.ensures.games

pub returns-in-Gone-clause-played : goal.returns-in-Gone-clause-played
returns-in-Gone-clause-played g c =
    IfOk-weaker c.play_written.result _ _ (λ p h. played_on g.H.Link.Link.was_read g.H.Link.Source.left g.H.Link.Sink.written g.H.Link.Source.read_faults g.H.Link.Sink.write_faults
    c.args.rooms (g.C.Clock.readings c.args.clock.now) (g.C.Clock.readings c.play_written.new.clock) c.args.games.now.items c.resume_all.new.games.items c.play_written.new.games.items
    (rows p.sessions.items) c.in-Gone.ensures.games h) c.play_written.ensures.played
