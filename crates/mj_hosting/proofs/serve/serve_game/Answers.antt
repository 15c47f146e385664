use Rattle.mj_words.specs.Commands.{served_with}
use Rattle.mj_hosting.proofs.One.{serve_is_one}
use Rattle.mj_hosting.proofs.serve.serve_game.Goals as goal

pub returns-clause-serves : goal.returns-clause-serves
returns-clause-serves g c =
    serve_is_one g.H.Link.Link.was_read g.H.Link.Source.left g.H.Link.Sink.written g.H.Link.Source.read_faults g.H.Link.Sink.write_faults
    (g.H.Host.made_by c.play_games.new.host) g.H.Fault.Numbered.number c.play_games.result (served_with c.args.serving.now) _ _ c.play_games.ensures.plays
