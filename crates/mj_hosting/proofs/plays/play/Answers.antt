use Rattle.std.proofs.Common.{ℕ, ◌+◌, ◌<◌, ◌≤◌, List, [], ◌∷◌, sym, subst, ◌∙◌}
use Rattle.std.specs.Prelude.{Option}
use Rattle.std.specs.Io.KnownBytes.{Appends}
use Rattle.mj_ports.specs.declared.entry.Entry.{Entry}
use Rattle.mj_ports.specs.Entries.{author_of}
use Rattle.mj_deeds.specs.declared.answer.Answer.{Answer}
use Rattle.mj_history.specs.Legal.{Game}
use Rattle.mj_handlers.specs.Handlers.{rows}
use Rattle.mj_handlers.specs.Picks.{IsBelow}
use Rattle.mj_hosting.specs.Plays.{HasLostEach, have_ended}
use Rattle.mj_hosting.specs.Rooms.{picked_for, text_for}
use Rattle.mj_hosting.specs.Steps.{WritesGames}
use Rattle.mj_hosting.proofs.RoomLaws.{rooms_below, some_room, few_handlers}
use Rattle.mj_hosting.proofs.NewLaws.{none_entered}
use Rattle.mj_hosting.proofs.PlayLaws.{served_each, plays_by, each_lost, more_lost}
use Rattle.mj_hosting.proofs.plays.play.Goals as goal

pub play_tables-requires-clause-some : goal.play_tables-requires-clause-some
play_tables-requires-clause-some g c = λ κs o. subst (λ (n : ℕ). 1 ≤ n) (sym c.requires.new.1.many) (some_room c.args.rooms c.requires.within)

pub play_tables-requires-clause-few : goal.play_tables-requires-clause-few
play_tables-requires-clause-few g c = λ κs o. subst (λ (n : ℕ). n < 64) (sym c.handlers-handlers.ensures) (few_handlers c.args.rooms c.requires.within)

pub play_tables-requires-clause-below : goal.play_tables-requires-clause-below
play_tables-requires-clause-below g c = λ κs o. none_entered (λ (e : Entry Answer). author_of e < c.handlers-handlers.result + 1) c.requires.new.0 _ c.args.games.items c.requires.new.1

pub play_tables-requires-clause-picks : goal.play_tables-requires-clause-picks
play_tables-requires-clause-picks g c = λ κs o line. subst (λ (n : ℕ). IsBelow n (picked_for c.args.rooms line)) (sym c.requires.new.1.many) (rooms_below c.args.rooms line c.requires.within)

pub returns-in-Kept-clause-plays : goal.returns-in-Kept-clause-plays
returns-in-Kept-clause-plays g c = λ s first new opened.
    plays_by g.H.Link.Link.was_read g.H.Link.Source.left g.H.Link.Sink.written g.H.Link.Source.read_faults g.H.Link.Sink.write_faults
    (g.H.Host.made_by c.give_all.new.host) g.H.Fault.Numbered.number c.args.rooms s (λ t. []) c.play_tables.new.games.items (rows c.in-Ok.played.sessions.items) _ _
    (c.in-Ok.ensures.games.many ∙ new.many) (c.in-Ok.ensures.played.third ∙ sym c.in-Ok.ensures.played.second)
    (subst (λ (o : Option (List ℕ)). Appends first o (s.port ∷ [])) (sym c.in-Kept.ensures.ports) opened)
    c.in-Kept.ensures.openings
    (served_each g.H.Link.Link.was_read g.H.Link.Source.left g.H.Link.Sink.written g.H.Link.Source.read_faults g.H.Link.Sink.write_faults
    (g.H.Host.made_by c.give_all.new.host) g.H.Fault.Numbered.number c.args.rooms s (λ t. []) _ _ c.handlers-handlers.result c.args.games.items
    c.play_tables.new.games.items (rows c.in-Ok.played.sessions.items) c.handlers-handlers.ensures new
    c.in-Ok.ensures.played.second c.in-Ok.ensures.played.third c.in-Ok.ensures.played.each)
    c.in-Kept.ensures.back
    (λ go. more_lost (g.H.Host.made_by c.args.host.now) (g.H.Host.made_by c.give_all.new.host) g.H.Fault.Numbered.number _ c.in-Kept.ensures.made
    (subst (λ (n : ℕ). HasLostEach (g.H.Host.made_by c.args.host.now) g.H.Fault.Numbered.number n) c.handlers-handlers.ensures
    (each_lost (have_ended c.play_tables.new.games.items) (g.H.Host.made_by c.args.host.now) g.H.Fault.Numbered.number _ c.in-Ok.played.ends.items go c.in-Ok.ensures.ends)))
    c.write_games.result
    (subst (λ (gs : List Game). WritesGames c.write_games.result (text_for c.args.rooms) gs (g.K.Sink.written c.args.sink.now) (g.K.Sink.written c.write_games.new.sink))
    c.as_slice.ensures.value c.write_games.ensures.games)
