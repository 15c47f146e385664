use Rattle.std.proofs.Common.{◌≡◌, ◌<◌, ◌∷◌, ◌++◌, [], ◌∙◌, length, map, sym, ap}
use Rattle.std.specs.Prelude.{All}
use Rattle.std.proofs.lemmas.List.{length-map}
use Rattle.mj_ports.specs.Entries.{author_of}
use Rattle.mj_session.specs.Wires.{at_link}
use Rattle.mj_handlers.specs.Handlers.{rows}
use Rattle.mj_seats.proofs.Gaming.{sole, sole_one, sole_some, one_in, all_sole, all_none, one_setting, one_legal, one_played, one_ends}
use Rattle.mj_seats.proofs.one.run_workers.Goals as goal

pub play_tables-requires-clause-some : goal.play_tables-requires-clause-some
play_tables-requires-clause-some g c κs within =
    sole_one c.push_reserved.new.self.items c.args.game (c.push_reserved.ensures.items ∙ ap (λ l. l ++ c.args.game ∷ []) c.in_ok-games.ensures.items)

pub play_tables-requires-clause-below : goal.play_tables-requires-clause-below
play_tables-requires-clause-below g c κs within =
    all_sole (λ x. All (λ e. author_of e < 9) (g.G.Seated.history x)) c.push_reserved.new.self.items c.args.game
    (c.push_reserved.ensures.items ∙ ap (λ l. l ++ c.args.game ∷ []) c.in_ok-games.ensures.items)
    (all_none (λ e. author_of e < 9) (g.G.Seated.history c.args.game) c.requires)

pub play_tables-requires-clause-picks : goal.play_tables-requires-clause-picks
play_tables-requires-clause-picks g c κs within = λ line.
    sole_some c.push_reserved.new.self.items c.args.game (c.push_reserved.ensures.items ∙ ap (λ l. l ++ c.args.game ∷ []) c.in_ok-games.ensures.items)

pub unwrap-requires : goal.unwrap-requires
unwrap-requires g c =
    let first = ap length (c.push_reserved.ensures.items ∙ ap (λ l. l ++ c.args.game ∷ []) c.in_ok-games.ensures.items) in
    c.pop.ensures.variant.1 (one_in c.play_tables.new.games (c.in_ok-played.ensures.played.second ∙ first))

pub unwrap-requires-2 : goal.unwrap-requires-2
unwrap-requires-2 g c =
    let first = ap length (c.push_reserved.ensures.items ∙ ap (λ l. l ++ c.args.game ∷ []) c.in_ok-games.ensures.items) in
    let kept = c.in_ok-played.played.sessions in
    c.pop-2.ensures.variant.1 (one_in kept (sym (length-map kept.items (λ v. v.items)) ∙ (c.in_ok-played.ensures.played.third ∙ first)))

pub returns-clause-setting : goal.returns-clause-setting
returns-clause-setting g c =
    let at = at_link g.H.Link.Link.was_read g.H.Link.Source.left g.H.Link.Sink.written g.H.Link.Source.read_faults g.H.Link.Sink.write_faults in
    let r0 = g.C.Clock.readings c.args.clock.now in
    let r1 = g.C.Clock.readings c.play_tables.new.clock in
    let were = c.push_reserved.new.self.items in
    let games = c.play_tables.new.games.items in
    let all = c.in_ok-played.ensures.played in
    let first : were ≡ c.args.game ∷ [] = c.push_reserved.ensures.items ∙ ap (λ l. l ++ c.args.game ∷ []) c.in_ok-games.ensures.items in
    let last = sole games c.pop.new.self.items c.pop.result c.unwrap.result (all.second ∙ ap length first) c.pop.ensures.items c.unwrap.ensures in
    let kept = c.in_ok-played.played.sessions.items in
    let long = sym (length-map kept (λ v. v.items)) ∙ (all.third ∙ ap length first) in
    let own = ap (map (λ v. v.items)) (sole kept c.pop-2.new.self.items c.pop-2.result c.unwrap-2.result long c.pop-2.ensures.items c.unwrap-2.ensures) in
    one_setting g.G.Seated at 8 r0 r1 c.args.game c.unwrap.result were games (rows kept) c.unwrap-2.result.items first last own all

pub returns-clause-legal : goal.returns-clause-legal
returns-clause-legal g c =
    let at = at_link g.H.Link.Link.was_read g.H.Link.Source.left g.H.Link.Sink.written g.H.Link.Source.read_faults g.H.Link.Sink.write_faults in
    let r0 = g.C.Clock.readings c.args.clock.now in
    let r1 = g.C.Clock.readings c.play_tables.new.clock in
    let were = c.push_reserved.new.self.items in
    let games = c.play_tables.new.games.items in
    let all = c.in_ok-played.ensures.played in
    let first : were ≡ c.args.game ∷ [] = c.push_reserved.ensures.items ∙ ap (λ l. l ++ c.args.game ∷ []) c.in_ok-games.ensures.items in
    let last = sole games c.pop.new.self.items c.pop.result c.unwrap.result (all.second ∙ ap length first) c.pop.ensures.items c.unwrap.ensures in
    let kept = c.in_ok-played.played.sessions.items in
    let long = sym (length-map kept (λ v. v.items)) ∙ (all.third ∙ ap length first) in
    let own = ap (map (λ v. v.items)) (sole kept c.pop-2.new.self.items c.pop-2.result c.unwrap-2.result long c.pop-2.ensures.items c.unwrap-2.ensures) in
    one_legal g.G.Seated at 8 r0 r1 c.args.game c.unwrap.result were games (rows kept) c.unwrap-2.result.items first last own all

pub returns-clause-played : goal.returns-clause-played
returns-clause-played g c =
    let at = at_link g.H.Link.Link.was_read g.H.Link.Source.left g.H.Link.Sink.written g.H.Link.Source.read_faults g.H.Link.Sink.write_faults in
    let r0 = g.C.Clock.readings c.args.clock.now in
    let r1 = g.C.Clock.readings c.play_tables.new.clock in
    let were = c.push_reserved.new.self.items in
    let games = c.play_tables.new.games.items in
    let all = c.in_ok-played.ensures.played in
    let first : were ≡ c.args.game ∷ [] = c.push_reserved.ensures.items ∙ ap (λ l. l ++ c.args.game ∷ []) c.in_ok-games.ensures.items in
    let last = sole games c.pop.new.self.items c.pop.result c.unwrap.result (all.second ∙ ap length first) c.pop.ensures.items c.unwrap.ensures in
    let kept = c.in_ok-played.played.sessions.items in
    let long = sym (length-map kept (λ v. v.items)) ∙ (all.third ∙ ap length first) in
    let own = ap (map (λ v. v.items)) (sole kept c.pop-2.new.self.items c.pop-2.result c.unwrap-2.result long c.pop-2.ensures.items c.unwrap-2.ensures) in
    one_played g.G.Seated at 8 r0 r1 c.args.game c.unwrap.result were games (rows kept) c.unwrap-2.result.items first last own all c.requires

pub returns-clause-ends : goal.returns-clause-ends
returns-clause-ends g c =
    let at = at_link g.H.Link.Link.was_read g.H.Link.Source.left g.H.Link.Sink.written g.H.Link.Source.read_faults g.H.Link.Sink.write_faults in
    let r0 = g.C.Clock.readings c.args.clock.now in
    let r1 = g.C.Clock.readings c.play_tables.new.clock in
    let were = c.push_reserved.new.self.items in
    let games = c.play_tables.new.games.items in
    let all = c.in_ok-played.ensures.played in
    let first : were ≡ c.args.game ∷ [] = c.push_reserved.ensures.items ∙ ap (λ l. l ++ c.args.game ∷ []) c.in_ok-games.ensures.items in
    let last = sole games c.pop.new.self.items c.pop.result c.unwrap.result (all.second ∙ ap length first) c.pop.ensures.items c.unwrap.ensures in
    let kept = c.in_ok-played.played.sessions.items in
    let long = sym (length-map kept (λ v. v.items)) ∙ (all.third ∙ ap length first) in
    let own = ap (map (λ v. v.items)) (sole kept c.pop-2.new.self.items c.pop-2.result c.unwrap-2.result long c.pop-2.ensures.items c.unwrap-2.ensures) in
    one_ends g.G.Seated at 8 r0 r1 c.args.game c.unwrap.result were games (rows kept) c.unwrap-2.result.items first last own all
    (g.H.Host.made_by c.args.host.now) g.H.Fault.Numbered.number c.in_ok-played.played.ends.items c.in_ok-played.ensures.ends
