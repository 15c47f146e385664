use Rattle.std.proofs.Common.{List, [], ◌∷◌, ◌++◌, ap, ◌∙◌, sym}
use Rattle.mj_deeds.specs.declared.deed.Deed.{Deed}
use Rattle.mj_deeds.specs.declared.deed.Deed.TheVariants.{StartGame}
use Rattle.mj_table.specs.Plays.{Play}
use Rattle.mj_umpire.specs.Inner.States.{desk_names}
use Rattle.mj_umpire.proofs.Pieces.{position, takes-seated, seat-waits, seat-starts, names-at-desk}
use Rattle.mj_umpire.proofs.Turns.{takes}
use Rattle.mj_umpire.proofs.state.State.take_seat.Goals as goal

pub start_game-requires-after_bounds : goal.start_game-requires-after_bounds
start_game-requires-after_bounds g c κs within = rw c.self.invariant.same (rw (← c.self.view_is) at c.requires.unbegun)

pub invariant_of-self-then-held-eq4 : goal.invariant_of-self-then-held-eq4
invariant_of-self-then-held-eq4 g c =
    let old = position (g.T.Telling.play c.self.inside.told).rules c.self.inside.deeds.items c.self.inside.desk c.self.inside.chairs.items c.self.inside.window in
    record {
      same =
          ap (λ (p : Play). p.deeds) c.in_ok-start_game.ensures.told
          ∙ ap (λ (ds : List Deed). ds ++ StartGame (desk_names c.sit.new.self) ∷ []) c.self.invariant.same
          ∙ sym c.in_ok-start_game.ensures.added;
      seated = takes-seated c.self.inside.deeds.items c.self.inside.desk c.sit.new.self c.self.inside.chairs.items c.push_reserved.new.self.items c.args.author c.args.join.now
          (takes old c.args.author c.args.join.now c.sit.result c.sit.new.self c.push_reserved.new.self.items
          (rw (← c.self.view_is) at c.requires) c.self.invariant.seated c.sit.ensures.answer c.sit.ensures.desk
          (rw (c.reserve.ensures.items, c.new.ensures) at c.push_reserved.ensures.items));
    }

pub returns-then-held-eq4-clause-ok : goal.returns-then-held-eq4-clause-ok
returns-then-held-eq4-clause-ok g c =
    let old = position (g.T.Telling.play c.self.inside.told).rules c.self.inside.deeds.items c.self.inside.desk c.self.inside.chairs.items c.self.inside.window in
    let taken = takes old c.args.author c.args.join.now c.sit.result c.sit.new.self c.push_reserved.new.self.items
    (rw (← c.self.view_is) at c.requires) c.self.invariant.seated c.sit.ensures.answer c.sit.ensures.desk
    (rw (c.reserve.ensures.items, c.new.ensures) at c.push_reserved.ensures.items) in
    rw (c.in_ok-start_game.ensures.added, c.clear_all.ensures, ← c.self.view_is)
    (seat-starts (g.T.Telling.play c.self.inside.told).rules (g.T.Telling.play c.start_game.new.told).rules c.self.inside.deeds.items c.self.inside.desk c.sit.new.self
    c.self.inside.chairs.items c.push_reserved.new.self.items c.self.inside.window c.args.author c.held.result
    c.args.join.now (desk_names c.sit.new.self)
    (ap (λ (p : Play). p.rules) c.in_ok-start_game.ensures.told)
    taken
    c.held.ensures.number c.if-held-eq4.true
    (names-at-desk c.sit.new.self c.push_reserved.new.self.items
    (takes-seated c.self.inside.deeds.items c.self.inside.desk c.sit.new.self c.self.inside.chairs.items c.push_reserved.new.self.items c.args.author c.args.join.now taken)))

pub invariant_of-self-2 : goal.invariant_of-self-2
invariant_of-self-2 g c =
    let old = position (g.T.Telling.play c.self.inside.told).rules c.self.inside.deeds.items c.self.inside.desk c.self.inside.chairs.items c.self.inside.window in
    record {
      same = c.self.invariant.same;
      seated = takes-seated c.self.inside.deeds.items c.self.inside.desk c.sit.new.self c.self.inside.chairs.items c.push_reserved-2.new.self.items c.args.author c.args.join.now
          (takes old c.args.author c.args.join.now c.sit.result c.sit.new.self c.push_reserved-2.new.self.items
          (rw (← c.self.view_is) at c.requires) c.self.invariant.seated c.sit.ensures.answer c.sit.ensures.desk
          (rw (c.reserve.ensures.items, c.new-2.ensures) at c.push_reserved-2.ensures.items));
    }

pub returns-clause-ok : goal.returns-clause-ok
returns-clause-ok g c =
    let old = position (g.T.Telling.play c.self.inside.told).rules c.self.inside.deeds.items c.self.inside.desk c.self.inside.chairs.items c.self.inside.window in
    rw (← c.self.view_is)
    (seat-waits (g.T.Telling.play c.self.inside.told).rules c.self.inside.deeds.items c.self.inside.desk c.sit.new.self c.self.inside.chairs.items
    c.push_reserved-2.new.self.items c.self.inside.window c.args.author c.held.result c.args.join.now
    (takes old c.args.author c.args.join.now c.sit.result c.sit.new.self c.push_reserved-2.new.self.items
    (rw (← c.self.view_is) at c.requires) c.self.invariant.seated c.sit.ensures.answer c.sit.ensures.desk
    (rw (c.reserve.ensures.items, c.new-2.ensures) at c.push_reserved-2.ensures.items))
    c.held.ensures.number c.if-held-eq4.false)
