use Rattle.std.proofs.Common.{◌∙◌, length, sym, ap}
use Rattle.std.proofs.lemmas.List.{with_items_is}
use Rattle.mj_session.specs.Wires.{at_link}
use Rattle.mj_workers.proofs.Staffing.{idle_begun, done_handled}
use Rattle.mj_workers.proofs.worker.handle_one.Goals as goal

pub handle-end-requires-clause-idle : goal.handle-end-requires-clause-idle
handle-end-requires-clause-idle g c κs within = idle_begun g.T.Noted.setting g.T.Seated.history c.args.turns.now.items c.as_slice.result.now c.args.number c.args.passes.items
    c.as_mut_slice.result.now c.as_slice.ensures.value c.as_mut_slice.ensures.value c.requires.passes

pub returns : goal.returns
returns g c =
    let at = at_link g.D.Link.Link.was_read g.D.Link.Source.left g.D.Link.Sink.written g.D.Link.Source.read_faults g.D.Link.Sink.write_faults in
    let new = c.handle-end.new in
    let many = c.handle-end.ensures.many in
    let turns = ap length c.as_slice.ensures.value in
    let passes = with_items_is c.args.passes new.passes (many.0 ∙ (turns ∙ (sym c.requires.passes.many ∙ sym c.args.passes.ok.0))) in
    let kept = with_items_is c.args.kept new.kept (many.1 ∙ (turns ∙ (sym c.requires.kept.many ∙ sym c.args.kept.ok.0))) in
    done_handled g.T.Seated g.T.Noted.setting at (g.D.Picker.picks c.args.door.now) (g.D.Door.made_by c.args.door.now) g.T.Fault.Numbered.number c.args.turns.now.items c.args.number
    c.as_slice.result.now c.args.passes.items c.as_mut_slice.result.now new.passes _ c.args.kept.items c.as_mut_slice-2.result.now new.kept _ c.handle-end.result
    c.as_slice.ensures.value c.as_mut_slice.ensures.value c.as_mut_slice-2.ensures.value passes kept c.requires.passes c.requires.kept many c.handle-end.ensures.idle
    c.handle-end.ensures.hand c.handle-end.ensures.ended
