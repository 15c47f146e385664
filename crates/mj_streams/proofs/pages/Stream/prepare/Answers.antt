use Rattle.std.proofs.Common.{◌≡◌, ◌++◌, ℕ, List, ap, sym, subst, ◌∙◌}
use Rattle.std.specs.Prelude.{vec_len}
use Rattle.std.proofs.lemmas.Result.{on_ok_weaker}
use Rattle.mj_forms.specs.Choices.{line_with}
use Rattle.mj_streams.specs.Inner.Told.{HasRoom}
use Rattle.mj_streams.proofs.pages.Stream.prepare.Goals as goal

pub returns-clause-text : goal.returns-clause-text
returns-clause-text c =
    let text = c.in_ok-write_listed.ensures.ok.is
    ∙ ap (λ (before : List ℕ). before ++ line_with c.args.answers.now c.args.line.now) c.clear.ensures.items in
    on_ok_weaker c.make_room.result (λ room. rw c.make_room.ensures.text text) c.make_room.ensures.room

pub returns-clause-room : goal.returns-clause-room
returns-clause-room c =
    let same : c.len-len.result ≡ vec_len c.make_room.new.self.text = c.len-len.ensures ∙ sym (ap vec_len c.make_room.ensures.text) in
    on_ok_weaker c.make_room.result (λ room. subst (HasRoom c.make_room.new.self) same room) c.make_room.ensures.room
