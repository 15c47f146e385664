use Rattle.std.proofs.Common.{[], refl, subst₂, arith}
use Rattle.mj_ports.specs.declared.answers.SitAnswer.TheVariants as SitAnswer
use Rattle.mj_connection.proofs.Replays.{told_back}
use Rattle.mj_connection.proofs.Speaking.{spoke_first}
use Rattle.mj_connection.proofs.seat.sit_down.Goals as goal

pub returns-in-Back-clause-takes : goal.returns-in-Back-clause-takes
returns-in-Back-clause-takes g c =
    let laws = g.met.G.Seated g.world.𝓛 g.world.𝓜 g.world.𝓡 ((λ s x. x), (λ x. x), (λ x. x), λ x. x) in
    let s = g.G.Seated.setting c.args.game.now in
    let es = g.G.Seated.history c.args.game.now in
    let added = c.in-Back.ensures.entries.1 in
    let legal = subst₂ (λ a l. g.G.Seated.is_legal a l) c.in-Back.ensures.setting added c.entries-entries-in-Back.ensures.legal in
    let begins = laws.back s es c.args.author c.in-Back.seat legal in
    let err = rw c.in-Back.ensures.setting at c.in-Err.ensures.err in
    record {
      fits = tt;
      hears = λ start lines i. (
        [],
        omega arith,
        spoke_first _ _ _ start _ _ _ _ lines _
            (record { answer = SitAnswer.Back c.in-Back.seat; given = refl; is_right = (c.in-Back.ensures.entries.0, refl) })
            c.entries-place.ensures.number added i,
      );
      tells = λ out t. told_back g.G.Seated.says (g.G.Seated.after s) c.args.author c.in-Back.seat _ es
          (g.G.Seated.history c.sit.new.self) _ added c.entries-place.ensures.number begins (err out t);
    }
