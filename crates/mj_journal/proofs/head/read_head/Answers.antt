use Rattle.std.proofs.Common.{List, ℕ}
use Rattle.mj_journal.proofs.Moments.{one_call, one_put}
use Rattle.mj_journal.proofs.head.read_head.Goals as goal

pub returns-in-Whole-clause-any_moment : goal.returns-in-Whole-clause-any_moment
returns-in-Whole-clause-any_moment g c =
    let before = g.D.Disk.may_leave c.args.disk.now in
    one_call g.D.Disk.moment g.D.Disk.left_since c.args.disk.now c.read_at.new.self before before (g.D.Disk.may_leave c.read_at.new.self) c.read_at.ensures.time
    (λ image left. g.met.D.Disk.only_now c.args.disk.now image left)
    (λ image was. was)
    c.read_at.ensures.crash

pub returns-in-Whole-clause-syncs : goal.returns-in-Whole-clause-syncs
returns-in-Whole-clause-syncs g c =
    one_put g.D.Disk.moment g.D.Disk.secured_since c.args.disk.now c.read_at.new.self (λ (bytes : List ℕ). ⊥) c.read_at.ensures.syncs (g.met.D.Disk.none_secured c.args.disk.now)

pub returns-in-Failed-clause-any_moment : goal.returns-in-Failed-clause-any_moment
returns-in-Failed-clause-any_moment g c =
    let before = g.D.Disk.may_leave c.args.disk.now in
    one_call g.D.Disk.moment g.D.Disk.left_since c.args.disk.now c.read_at.new.self before before (g.D.Disk.may_leave c.read_at.new.self) c.read_at.ensures.time
    (λ image left. g.met.D.Disk.only_now c.args.disk.now image left)
    (λ image was. was)
    c.read_at.ensures.crash

pub returns-in-Failed-clause-syncs : goal.returns-in-Failed-clause-syncs
returns-in-Failed-clause-syncs g c =
    one_put g.D.Disk.moment g.D.Disk.secured_since c.args.disk.now c.read_at.new.self (λ (bytes : List ℕ). ⊥) c.read_at.ensures.syncs (g.met.D.Disk.none_secured c.args.disk.now)
