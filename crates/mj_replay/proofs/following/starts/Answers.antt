use Rattle.std.proofs.Common.{rules, ◌≡◌, true, false, sym}
use Rattle.mj_replay.specs.Inner.Steps.{has_different_names}
use Rattle.mj_replay.proofs.FollowLaws.{no_start, other_line, start_fits, started}
use Rattle.mj_replay.proofs.following.starts.Goals as goal

pub returns-then-not-has_different_names : goal.returns-then-not-has_different_names
returns-then-not-has_different_names c =
    let others : has_different_names c.args.deed.now ≡ false = search rules in
    no_start _ _ _ _ _ c.requires.new (sym c.requires.read) others

pub returns-then-not-branch : goal.returns-then-not-branch
returns-then-not-branch c =
    let differs : c.in_ok-is_line_of.field-0 ≡ false = search rules in
    λ other l played. other_line _ _ _ (sym c.requires.read) c.in_ok-is_line_of.ensures differs other l

pub push-requires : goal.push-requires
push-requires c =
    let four : has_different_names c.args.deed.now ≡ true = search rules in
    start_fits c.args.table.now.rules c.args.walls.now c.args.table.now.deeds c.args.line.now c.args.deed.now c.requires.some c.requires.whole c.requires.new (sym c.requires.read) four

pub returns : goal.returns
returns c =
    let four : has_different_names c.args.deed.now ≡ true = search rules in
    let same : c.in_ok-is_line_of.field-0 ≡ true = search rules in
    started _ _ _ _ _ _ c.requires.new (sym c.requires.read) four c.in_ok-is_line_of.ensures same c.in_ok-push.ensures.ok
