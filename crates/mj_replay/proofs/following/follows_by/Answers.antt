use Rattle.std.proofs.lemmas.Result.{IfOk-weaker}
use Rattle.mj_replay.proofs.FollowLaws.{followed_if}
use Rattle.mj_replay.proofs.following.follows_by.Goals as goal

pub returns : goal.returns
returns c =
    IfOk-weaker c.is_known_line.result _ _ (λ same s. followed_if _ _ _ _ _ c.in_ok-followed.followed same c.in_ok-followed.ensures.follows s
    c.in_ok-followed.ensures.pushed c.in_ok-followed.ensures.played) c.is_known_line.ensures
