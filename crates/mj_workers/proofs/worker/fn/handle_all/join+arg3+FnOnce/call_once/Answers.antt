use Rattle.mj_workers.proofs.Told.{eight_and, each_and}
use Rattle.mj_workers.proofs.worker.fn.handle_all.join+arg3+FnOnce.call_once.Goals as goal

-- what the function was told of its type parameters holds in the thread too
pub join+arg3-requires-whole : goal.join+arg3-requires-whole
join+arg3-requires-whole g c κs within =
    let h = c.requires.1.1.1.1.1.1.1.1 in
    eight_and within (each_and h.1 h.0)
